use Rattle.std.proofs.Common.{◌∙◌}
use Rattle.shared_containers.proofs.PutLemmas.{done_then, first_start, appended_end}
use Rattle.shared_containers.proofs.queue.Queue.push_from_first.Goals as goal

pub returns-clause-put : goal.returns-clause-put
returns-clause-put g c = let a = c.args.local.now in let b = c.first_item-first.new.local in let d = c.end_of-end.new.local in let e = c.push_behind.new.local in let q = c.args.self.now in let links = c.args.section.now.links.now in let first = c.first_item-first.result.slot in
    let home = c.first_item-first.ensures.same.0.0.0 in
    done_then c.push_behind.result (appended_end links a b d e q c.args.owner first c.end_of-end.result.slot home (c.end_of-end.ensures.same.0.0.0 ∙ home) (first_start links a b q first c.first_item-first.ensures.found) c.end_of-end.ensures.walked) c.push_behind.ensures.put
