use Rattle.std.proofs.Common.{List, ◌++◌, ◌∙◌}
use Rattle.sdd_plain.specs.Epochs.{tag_number}
use Rattle.sdd_domain.specs.CellSteps.{CellStep}
use Rattle.sdd_domain.specs.Comparing.{code_of}
use Rattle.shared_containers.specs.Put.{HasAppended}
use Rattle.shared_containers.proofs.PutLemmas.{done_then, near_start, appended_end, appended_behind}
use Rattle.shared_containers.proofs.TakenLemmas.{read_some, some_then}
use Rattle.shared_containers.proofs.queue.Queue.push_under.Goals as goal

pub returns-then-is_null-clause-put : goal.returns-then-is_null-clause-put
returns-then-is_null-clause-put g c = let a = c.args.local.now in let n = c.load-near.new.local in let b = c.end_of-end.new.local in let d = c.push_from_first.new.local in let q = c.args.self.now in let links = c.args.section.now.links.now in let p = c.load-near.result in let owner = c.args.owner in
    let before = some_then a n b (read_some a n q.last.cell (tag_number p.tag) (code_of p.slot) c.load-near.ensures.looked) c.end_of-end.ensures.some in let home = c.end_of-end.ensures.same.0.0.0 ∙ c.load-near.ensures.same.0.0.0 in
    done_then c.push_from_first.result (λ (put : (xs : List CellStep) × HasAppended b q links owner xs d). (before.0 ++ put.0, appended_behind links a b d q owner put.0 home before put.1)) c.push_from_first.ensures.put

pub returns-clause-put : goal.returns-clause-put
returns-clause-put g c = let a = c.args.local.now in let n = c.load-near.new.local in let b = c.end_of-end.new.local in let d = c.push_behind.new.local in let q = c.args.self.now in let links = c.args.section.now.links.now in let p = c.load-near.result in
    let home = c.load-near.ensures.same.0.0.0 in
    done_then c.push_behind.result (appended_end links a n b d q c.args.owner p.slot c.end_of-end.result.slot home (c.end_of-end.ensures.same.0.0.0 ∙ home) (near_start links a n q p.slot (tag_number p.tag) c.load-near.ensures.looked) c.end_of-end.ensures.walked) c.push_behind.ensures.put
