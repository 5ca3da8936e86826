use Rattle.std.proofs.Common.{ℕ}
use Rattle.sdd_plain.specs.Epochs.{tag_number}
use Rattle.sdd_domain.specs.Comparing.{code_of}
use Rattle.shared_containers.proofs.PutLemmas.{done_then, put_behind}
use Rattle.shared_containers.proofs.TakenLemmas.{read_some}
use Rattle.shared_containers.proofs.stack.Stack.push_under.Goals as goal

pub returns-clause-put : goal.returns-clause-put
returns-clause-put g c = let a = c.args.local.now in let b = c.peek-first.new.local in let d = c.put_before.new.local in let own : ℕ = c.args.link.now.cell in let cell : ℕ = c.args.self.now.first.cell in let p = c.peek-first.result in
    done_then c.put_before.result (put_behind a b d own cell c.args.owner c.peek-first.ensures.same.0.0.0 (read_some a b cell (tag_number p.tag) (code_of p.slot) c.peek-first.ensures.looked)) c.put_before.ensures.put
