use Rattle.std.proofs.Common.{ℕ, sym, ◌∙◌}
use Rattle.sdd_plain.specs.Epochs.{tag_number}
use Rattle.sdd_domain.specs.Comparing.{code_of}
use Rattle.shared_containers.proofs.TakenLemmas.{read_some, quiet_some, some_then, differ, first_taken}
use Rattle.shared_containers.proofs.stack.Stack.take_first.Goals as goal

pub returns-in-Ok-clause-taken : goal.returns-in-Ok-clause-taken
returns-in-Ok-clause-taken g c = let a = c.args.local.now in let m = c.load-next.new.local in let b = c.get_shared-owner.new.local in let next = c.load-next.result in let found = c.args.found in
    let before = some_then a m b (read_some a m c.args.link.now.cell (tag_number next.tag) (code_of next.slot) c.load-next.ensures.looked) (quiet_some m b c.get_shared-owner.ensures.cells) in
    first_taken a b c.compare_exchange.new.local c.follow.new.local c.args.self.now.first.cell (tag_number found.tag) 0 c.in-Ok.item c.get_shared-owner.result next.slot found.slot (c.get_shared-owner.ensures.same.0.0.0 ∙ c.load-next.ensures.same.0.0.0) before
    c.in-Ok.ensures.exchanged c.follow.ensures.some c.get_shared-owner.ensures.exact (λ e. differ c.slot.result c.slot-2.result c.if-eq.ensures (c.slot.ensures ∙ (e ∙ sym c.slot-2.ensures))) c.in-Ok.ensures.exact
