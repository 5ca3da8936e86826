use Rattle.std.proofs.Common.{subst, ◌≡◌, ◌<◌, length}
use Rattle.sdd_table.specs.State.{State, status_at, vacancy}
use Rattle.sdd_table.specs.declared.status.Status.TheVariants as status
use Rattle.sdd_table.proofs.ListLemmas.{lists_some}
use Rattle.sdd_table.proofs.SlotLemmas.{vacant-is, some_left}
use Rattle.sdd_table.proofs.table.Table.is_full.Goals as goal

pub returns-clause-free : goal.returns-clause-free
returns-clause-free g c = λ no.
    let r = lists_some vacancy c.self.inside.states.items status.Free c.self.inside.free.items c.self.invariant.slots.lists (some_left c.self.inside.free c.is_empty.result c.is_empty.ensures no) in
    (r.0, subst (λ (w : State _). (r.0 < length w.states) × (status_at w r.0 ≡ status.Free)) c.self.view_is (r.1, vacant-is _ r.2))
