use Rattle.std.proofs.Common.{◌≡◌, ◌∙◌, subst}
use Rattle.sdd_steps.specs.State.{Has}
use Rattle.domain_table.specs.Leases.{row_slots}
use Rattle.sdd_domain.proofs.Leased.{slot_in, item_of}
use Rattle.sdd_domain.proofs.pointer.Ptr.loaded.Goals as goal

pub returns-clause-item : goal.returns-clause-item
returns-clause-item g c = λ k at. let is = c.in-Some.is in let named : c.in-Some.slot ≡ k = cc in let i = c.in_ok-seen.ensures.item in
    item_of c.args.local.now.rows.items k c.in_ok-seen.seen.value (i.0, i.1, i.2 ∙ named, i.3)

-- the slot is leased
pub returns-clause-none : goal.returns-clause-none
returns-clause-none g c = (
  (λ e. absurd (cc)),
  (λ n. let is = c.in-Some.is in let at = n.1 in let named : c.in-Some.slot ≡ n.0 = cc in let i = c.in_ok-seen.ensures.item in let rows = c.args.local.now.rows.items in
      absurd (n.2 (subst (Has (row_slots rows)) (i.2 ∙ named) (slot_in rows i.0 i.1)))),
)
