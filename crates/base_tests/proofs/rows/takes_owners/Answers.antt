use Rattle.std.proofs.Common.{◌≡◌, List, ℕ, ap, arith, length, map, refl, sym, ◌∙◌}
use Rattle.sdd_table.specs.Place.{kept_in}
use Rattle.sdd_world.specs.Tokens.{kept_slot}
use Rattle.base_tests.specs.declared.rows.Node.{Node}
use Rattle.base_tests.proofs.RowLemmas.{takes_row}
use Rattle.base_tests.proofs.rows.takes_owners.Goals as goal

pub returns-clause-takes : goal.returns-clause-takes
returns-clause-takes c = λ yes.
    let kept : Node → List ℕ = λ n. map kept_slot n.row.items in
    let row = c.as_ref.result.now.row in
    let long : length row.items ≡ 3 = omega (arith, row.ok.0, c.len.ensures, c.if-len-ne3.false) in
    let first = c.slot-first.ensures in
    let second = c.slot-second.ensures in
    let third = c.slot-third.ensures in
    takes_row c.args.w.now row.items _ c.index.result.now c.index-2.result.now c.index-3.result.now (sym (ap (kept_in kept) c.as_ref.ensures)) long c.index.ensures c.index-2.ensures c.index-3.ensures
    (c.if-not-takes_owner.ensures refl) (c.if-not-takes_owner-2.ensures refl) (c.if-not-takes_owner-3.ensures refl)
    (λ e. c.if-first-second.false (first ∙ (e ∙ sym second))) (λ e. c.if-first-third.false (first ∙ (e ∙ sym third))) (λ e. c.if-second-third.false (second ∙ (e ∙ sym third)))
