use Rattle.std.proofs.Common.{◌-◌, List, ℕ, map, refl, subst, sym}
use Rattle.sdd_table.specs.Place.{TakeOwners, kept_between}
use Rattle.sdd_world.specs.Tokens.{kept_slot}
use Rattle.base_tests.specs.declared.rows.Node.{Node}
use Rattle.base_tests.proofs.RowLemmas.{takes_part}
use Rattle.base_tests.proofs.rows.kept.Goals as goal

pub keep_row-requires-clause-takes : goal.keep_row-requires-clause-takes
keep_row-requires-clause-takes g c =
    let row : Node → List ℕ = λ n. map kept_slot n.row.items in
    let whole = c.if-not-takes_owners.ensures.takes refl in
    let part = takes_part c.args.w.now (c.args.upto - c.args.from) c.args.from _ whole in
    subst (λ o. TakeOwners (kept_between row c.args.w.now o c.args.from c.args.upto) c.args.w.now) (sym c.owned_at.ensures) part
