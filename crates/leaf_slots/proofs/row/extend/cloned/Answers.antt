use Rattle.std.proofs.Common.{◌≡◌, ◌∷◌, [], Some, sym, ◌∙◌, subst}
use Rattle.std.specs.Prelude.{slice_get, IfSome}
use Rattle.leaf_slots.specs.Places.{live_pairs}
use Rattle.leaf_slots.proofs.ExtendLemmas.{front_get, lined_one, there}
use Rattle.leaf_slots.proofs.row.extend.cloned.Goals as goal

pub unreachable-requires : goal.unreachable-requires
unreachable-requires g c = there c.args.at (live_pairs c.args.source.now) c.requires.live (sym (front_get c.args.at c.args.source.now c.requires.live) ∙ c.in_default.ensures)

pub returns : goal.returns
returns g c =
    let ps = live_pairs c.args.source.now in
    let here : slice_get ps c.args.at ≡ Some (c.in-Some.stored.now, c.in-Some.held.now) = sym (front_get c.args.at c.args.source.now c.requires.live) ∙ c.in-Some.ensures in
    subst (λ qs. IfSome c.standing.result (λ p. p ∷ [] ≡ qs)) (sym (lined_one c.args.bitmap c.args.at ps _ here)) c.standing.ensures
