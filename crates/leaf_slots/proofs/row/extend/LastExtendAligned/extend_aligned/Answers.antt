use Rattle.std.proofs.Common.{◌≡◌, ℕ, ◌∷◌, [], drop, take, ap, ◌∙◌, sym, subst, arith}
use Rattle.leaf_slots.specs.Places.{lined, live_pairs}
use Rattle.leaf_slots.proofs.ExtendLemmas.{filled_last}
use Rattle.leaf_slots.proofs.row.extend.LastExtendAligned.extend_aligned.Goals as goal

pub returns-in-Some-clause-places : goal.returns-in-Some-clause-places
returns-in-Some-clause-places g c =
    let none : c.args.skip ≡ 0 = omega (arith, c.if-skip-gt0.false) in
    let ps = live_pairs (c.args.source.now.head ∷ []) in
    let clone : c.fill.new.place ∷ [] ≡ lined c.args.bitmap (take 1 ps) = ap (λ p. p ∷ []) c.fill.ensures ∙ c.in-Some.ensures [] in
    let here : c.fill.new.place ∷ [] ≡ lined c.args.bitmap (take 1 (drop c.args.skip ps)) = subst (λ (k : ℕ). c.fill.new.place ∷ [] ≡ lined c.args.bitmap (take 1 (drop k ps))) (sym none) clone in
    filled_last c.fill.new.place c.args.self.now.head c.args.skip c.args.bitmap (take 1 (drop c.args.skip ps)) none here
