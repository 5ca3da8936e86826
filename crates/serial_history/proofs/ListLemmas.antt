-- Lists of items that are their own clones and equals.
use Rattle.std.proofs.Common.{Bool, [], ◌∷◌, refl, ap, ◌∙◌}
use Rattle.std.proofs.lemmas.Bool.{and_parts}
use Rattle.std.specs.Cmp.Lexicographic.{pointwise}
use Rattle.std.specs.List.{AllZip}
use Rattle.leaf_array.specs.Values.{ClonesAreSame, EqualsAreSame}

module _ {X : Type 0} where
  pub zipped-same : (is_clone : X → X → Type 0) → ClonesAreSame is_clone → ClonesAreSame (AllZip is_clone)
  zipped-same is_clone same [] [] h = refl
  zipped-same is_clone same [] (y ∷ ys) h = absurd h
  zipped-same is_clone same (x ∷ xs) [] h = absurd h
  zipped-same is_clone same (x ∷ xs) (y ∷ ys) h = ap (λ a. a ∷ ys) (same x y h.0) ∙ ap (λ l. x ∷ l) (zipped-same is_clone same xs ys h.1)

  pub pointwise-same : (eq : X → X → Bool) → EqualsAreSame eq → EqualsAreSame (pointwise eq)
  pointwise-same eq same [] [] e = refl
  pointwise-same eq same [] (y ∷ ys) e = absurd cc
  pointwise-same eq same (x ∷ xs) [] e = absurd cc
  pointwise-same eq same (x ∷ xs) (y ∷ ys) e =
      let parts = and_parts (eq x y) (pointwise eq xs ys) e in
      ap (λ a. a ∷ xs) (same x y parts.0) ∙ ap (λ l. y ∷ l) (pointwise-same eq same xs ys parts.1)
