-- blocks of a directory
use Rattle.std.proofs.Common.{◌≡◌, ℕ, zero, suc, ◌-◌, ◌<◌, ◌≤◌, Some, List, [], ◌∷◌, length, map, take, refl, sym, ap, ◌∙◌, arith}
use Rattle.std.specs.declared.cmp.Ordering.{Ordering}
use Rattle.std.proofs.lemmas.List.{length-map, length-take}
use Rattle.version_views.specs.Cuts.{IsCut, IsSeparated, greatest_key}
use Rattle.version_views.proofs.FilterLemmas.{rising_none}

pub take_all : {X : Type 0} (xs : List X) (n : ℕ) → length xs ≤ n → take n xs ≡ xs
take_all [] zero h = refl
take_all [] (suc n) h = refl
take_all (x ∷ xs) zero h = absurd (omega (arith, h))
take_all (x ∷ xs) (suc n) h = ap (λ zs. x ∷ zs) (take_all xs n (omega (arith, h)))

-- a place that separators name is one of the blocks
pub place_inside : {K V : Type 0} (blocks : List (List (K × V))) (keys : List K) (place : ℕ) → IsSeparated blocks keys → place ≤ length keys → 0 < length blocks → place < length blocks
place_inside blocks keys place sep h some =
    let size = sym (length-map keys Some) ∙ ap length sep ∙ length-map (take (length blocks - 1) blocks) greatest_key in
    let taken = length-take (length blocks - 1) blocks in
    omega (arith, size, taken, h, some)

-- no pairs are cut into no blocks
pub cut_nil : {K V : Type 0} (cmp : K → K → Ordering) (s : ℕ) → IsCut {K = K} {V = V} cmp s [] []
cut_nil {K} {V} cmp s = record {
  sizes = λ k d h. absurd (omega (arith, h));
  tight = tt;
  rising = rising_none V cmp;
  separated = (let nil : List (List (K × V)) = [] in let none : 0 ≡ length nil - 1 = omega arith in ap (λ n. map greatest_key (take n nil)) none);
}
