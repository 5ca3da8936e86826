-- no row is taken over twice
use Rattle.std.proofs.Common.{◌≡◌, ◌≢◌, ℕ, suc, ◌≤◌, None, Some, List, [], ◌∷◌, ◌++◌, get_or, length, map, refl, ap, ◌∙◌, arith, subst, Option}
use Rattle.std.specs.Cmp.{IsTotalOrder, tied_itself}
use Rattle.std.specs.declared.cmp.Ordering.{Ordering}
use Rattle.std.specs.declared.cmp.Ordering.TheVariants.{Less}
use Rattle.std.specs.List.{All, AllPairs, flat_map}
use Rattle.std.proofs.lemmas.List.Elements.{All-cons, All-head, All-nil, All-tail}
use Rattle.std.proofs.lemmas.List.Kept.{AllPairs-cons}
use Rattle.leaf_array.specs.Pairs.{IsAscending}
use Rattle.tree_index.specs.Shape.{AllKeys}
use Rattle.version_views.specs.Cuts.{pairs_in}
use Rattle.version_views.specs.Items.{row_owners}
use Rattle.version_views.specs.declared.row.Row.{Row}
use Rattle.version_views.proofs.BlockListLemmas.{pairs_in-append}
use Rattle.version_views.proofs.FilterLemmas.{all_front, all_rear, rising_head, rising_rear}
use Rattle.shared_versions.specs.Drafts.{planned_blocks}
use Rattle.shared_versions.specs.declared.planned.Planned.{Planned}
use Rattle.shared_versions.specs.declared.planned.Planned.TheVariants as planned
use Rattle.shared_versions.specs.Placing.{AreApart, taken_from}

module _ {X : Type 0} (R : X → X → Type 0) where
  pub pairs_head : (x : X) (xs : List X) → AllPairs R (x ∷ xs) → All (R x) xs
  pairs_head x xs all = λ k d lt. all 0 (suc k) d (omega arith) (omega (arith, lt))

  pub pairs_tail : (x : X) (xs : List X) → AllPairs R (x ∷ xs) → AllPairs R xs
  pairs_tail x xs all = λ i j d lt within. all (suc i) (suc j) d (omega (arith, lt)) (omega (arith, within))

some_first : {X : Type 0} (b : List X) → 1 ≤ length b → (x : X) × (xs : List X) × (b ≡ x ∷ xs)
some_first [] h = absurd (omega (arith, h))
some_first (x ∷ xs) h = (x, xs, refl)

same_place : (m n : ℕ) → Some m ≡ Some n → m ≡ n
same_place m n e = cc

no_place : (n : ℕ) → None ≡ Some n → ⊥
no_place n e = cc

-- the pairs of planned rows, each row's behind those before
module _ {K V : Type 0} (rows : List (List (List (K × V)))) where
  abbrev pub row_pairs : Row K (Planned K V) → List (K × V)
  row_pairs r = pairs_in (planned_blocks rows r.segments)

  abbrev pub all_pairs : List (Row K (Planned K V)) → List (K × V)
  all_pairs rs = flat_map row_pairs rs

  pub pairs_of_rows : (rs : List (Row K (Planned K V))) → pairs_in (flat_map (row_owners (planned_blocks rows)) rs) ≡ all_pairs rs
  pairs_of_rows [] = refl
  pairs_of_rows (r ∷ rs) = pairs_in-append (planned_blocks rows r.segments) (flat_map (row_owners (planned_blocks rows)) rs) ∙ ap (λ ps. row_pairs r ++ ps) (pairs_of_rows rs)

module _ {K V : Type 0} (cmp : K → K → Ordering) (o : IsTotalOrder cmp) (rows : List (List (List (K × V)))) where
  never_below : (k : K) → cmp k k ≡ Less → ⊥
  never_below k l = let e = tied_itself o k in cc

  abbrev named : ℕ → List (K × V)
  named number = pairs_in (get_or rows number [])

  -- a row that has a key isn't among those whose keys lie above it
  not_above : (number : ℕ) (p : K × V) (ps : List (K × V)) → named number ≡ p ∷ ps → (r : Planned K V) → AllKeys (λ y. cmp p.0 y ≡ Less) (pairs_in (planned_blocks rows r)) → taken_from r ≢ Some number
  not_above number p ps e (planned.Older n) above = λ h. never_below p.0 (subst (AllKeys (λ y. cmp p.0 y ≡ Less)) (ap named (same_place n number h) ∙ e) above).0
  not_above number p ps e (planned.New t) above = no_place number
  not_above number p ps e (planned.Own t) above = no_place number

  abbrev from_of : Row K (Planned K V) → Option ℕ
  from_of r = taken_from r.segments

  none_above : (number : ℕ) (p : K × V) (ps : List (K × V)) → named number ≡ p ∷ ps → (xs : List (Row K (Planned K V))) → AllKeys (λ y. cmp p.0 y ≡ Less) (all_pairs rows xs) → All (AreApart (Some number)) (map from_of xs)
  none_above number p ps e [] above = All-nil (AreApart (Some number))
  none_above number p ps e (x ∷ xs) above =
      let rest = all_pairs rows xs in
      All-cons (AreApart (Some number)) (from_of x) (map from_of xs)
      (not_above number p ps e x.segments (all_front _ (row_pairs rows x) rest above))
      (none_above number p ps e xs (all_rear _ (row_pairs rows x) rest above))

  first_apart : (x : Planned K V) (rest : List (K × V)) (xs : List (Row K (Planned K V))) → rest ≡ all_pairs rows xs → 1 ≤ length (pairs_in (planned_blocks rows x)) → IsAscending cmp (pairs_in (planned_blocks rows x) ++ rest) → All (AreApart (taken_from x)) (map from_of xs)
  first_apart (planned.New t) rest xs is some up = λ k d lt. tt
  first_apart (planned.Own t) rest xs is some up = λ k d lt. tt
  first_apart (planned.Older n) rest xs is some up =
      let first = some_first (named n) some in
      let above = rising_head cmp first.0 (first.1 ++ rest) (subst (λ b. IsAscending cmp (b ++ rest)) first.2 up) in
      none_above n first.0 first.1 first.2 xs (subst (AllKeys _) is (all_rear _ first.1 rest above))

  -- no row is empty, and the keys of all of them rise
  pub all_apart : (xs : List (Row K (Planned K V))) → All (λ r. 1 ≤ length (row_pairs rows r)) xs → IsAscending cmp (all_pairs rows xs) → AllPairs AreApart (map from_of xs)
  all_apart [] some up = λ i j d lt within. absurd (omega (arith, within))
  all_apart (x ∷ xs) some up =
      AllPairs-cons AreApart (from_of x) (map from_of xs)
      (first_apart x.segments (all_pairs rows xs) xs refl (All-head (λ r. 1 ≤ length (row_pairs rows r)) x xs some) up)
      (all_apart xs (All-tail (λ r. 1 ≤ length (row_pairs rows r)) x xs some) (rising_rear cmp (row_pairs rows x) (all_pairs rows xs) up))
