-- owners that are moved from one list of kept ones to another
use Rattle.std.proofs.Common.{◌≡◌, ℕ, zero, suc, ◌<◌, ◌≤◌, Option, None, Some, List, [], ◌∷◌, get_or, length, map, reverse, refl, sym, ap, ◌∙◌, arith}
use Rattle.std.specs.Prelude.{slice_index_or}
use Rattle.std.specs.List.{All}
use Rattle.std.proofs.lemmas.List.{get_or-map, get_or-set_other, length-map, length-set, reverse-append}
use Rattle.std.proofs.lemmas.List.Elements.{All-cons, All-get_or, All-nil, All-pop, All-set, All-weaker}
use Rattle.atomic_table.specs.Seated.{TableId}
use Rattle.sdd_domain.specs.declared.shared.Shared.{Shared}
use Rattle.shared_versions.specs.Placing.{AreApart, IsKeptRow, IsNewIn, IsSameIn, IsToKeep, blocks_kept, blocks_to_keep, moved_from, owner_of, without}
use Rattle.shared_versions.specs.declared.keeping.ToKeep.{ToKeep}
use Rattle.shared_versions.specs.declared.keeping.ToKeep.TheVariants as to_keep
use Rattle.shared_versions.specs.declared.node.Node.{Node}

-- what holds of all of a list that is told from its end
pub all_turned : {X Y : Type 0} (P : Y → Type 0) (f : X → Y) (xs : List X) → All P (reverse (map f xs)) → All (λ x. P (f x)) xs
all_turned P f [] all = All-nil (λ x. P (f x))
all_turned P f (x ∷ xs) all =
    let parted = All-pop P (reverse (f x ∷ map f xs)) (reverse (map f xs)) (Some (f x)) (reverse-append (f x ∷ []) (map f xs)) all in
    All-cons (λ x. P (f x)) x xs parted.1 (all_turned P f xs parted.0)

-- a list of lists has what isn't empty
pub is_within : {X : Type 0} (xs : List (List X)) (i : ℕ) → 1 ≤ length (get_or xs i []) → i < length xs
is_within [] zero h = absurd (omega (arith, h))
is_within [] (suc i) h = absurd (omega (arith, h))
is_within (x ∷ xs) zero h = omega arith
is_within (x ∷ xs) (suc i) h = let r = is_within xs i h in omega (arith, r)

module _ {K V : Type 0} where
  -- a row of some segments is kept
  pub kept_within : (kept : List (Option (Shared (Node K V)))) (i : ℕ) → 1 ≤ length (get_or (map blocks_kept kept) i []) → i < length kept
  kept_within kept i h = let lt = is_within (map blocks_kept kept) i h in let long = length-map kept blocks_kept in omega (arith, lt, long)

  pub kept_there : (kept : List (Option (Shared (Node K V)))) (i : ℕ) → 1 ≤ length (get_or (map blocks_kept kept) i []) → get_or kept i None ≡ None → ⊥
  kept_there kept i h none =
      let is = ap length (get_or-map blocks_kept kept i None [] (kept_within kept i h) ∙ ap blocks_kept none) in
      omega (arith, h, is)

  -- what is to be kept is of the place
  pub all_new : (place : TableId) (n : ℕ) (ts : List (ToKeep K V)) → All (IsToKeep place n) ts → All (IsNewIn place) ts
  all_new place n ts all = All-weaker (IsToKeep place n) (IsNewIn place) (λ t is. is.0) ts all

  -- the owner to be kept, if there is one, owns a row, of the pairs that were told
  pub owner_told : (place : TableId) (kept : List (Option (Shared (Node K V)))) (t : ToKeep K V) → All (IsKeptRow place) kept → IsToKeep place (length kept) t → IsKeptRow place (owner_of kept t) × (blocks_kept (owner_of kept t) ≡ blocks_to_keep (map blocks_kept kept) t)
  owner_told place kept (to_keep.New s) all is = (is.0, refl)
  owner_told place kept (to_keep.Old number) all is = (All-get_or (IsKeptRow place) kept number None is.1 all, sym (get_or-map blocks_kept kept number None [] is.1))
  owner_told place kept to_keep.Nothing all is = (tt, refl)

  -- where one is moved, the owners of others stay, and nothing else is left
  pub others_stay : (kept : List (Option (Shared (Node K V)))) (t u : ToKeep K V) → AreApart (moved_from t) (moved_from u) → owner_of (without t kept) u ≡ owner_of kept u
  others_stay kept (to_keep.New s) u apart = refl
  others_stay kept to_keep.Nothing u apart = refl
  others_stay kept (to_keep.Old number) (to_keep.New s) apart = refl
  others_stay kept (to_keep.Old number) to_keep.Nothing apart = refl
  others_stay kept (to_keep.Old number) (to_keep.Old other) apart = get_or-set_other kept number other None None (λ e. apart (ap (λ n. Some n) e))

  pub all_stay : (first kept now : List (Option (Shared (Node K V)))) (t : ToKeep K V) (us : List (ToKeep K V)) → now ≡ without t kept → All (λ u. AreApart (moved_from t) (moved_from u)) us → All (IsSameIn first kept) us → All (IsSameIn first now) us
  all_stay first kept now t us is apart there = λ k d lt.
      let u = slice_index_or us k d in
      ap (λ os. owner_of os u) is ∙ (others_stay kept t u (apart k d lt) ∙ there k d lt)

  pub rest_left : (place : TableId) (kept : List (Option (Shared (Node K V)))) (t : ToKeep K V) → All (IsKeptRow place) kept → All (IsKeptRow place) (without t kept)
  rest_left place kept (to_keep.New s) all = all
  rest_left place kept (to_keep.Old number) all = All-set (IsKeptRow place) kept number None tt all
  rest_left place kept to_keep.Nothing all = all

  pub as_many_places : (kept : List (Option (Shared (Node K V)))) (t : ToKeep K V) → length (without t kept) ≡ length kept
  as_many_places kept (to_keep.New s) = refl
  as_many_places kept (to_keep.Old number) = length-set kept number None
  as_many_places kept to_keep.Nothing = refl
