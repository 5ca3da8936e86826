-- Blocks from one place up to another.
use Rattle.std.proofs.Common.{◌≡◌, inl, inr, Bool, false, ℕ, zero, suc, ◌+◌, ◌-◌, ◌<◌, ◌≤◌, Option, Some, List, [], ◌∷◌, ◌++◌, length, map, take, drop, slice_get, refl, sym, ap, ◌∙◌, arith, length-append}
use Rattle.std.proofs.lemmas.Bool.Decides.{eqb_tells}
use Rattle.std.proofs.lemmas.List.{drop-drop, length-drop, length-take, take-append-drop, take-map}
use Rattle.std.specs.Cmp.{IsTotalOrder}
use Rattle.std.specs.declared.cmp.Ordering.{Ordering}
use Rattle.std.specs.declared.cmp.Ordering.TheVariants.{Less}
use Rattle.tree_index.specs.Shape.{AllKeys}
use Rattle.tree_index.proofs.ShapeLemmas.{all_append}
use Rattle.version_drafts.specs.Changes.{ahead, apply_delta}
use Rattle.version_views.specs.Cuts.{pairs_in}
use Rattle.tree_index.proofs.WayLemmas.{some_same}
use Rattle.version_drafts.specs.Cutting.{IsPassedBy, differ, turn_count}
use Rattle.version_drafts.specs.Parts.{between}
use Rattle.version_drafts.specs.Gone.{is_gone, without_gone}
use Rattle.version_drafts.specs.declared.gone.Gone.{Gone}
use Rattle.version_views.proofs.BlockListLemmas.{pairs_in-append}
use Rattle.version_drafts.proofs.DeltaLemmas.{amended_passed}
use Rattle.version_drafts.proofs.GapLemmas.{alike_turns}
use Rattle.version_drafts.proofs.RangeLemmas.{without_apart}

-- a list from a place on begins with what stands there
from_at : {X : Type 0} (i : ℕ) (xs : List X) (x : X) → Some x ≡ slice_get xs i → drop i xs ≡ x ∷ drop (i + 1) xs
from_at i [] x h = absurd (cc)
from_at zero (y ∷ xs) x h = let same : y ≡ x = cc in rw same refl
from_at (suc i) (y ∷ xs) x h = let e : suc i + 1 ≡ suc (i + 1) = omega arith in rw e (from_at i xs x h)

module _ {X : Type 0} (xs : List X) where
  pub between_none : (i : ℕ) → between i i xs ≡ []
  between_none i = let none : i - i ≡ 0 = omega arith in ap (λ n. take n (drop i xs)) none

  pub between_at : (i j : ℕ) (x : X) → i < j → Some x ≡ slice_get xs i → between i j xs ≡ x ∷ between (i + 1) j xs
  between_at i j x less here =
      let more : j - i ≡ suc (j - (i + 1)) = omega (arith, less) in
      ap (λ n. take n (drop i xs)) more ∙ ap (take (suc (j - (i + 1)))) (from_at i xs x here)

  pub drop_between : (i j : ℕ) → i ≤ j → drop i xs ≡ between i j xs ++ drop j xs
  drop_between i j le =
      let end : i + (j - i) ≡ j = omega (arith, le) in
      sym (take-append-drop (j - i) (drop i xs)) ∙ ap (λ ys. between i j xs ++ ys) (drop-drop (j - i) i xs ∙ ap (λ n. drop n xs) end)

-- one more
module _ {X : Type 0} where
  dropped_at : (n i : ℕ) (xs : List X) → slice_get (drop n xs) i ≡ slice_get xs (n + i)
  dropped_at zero i xs = let same : i ≡ 0 + i = omega arith in ap (slice_get xs) same
  dropped_at (suc n) i [] = refl
  dropped_at (suc n) i (x ∷ xs) = let same : suc (n + i) ≡ suc n + i = omega arith in dropped_at n i xs ∙ ap (slice_get (x ∷ xs)) same

  taken_next : (n : ℕ) (xs : List X) (x : X) → slice_get xs n ≡ Some x → take (suc n) xs ≡ take n xs ++ x ∷ []
  taken_next n [] x h = absurd (cc)
  taken_next zero (y ∷ ys) x h = ap (λ z. z ∷ []) (some_same h)
  taken_next (suc n) (y ∷ ys) x h = ap (λ zs. y ∷ zs) (taken_next n ys x h)

  pub between_more : (i j : ℕ) (xs : List X) (x : X) → i ≤ j → slice_get xs j ≡ Some x → between i (j + 1) xs ≡ between i j xs ++ x ∷ []
  between_more i j xs x le here =
      let more : j + 1 - i ≡ suc (j - i) = omega (arith, le) in
      let at : i + (j - i) ≡ j = omega (arith, le) in
      ap (λ n. take n (drop i xs)) more ∙ taken_next (j - i) (drop i xs) x (dropped_at i (j - i) xs ∙ (ap (slice_get xs) at ∙ here))

-- what lies between two places is mapped as all is
dropped_map : {X Y : Type 0} (f : X → Y) (n : ℕ) (xs : List X) → map f (drop n xs) ≡ drop n (map f xs)
dropped_map f zero xs = refl
dropped_map f (suc n) [] = refl
dropped_map f (suc n) (x ∷ xs) = dropped_map f n xs

pub between_map : {X Y : Type 0} (f : X → Y) (from upto : ℕ) (xs : List X) → map f (between from upto xs) ≡ between from upto (map f xs)
between_map f from upto xs = sym (take-map f (upto - from) (drop from xs)) ∙ ap (take (upto - from)) (dropped_map f from xs)

pub between_long : {X : Type 0} (from upto : ℕ) (xs : List X) → upto ≤ length xs → length (between from upto xs) ≡ upto - from
between_long from upto xs le = simp (length-take, length-drop) (omega (arith, le))

module _ {K V : Type 0} (blocks : List (List (K × V))) where
  pub pairs_between : (i j : ℕ) (b : List (K × V)) → i < j → Some b ≡ slice_get blocks i → pairs_in (between i j blocks) ≡ b ++ pairs_in (between (i + 1) j blocks)
  pairs_between i j b less here = ap pairs_in (between_at blocks i j b less here)

  pub pairs_behind_stretch : (i j : ℕ) → i ≤ j → pairs_in (drop i blocks) ≡ pairs_in (between i j blocks) ++ pairs_in (drop j blocks)
  pairs_behind_stretch i j le = ap pairs_in (drop_between blocks i j le) ∙ pairs_in-append (between i j blocks) (drop j blocks)

  pub some_between : (i j : ℕ) (b : List (K × V)) → i < j → Some b ≡ slice_get blocks i → 1 ≤ length b → 1 ≤ length (pairs_in (between i j blocks))
  some_between i j b less here some =
      let all = ap length (pairs_between i j b less here) ∙ length-append b (pairs_in (between (i + 1) j blocks)) in
      omega (arith, all, some)

-- what holds of the keys of each block holds of all
module _ {K V : Type 0} (P : K → Type 0) where
  all_taken : (n : ℕ) (bs : List (List (K × V))) → ((i : ℕ) (b : List (K × V)) → i < n → Some b ≡ slice_get bs i → AllKeys P b) → AllKeys P (pairs_in (take n bs))
  all_taken zero bs each = tt
  all_taken (suc n) [] each = tt
  all_taken (suc n) (b ∷ bs) each = all_append P b (pairs_in (take n bs)) (each 0 b (omega arith) refl) (all_taken n bs (λ i c less here. each (suc i) c (omega (arith, less)) here))

  behind : (n i : ℕ) (bs : List (List (K × V))) → slice_get (drop n bs) i ≡ slice_get bs (n + i)
  behind zero i bs = let same : i ≡ 0 + i = omega arith in ap (slice_get bs) same
  behind (suc n) i [] = refl
  behind (suc n) i (b ∷ bs) = let same : suc (n + i) ≡ suc n + i = omega arith in behind n i bs ∙ ap (slice_get (b ∷ bs)) same

  pub all_between : (from upto : ℕ) (bs : List (List (K × V))) → ((i : ℕ) (b : List (K × V)) → from ≤ i → i < upto → Some b ≡ slice_get bs i → AllKeys P b) → AllKeys P (pairs_in (between from upto bs))
  all_between from upto bs each = all_taken (upto - from) (drop from bs) (λ i b less here. each (from + i) b (omega arith) (omega (arith, less)) (here ∙ behind from i bs))

-- what holds of the first and of those behind it
pub each_from : {X : Type 0} (P : X → Type 0) (xs : List X) (place end : ℕ) → ((x : X) → Some x ≡ slice_get xs place → P x) → ((i : ℕ) (x : X) → place + 1 ≤ i → i < end → Some x ≡ slice_get xs i → P x) → (i : ℕ) (x : X) → place ≤ i → i < end → Some x ≡ slice_get xs i → P x
each_from P xs place end first rest i x le less here = elim (eqb_tells i place) [
  | inl same ↦ first x (here ∙ ap (slice_get xs) same.1)
  | inr other ↦ let ne = other.1 in rest i x (omega (arith, le, ne)) less here
]

-- a stretch of blocks that changes leave as they are
module _ {K V : Type 0} {cmp : K → K → Ordering} (o : IsTotalOrder cmp) (blocks : List (List (K × V))) (cs : List (K × Option V)) (gone : List (Gone K)) (place end : ℕ) (le : place ≤ end) (each : (i : ℕ) (b : List (K × V)) → place ≤ i → i < end → Some b ≡ slice_get blocks i → IsPassedBy cmp cs b × AllKeys (λ k. is_gone cmp gone k ≡ false) b) where
  abbrev pub stretch : List (K × V)
  stretch = pairs_in (between place end blocks)

  apart : AllKeys (λ k. is_gone cmp gone k ≡ false) stretch
  apart = all_between (λ k. is_gone cmp gone k ≡ false) place end blocks (λ i b from upto here. (each i b from upto here).1)

  passed : IsPassedBy cmp cs stretch
  passed change first = all_between (λ k. cmp k change.0 ≡ Less) place end blocks (λ i b from upto here. (each i b from upto here).0 change first)

  pub stretch_ahead : ahead cmp cs gone place blocks ≡ stretch ++ apply_delta cmp cs (without_gone cmp gone (pairs_in (drop end blocks)))
  stretch_ahead = ap (λ ps. apply_delta cmp cs (without_gone cmp gone ps)) (pairs_behind_stretch blocks place end le) ∙ (ap (apply_delta cmp cs) (without_apart cmp gone stretch (pairs_in (drop end blocks)) apart) ∙ amended_passed o cs stretch (without_gone cmp gone (pairs_in (drop end blocks))) passed)

  pub stretch_turns : (last : Bool) → 1 ≤ length stretch → turn_count (is_gone cmp gone) last (pairs_in (drop place blocks)) ≡ differ last false + turn_count (is_gone cmp gone) false (pairs_in (drop end blocks))
  stretch_turns last some = ap (turn_count (is_gone cmp gone) last) (pairs_behind_stretch blocks place end le) ∙ alike_turns (is_gone cmp gone) last false stretch (pairs_in (drop end blocks)) some apart
