-- Pairs that are yet to be read.
use Rattle.std.proofs.Common.{◌≡◌, ℕ, zero, suc, ◌+◌, ◌-◌, true, false, cond, nat_lt, List, [], ◌∷◌, ◌++◌, drop, length, Option, Some, None, refl, sym, ap, ◌∙◌, arith}
use Rattle.std.proofs.lemmas.Bool.{lt-ltb}
use Rattle.std.proofs.lemmas.Bool.Decides.{nat_tests}
use Rattle.std.specs.Prelude.{slice_get}
use Rattle.std.specs.declared.cmp.Ordering.{Ordering}
use Rattle.std.specs.declared.ops.Bound.TheVariants.{Unbounded}
use Rattle.std.proofs.lemmas.List.{drop_all}
use Rattle.tree_index.specs.declared.cursor.End.{End}
use Rattle.tree_index.specs.declared.cursor.End.TheVariants.{Unopened, At, Done}
use Rattle.tree_index.specs.Cursor.{Cursor, whole, forth, up_to_end, kept_below, kept_above, pair_at, moved_forth, next_back_of, passed_by}
use Rattle.version_views.specs.Cuts.{pairs_in}
use Rattle.version_views.specs.ChangeScans.{pairs_from, unread, IsReading}

module _ {X : Type 0} where
  drop_next : (n : ℕ) (xs : List X) → drop (n + 1) xs ≡ drop 1 (drop n xs)
  drop_next zero xs = refl
  drop_next (suc n) [] = let e : suc n + 1 ≡ suc (n + 1) = omega arith in rw e refl
  drop_next (suc n) (x ∷ xs) = let e : suc n + 1 ≡ suc (n + 1) = omega arith in rw e (drop_next n xs)

  first_left : (n : ℕ) (xs : List X) → slice_get xs n ≡ slice_get (drop n xs) 0
  first_left zero xs = refl
  first_left (suc n) [] = refl
  first_left (suc n) (x ∷ xs) = first_left n xs

module _ {K V : Type 0} (cmp : K → K → Ordering) where
  pub from_start : (pairs : List (K × V)) → pairs_from pairs (forth cmp Unbounded pairs Unopened) ≡ pairs
  from_start [] = refl
  from_start (p ∷ ps) = rw (lt-ltb 0 (suc (length ps)) (omega arith)) refl

  pub started_first : (pairs : List (K × V)) → forth cmp Unbounded pairs Unopened ≡ Unopened → pairs ≡ []
  started_first [] h = refl
  started_first (p ∷ ps) h = let t = rw (lt-ltb 0 (suc (length ps)) (omega arith)) at h in cc

  pub kept_all : (p : Option (K × V)) → kept_below cmp Unbounded p ≡ p
  kept_all None = refl
  kept_all (Some p) = refl

  pub front_of : (pairs : List (K × V)) (e : End ℕ) → kept_below cmp Unbounded (pair_at pairs e) ≡ slice_get (pairs_from pairs e) 0
  front_of pairs Unopened = refl
  front_of pairs (At n) = kept_all (slice_get pairs n) ∙ first_left n pairs
  front_of pairs Done = refl

  pub from_next : (pairs : List (K × V)) (e : End ℕ) → (e ≡ Unopened → pairs ≡ []) → pairs_from pairs (forth cmp Unbounded pairs e) ≡ drop 1 (pairs_from pairs e)
  from_next pairs Unopened h = rw (h refl) refl
  from_next pairs (At n) h =
      (elim (nat_lt (n + 1) (length pairs)) as (λ b. nat_lt (n + 1) (length pairs) ≡ b → pairs_from pairs (cond b (At (n + 1)) Done) ≡ drop 1 (drop n pairs)) [
        | true ↦ λ b. drop_next n pairs
        | false ↦ λ b. sym (sym (drop_next n pairs) ∙ drop_all (n + 1) pairs (grind (arith, nat_tests)))
      ]) refl
  from_next pairs Done h = refl

  -- a cursor that reads goes on to the next pair
  pub stepped : (c d : Cursor K V) → IsReading c → d ≡ moved_forth cmp c → unread d ≡ drop 1 (unread c)
  stepped c d h e = ap unread e ∙ ap (λ b. pairs_from c.pairs (forth cmp b c.pairs c.forward)) h.from ∙ from_next c.pairs c.forward h.started

  unopened_before : (count : ℕ) (pairs : List (K × V)) (e : End ℕ) → passed_by count pairs e ≡ Unopened → e ≡ Unopened
  unopened_before count pairs Unopened = λ g. refl
  unopened_before count pairs (At n) =
      elim (nat_lt (n + count) (length pairs)) as (λ b. cond {A = End ℕ} b (At (n + count)) Done ≡ Unopened → At n ≡ Unopened) [
        | true ↦ λ g. cc
        | false ↦ λ g. cc
      ]
  unopened_before count pairs Done = λ g. cc

  -- ---- the last pair

  up_to_all : (pairs : List (K × V)) → up_to_end cmp Unbounded pairs ≡ length pairs
  up_to_all [] = refl
  up_to_all (p ∷ ps) = ap suc (up_to_all ps)

  pub above_all : (p : Option (K × V)) → kept_above cmp Unbounded p ≡ p
  above_all None = refl
  above_all (Some p) = refl

  pub back_of : (pairs : List (K × V)) → next_back_of cmp (whole pairs Unopened Unopened) ≡ slice_get pairs (length pairs - 1)
  back_of [] = refl
  back_of (p ∷ ps) = rw (up_to_all ps, lt-ltb 0 (suc (length ps)) (omega arith)) (above_all (slice_get (p ∷ ps) (suc (length ps) - 1)))

-- the pairs from a block on
pub block_at : {K V : Type 0} (n : ℕ) (blocks : List (List (K × V))) (block : List (K × V)) → Some block ≡ slice_get blocks n → pairs_in (drop n blocks) ≡ block ++ pairs_in (drop (n + 1) blocks)
block_at n [] block h = cc
block_at zero (b ∷ bs) block h = let same : b ≡ block = cc in rw same refl
block_at (suc n) (b ∷ bs) block h = let e : suc n + 1 ≡ suc (n + 1) = omega arith in rw e (block_at n bs block h)
