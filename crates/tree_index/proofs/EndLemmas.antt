-- Where the forward end of a cursor goes.
use Rattle.std.proofs.Common.{◌≡◌, ◌<◌, ℕ, ◌+◌, arith, cond, false, List, length, sym, ap, subst}
use Rattle.std.specs.Prelude.{nat_lt}
use Rattle.std.specs.declared.cmp.Ordering.{Ordering}
use Rattle.std.specs.declared.ops.Bound.{Bound}
use Rattle.std.proofs.lemmas.Bool.{lt-ltb}
use Rattle.std.proofs.lemmas.Bool.Decides.{nat_tests}
use Rattle.tree_index.specs.declared.cursor.End.{End}
use Rattle.tree_index.specs.declared.cursor.End.TheVariants.{Unopened, At, Done}
use Rattle.tree_index.specs.Cursor.{before_start, forth, passed_by}

module _ {K V : Type 0} (cmp : K → K → Ordering) (lower : Bound K) (pairs : List (K × V)) (n : ℕ) (within : n < length pairs) where
  pub forth_first : n ≡ before_start cmp lower pairs → ◌≡◌ {A = End ℕ} (At n) (forth cmp lower pairs Unopened)
  forth_first e = subst (λ (m : ℕ). ◌≡◌ {A = End ℕ} (At n) (cond (nat_lt m (length pairs)) (At m) Unopened)) e (sym (ap (λ b. cond {A = End ℕ} b (At n) Unopened) (lt-ltb n (length pairs) within)))

  pub forth_next : (p : ℕ) → n ≡ p + 1 → ◌≡◌ {A = End ℕ} (At n) (forth cmp lower pairs (At p))
  forth_next p e = subst (λ (m : ℕ). ◌≡◌ {A = End ℕ} (At n) (cond (nat_lt m (length pairs)) (At m) Done)) e (sym (ap (λ b. cond {A = End ℕ} b (At n) Done) (lt-ltb n (length pairs) within)))

-- an end that passes some pairs
module _ {K V : Type 0} (pairs : List (K × V)) (p count n : ℕ) (e : n ≡ p + count) where
  pub passed_at : n < length pairs → ◌≡◌ {A = End ℕ} (At n) (passed_by count pairs (At p))
  passed_at within = subst (λ (m : ℕ). ◌≡◌ {A = End ℕ} (At n) (cond (nat_lt m (length pairs)) (At m) Done)) e (sym (ap (λ b. cond {A = End ℕ} b (At n) Done) (lt-ltb n (length pairs) within)))

  pub passed_out : n ≡ length pairs → ◌≡◌ {A = End ℕ} Done (passed_by count pairs (At p))
  passed_out end = subst (λ (m : ℕ). ◌≡◌ {A = End ℕ} Done (cond (nat_lt m (length pairs)) (At m) Done)) e (sym (ap (λ b. cond {A = End ℕ} b (At n) Done) (let out : nat_lt n (length pairs) ≡ false = grind (arith, nat_tests) in out)))
