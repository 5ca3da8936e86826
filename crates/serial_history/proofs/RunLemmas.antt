-- Runs of transactions.
use Rattle.std.proofs.Common.{◌≡◌, ℕ, ◌≤◌, zero, suc, List, [], ◌∷◌, ◌++◌, length, take, refl, ap, arith}
use Rattle.std.specs.declared.cmp.Ordering.{Ordering}
use Rattle.version_views.specs.Writes.{after_write, after_writes, replies_to}
use Rattle.version_views.specs.declared.write.Write.{Write}
use Rattle.serial_history.specs.Serial.{after_all, IsSerial, IsValid}
use Rattle.serial_history.specs.declared.transaction.Transaction.{Transaction}

module _ {K V : Type 0} (cmp : K → K → Ordering) where
  -- each write is told something
  pub length-replies : (ws : List (Write K V)) (pairs : List (K × V)) → length (replies_to cmp ws pairs) ≡ length ws
  length-replies [] pairs = refl
  length-replies (w ∷ ws) pairs = ap suc (length-replies ws (after_write cmp w pairs))

  pub after_all-push : (ts : List (Transaction K V)) (t : Transaction K V) (pairs : List (K × V)) → after_all cmp (ts ++ t ∷ []) pairs ≡ after_writes cmp t.writes (after_all cmp ts pairs)
  after_all-push [] t pairs = refl
  after_all-push (u ∷ ts) t pairs = after_all-push ts t (after_writes cmp u.writes pairs)

  -- the first transactions are the same in a longer history
  pub take-push : (ts : List (Transaction K V)) (t : Transaction K V) (n : ℕ) → n ≤ length ts → take n (ts ++ t ∷ []) ≡ take n ts
  take-push ts t zero h = refl
  take-push [] t (suc n) h = absurd (omega (arith, h))
  take-push (u ∷ ts) t (suc n) h = ap (λ us. u ∷ us) (take-push ts t n (omega (arith, h)))

  -- a good transaction may be added
  pub IsSerial-push : (ts : List (Transaction K V)) (t : Transaction K V) (pairs : List (K × V)) → IsSerial cmp ts pairs → IsValid cmp (after_all cmp ts pairs) t → IsSerial cmp (ts ++ t ∷ []) pairs
  IsSerial-push [] t pairs s good = (good, tt)
  IsSerial-push (u ∷ ts) t pairs s good = (s.0, IsSerial-push ts t (after_writes cmp u.writes pairs) s.1 good)
