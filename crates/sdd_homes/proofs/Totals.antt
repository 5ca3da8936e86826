-- homes that differ, and sums over participants
use Rattle.std.proofs.Common.{◌≡◌, ◌≢◌, ℕ, zero, suc, ◌+◌, ◌*◌, ◌<◌, ◌≤◌, sym, refl, ap, ◌∙◌, arith}
use mathlib.Core.Logic.{dite}
use native.Mathlib.Decide.{ℕ_discrete, dec_le}
use Rattle.std.proofs.Math.Nat.{suc-mul, mul_comm}
use Rattle.std.proofs.lemmas.Nat.{mul-le}
use Rattle.sdd_steps.proofs.ListLemmas.{put, put_here, put_else}
use Rattle.sdd_homes.specs.Book.{total, home}

below : (m p k p' k' : ℕ) → k < m → p < p' → p * m + k ≢ p' * m + k'
below m p k p' k' lk lt e = let t : suc p * m ≤ p' * m = mul-le (suc p) m p' m lt (omega arith) in let one : suc p * m ≡ p * m + m = suc-mul p m in absurd (omega arith)

apart : (m p k p' k' : ℕ) → k < m → k' < m → p * m + k ≡ p' * m + k' → (p ≡ p') × (k ≡ k')
apart m p k p' k' lk lk' e = dite (dec_le (suc p) p') (λ lt. absurd (below m p k p' k' lk lt e)) (λ ge. dite (dec_le (suc p') p) (λ lt. absurd (below m p' k' p k lk' lt (sym e)))
    (λ ge'. let same : p ≡ p' = omega arith in (same, (let f : p * m ≡ p' * m = ap (λ (z : ℕ). z * m) same in omega arith))))

-- homes for different slots, or of different participants, differ
pub home_slot : (m k p k' p' : ℕ) → k < m → k' < m → k ≢ k' → home m k p ≢ home m k' p'
home_slot m k p k' p' lk lk' ne e = ne (apart m p k p' k' lk lk' e).1

pub home_part : (m k p p' : ℕ) → k < m → p ≢ p' → home m k p ≢ home m k p'
home_part m k p p' lk ne e = ne (apart m p k p' k lk lk e).0

total_same : (n : ℕ) (f : ℕ → ℕ) (p v : ℕ) → n < suc p → total n (put f p v) ≡ total n f
total_same zero f p v over = refl
total_same (suc n) f p v over = let a = put_else f p v n (λ e. omega arith) in let b = total_same n f p v (omega arith) in omega arith

pub total_above : (n : ℕ) (f : ℕ → ℕ) (p v : ℕ) → n ≤ p → total n (put f p v) ≡ total n f
total_above n f p v le = total_same n f p v (omega arith)

pub total_put : (n : ℕ) (f : ℕ → ℕ) (p v : ℕ) → p < n → total n (put f p v) + f p ≡ total n f + v
total_put zero f p v low = absurd (omega arith)
total_put (suc n) f p v low = dite (ℕ_discrete n p)
    (λ same. let a = ap (put f p v) same ∙ put_here f p v in let b = total_same n f p v (omega arith) in let c = ap f same in omega arith)
    (λ other. let a = put_else f p v n other in let b = total_put n f p v (omega arith) in omega arith)

-- homes of participants, and those of deeds, lie below the spare slots
pub home_in : (n slots k p : ℕ) → k < slots → p < suc n → home slots k p < slots * suc n
home_in n slots k p lk lp = let m : suc p * slots ≤ suc n * slots = mul-le (suc p) slots (suc n) slots lp (omega arith) in let one : suc p * slots ≡ p * slots + slots = suc-mul p slots in let turned : suc n * slots ≡ slots * suc n = mul_comm (suc n) slots in omega arith
