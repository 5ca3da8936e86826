-- The word of ranks, a slot at a time.
use Rattle.std.proofs.Common.{arith, ◌≡◌, ℕ, zero, suc, ◌+◌, ◌-◌, ◌*◌, ◌<◌, ◌≤◌, ◌∷◌, ◌&&◌, List, true, false, cond, nat_lt, refl, ap, ◌∙◌, sym}
use Rattle.std.proofs.lemmas.Bool.Decides.{nat_tests}
use Rattle.leaf_array.specs.Cells.{rank_in, slot_of}
use Rattle.leaf_array.specs.Words.{ranks_in_order, rises}

-- 16 to the n
abbrev pub limit : ℕ → ℕ
limit zero = 1
limit (suc n) = 16 * limit n

limit_more : (n m : ℕ) → limit n ≤ limit (n + m)
limit_more n zero = let e : n + 0 ≡ n = omega arith in rw e (omega arith)
limit_more n (suc m) = let e : n + suc m ≡ suc (n + m) = omega arith in rw e (omega (arith, limit_more n m))

pub limit_within : (n m : ℕ) → n ≤ m → limit n ≤ limit m
limit_within n m le = let e : n + (m - n) ≡ m = omega (arith, le) in rw e at (limit_more n (m - n))

order_next : (place : ℕ) (ls : List (ℕ × ℕ)) → place < 15
    → ranks_in_order place (15 - place) ls
    ≡ cond (nat_lt 0 (rank_in (slot_of place) ls)) (rank_in (slot_of place) ls ∷ ranks_in_order (place + 1) (15 - (place + 1)) ls) (ranks_in_order (place + 1) (15 - (place + 1)) ls)
unfolding ranks_in_order
order_next place ls lt = let e : 15 - place ≡ suc (15 - (place + 1)) = omega (arith, lt) in rw e refl

pub order_end : (place before : ℕ) (ls : List (ℕ × ℕ)) → 15 ≤ place → rises before (ranks_in_order place (15 - place) ls) ≡ 0
unfolding ranks_in_order
order_end place before ls le = let e : 15 - place ≡ 0 = omega (arith, le) in rw e refl

-- a reachable slot adds its rise, and any other nothing
pub score_reached : (score before place slot rank rise total : ℕ) (ls : List (ℕ × ℕ)) → place < 15 → slot ≡ slot_of place → rank ≡ rank_in slot ls → 0 < rank → rise ≡ cond (nat_lt 0 before && nat_lt before rank) 1 0
    → score + 2 * rises before (ranks_in_order place (15 - place) ls) ≡ total
    → score + 2 * rise + 2 * rises rank (ranks_in_order (place + 1) (15 - (place + 1)) ls) ≡ total
score_reached score before place slot rank rise total ls lt slot_is rank_is pos is h =
    let next = ranks_in_order (place + 1) (15 - (place + 1)) ls in
    let same : rank ≡ rank_in (slot_of place) ls = rank_is ∙ ap (λ s. rank_in s ls) slot_is in
    let above : nat_lt 0 rank ≡ true = grind (arith, nat_tests) in
    let e : ranks_in_order place (15 - place) ls ≡ rank ∷ next = order_next place ls lt ∙ ap (λ r. cond (nat_lt 0 r) (r ∷ next) next) (sym same) ∙ ap (λ b. cond b (rank ∷ next) next) above in
    let h2 : score + 2 * (cond (nat_lt 0 before && nat_lt before rank) 1 0 + rises rank next) ≡ total = rw e at h in
    omega (arith, h2, is)

pub score_passed : (score before place slot rank total : ℕ) (ls : List (ℕ × ℕ)) → place < 15 → slot ≡ slot_of place → rank ≡ rank_in slot ls → rank ≤ 0
    → score + 2 * rises before (ranks_in_order place (15 - place) ls) ≡ total → score + 2 * rises before (ranks_in_order (place + 1) (15 - (place + 1)) ls) ≡ total
score_passed score before place slot rank total ls lt slot_is rank_is none h =
    let next = ranks_in_order (place + 1) (15 - (place + 1)) ls in
    let same : rank ≡ rank_in (slot_of place) ls = rank_is ∙ ap (λ s. rank_in s ls) slot_is in
    let below : nat_lt 0 rank ≡ false = grind (arith, nat_tests) in
    let e : ranks_in_order place (15 - place) ls ≡ next = order_next place ls lt ∙ ap (λ r. cond (nat_lt 0 r) (r ∷ next) next) (sym same) ∙ ap (λ b. cond b (rank ∷ next) next) below in
    rw e at h
