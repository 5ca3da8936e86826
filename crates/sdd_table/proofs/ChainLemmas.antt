-- chains, while one link word is written
use Rattle.std.proofs.Common.{◌≡◌, ◌≢◌, ℕ, zero, suc, ◌+◌, ◌<◌, ◌≤◌, List, [], ◌∷◌, length, get_or, set, sym, refl, ap, ◌∙◌, subst, arith, eq-eqb, ne_eqb, get_or-set_other, get_or-set_same, cond, ltb, true, false}
use mathlib.Core.Logic.{dite}
use native.Mathlib.Decide.{ℕ_discrete}
use Rattle.std.proofs.lemmas.List.Sums.{sum_by-cons}
use Rattle.std.proofs.lemmas.Bool.{ltb-true, ltb-false}
use Rattle.sdd_table.specs.Steps.{hit, times}
use Rattle.sdd_table.specs.Chains.{follow, Spells}

-- the chain is read as far as it goes
pub follow_spelled : (n : ℕ) (links : List ℕ) (h : ℕ) (xs : List ℕ) → Spells links h xs → length xs ≤ n → follow n links h ≡ xs
follow_spelled zero links h [] s l = refl
follow_spelled zero links h (x ∷ xs) s l = absurd (omega arith)
follow_spelled (suc n) links h [] s l = ap (follow (suc n) links) s
follow_spelled (suc n) links h (x ∷ xs) s l = ap (follow (suc n) links) s.0 ∙ ap (λ ys. x ∷ ys) (follow_spelled n links (get_or links x 0) xs s.1 (omega arith))

-- the link word of a place that isn't in it doesn't matter
pub spells_set : (links : List ℕ) (i v h : ℕ) (xs : List ℕ) → times i xs ≡ 0 → Spells links h xs → Spells (set links i v) h xs
spells_set links i v h [] none s = s
spells_set links i v h (x ∷ xs) none s =
    let all = sum_by-cons (λ j. hit j i) x xs in
    let other : x ≢ i = (λ e. let one : hit x i ≡ 1 = ap (λ b. cond b 1 0) (eq-eqb x i e) in absurd (omega arith)) in
    let same : get_or (set links i v) x 0 ≡ get_or links x 0 = get_or-set_other links i x v 0 other in
    (s.0, subst (λ g. Spells (set links i v) g xs) (sym same) (spells_set links i v (get_or links x 0) xs (omega arith) s.1))

-- a place comes in front
pub spells_put : (links : List ℕ) (i h : ℕ) (xs : List ℕ) → i < length links → times i xs ≡ 0 → Spells links h xs → Spells (set links i h) (suc i) (i ∷ xs)
spells_put links i h xs inside none s = (refl, subst (λ g. Spells (set links i h) g xs) (sym (get_or-set_same links i h 0 inside)) (spells_set links i h h xs none s))

-- what is in no chain may be written
pub follow_set : (n : ℕ) (links : List ℕ) (i v h : ℕ) → times i (follow n links h) ≡ 0 → Spells links h (follow n links h) → length (follow n links h) ≤ n → follow n (set links i v) h ≡ follow n links h
follow_set n links i v h none s l = follow_spelled n (set links i v) h (follow n links h) (spells_set links i v h (follow n links h) none s) l

pub follow_short : (n : ℕ) (links : List ℕ) (h : ℕ) → length (follow n links h) ≤ n
follow_short zero links h = omega arith
follow_short (suc n) links zero = omega arith
follow_short (suc n) links (suc i) = omega (arith, follow_short n links (get_or links i 0))

pub follow_none : (n : ℕ) (links : List ℕ) → follow n links 0 ≡ []
follow_none zero links = refl
follow_none (suc n) links = refl

-- what comes behind the first place of a chain is a chain, too
pub chain_rest : (n : ℕ) (links : List ℕ) (h : ℕ) → Spells links h (follow n links h) → h ≢ 0 → (i : ℕ) × (h ≡ suc i) × (follow n links h ≡ i ∷ follow n links (get_or links i 0)) × Spells links (get_or links i 0) (follow n links (get_or links i 0))
chain_rest n links zero s some_ = absurd (some_ refl)
chain_rest zero links (suc i) s some_ = absurd (omega arith)
chain_rest (suc n) links (suc i) s some_ = let g = get_or links i 0 in let same = follow_spelled (suc n) links g (follow n links g) s.1 (omega (arith, follow_short n links g)) in (i, refl, ap (λ ys. i ∷ ys) (sym same), subst (Spells links g) (sym same) s.1)

-- so many numbers below n, each once and not i, are fewer than n
abbrev total : ℕ → (ℕ → ℕ) → ℕ
total zero g = 0
total (suc n) g = g n + total n g

total_both : (n : ℕ) (f g : ℕ → ℕ) → total n (λ j. f j + g j) ≡ total n f + total n g
total_both zero f g = refl
total_both (suc n) f g = omega (arith, total_both n f g)

total_same : (n : ℕ) (f g : ℕ → ℕ) → ((j : ℕ) → f j ≡ g j) → total n f ≡ total n g
total_same zero f g e = refl
total_same (suc n) f g e = omega (arith, e n, total_same n f g e)

hits_above : (n x : ℕ) → n ≤ x → total n (hit x) ≡ 0
hits_above zero x l = refl
hits_above (suc n) x l = let no : hit x n ≡ 0 = ap (λ b. cond b 1 0) (ne_eqb x n (λ e. omega arith)) in omega (arith, hits_above n x (omega arith))

hits : (n x : ℕ) → x < n → total n (hit x) ≡ 1
hits zero x l = absurd (omega arith)
hits (suc n) x l = dite (ℕ_discrete x n) (λ e. let one : hit x n ≡ 1 = ap (λ b. cond b 1 0) (eq-eqb x n e) in omega (arith, hits_above n x (omega arith)))
    (λ ne. let no : hit x n ≡ 0 = ap (λ b. cond b 1 0) (ne_eqb x n ne) in omega (arith, hits n x (omega arith)))

total_zero : (n : ℕ) (g : ℕ → ℕ) → ((j : ℕ) → g j ≡ 0) → total n g ≡ 0
total_zero zero g none = refl
total_zero (suc n) g none = omega (arith, none n, total_zero n g none)

total_length : (n : ℕ) (xs : List ℕ) → ((j : ℕ) → n ≤ j → times j xs ≡ 0) → total n (λ j. times j xs) ≡ length xs
total_length n [] above = total_zero n (λ j. times j []) (λ j. refl)
total_length n (x ∷ xs) above =
    let split : (j : ℕ) → times j (x ∷ xs) ≡ hit x j + times j xs = (λ j. sum_by-cons (λ k. hit k j) x xs) in
    let below : x < n = elim (ltb x n) as (λ b. ltb x n ≡ b → x < n) [ true ↦ λ e. omega (arith, ltb-true x n e) | false ↦ λ e. let out = above x (omega (arith, ltb-false x n e)) in let one : hit x x ≡ 1 = ap (λ b. cond b 1 0) (eq-eqb x x refl) in absurd (omega (arith, split x)) ] refl in
    omega (arith, total_same n (λ j. times j (x ∷ xs)) (λ j. hit x j + times j xs) split, total_both n (hit x) (λ j. times j xs), hits n x below, total_length n xs (λ j l. omega (arith, above j l, split j)))

total_few : (n : ℕ) (g : ℕ → ℕ) → ((j : ℕ) → g j ≤ 1) → total n g ≤ n
total_few zero g few = omega arith
total_few (suc n) g few = omega (arith, few n, total_few n g few)

total_fewer : (n i : ℕ) (g : ℕ → ℕ) → ((j : ℕ) → g j ≤ 1) → i < n → g i ≡ 0 → total n g < n
total_fewer zero i g few l none = absurd (omega arith)
total_fewer (suc n) i g few l none = dite (ℕ_discrete i n) (λ e. let no : g n ≡ 0 = ap g (sym e) ∙ none in omega (arith, total_few n g few)) (λ ne. omega (arith, few n, total_fewer n i g few (omega arith) none))

pub fewer : (n i : ℕ) (xs : List ℕ) → ((j : ℕ) → times j xs ≤ 1) → ((j : ℕ) → n ≤ j → times j xs ≡ 0) → i < n → times i xs ≡ 0 → length xs < n
fewer n i xs once above l none = omega (arith, total_length n xs above, total_fewer n i (λ j. times j xs) once l none)
