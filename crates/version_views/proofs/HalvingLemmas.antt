-- What a search by halving costs.
use Rattle.std.proofs.Common.{◌≡◌, ℕ, suc, ◌+◌, ◌*◌, ◌-◌, ◌^◌, ◌≤◌, ◌<◌, ◌⊎◌, inl, inr, List, [], ◌∷◌, length, refl, take, true, false, Some, sym, ap, ◌∙◌, subst, arith}
use Rattle.std.specs.List.{All}
use Rattle.std.proofs.lemmas.List.{length-map, length-take}
use Rattle.std.proofs.lemmas.Bool.Decides.{leb_tells}
use Rattle.std.proofs.Math.Nat.{pow-suc, mul_assoc, mul-le-mul_left, le-mul_of_pos_right}
use Rattle.std.proofs.Math.Dec.{leb}
use Rattle.std.proofs.Math.Pow.{pow_mono}
use Rattle.version_views.specs.Cuts.{IsSeparated, greatest_key, pairs_in}

-- as many comparisons as halve fewer than m to none are no more than m has binary digits
pub digits_hold : (c d n m : ℕ) → 2 ^ c ≤ 2 * n + 1 → n + 1 ≤ m → m < 2 ^ d → c ≤ d
digits_hold c d n m cost fewer fits = split (leb_tells c d)
  where
    split : ((leb c d ≡ true) × (c ≤ d)) ⊎ ((leb c d ≡ false) × (d < c)) → c ≤ d
    split (inl h) = h.1
    split (inr h) = let more : 2 ^ (suc d) ≤ 2 ^ c = pow_mono (omega (arith, h.1)) in let double : 2 ^ (suc d) ≡ 2 ^ d * 2 = pow-suc 2 d in absurd (omega (arith, more, double, cost, fewer, fits))

chain : (a b n : ℕ) → a ≤ b → b ≤ n → a ≤ n
chain a b n h k = omega (arith, h, k)

doubled : (q p r n : ℕ) → q ≡ p * 2 → p ≤ r → r ≤ n → q ≤ 2 * n + 1
doubled q p r n e h k = omega (arith, e, h, k)

-- one more comparison halves what is left
pub halved : (w v c n : ℕ) → 0 < w → 2 * v ≤ w → 2 ^ c * w ≤ n → (2 ^ (suc c) * v ≤ n) × (2 ^ (suc c) ≤ 2 * n + 1)
halved w v c n some half left =
    let double : 2 ^ (suc c) ≡ 2 ^ c * 2 = pow-suc 2 c in
    let same : 2 ^ (suc c) * v ≡ 2 ^ c * (2 * v) = ap (λ (p : ℕ). p * v) double ∙ mul_assoc (2 ^ c) 2 v in
    let less = chain (2 ^ c * (2 * v)) (2 ^ c * w) n (mul-le-mul_left (2 ^ c) half) left in
    (subst (λ (x : ℕ). x ≤ n) (sym same) less, doubled (2 ^ (suc c)) (2 ^ c) (2 ^ c * w) n double (le-mul_of_pos_right (2 ^ c) some) left)

-- blocks without a pair are none
pub none_inside : {K V : Type 0} (blocks : List (List (K × V))) → All (λ b. 1 ≤ length b) blocks → pairs_in blocks ≡ [] → length blocks ≡ 0
none_inside [] some none = refl
none_inside ([] ∷ bs) some none = absurd (omega (arith, some 0 [] (omega arith)))
none_inside ((p ∷ ps) ∷ bs) some none = cc

-- each segment but the last has a separator
pub separators_fewer : {K V : Type 0} (blocks : List (List (K × V))) (keys : List K) → IsSeparated blocks keys → 0 < length blocks → length keys + 1 ≤ length blocks
separators_fewer blocks keys separated some =
    let same : length keys ≡ length (take (length blocks - 1) blocks) = sym (length-map keys Some) ∙ ap length separated ∙ length-map (take (length blocks - 1) blocks) greatest_key in
    let cut : length (take (length blocks - 1) blocks) ≤ length blocks - 1 = simp length-take (omega arith) in
    omega (arith, same, cut, some)
