-- Blocks in a row.
use Rattle.std.proofs.Common.{◌≡◌, ℕ, ◌+◌, ◌*◌, ◌/◌, ◌≤◌, List, [], ◌∷◌, ◌++◌, length, drop, append_assoc, length-append, refl, arith}
use Rattle.std.proofs.lemmas.Nat.{le-div}
use Rattle.version_views.specs.Cuts.{IsTight, pairs_in}

module _ {K V : Type 0} where
  pub pairs_in-append : (bs cs : List (List (K × V))) → pairs_in (bs ++ cs) ≡ pairs_in bs ++ pairs_in cs
  pairs_in-append [] cs = refl
  pairs_in-append (b ∷ bs) cs = rw (pairs_in-append bs cs) (simp append_assoc)

  -- half as many, each with more than s pairs
  record Halved (s : ℕ) (blocks : List (List (K × V))) : Type 0 where
    half : ℕ
    all : length blocks ≤ 2 * half + 1
    full : half * (s + 1) ≤ length (pairs_in blocks)

  one_more : (s : ℕ) (b : List (K × V)) (bs : List (List (K × V))) → IsTight s (b ∷ bs) → Halved s (drop 1 bs) → Halved s (b ∷ bs)
  one_more s b [] t r = record { half = 0; all = omega arith; full = omega arith }
  one_more s b (c ∷ bs) t r =
      let more : (r.half + 1) * (s + 1) ≡ r.half * (s + 1) + (s + 1) = grind arith in
      let long : length (b ++ (c ++ pairs_in bs)) ≡ length b + (length c + length (pairs_in bs)) = simp length-append (omega arith) in
      record {
        half = r.half + 1;
        all = omega (arith, r.all);
        full = omega (arith, more, long, r.full, t.0);
      }

  halved : (s : ℕ) (blocks : List (List (K × V))) → IsTight s blocks → Halved s blocks × Halved s (drop 1 blocks)
  halved s [] t = let none : Halved s [] = record { half = 0; all = omega arith; full = omega arith } in (none, none)
  halved s (b ∷ bs) t = let r = halved s bs t.1 in (one_more s b bs t r.1, r.0)

  pub blocks_fit : (s : ℕ) (blocks : List (List (K × V))) → IsTight s blocks → length blocks ≤ 2 * (length (pairs_in blocks) / (s + 1)) + 1
  blocks_fit s blocks t =
      let r = (halved s blocks t).0 in
      let fits : r.half ≤ length (pairs_in blocks) / (s + 1) = le-div r.half (length (pairs_in blocks)) (s + 1) (omega arith) r.full in
      omega (arith, fits, r.all)
