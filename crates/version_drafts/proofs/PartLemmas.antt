-- How many segments parts have.
use Rattle.std.proofs.Common.{◌≡◌, ℕ, ◌+◌, ◌*◌, ◌/◌, ◌≤◌, List, [], ◌∷◌, length, length-append, refl, ap, subst, arith}
use Rattle.std.proofs.lemmas.List.Elements.{All-head, All-tail}
use Rattle.std.proofs.lemmas.List.Sums.{sum_by-cons}
use Rattle.std.specs.List.{All}
use Rattle.version_views.specs.Cuts.{IsTight, pairs_in}
use Rattle.version_views.proofs.BlockListLemmas.{blocks_fit}
use Rattle.version_drafts.specs.Parts.{LiesWithin, between, blocks_of_parts, made_in, makes, segments_in}
use Rattle.version_drafts.specs.declared.segments.Part.{Part}
use Rattle.version_drafts.specs.declared.segments.Part.TheVariants as parts
use Rattle.version_drafts.proofs.StretchLemmas.{between_long}

module _ {K V : Type 0} where
  -- as many as the older version and new trees give them
  pub segments_many : (blocks : List (List (K × V))) (ps : List (Part K V)) → All (LiesWithin (length blocks)) ps → segments_in ps ≡ length (blocks_of_parts blocks ps)
  segments_many blocks [] lies = refl
  segments_many blocks (parts.Taken from upto ∷ ps) lies =
      let here = All-head (LiesWithin (length blocks)) (parts.Taken from upto) ps lies in
      let rest = segments_many blocks ps (All-tail (LiesWithin (length blocks)) (parts.Taken from upto) ps lies) in
      let long = between_long from upto blocks here.1 in
      let both = length-append (between from upto blocks) (blocks_of_parts blocks ps) in
      omega (arith, rest, long, both)
  segments_many blocks (parts.Made tree ∷ ps) lies =
      let rest = segments_many blocks ps (All-tail (LiesWithin (length blocks)) (parts.Made tree) ps lies) in
      omega (arith, rest)

  -- each tree that was made is one
  pub made_fewer : (ps : List (Part K V)) → made_in ps ≤ segments_in ps
  made_fewer [] = omega arith
  made_fewer (parts.Taken from upto ∷ ps) = let rest = made_fewer ps in let sum = sum_by-cons makes (parts.Taken from upto) ps in omega (arith, rest, sum)
  made_fewer (parts.Made tree ∷ ps) = let rest = made_fewer ps in let sum = sum_by-cons makes (parts.Made tree) ps in omega (arith, rest, sum)

-- the segments of a list are few
pub few_of : {K V : Type 0} (s : ℕ) (ps : List (Part K V)) (pairs : List (K × V)) → IsTight s (blocks_of_parts [] ps) → All (LiesWithin 0) ps → pairs_in (blocks_of_parts [] ps) ≡ pairs → segments_in ps ≤ 2 * (length pairs / (s + 1)) + 1
few_of s ps pairs tight lies is =
    let few = blocks_fit s (blocks_of_parts [] ps) tight in
    let many = segments_many [] ps lies in
    subst (λ n. segments_in ps ≤ 2 * (n / (s + 1)) + 1) (ap length is) (omega (arith, few, many))
