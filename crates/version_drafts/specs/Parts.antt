-- parts of a version that is being built
use Rattle.std.specs.Prelude.{◌≡◌, ℕ, ◌+◌, ◌-◌, ◌<◌, ◌≤◌, List, [], ◌∷◌, ◌++◌, cond, nat_lt, sum_by}
use Rattle.version_views.specs.Cuts.{pairs_in}
pub use Rattle.version_views.specs.Rows.{between}
use Rattle.version_drafts.specs.declared.segments.Part.{Part}
use Rattle.version_drafts.specs.declared.segments.Part.TheVariants as parts

module _ {K V : Type 0} where
  -- the pairs of the segments of a part, where the older version has these
  abbrev pub part_blocks : List (List (K × V)) → Part K V → List (List (K × V))
  part_blocks blocks (parts.Taken from upto) = between from upto blocks
  part_blocks blocks (parts.Made tree) = tree.pairs ∷ []

  abbrev pub blocks_of_parts : List (List (K × V)) → List (Part K V) → List (List (K × V))
  blocks_of_parts blocks [] = []
  blocks_of_parts blocks (p ∷ ps) = part_blocks blocks p ++ blocks_of_parts blocks ps

  -- and their list
  abbrev pub list_of_parts : List (List (K × V)) → List (Part K V) → List (K × V)
  list_of_parts blocks ps = pairs_in (blocks_of_parts blocks ps)

  -- a stretch has a segment, and the older version has all of it, where it has this many
  abbrev pub LiesWithin : ℕ → Part K V → Type 0
  LiesWithin n (parts.Taken from upto) = (from < upto) × (upto ≤ n)
  LiesWithin n (parts.Made tree) = Unit {0}

  -- the stretch of these places, where it has a segment
  abbrev pub stretch_of : ℕ → ℕ → List (Part K V)
  stretch_of from upto = cond (nat_lt from upto) (parts.Taken from upto ∷ []) []

  -- the stretch that came last and ended with the segment at this place ends before it
  abbrev pub IsShortened : ℕ → (old new : List (Part K V)) → Type 0
  IsShortened place old new = (front : List (Part K V)) (from : ℕ) → old ≡ front ++ parts.Taken from (place + 1) ∷ [] → new ≡ front ++ stretch_of from place

  -- how many segments a part has, and how many parts have
  abbrev pub segments_of : Part K V → ℕ
  segments_of (parts.Taken from upto) = upto - from
  segments_of (parts.Made tree) = 1

  abbrev pub segments_in : List (Part K V) → ℕ
  segments_in [] = 0
  segments_in (p ∷ ps) = segments_of p + segments_in ps

  -- 1 for a tree that was made
  abbrev pub makes : Part K V → ℕ
  makes (parts.Taken from upto) = 0
  makes (parts.Made tree) = 1

  -- how many trees were made
  abbrev pub made_in : List (Part K V) → ℕ
  made_in ps = sum_by makes ps
