-- Changes of a list of pairs: by rising keys, the new value of each, or none where its pair is taken away; and ranges whose
-- pairs of the list are gone.
use Rattle.std.specs.Prelude.{ℕ, ◌+◌, List, [], ◌∷◌, ◌++◌, drop, length, Option, Some, None}
use Rattle.std.specs.declared.cmp.Ordering.{Ordering}
use Rattle.leaf_array.specs.Edits.{above, below}
use Rattle.version_views.specs.Cuts.{pairs_in}
use Rattle.version_drafts.specs.Gone.{without_gone}
use Rattle.version_drafts.specs.declared.changes.Changes.{Changes}
use Rattle.version_drafts.specs.declared.edits.Edits.{Edits}
use Rattle.version_drafts.specs.declared.edits.Edits.TheVariants as forms
use Rattle.version_drafts.specs.declared.gone.Gone.{Gone}

module _ {K V : Type 0} where
  -- the pair that a change leaves, if it leaves one
  abbrev pub pair_left : K → Option V → List (K × V)
  pair_left key None = []
  pair_left key (Some value) = (key, value) ∷ []

  -- the list that edits by key make of one
  abbrev pub apply_delta : (K → K → Ordering) → List (K × Option V) → List (K × V) → List (K × V)
  apply_delta cmp [] pairs = pairs
  apply_delta cmp (c ∷ cs) pairs = below cmp c.0 pairs ++ (pair_left c.0 c.1 ++ apply_delta cmp cs (above cmp c.0 pairs))

  -- the edits, in whichever form they are kept
  abbrev pub noted_in : Edits K V → List (K × Option V)
  noted_in (forms.Row row) = row
  noted_in (forms.Tree tree) = tree.pairs

  -- the list that changes make of one: what ranges leave of it, and then the edits
  abbrev pub changed : (K → K → Ordering) → Changes K V → List (K × V) → List (K × V)
  changed cmp c pairs = apply_delta cmp (noted_in c.edits) (without_gone cmp c.gone.items pairs)

  -- the list that they make of a version of these segments
  abbrev pub list_changed : (K → K → Ordering) → Changes K V → List (List (K × V)) → List (K × V)
  list_changed cmp c blocks = changed cmp c (pairs_in blocks)

  -- the list that edits make of what ranges leave of blocks, from a place on
  abbrev pub ahead : (K → K → Ordering) → List (K × Option V) → List (Gone K) → ℕ → List (List (K × V)) → List (K × V)
  ahead cmp edits gone place blocks = apply_delta cmp edits (without_gone cmp gone (pairs_in (drop place blocks)))

  -- how many keys and ranges they name
  abbrev pub named_by : Changes K V → ℕ
  named_by c = length (noted_in c.edits) + length c.gone.items
