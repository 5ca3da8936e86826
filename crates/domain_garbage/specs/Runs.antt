-- notes as runs: each with how many items, one behind the other, have it
use Rattle.std.specs.Prelude.{◌≡◌, ℕ, ◌<◌, List, ◌++◌, replicate}
use Rattle.domain_garbage.specs.declared.notes.Notes.TheInside.{Inside}

-- the note of each item, the newest in front
abbrev pub notes_of : Inside → List ℕ
notes_of w = replicate w.newest.count w.newest.note ++ (replicate w.middle.count w.middle.note ++ replicate w.oldest.count w.oldest.note)

-- an older run has a lesser note, and no items where the newer one has none
pub record AreRuns (w : Inside) : Type 0 where
  pub second : 0 < w.middle.count → (0 < w.newest.count) × (w.middle.note < w.newest.note)
  pub third : 0 < w.oldest.count → (0 < w.middle.count) × (w.oldest.note < w.middle.note)
