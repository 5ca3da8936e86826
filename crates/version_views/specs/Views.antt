-- A version as a view of it shows it, whatever lends its segments.
use Rattle.std.specs.Prelude.{◌≡◌, List, Option, None, Some, MatchOption, length, map}
use Rattle.std.specs.BTreeMap.{is_at}
use Rattle.std.specs.Borrow.{Bor}
use Rattle.std.specs.declared.cmp.Ordering.{Ordering}
use Rattle.std.specs.List.{All}
use Rattle.std.specs.Map.{lookup_entry}
pub use Rattle.tree_index.specs.Cursor.{cursor_within}
use Rattle.version_views.specs.Cuts.{pairs_in}
use Rattle.version_views.specs.Items.{segment_owners}
use Rattle.version_views.specs.CursorEnds.{AreRising}
use Rattle.version_views.specs.Rows.{IsRowed}
use Rattle.version_views.specs.declared.directory.Directory.{Directory}

-- the blocks of a directory, where its rows have these owners, and their segments these pairs
abbrev pub blocks_at : {K V R O : Type 0} → (R → List O) → (O → List (K × V)) → Directory K R → List (List (K × V))
blocks_at owners pairs d = map pairs (segment_owners owners d)

-- each row is there, and each owner has a segment; they stand in rows, and hold the pairs of a list by rising keys; and the
-- pairs are counted
pub record IsView {K V R O : Type 0} (cmp : K → K → Ordering) (has_row : R → Type 0) (owners : R → List O) (has : O → Type 0) (pairs : O → List (K × V)) (d : Directory K R) : Type 0 where
  pub there : All (λ r. has_row r.segments) d.rows.items
  pub segments : All has (segment_owners owners d)
  pub rowed : IsRowed (λ r. map pairs (owners r)) d
  pub rising : AreRising cmp (blocks_at owners pairs d)
  pub counted : d.length ≡ length (pairs_in (blocks_at owners pairs d))

-- what a look-up gives: the pair with the key, or none where there is none
abbrev pub LooksUp : {K V : Type 0} → (K → K → Ordering) → K → List (K × V) → Option (Bor K × Bor V) → Type 0
LooksUp cmp key pairs found = MatchOption found (lookup_entry (is_at (cmp key)) pairs ≡ None) (λ e. lookup_entry (is_at (cmp key)) pairs ≡ Some (e.0.now, e.1.now))
