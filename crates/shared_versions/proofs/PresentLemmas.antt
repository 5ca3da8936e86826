-- a draft that is placed upon the present version
use Rattle.std.proofs.Common.{◌≡◌, ℕ, ◌≤◌, List, [], ◌∷◌, Some, length, map, sym, ap, ◌∙◌, subst, arith, length-append}
use Rattle.std.specs.Cmp.{IsTotalOrder}
use Rattle.std.specs.declared.cmp.Ordering.{Ordering}
use Rattle.std.specs.List.{All, AllPairs, flat_map}
use Rattle.std.proofs.lemmas.List.Elements.{All-cons, All-head, All-nil, All-tail, All-weaker}
use Rattle.atomic_table.specs.Seated.{TableId}
use Rattle.leaf_array.specs.Pairs.{IsAscending}
use Rattle.sdd_domain.specs.Sharing.{IsOwnerOf}
use Rattle.sdd_domain.specs.declared.shared.Shared.{Shared}
use Rattle.version_views.specs.Cuts.{IsCut, pairs_in, separators_of}
use Rattle.version_views.specs.Items.{row_keys, row_owners}
use Rattle.version_views.specs.Rows.{IsRow, IsRowed}
use Rattle.version_views.specs.declared.row.Row.{Row}
use Rattle.version_drafts.proofs.ShelfLemmas.{both_have}
use Rattle.shared_versions.specs.Drafts.{IsPlaceable, Plan, blocks_planned, planned_blocks}
use Rattle.shared_versions.specs.Placing.{AreApart, IsKeptRow, IsOwnedIn, IsPlanned, IsPresent, IsThere, blocks_kept, sight_in, sight_kept, taken_from, version_owned}
use Rattle.shared_versions.specs.Readers.{HasWidth, version_in}
use Rattle.shared_versions.specs.Sight.{Sight}
use Rattle.shared_versions.specs.declared.node.Node.{Node}
use Rattle.shared_versions.specs.declared.node.Node.TheVariants as nodes
use Rattle.shared_versions.specs.declared.planned.Planned.{Planned}
use Rattle.shared_versions.specs.declared.planned.Planned.TheVariants as planned
use Rattle.shared_versions.proofs.ApartLemmas.{all_apart, pairs_of_rows, row_pairs}
use Rattle.shared_versions.proofs.OwnedLemmas.{owned_is}

module _ {K V : Type 0} where
  -- the version that an owner owns
  pub owned_version : (owner : Shared (Node K V)) (v : Sight K V) → IsOwnerOf owner (nodes.Version v) → version_owned owner ≡ Some v
  owned_version owner v owns = ap version_in (owned_is owner (nodes.Version v) owns)

  -- other owners of rows of the same pairs are kept
  pub kept_present : (s : ℕ) (place : TableId) (owner : Shared (Node K V)) (kept now : List _) → IsOwnedIn place owner → IsPresent s owner kept → map blocks_kept now ≡ map blocks_kept kept → All (IsKeptRow place) now → IsPresent s owner now
  kept_present s place owner kept now home is same all = record {
    width = is.width;
    blocks = same ∙ is.blocks;
    rows = subst (λ t. All (IsKeptRow t) now) (sym home) all;
  }

  -- an owner of a version, and owners of its rows
  pub placed_present : (s : ℕ) (place : TableId) (owner : Shared (Node K V)) (v : Sight K V) (kept : List _) → IsOwnedIn place owner → IsOwnerOf owner (nodes.Version v) → v.width ≡ s → map blocks_kept kept ≡ v.rows → All (IsKeptRow place) kept → IsPresent s owner kept
  placed_present s place owner v kept home owns width blocks all =
      let is = owned_version owner v owns in record {
        width = subst (HasWidth s) (sym is) width;
        blocks = blocks ∙ ap (λ o. (sight_in o).rows) (sym is);
        rows = subst (λ t. All (IsKeptRow t) kept) (sym home) all;
      }

  -- of an older version, what is planned upon it speaks of its rows alone
  pub placeable_kept : (cmp : K → K → Ordering) (s : ℕ) (kept : List _) (old : Sight K V) (plan : Plan K V s) → map blocks_kept kept ≡ old.rows → IsPlaceable cmp s old plan → IsPlaceable cmp s (sight_kept kept) plan
  placeable_kept cmp s kept old plan blocks is =
      let rows = plan.shelves.rows.items in
      let all = λ (rs : List (List (List (K × V)))). flat_map (row_owners (planned_blocks rs)) rows in
      record {
        cut = subst (λ rs. IsCut cmp s (all rs) (separators_of (all rs))) (sym blocks) is.cut;
        rowed = subst (λ rs. IsRowed (planned_blocks rs) plan.shelves) (sym blocks) is.rowed;
        counted = subst (λ rs. plan.shelves.length ≡ length (pairs_in (all rs))) (sym blocks) is.counted;
      }

  pub planned_kept : (s : ℕ) (kept : List _) (old : Sight K V) (plan : Plan K V s) (new : Sight K V) → map blocks_kept kept ≡ old.rows → IsPlanned s (sight_kept kept) plan new → IsPlanned s old plan new
  planned_kept s kept old plan new blocks is = record {
    number = is.number;
    width = is.width;
    blocks = is.blocks ∙ ap (λ rs. flat_map (row_owners (planned_blocks rs)) plan.shelves.rows.items) blocks;
  }

  -- a planned row has a segment, so what it takes over is there
  row_there : (rows : List (List (List (K × V)))) (p : Planned K V) → 1 ≤ length (planned_blocks rows p) → IsThere rows p
  row_there rows (planned.Older number) some = some
  row_there rows (planned.New segments) some = tt
  row_there rows (planned.Own segments) some = tt

  pub all_there : (cmp : K → K → Ordering) (s : ℕ) (old : Sight K V) (plan : Plan K V s) → IsPlaceable cmp s old plan → All (λ r. IsThere old.rows r.segments) plan.shelves.rows.items
  all_there cmp s old plan is = All-weaker (λ (r : Row K (Planned K V)). IsRow (planned_blocks old.rows r.segments) (row_keys r)) (λ r. IsThere old.rows r.segments) (λ r row. row_there old.rows r.segments row.some) plan.shelves.rows.items is.rowed.rows

  -- and a pair
  some_pairs : (bs : List (List (K × V))) → 1 ≤ length bs → All (λ b. 1 ≤ length b) bs → 1 ≤ length (pairs_in bs)
  some_pairs [] some all = absurd (omega (arith, some))
  some_pairs (b ∷ bs) some all = let one = All-head (λ (c : List (K × V)). 1 ≤ length c) b bs all in let both = length-append b (pairs_in bs) in omega (arith, one, both)

  rows_some : (rows : List (List (List (K × V)))) (rs : List (Row K (Planned K V))) → All (λ r. 1 ≤ length (planned_blocks rows r.segments)) rs → All (λ b. 1 ≤ length b) (flat_map (row_owners (planned_blocks rows)) rs) → All (λ r. 1 ≤ length (row_pairs rows r)) rs
  rows_some rows [] some all = All-nil (λ (r : Row K (Planned K V)). 1 ≤ length (row_pairs rows r))
  rows_some rows (r ∷ rs) some all =
      let both = both_have (λ (b : List (K × V)). 1 ≤ length b) (planned_blocks rows r.segments) (flat_map (row_owners (planned_blocks rows)) rs) all in
      All-cons (λ (x : Row K (Planned K V)). 1 ≤ length (row_pairs rows x)) r rs
      (some_pairs (planned_blocks rows r.segments) (All-head (λ (x : Row K (Planned K V)). 1 ≤ length (planned_blocks rows x.segments)) r rs some) both.0)
      (rows_some rows rs (All-tail (λ (x : Row K (Planned K V)). 1 ≤ length (planned_blocks rows x.segments)) r rs some) both.1)

  -- no row of a plan is taken over twice
  pub planned_apart : (cmp : K → K → Ordering) → IsTotalOrder cmp → (s : ℕ) (old : Sight K V) (plan : Plan K V s) → IsPlaceable cmp s old plan → AllPairs AreApart (map (λ r. taken_from r.segments) plan.shelves.rows.items)
  planned_apart cmp o s old plan is =
      let rows = plan.shelves.rows.items in
      let some = All-weaker (λ (r : Row K (Planned K V)). IsRow (planned_blocks old.rows r.segments) (row_keys r)) (λ r. 1 ≤ length (planned_blocks old.rows r.segments)) (λ r row. row.some) rows is.rowed.rows in
      let sized = All-weaker (λ (b : List (K × V)). (1 ≤ length b) × (length b ≤ s)) (λ b. 1 ≤ length b) (λ b both. both.0) (blocks_planned old plan) is.cut.sizes in
      all_apart cmp o old.rows rows (rows_some old.rows rows some sized) (subst (IsAscending cmp) (pairs_of_rows old.rows rows) is.cut.rising)
