-- Directories of rows: of owners, and planned.
use Rattle.std.proofs.Common.{◌≡◌, ℕ, zero, suc, ◌+◌, List, [], ◌∷◌, ◌++◌, length, map, take, refl, sym, ap, ◌∙◌, arith, subst}
use Rattle.std.specs.declared.cmp.Ordering.{Ordering}
use mathlib.Core.List.{map-map}
use Rattle.std.proofs.lemmas.List.{length-map}
use Rattle.std.proofs.lemmas.List.Elements.{All-cons, All-head, All-tail}
use Rattle.std.specs.List.{All, flat_map}
use Rattle.std.specs.Global.{Global}
use Rattle.std.specs.declared.sync.Arc.{Arc}
use Rattle.tree_index.specs.Tree.{Tree}
use Rattle.version_views.specs.Cuts.{IsCut, IsSeparated, pairs_in, separators_of}
use Rattle.version_views.specs.Items.{row_keys, row_owners, segment_owners}
use Rattle.version_views.specs.Rows.{CutsInRows, IsRow, IsRowed, end_of}
use Rattle.version_views.specs.Views.{IsView}
use Rattle.version_views.specs.declared.directory.Directory.{Directory}
use Rattle.version_views.specs.declared.row.Row.{Row}
use Rattle.version_views.proofs.RowLemmas.{map-flat_map}
use Rattle.version_views.proofs.RowSearchLemmas.{rows_cut}
use Rattle.version_drafts.specs.Drafts as drafts
use Rattle.version_drafts.specs.Shelves.{shelf_blocks}
use Rattle.shared_versions.specs.Drafts.{IsPlaceable, IsPlannedAs, Plan, blocks_planned, list_planned, planned_blocks}
use Rattle.shared_versions.specs.Nodes.{IsReadable, IsWhole, OwnsRow, blocks_of, row_blocks, row_segments, rows_of, segment_pairs}
use Rattle.shared_versions.specs.Placing.{owner_face, planned_face, row_face}
use Rattle.shared_versions.specs.Sight.{Sight}
use Rattle.shared_versions.specs.declared.node.RowOwner.{RowOwner}

-- ---- rows of two directories

heads : {X : Type 0} (a b : X) (u v : List X) → a ∷ u ≡ b ∷ v → a ≡ b
heads a b u v e = cc

tails : {X : Type 0} (a b : X) (u v : List X) → a ∷ u ≡ b ∷ v → u ≡ v
tails a b u v e = cc

-- where their blocks and their keys are the same, both are rows
module _ {K V R Q : Type 0} (f : R → List (List (K × V))) (g : Q → List (List (K × V))) where
  abbrev blocks_by : {X : Type 0} → (X → List (List (K × V))) → List (Row K X) → List (List (List (K × V)))
  blocks_by h rows = map (λ r. h r.segments) rows

  rows_across : (xs : List (Row K R)) (ys : List (Row K Q)) → blocks_by f xs ≡ blocks_by g ys → map row_keys xs ≡ map row_keys ys → All (λ r. IsRow (f r.segments) (row_keys r)) xs → All (λ r. IsRow (g r.segments) (row_keys r)) ys
  rows_across [] [] e k all = λ i d h. absurd (omega (arith, h))
  rows_across [] (y ∷ ys) e k all = absurd (cc)
  rows_across (x ∷ xs) [] e k all = absurd (cc)
  rows_across (x ∷ xs) (y ∷ ys) e k all =
      let here : IsRow (g y.segments) (row_keys y) = subst (λ b. IsRow b (row_keys y)) (heads (f x.segments) (g y.segments) _ _ e) (subst (λ ks. IsRow (f x.segments) ks) (heads (row_keys x) (row_keys y) _ _ k) (All-head (λ r. IsRow (f r.segments) (row_keys r)) x xs all)) in
      All-cons (λ r. IsRow (g r.segments) (row_keys r)) y ys here (rows_across xs ys (tails (f x.segments) (g y.segments) _ _ e) (tails (row_keys x) (row_keys y) _ _ k) (All-tail (λ r. IsRow (f r.segments) (row_keys r)) x xs all))

  joined : {X : Type 0} (h : X → List (List (K × V))) (rows : List (Row K X)) → map pairs_in (blocks_by h rows) ≡ map (λ r. pairs_in (h r.segments)) rows
  joined h [] = refl
  joined h (x ∷ rows) = ap (λ bs. pairs_in (h x.segments) ∷ bs) (joined h rows)

  lists_across : (xs : List (Row K R)) (ys : List (Row K Q)) → blocks_by f xs ≡ blocks_by g ys → map (λ r. pairs_in (f r.segments)) xs ≡ map (λ r. pairs_in (g r.segments)) ys
  lists_across xs ys e = sym (joined f xs) ∙ ap (map pairs_in) e ∙ joined g ys

  flat_across : (n : ℕ) (xs : List (Row K R)) (ys : List (Row K Q)) → blocks_by f xs ≡ blocks_by g ys → flat_map (row_owners g) (take n ys) ≡ flat_map (row_owners f) (take n xs)
  flat_across zero xs ys e = refl
  flat_across (suc n) [] [] e = refl
  flat_across (suc n) [] (y ∷ ys) e = absurd (cc)
  flat_across (suc n) (x ∷ xs) [] e = absurd (cc)
  flat_across (suc n) (x ∷ xs) (y ∷ ys) e = ap (λ bs. bs ++ flat_map (row_owners g) (take n ys)) (sym (heads (f x.segments) (g y.segments) _ _ e)) ∙ ap (λ bs. f x.segments ++ bs) (flat_across n xs ys (tails (f x.segments) (g y.segments) _ _ e))

  pub rowed_across : (d : Directory K R) (e : Directory K Q) → blocks_by f d.rows.items ≡ blocks_by g e.rows.items → map row_keys d.rows.items ≡ map row_keys e.rows.items → e.separators.items ≡ d.separators.items → e.ends.items ≡ d.ends.items → IsRowed f d → IsRowed g e
  rowed_across d e blocks keys separators ends rowed =
      let long : length d.rows.items ≡ length e.rows.items = (let a = length-map d.rows.items (λ r. f r.segments) in let b = length-map e.rows.items (λ r. g r.segments) in let c = ap length blocks in omega (arith, a, b, c)) in
      record {
        rows = rows_across d.rows.items e.rows.items blocks keys rowed.rows;
        separated = subst (λ bs. IsSeparated bs e.separators.items) (lists_across d.rows.items e.rows.items blocks) (subst (λ ks. IsSeparated (map (λ r. pairs_in (f r.segments)) d.rows.items) ks) (sym separators) rowed.separated);
        ends = record {
          count = ap length ends ∙ rowed.ends.count ∙ long;
          each = λ i h. ap (λ xs. end_of xs i) ends ∙ rowed.ends.each i (omega (arith, h, long)) ∙ ap length (sym (flat_across (suc i) d.rows.items e.rows.items blocks));
        };
      }

-- ---- rows of owners

all_unit : {X : Type 0} (xs : List X) → All (λ _. Unit {0}) xs
all_unit xs = λ k d h. tt

module _ {K V : Type 0} (own : List (List (Arc (Tree K V) Global))) where
  -- the blocks of all rows, one behind the other
  pub blocks_are : (d : Directory K (RowOwner K V)) → blocks_of own d ≡ flat_map (row_owners (row_blocks own)) d.rows.items
  blocks_are d = map-flat_map segment_pairs (row_owners (row_segments own)) d.rows.items

  -- a whole directory can be read, and its ends cut its blocks
  pub whole_viewed : (cmp : K → K → Ordering) (s : ℕ) (d : Directory K (RowOwner K V)) → IsWhole cmp own s d → IsView cmp (OwnsRow own) (row_segments own) (λ _. Unit {0}) segment_pairs d
  whole_viewed cmp s d whole = record {
    there = whole.owned;
    segments = all_unit (segment_owners (row_segments own) d);
    rowed = whole.rowed;
    rising = record { some = λ k e h. (whole.cut.sizes k e h).0; rising = whole.cut.rising };
    counted = whole.counted;
  }

  pub whole_cut : (cmp : K → K → Ordering) (s : ℕ) (d : Directory K (RowOwner K V)) → IsWhole cmp own s d → CutsInRows (blocks_of own d) d
  whole_cut cmp s d whole = subst (λ bs. CutsInRows bs d) (sym (blocks_are d)) (rows_cut (row_blocks own) d whole.rowed)

  pub whole_readable : (cmp : K → K → Ordering) (s : ℕ) (d : Directory K (RowOwner K V)) → IsWhole cmp own s d → IsReadable own d
  whole_readable cmp s d whole = record { owned = whole.owned; rowed = whole.rowed }

-- ---- faces of rows

module _ {K X Y A B : Type 0} (f : X → A × B) (g : Y → A × B) where
  -- rows with the same faces have the same blocks, the same where they are items, and the same keys
  pub blocks_alike : (xs : List (Row K X)) (ys : List (Row K Y)) → map (row_face f) xs ≡ map (row_face g) ys → map (λ r. (f r.segments).0) xs ≡ map (λ r. (g r.segments).0) ys
  blocks_alike xs ys e = sym (map-map (λ (p : (A × B) × List K). p.0.0) (row_face f) xs) ∙ ap (map (λ (p : (A × B) × List K). p.0.0)) e ∙ map-map (λ (p : (A × B) × List K). p.0.0) (row_face g) ys

  pub placed_alike : (xs : List (Row K X)) (ys : List (Row K Y)) → map (row_face f) xs ≡ map (row_face g) ys → map (λ r. (f r.segments).1) xs ≡ map (λ r. (g r.segments).1) ys
  placed_alike xs ys e = sym (map-map (λ (p : (A × B) × List K). p.0.1) (row_face f) xs) ∙ ap (map (λ (p : (A × B) × List K). p.0.1)) e ∙ map-map (λ (p : (A × B) × List K). p.0.1) (row_face g) ys

  pub keys_alike : (xs : List (Row K X)) (ys : List (Row K Y)) → map (row_face f) xs ≡ map (row_face g) ys → map row_keys xs ≡ map row_keys ys
  keys_alike xs ys e = sym (map-map (λ (p : (A × B) × List K). p.1) (row_face f) xs) ∙ ap (map (λ (p : (A × B) × List K). p.1)) e ∙ map-map (λ (p : (A × B) × List K). p.1) (row_face g) ys

-- ---- directories of planned rows

flat_of : {X Y A : Type 0} (f : X → List A) (g : Y → List A) (xs : List X) (ys : List Y) → map f xs ≡ map g ys → flat_map f xs ≡ flat_map g ys
flat_of f g [] [] e = refl
flat_of f g [] (y ∷ ys) e = absurd (cc)
flat_of f g (x ∷ xs) [] e = absurd (cc)
flat_of f g (x ∷ xs) (y ∷ ys) e = ap (λ b. b ++ flat_map f xs) (heads (f x) (g y) (map f xs) (map g ys) e) ∙ ap (λ b. g y ++ b) (flat_of f g xs ys (tails (f x) (g y) (map f xs) (map g ys) e))

module _ {K V : Type 0} (own : List (List (Arc (Tree K V) Global))) where
  -- a directory of the planned rows is whole
  pub planned_whole : (cmp : K → K → Ordering) (s : ℕ) (old : Sight K V) (plan : Plan K V s) (d : Directory K (RowOwner K V)) → IsPlaceable cmp s old plan → All (λ r. OwnsRow own r.segments) d.rows.items → map (row_face (owner_face own)) d.rows.items ≡ map (row_face (planned_face old.rows)) plan.shelves.rows.items → d.separators.items ≡ plan.shelves.separators.items → d.ends.items ≡ plan.shelves.ends.items → d.length ≡ plan.shelves.length → IsWhole cmp own s d × (blocks_of own d ≡ blocks_planned old plan)
  planned_whole cmp s old plan d placeable owned faces separators ends count =
      let rows = plan.shelves.rows.items in
      let same : map (λ r. planned_blocks old.rows r.segments) rows ≡ map (λ r. row_blocks own r.segments) d.rows.items = sym (blocks_alike (owner_face own) (planned_face old.rows) d.rows.items rows faces) in
      let keys = sym (keys_alike (owner_face own) (planned_face old.rows) d.rows.items rows faces) in
      let blocks : blocks_of own d ≡ blocks_planned old plan = blocks_are own d ∙ sym (flat_of (row_owners (planned_blocks old.rows)) (row_owners (row_blocks own)) rows d.rows.items same) in (
        record {
          owned = owned;
          cut = subst (λ bs. IsCut cmp s bs (separators_of bs)) (sym blocks) placeable.cut;
          rowed = rowed_across (planned_blocks old.rows) (row_blocks own) plan.shelves d same keys separators ends placeable.rowed;
          counted = count ∙ placeable.counted ∙ sym (ap (λ bs. length (pairs_in bs)) blocks);
        },
        blocks,
      )

  -- what is planned upon an older version as rows of parts say can be placed upon it
  pub planned_placeable : (cmp : K → K → Ordering) (s : ℕ) (old : Directory K (RowOwner K V)) (plan : drafts.Plan K V s) (draft : Plan K V s) (sight : Sight K V) → rows_of old ≡ sight.rows → drafts.IsPlanned cmp (blocks_of own old) old.ends.items plan → IsPlannedAs own old plan.shelves draft → IsPlaceable cmp s sight draft × (list_planned sight draft ≡ drafts.list_planned (blocks_of own old) plan)
  planned_placeable cmp s old plan draft sight rows planned is =
      let same = sym is.blocks in
      let here = ap (λ rs. flat_map (row_owners (planned_blocks rs)) draft.shelves.rows.items) rows in
      let there : flat_map (row_owners (planned_blocks (rows_of old))) draft.shelves.rows.items ≡ drafts.blocks_planned (blocks_of own old) plan = flat_of (row_owners (planned_blocks (rows_of old))) (row_owners (shelf_blocks (blocks_of own old))) draft.shelves.rows.items plan.shelves.rows.items is.blocks in
      let blocks : blocks_planned sight draft ≡ drafts.blocks_planned (blocks_of own old) plan = sym here ∙ there in (
        record {
          cut = subst (λ bs. IsCut cmp s bs (separators_of bs)) (sym blocks) planned.cut;
          rowed = subst (λ rs. IsRowed (planned_blocks rs) draft.shelves) rows (rowed_across (shelf_blocks (blocks_of own old)) (planned_blocks (rows_of old)) plan.shelves draft.shelves same (sym is.keys) is.separators is.ends planned.rowed);
          counted = is.count ∙ planned.counted ∙ sym (ap (λ bs. length (pairs_in bs)) blocks);
        },
        ap pairs_in blocks,
      )
