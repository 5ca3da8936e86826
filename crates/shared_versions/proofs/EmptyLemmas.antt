-- a directory without rows is a version
use Rattle.std.proofs.Common.{◌≡◌, ℕ, ◌-◌, List, [], length, map, take, sym, ap, ◌∙◌, arith, subst}
use Rattle.std.specs.declared.cmp.Ordering.{Ordering}
use Rattle.std.specs.List.{All, filter_map, flat_map}
use Rattle.std.proofs.lemmas.List.Elements.{All-nil}
use Rattle.std.specs.Global.{Global}
use Rattle.std.specs.declared.sync.Arc.{Arc}
use Rattle.tree_index.specs.Tree.{Tree}
use Rattle.version_views.specs.Cuts.{IsCut, greatest_key, pairs_in, separators_of}
use Rattle.version_views.specs.Items.{row_owners}
use Rattle.version_views.specs.declared.directory.Directory.{Directory}
use Rattle.version_views.specs.declared.row.Row.{Row}
use Rattle.version_views.proofs.BlockLemmas.{cut_nil}
use Rattle.version_drafts.proofs.ListedLemmas.{rowed_none}
use Rattle.shared_versions.specs.Drafts.{IsPlaceable, Plan, blocks_planned, list_planned, planned_blocks}
use Rattle.shared_versions.specs.Sight.{Sight}
use Rattle.shared_versions.specs.Nodes.{IsReadable, IsWhole, OwnsRow, blocks_of, row_blocks, row_segments, segment_pairs}
use Rattle.shared_versions.specs.declared.node.RowOwner.{RowOwner}

cut_none : {K V : Type 0} (cmp : K → K → Ordering) (s : ℕ) (none : List (List (K × V))) → none ≡ [] → IsCut cmp s none (separators_of none)
cut_none {K} {V} cmp s none is =
    let nil : List (List (K × V)) = [] in
    let zero_left : length nil - 1 ≡ 0 = omega arith in
    subst (λ bs. IsCut cmp s bs (separators_of bs)) (sym is) (subst (IsCut cmp s nil) (sym (ap (λ n. filter_map greatest_key (take n nil)) zero_left)) (cut_nil cmp s))

pub empty_whole : {K V : Type 0} (cmp : K → K → Ordering) (own : List (List (Arc (Tree K V) Global))) (s : ℕ) (d : Directory K (RowOwner K V)) → d.rows.items ≡ [] → d.separators.items ≡ [] → d.ends.items ≡ [] → d.length ≡ 0 → IsWhole cmp own s d
empty_whole cmp own s d rows keys ends count =
    let none : blocks_of own d ≡ [] = ap (λ rs. map segment_pairs (flat_map (row_owners (row_segments own)) rs)) rows in
    record {
      owned = subst (λ rs. All (λ (r : Row _ _). OwnsRow own r.segments) rs) (sym rows) (All-nil (λ (r : Row _ _). OwnsRow own r.segments));
      cut = cut_none cmp s (blocks_of own d) none;
      rowed = rowed_none d rows keys (row_blocks own) ends;
      counted = count ∙ sym (ap (λ bs. length (pairs_in bs)) none);
    }

-- a draft without rows is one of the empty list, upon each version
module _ {K V : Type 0} (s : ℕ) (plan : Plan K V s) (rows : plan.shelves.rows.items ≡ []) where
  none_planned : (old : Sight K V) → blocks_planned old plan ≡ []
  none_planned old = ap (flat_map (row_owners (planned_blocks old.rows))) rows

  pub empty_listed : (old : Sight K V) → list_planned old plan ≡ []
  empty_listed old = ap pairs_in (none_planned old)

  pub empty_placeable : (cmp : K → K → Ordering) → plan.shelves.separators.items ≡ [] → plan.shelves.ends.items ≡ [] → plan.shelves.length ≡ 0 → (old : Sight K V) → IsPlaceable cmp s old plan
  empty_placeable cmp keys ends count old = record {
    cut = cut_none cmp s (blocks_planned old plan) (none_planned old);
    rowed = rowed_none plan.shelves rows keys (planned_blocks old.rows) ends;
    counted = count ∙ sym (ap length (empty_listed old));
  }

-- and a directory without rows can be read
pub empty_readable : {K V : Type 0} (own : List (List (Arc (Tree K V) Global))) (d : Directory K (RowOwner K V)) → d.rows.items ≡ [] → d.separators.items ≡ [] → d.ends.items ≡ [] → IsReadable own d
empty_readable own d rows keys ends = record {
  owned = subst (λ rs. All (λ (r : Row _ _). OwnsRow own r.segments) rs) (sym rows) (All-nil (λ (r : Row _ _). OwnsRow own r.segments));
  rowed = rowed_none d rows keys (row_blocks own) ends;
}
