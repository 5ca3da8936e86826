-- Versions that take nothing over.
use Rattle.std.proofs.Common.{◌≡◌, ℕ, ◌+◌, ◌-◌, ◌*◌, List, [], ◌∷◌, length, take, refl, sym, ap, ◌∙◌, subst, arith}
use Rattle.std.proofs.lemmas.List.Elements.{All-cons, All-head, All-nil, All-tail, All-weaker}
use Rattle.std.specs.List.{All, filter_map}
use Rattle.std.specs.declared.cmp.Ordering.{Ordering}
use Rattle.version_views.specs.Cuts.{IsCut, greatest_key, pairs_in, separators_of}
use Rattle.version_views.specs.Items.{row_owners}
use Rattle.version_views.specs.Rows.{IsRowed}
use Rattle.version_views.specs.declared.directory.Directory.{Directory}
use Rattle.version_views.specs.declared.row.Row.{Row}
use Rattle.version_views.proofs.BlockLemmas.{cut_nil}
use Rattle.version_views.proofs.RowLemmas.{flat_alike, rowed_alike}
use Rattle.version_drafts.specs.Drafts.{IsPlanned}
use Rattle.version_drafts.specs.Parts.{blocks_of_parts}
use Rattle.version_drafts.specs.Shelves.{LiesInside, LiesOn, shelf_blocks, shelved_blocks}
use Rattle.version_drafts.specs.declared.segments.Part.{Part}
use Rattle.version_drafts.specs.declared.segments.Part.TheVariants as parts
use Rattle.version_drafts.specs.declared.shelves.Shelf.{Shelf}
use Rattle.version_drafts.specs.declared.shelves.Shelf.TheVariants as shelves
use Rattle.version_drafts.proofs.ListedLemmas.{rowed_none}

module _ {K V : Type 0} (blocks : List (List (K × V))) (ends : List ℕ) where
  -- parts that lie in rows of an older version without any have the same blocks, whatever is older, and lie in rows of that, too
  alone_blocks : (ps : List (Part K V)) → All (LiesInside []) ps → blocks_of_parts [] ps ≡ blocks_of_parts blocks ps
  alone_blocks [] lies = refl
  alone_blocks (parts.Taken from upto ∷ ps) lies = let in_row = (All-head (LiesInside []) (parts.Taken from upto) ps lies).inside in absurd (omega (arith, in_row))
  alone_blocks (parts.Made tree ∷ ps) lies = ap (λ bs. tree.pairs ∷ bs) (alone_blocks ps (All-tail (LiesInside []) (parts.Made tree) ps lies))

  alone_inside : (ps : List (Part K V)) → All (LiesInside []) ps → All (LiesInside ends) ps
  alone_inside [] lies = All-nil (LiesInside ends)
  alone_inside (parts.Taken from upto ∷ ps) lies = let in_row = (All-head (LiesInside []) (parts.Taken from upto) ps lies).inside in absurd (omega (arith, in_row))
  alone_inside (parts.Made tree ∷ ps) lies = All-cons (LiesInside ends) (parts.Made tree) ps tt (alone_inside ps (All-tail (LiesInside []) (parts.Made tree) ps lies))

  alone_shelf : (s : Shelf K V) → LiesOn [] s → shelf_blocks [] s ≡ shelf_blocks blocks s
  alone_shelf (shelves.Older row from upto) on = let inside = on.inside in absurd (omega (arith, inside))
  alone_shelf (shelves.New ps) on = alone_blocks ps.items on

  alone_on : (s : Shelf K V) → LiesOn [] s → LiesOn ends s
  alone_on (shelves.Older row from upto) on = let inside = on.inside in absurd (omega (arith, inside))
  alone_on (shelves.New ps) on = alone_inside ps.items on

  module _ (d : Directory K (Shelf K V)) (there : All (λ r. LiesOn [] r.segments) d.rows.items) where
    same_shelves : All (λ r. shelf_blocks [] r.segments ≡ shelf_blocks blocks r.segments) d.rows.items
    same_shelves = All-weaker (λ (r : Row K (Shelf K V)). LiesOn [] r.segments) (λ r. shelf_blocks [] r.segments ≡ shelf_blocks blocks r.segments) (λ r on. alone_shelf r.segments on) d.rows.items there

    pub shelved_alone : shelved_blocks [] d.rows.items ≡ shelved_blocks blocks d.rows.items
    shelved_alone = flat_alike (row_owners (shelf_blocks [])) (row_owners (shelf_blocks blocks)) d.rows.items same_shelves

    -- so it is a version beside any
    pub planned_alone : (cmp : K → K → Ordering) (s : ℕ) → IsCut cmp s (shelved_blocks [] d.rows.items) (separators_of (shelved_blocks [] d.rows.items)) → IsRowed (shelf_blocks []) d → d.length ≡ length (pairs_in (shelved_blocks [] d.rows.items)) → IsPlanned {s = s} cmp blocks ends (record { shelves = d })
    planned_alone cmp s cut rowed counted = record {
      cut = subst (λ bs. IsCut cmp s bs (separators_of bs)) shelved_alone cut;
      rowed = rowed_alike (shelf_blocks []) (shelf_blocks blocks) d same_shelves rowed;
      counted = counted ∙ ap (λ bs. length (pairs_in bs)) shelved_alone;
      there = All-weaker (λ (r : Row K (Shelf K V)). LiesOn [] r.segments) (λ r. LiesOn ends r.segments) (λ r on. alone_on r.segments on) d.rows.items there;
    }

-- a version without rows
module _ {K V : Type 0} (d : Directory K (Shelf K V)) (none : d.rows.items ≡ []) where
  abbrev nothing : List (List (K × V))
  nothing = []

  pub blocks_none : (blocks : List (List (K × V))) → shelved_blocks blocks d.rows.items ≡ []
  blocks_none blocks = ap (shelved_blocks blocks) none

  no_separators : separators_of nothing ≡ []
  no_separators = let zero_left : length nothing - 1 ≡ 0 = omega arith in ap (λ n. filter_map greatest_key (take n nothing)) zero_left

  pub planned_none : (cmp : K → K → Ordering) (s : ℕ) → d.separators.items ≡ [] → d.ends.items ≡ [] → d.length ≡ 0 → (blocks : List (List (K × V))) (ends : List ℕ) → IsPlanned {s = s} cmp blocks ends (record { shelves = d })
  planned_none cmp s keys ends' count blocks ends =
      let lies : All (λ (r : Row K (Shelf K V)). LiesOn [] r.segments) d.rows.items = subst (All (λ (r : Row K (Shelf K V)). LiesOn [] r.segments)) (sym none) (All-nil (λ (r : Row K (Shelf K V)). LiesOn [] r.segments)) in
      let cut = subst (λ bs. IsCut cmp s bs (separators_of bs)) (sym (blocks_none [])) (subst (IsCut cmp s nothing) (sym no_separators) (cut_nil cmp s)) in
      planned_alone blocks ends d lies cmp s cut (rowed_none d none keys (shelf_blocks []) ends') (count ∙ ap (λ bs. length (pairs_in bs)) (sym (blocks_none [])))

pub times_next : (s m : ℕ) → s * (m + 1) ≡ s * m + s
times_next s m = grind arith
