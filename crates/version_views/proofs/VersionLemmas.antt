-- a version in a place of one thread, whose groups name slots, and its view
use Rattle.std.proofs.Common.{◌≡◌, ℕ, zero, suc, ◌<◌, Option, List, [], ◌∷◌, length, map, get_or, refl, sym, ap, ◌∙◌, arith, subst}
use Rattle.std.specs.declared.cmp.Ordering.{Ordering}
use Rattle.std.specs.List.{flat_map}
use Rattle.std.proofs.lemmas.List.{length-map}
use Rattle.sdd_table.specs.Groups.{GroupState}
use Rattle.sdd_table.specs.Tokens.{kept_slot}
use Rattle.sdd_table.specs.declared.groups.Group.{Group}
use Rattle.sdd_table.specs.declared.owner.Kept.{Kept}
use Rattle.version_views.specs.Cuts.{pairs_in}
use Rattle.version_views.specs.CursorEnds.{AreRising}
use Rattle.version_views.specs.Items.{keeping, owners_of, row_owners, slots_in, slots_of}
use Rattle.version_views.specs.Versions.{IsSegment, IsVersion, blocks_in, blocks_of, segment_pairs}
use Rattle.version_views.specs.Views.{IsView, blocks_at}
use Rattle.version_views.specs.declared.directory.Directory.{Directory}
use Rattle.version_views.specs.declared.item.Item.{Item}
use Rattle.version_views.specs.declared.row.Row.{Row}
use Rattle.version_views.proofs.RowLemmas.{map-flat_map, rowed_alike}

get_map : {X Y : Type 0} (f : X → Y) (xs : List X) (i : ℕ) (d : Y) (e : X) → i < length xs → get_or (map f xs) i d ≡ f (get_or xs i e)
get_map f [] i d e h = absurd (omega (arith, h))
get_map f (x ∷ xs) zero d e h = refl
get_map f (x ∷ xs) (suc i) d e h = get_map f xs i d e (omega (arith, h))

map-map : {X Y Z : Type 0} (g : Y → Z) (f : X → Y) (xs : List X) → map g (map f xs) ≡ map (λ x. g (f x)) xs
map-map g f [] = refl
map-map g f (x ∷ xs) = ap (λ zs. g (f x) ∷ zs) (map-map g f xs)

-- owners are told by their slots
pub kept_same : (ks : List Kept) → ks ≡ map keeping (map kept_slot ks)
kept_same [] = refl
kept_same (k ∷ ks) = ap (λ xs. k ∷ xs) (kept_same ks)

module _ {K V : Type 0} {s : ℕ} (cmp : K → K → Ordering) (gs : List GroupState) (at : ℕ → Option (Item K V s)) (d : Directory K Group) where
  abbrev pub has_at : Kept → Type 0
  has_at k = IsSegment (at (kept_slot k))

  abbrev pub pairs_at : Kept → List (K × V)
  pairs_at k = segment_pairs (at (kept_slot k))

  -- owners of the slots that rows name
  owners_named : (rows : List (Row K Group)) → flat_map (row_owners (owners_of gs)) rows ≡ map keeping (flat_map (row_owners (slots_in gs)) rows)
  owners_named rows = sym (map-flat_map keeping (row_owners (slots_in gs)) rows)

  row_named : (r : Row K Group) → blocks_in gs at r.segments ≡ map pairs_at (owners_of gs r.segments)
  row_named r = sym (map-map pairs_at keeping (slots_in gs r.segments))

  pub viewed_blocks : blocks_of gs at d ≡ blocks_at (owners_of gs) pairs_at d
  viewed_blocks = sym (ap (map pairs_at) (owners_named d.rows.items) ∙ map-map pairs_at keeping (slots_of gs d))

  pub version_viewed : IsVersion cmp gs at d → IsView cmp (λ r. Unit {0}) (owners_of gs) has_at pairs_at d
  version_viewed v = record {
    there = λ k e h. tt;
    segments = λ k e h. let long = ap length (owners_named d.rows.items) ∙ length-map (slots_of gs d) keeping in let named = ap (λ ks. kept_slot (get_or ks k e)) (owners_named d.rows.items) ∙ ap kept_slot (get_map keeping (slots_of gs d) k e 0 (omega (arith, long, h))) in subst (λ i. IsSegment (at i)) (sym named) (v.segments k 0 (omega (arith, long, h)));
    rowed = rowed_alike (blocks_in gs at) (λ g. map pairs_at (owners_of gs g)) d (λ k e h. row_named (get_or d.rows.items k e)) v.rowed;
    rising = subst (AreRising cmp) viewed_blocks (record { some = λ k e h. (v.cut.sizes k e h).0; rising = v.cut.rising });
    counted = v.counted ∙ ap (λ bs. length (pairs_in bs)) viewed_blocks;
  }
