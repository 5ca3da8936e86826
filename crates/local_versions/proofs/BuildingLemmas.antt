-- What is built of a version can be placed beside it.
use Rattle.std.proofs.Common.{◌≡◌, ℕ, Some, Result, Ok, Err, IfOk, List, [], map, sym, ap, ◌∙◌, subst}
use Rattle.std.specs.declared.cmp.Ordering.{Ordering}
use Rattle.sdd_world.specs.Frame.{IsLive}
use Rattle.sdd_world.specs.State.{State, value_at}
use Rattle.sdd_world.specs.declared.groups.Group.{Group}
use Rattle.version_views.specs.Versions.{IsVersion, blocks_of, segment_pairs}
use Rattle.version_views.specs.declared.directory.Directory.{Directory}
use Rattle.version_views.specs.declared.item.Item.{Item}
use Rattle.version_views.specs.declared.item.Item.TheVariants as items
use Rattle.version_drafts.specs.Drafts.{IsPlanned}
use Rattle.local_versions.specs.Placing.{IsPlaceable, Plan, StandsAlone, blocks_at, ends_at, ends_in_item, list_planned, slots_in_item}

module _ {K V : Type 0} {s : ℕ} (cmp : K → K → Ordering) (w : State (Item K V s)) (d : Directory K Group) (whole : IsVersion cmp w.groups (value_at w) d) where
  -- the blocks of the version in a slot are those of its directory
  pub blocks_beside : (i : ℕ) → value_at w i ≡ Some (items.Directory d) → blocks_at w (Some i) ≡ blocks_of w.groups (value_at w) d
  blocks_beside i is = ap (λ x. map (λ j. segment_pairs (value_at w j)) (slots_in_item w.groups x)) is

  pub placeable_beside : (p : Plan K V s) → IsPlanned cmp (blocks_of w.groups (value_at w) d) d.ends.items p → (i : ℕ) → IsLive w i → value_at w i ≡ Some (items.Directory d) → IsPlaceable cmp w (Some i) p
  placeable_beside p planned i live is =
      let ends : ends_at w (Some i) ≡ d.ends.items = ap ends_in_item is in
      record {
        planned = subst (λ es. IsPlanned cmp (blocks_at w (Some i)) es p) (sym ends) (subst (λ bs. IsPlanned cmp bs d.ends.items p) (sym (blocks_beside i is)) planned);
        there = record { live = live; directory = d; is = is; whole = whole };
      }

-- what takes nothing over can be placed anywhere
pub alone : {K V : Type 0} {s : ℕ} (cmp : K → K → Ordering) (pairs : List (K × V)) (p : Plan K V s) → ((blocks : List (List (K × V))) → list_planned blocks p ≡ pairs) → ((blocks : List (List (K × V))) (ends : List ℕ) → IsPlanned cmp blocks ends p) → StandsAlone cmp p
alone cmp pairs p list planned = record {
  placeable = λ w. record { planned = planned [] []; there = tt };
  list = λ blocks. list blocks ∙ sym (list []);
}

-- and so can what is built of a list alone
pub stands_alone : {K V E : Type 0} {s : ℕ} (cmp : K → K → Ordering) (pairs : List (K × V)) (r : Result (Plan K V s) E) → IfOk r (λ p. (blocks : List (List (K × V))) → list_planned blocks p ≡ pairs) → IfOk r (λ p. (blocks : List (List (K × V))) (ends : List ℕ) → IsPlanned cmp blocks ends p) → IfOk r (StandsAlone cmp)
stands_alone cmp pairs (Ok p) list planned = alone cmp pairs p list planned
stands_alone cmp pairs (Err e) list planned = tt
