-- owners can't run out: directories and the root hold each item and each row, and each holds it at most once
use Rattle.std.proofs.Common.{◌≡◌, ℕ, ◌≤◌, Option, None, Some, List, [], ◌∷◌, length, ap, arith}
use Rattle.std.proofs.lemmas.List.Sums.{sum_by-cons}
use Rattle.std.specs.List.{sum_by}
use Rattle.std.specs.declared.cmp.Ordering.{Ordering}
use Rattle.sdd_world.specs.Counting.{same_hold, tally}
use Rattle.sdd_world.specs.Frame.{IsLive, has_owner}
use Rattle.sdd_world.specs.Holding.{OwnerGroup, SharedIn}
use Rattle.sdd_world.specs.State.{State, cell_at, value_at}
use Rattle.sdd_world.specs.Steps.{held_in}
use Rattle.sdd_world.specs.declared.status.Cell.TheVariants as cell
use Rattle.sdd_world.specs.declared.tag.Tag.{Tag}
use Rattle.sdd_world.proofs.CountLemmas.{owners_are_counted}
use Rattle.sdd_world.proofs.OwnerBoundLemmas.{names}
use Rattle.version_views.specs.Items.{held_by}
use Rattle.version_views.specs.declared.item.Item.{Item}
use Rattle.version_views.specs.declared.item.Item.TheVariants as items
use Rattle.local_versions.specs.Placing.{IsLevelled, IsSettled}
use Rattle.local_versions.specs.Store.{IsStore}
use Rattle.local_versions.specs.declared.store.readers.Opened.{Opened}
use Rattle.local_versions.proofs.RowSlotLemmas.{held_groups, names_held}

module _ {K V : Type 0} {s : ℕ} where
  -- what an item holds names another at most once, and a group
  pub names_once : (w : State (Item K V s)) → IsLevelled w → (j i : ℕ) (o : Option (Item K V s)) → value_at w i ≡ o → sum_by (λ h. names w.groups j h) (held_in held_by o) ≤ 1
  names_once w levelled j i None e = omega arith
  names_once w levelled j i (Some (items.Directory d)) e = omega (arith, names_held w.groups j d.rows.items, levelled.once i d e j)
  names_once w levelled j i (Some (items.Segment t)) e = omega arith

  pub group_once : (w : State (Item K V s)) → IsLevelled w → (g i : ℕ) (o : Option (Item K V s)) → value_at w i ≡ o → tally (OwnerGroup g) (held_in held_by o) ≤ 1
  group_once w levelled g i None e = omega arith
  group_once w levelled g i (Some (items.Directory d)) e = omega (arith, held_groups g d.rows.items, levelled.rows i d e g)
  group_once w levelled g i (Some (items.Segment t)) e = omega arith

  -- a store is a place in which owners can't run out
  pub store_settled : (cmp : K → K → Ordering) (w : State (Item K V s)) (root : ℕ) (places : List (Option (Opened K V s))) → IsStore cmp w root places → IsSettled w
  store_settled cmp w root places store =
      let fit : length w.states ≤ 1073741824 = store.slots in
      let one = store.cells in
      record {
        hand = SharedIn root ∷ [];
        counted = store.counted;
        ungrouped = λ g. sum_by-cons (λ k. same_hold (OwnerGroup g) k) (SharedIn root) [];
        levelled = store.levelled;
        few = omega (arith, fit, one);
      }

  -- the item that the root of a store names has an owner
  pub present_lives : (cmp : K → K → Ordering) (w : State (Item K V s)) (root : ℕ) (places : List (Option (Opened K V s))) (store : IsStore cmp w root places) (i : ℕ) (t : Tag) → cell_at w root ≡ cell.OfShared (Some i) t → IsLive w i
  present_lives cmp w root places store i t named = ap has_owner ((owners_are_counted held_by).kept root i t (SharedIn root ∷ []) w named store.counted).is

-- a cell names one item
pub same_named : (o o' : Option ℕ) (t t' : Tag) → cell.OfShared o t ≡ cell.OfShared o' t' → o ≡ o'
same_named o o' t t' = λ e. cc
