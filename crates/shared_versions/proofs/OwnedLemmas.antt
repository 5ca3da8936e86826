-- what an owner of an item with a known value owns
use Rattle.std.proofs.Common.{◌≡◌, Option, None, Some, refl, sym, ap, ◌∙◌, subst}
use Rattle.std.specs.Prelude.{IsSome, IsSomeAnd}
use Rattle.std.specs.Mem.{manually_drop_value}
use Rattle.std.specs.Option.{option_map}
use Rattle.std.specs.declared.mem.ManuallyDrop.{ManuallyDrop}
use Rattle.std.proofs.lemmas.Bool.{false≢true}
use Rattle.atomic_table.specs.Seated.{TableId}
use Rattle.sdd_domain.specs.Sharing.{IsHeldAs, IsOwnerOf, kept_in}
use Rattle.sdd_domain.specs.declared.held.Held.{Held}
use Rattle.sdd_domain.specs.declared.shared.Shared.{Shared}
use Rattle.shared_versions.specs.Nodes.{IsItem, OwnsItem, item_blocks, item_held}
use Rattle.shared_versions.specs.Placing.{IsRowOf, blocks_owned, item_owned}
use Rattle.shared_versions.specs.declared.node.Node.{Node}
use Rattle.shared_versions.proofs.LoadedLemmas.{value_is}

module _ {T : Type 0} where
  same_item : (o p : Option (ManuallyDrop T)) → IsSome o → ((x : T) → IsSomeAnd o (λ m. manually_drop_value m ≡ x) → IsSomeAnd p (λ m. manually_drop_value m ≡ x)) → option_map manually_drop_value p ≡ option_map manually_drop_value o
  same_item None p there h = absurd (false≢true there)
  same_item (Some m) p there h = sym (value_is p (manually_drop_value m) (h (manually_drop_value m) refl))

  -- an owner of an item with this value owns it
  pub owned_is : (s : Shared T) (x : T) → IsOwnerOf s x → item_owned s ≡ Some x
  owned_is s x h = sym (value_is s.part.part.seen.value x h)

  -- two owners of all the same values own the same
  pub same_owned : (s t : Shared T) → ((x : T) → IsOwnerOf s x → IsOwnerOf t x) → item_owned t ≡ item_owned s
  same_owned s t h = same_item s.part.part.seen.value t.part.part.seen.value s.there h

  -- what an item holds is what the owner owned
  pub same_held : (s : Shared T) (h : Held T) → IsHeldAs s h → item_held h ≡ item_owned s
  same_held s h same = same_item s.part.part.seen.value h.part.part.seen.value s.there same

module _ {K V : Type 0} where
  -- another owner of a row owns one, too, of the same pairs
  pub same_row : (place : TableId) (s t : Shared (Node K V)) → kept_in t ≡ kept_in s → ((x : Node K V) → IsOwnerOf s x → IsOwnerOf t x) → IsRowOf place s → IsRowOf place t × (blocks_owned t ≡ blocks_owned s)
  same_row place s t home h is = let same = same_owned s t h in ((home ∙ is.0, subst IsItem (sym same) is.1), ap item_blocks same)

  -- what an item holds is a row of the same pairs
  pub held_row : (place : TableId) (s : Shared (Node K V)) (h : Held (Node K V)) → IsHeldAs s h → IsRowOf place s → OwnsItem h × (item_blocks (item_held h) ≡ blocks_owned s)
  held_row place s h as_it_was is = let same = same_held s h as_it_was in (subst IsItem (sym same) is.1, ap item_blocks same)

  -- an owner of a node that is a row owns one, of its pairs
  pub made_row : (place : TableId) (s : Shared (Node K V)) (n : Node K V) → kept_in s ≡ place → IsOwnerOf s n → IsItem (Some n) → IsRowOf place s × (blocks_owned s ≡ item_blocks (Some n))
  made_row place s n home owns is = let same = owned_is s n owns in ((home, subst IsItem (sym same) is), ap item_blocks same)
