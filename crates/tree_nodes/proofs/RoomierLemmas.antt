-- Arenas with other room, leaves with few pairs or many, and what splits of their nodes leave of a leaf.
use Rattle.std.proofs.Common.{◌≡◌, ◌≤◌, ◌<◌, ℕ, true, false, not, nat_lt, List, Option, refl, sym, ap, ◌∙◌, subst, arith}
use Rattle.std.proofs.lemmas.Bool.Decides.{nat_tests}
use Rattle.std.specs.declared.cmp.Ordering.{Ordering}
use Rattle.slab.specs.Slab.{Slab, get}
use Rattle.tree_nodes.specs.declared.leaf.Leaf.{Leaf}
use Rattle.tree_nodes.specs.declared.leaf.SplitPoint.{SplitPoint}
use Rattle.tree_nodes.specs.declared.node.InnerNode.{InnerNode}
use Rattle.tree_nodes.specs.declared.arenas.Arenas.{Arenas}
use Rattle.tree_nodes.specs.Shape.{way}
use Rattle.tree_nodes.specs.Content.{content_of, leaf_on_way, IsSplitPointThere}

-- fewer than so many, or as many
pub sparse_are_fewer : (n most : ℕ) → not (nat_lt n most) ≡ false → n < most
sparse_are_fewer n most h = grind (arith, nat_tests)

pub crowded_are_as_many : (n most : ℕ) → not (nat_lt n most) ≡ true → most ≤ n
crowded_are_as_many n most h = grind (arith, nat_tests)

module _ {K V : Type 0} (cmp : K → K → Ordering) (a : Arenas K V) (leaves : Slab (Leaf K V)) (nodes : Slab (InnerNode K)) (e : leaves.slots ≡ a.leaves.slots) (f : nodes.slots ≡ a.nodes.slots) (key : K) where
  abbrev roomier : List (Option (Leaf K V)) → List (Option (InnerNode K)) → Arenas K V
  roomier ls ns =
      record {
        leaves = record { slots = ls; vacant_key = leaves.vacant_key; capacity = leaves.capacity };
        nodes = record { slots = ns; vacant_key = nodes.vacant_key; capacity = nodes.capacity };
        root = a.root;
        height = a.height;
        len = a.len;
      }

  -- they have the same ways
  pub roomier_way : (steps : ℕ) → way cmp (content_of (record { leaves = leaves; nodes = nodes; root = a.root; height = a.height; len = a.len })) key steps a.root ≡ way cmp (content_of a) key steps a.root
  roomier_way steps =
      subst (λ ls. way cmp (content_of (roomier ls nodes.slots)) key steps a.root ≡ way cmp (content_of a) key steps a.root) (sym e)
      (subst (λ ns. way cmp (content_of (roomier a.leaves.slots ns)) key steps a.root ≡ way cmp (content_of a) key steps a.root) (sym f) refl)

  -- where leaves stay as they are, the leaf on the way is cut where it was to be
  pub roomier_split : (b : Arenas K V) (split_point : SplitPoint K) → b.leaves ≡ leaves → leaf_on_way cmp key b ≡ leaf_on_way cmp key (record { leaves = leaves; nodes = nodes; root = a.root; height = a.height; len = a.len }) → IsSplitPointThere cmp key a split_point → IsSplitPointThere cmp key b split_point
  roomier_split b split_point same way_is s = record {
    leaf = s.leaf;
    there =
        ap (λ (l : Slab (Leaf K V)). get l (leaf_on_way cmp key b)) same ∙ ap (get leaves) (way_is ∙ roomier_way a.height)
        ∙ ap (λ ls. get (record { slots = ls; vacant_key = leaves.vacant_key; capacity = leaves.capacity }) (leaf_on_way cmp key a)) e ∙ s.there;
    fits = s.fits;
  }
