-- Look-ups under a node, and the pairs of a child among those of its node.
use Rattle.std.proofs.Common.{◌≡◌, ℕ, suc, true, false, cond, List, [], ◌∷◌, ◌++◌, Option, Some, refl, sym, ap, ◌∙◌, subst, append_assoc, append-nil}
use Rattle.std.specs.Option.{option_map}
use Rattle.std.specs.declared.cmp.Ordering.{Ordering}
use Rattle.std.specs.declared.cmp.Ordering.TheVariants.{Less}
use Rattle.std.specs.Ordering.{is_lt}
use Rattle.std.specs.Cmp.{IsTotalOrder}
use Rattle.std.specs.BTreeMap.{is_at}
use Rattle.std.specs.Map.{lookup_entry}
use Rattle.slab.specs.Slab.{get}
use Rattle.leaf_array.specs.Cells.{Cells}
use Rattle.tree_nodes.specs.declared.node.InnerNode.{InnerNode}
use Rattle.tree_nodes.specs.declared.arenas.Arenas.{Arenas}
use Rattle.tree_nodes.specs.Shape.{ArenaContent, IsWithin, AreBetween, child_for, AllKeys, joined_along, node_joined, pairs_under, IsTree}
use Rattle.tree_nodes.specs.Content.{content_of}
use Rattle.tree_nodes.specs.Standing.{IsAround}
use Rattle.tree_nodes.proofs.ShapeLemmas.{all_append, all_weaken, bounded, bounded_along, upto_less, passed, not_passed}
use Rattle.tree_nodes.proofs.WayLemmas.{lookup_middle, some_same}

module _ {K V : Type 0} (cmp : K → K → Ordering) (key : K) where
  pub around_self : (xs : List (K × V)) → IsAround cmp key xs xs
  around_self xs = record { fore = []; rear = []; all = sym (append-nil xs); less = tt; greater = tt }

  pub around_within : (xs ys zs : List (K × V)) → IsAround cmp key xs ys → IsAround cmp key ys zs → IsAround cmp key xs zs
  around_within xs ys zs p q =
      record {
        fore = q.fore ++ p.fore;
        rear = p.rear ++ q.rear;
        all = q.all ∙ ap (λ ps. q.fore ++ (ps ++ q.rear)) p.all ∙ simp append_assoc;
        less = all_append (λ k. cmp k key ≡ Less) q.fore p.fore q.less p.less;
        greater = all_append (λ k. cmp key k ≡ Less) p.rear q.rear p.greater q.greater;
      }

module _ {K V : Type 0} (cmp : K → K → Ordering) (o : IsTotalOrder cmp) (key : K) (a : ArenaContent K V) where
  lookup_along : (f : ℕ → List (K × V)) (P : ℕ → Option K → Option K → Type 0) → ((at : ℕ) (low high : Option K) → P at low high → AllKeys (IsWithin cmp low high) (f at))
      → (es : List (K × ℕ)) (last : ℕ) (low high : Option K) → AreBetween cmp P es last low high → lookup_entry (is_at (cmp key)) (joined_along f es last) ≡ lookup_entry (is_at (cmp key)) (f (child_for cmp key es last))
  lookup_along f P each [] last low high t = refl
  lookup_along f P each (e ∷ es) last low high t =
      (elim (is_lt (cmp e.0 key)) as (λ b. is_lt (cmp e.0 key) ≡ b → lookup_entry (is_at (cmp key)) (f e.1 ++ joined_along f es last) ≡ lookup_entry (is_at (cmp key)) (f (cond b (child_for cmp key es last) e.1))) [
        | true ↦ λ h.
            let before = all_weaken (IsWithin cmp low (Some e.0)) (λ k. cmp k key ≡ Less) (λ k w. upto_less o k e.0 key w.1 (passed o e.0 key h)) (f e.1) (each e.1 low (Some e.0) t.1) in
            ap (λ ps. lookup_entry (is_at (cmp key)) (f e.1 ++ ps)) (sym (append-nil (joined_along f es last))) ∙ lookup_middle cmp o key (f e.1) [] before tt (joined_along f es last) ∙ lookup_along f P each es last (Some e.0) high t.2
        | false ↦ λ h.
            let behind = all_weaken (IsWithin cmp (Some e.0) high) (λ k. cmp key k ≡ Less) (λ k w. upto_less o key e.0 k (not_passed o e.0 key h) w.0) (joined_along f es last) (bounded_along o a f P each es last (Some e.0) high t.2) in
            lookup_middle cmp o key [] (joined_along f es last) tt behind (f e.1)
      ]) refl

  around_along : (f : ℕ → List (K × V)) (P : ℕ → Option K → Option K → Type 0) → ((at : ℕ) (low high : Option K) → P at low high → AllKeys (IsWithin cmp low high) (f at))
      → (es : List (K × ℕ)) (last : ℕ) (low high : Option K) → AreBetween cmp P es last low high → IsAround cmp key (f (child_for cmp key es last)) (joined_along f es last)
  around_along f P each [] last low high t = around_self cmp key (f last)
  around_along f P each (e ∷ es) last low high t =
      (elim (is_lt (cmp e.0 key)) as (λ b. is_lt (cmp e.0 key) ≡ b → IsAround cmp key (f (cond b (child_for cmp key es last) e.1)) (f e.1 ++ joined_along f es last)) [
        | true ↦ λ h.
            let before = all_weaken (IsWithin cmp low (Some e.0)) (λ k. cmp k key ≡ Less) (λ k w. upto_less o k e.0 key w.1 (passed o e.0 key h)) (f e.1) (each e.1 low (Some e.0) t.1) in
            let p = around_along f P each es last (Some e.0) high t.2 in
            record { fore = f e.1 ++ p.fore; rear = p.rear; all = ap (λ ps. f e.1 ++ ps) p.all ∙ simp append_assoc; less = all_append (λ k. cmp k key ≡ Less) (f e.1) p.fore before p.less; greater = p.greater }
        | false ↦ λ h.
            let behind = all_weaken (IsWithin cmp (Some e.0) high) (λ k. cmp key k ≡ Less) (λ k w. upto_less o key e.0 k (not_passed o e.0 key h) w.0) (joined_along f es last) (bounded_along o a f P each es last (Some e.0) high t.2) in
            record { fore = []; rear = joined_along f es last; all = refl; less = tt; greater = behind }
      ]) refl

  module _ (height at : ℕ) (n : Cells K ℕ × ℕ) (here : a.node at ≡ Some n) where
    -- a look-up under a node is one under its child on the way
    pub lookup_child : (low high : Option K) → IsTree cmp a (suc height) at low high → lookup_entry (is_at (cmp key)) (pairs_under a (suc height) at) ≡ lookup_entry (is_at (cmp key)) (pairs_under a height (child_for cmp key n.0.pairs n.1))
    lookup_child low high t =
        let same : t.0 ≡ n = some_same (sym t.1 ∙ here) in
        let P : Cells K ℕ × ℕ → Type 0 = λ m. AreBetween cmp (IsTree cmp a height) m.0.pairs m.1 low high in
        ap (λ m. lookup_entry (is_at (cmp key)) (node_joined (pairs_under a height) m)) here ∙ lookup_along (pairs_under a height) (IsTree cmp a height) (bounded o a height) n.0.pairs n.1 low high (subst P same t.3)

    -- and its pairs stand between lesser keys and greater ones
    pub around_child : (low high : Option K) → IsTree cmp a (suc height) at low high → IsAround cmp key (pairs_under a height (child_for cmp key n.0.pairs n.1)) (pairs_under a (suc height) at)
    around_child low high t =
        let same : t.0 ≡ n = some_same (sym t.1 ∙ here) in
        let P : Cells K ℕ × ℕ → Type 0 = λ m. AreBetween cmp (IsTree cmp a height) m.0.pairs m.1 low high in
        subst (λ m. IsAround cmp key (pairs_under a height (child_for cmp key n.0.pairs n.1)) (node_joined (pairs_under a height) m)) (sym here) (around_along (pairs_under a height) (IsTree cmp a height) (bounded o a height) n.0.pairs n.1 low high (subst P same t.3))

-- a node that stands in its arena
pub node_content : {K V : Type 0} (a : Arenas K V) (at : ℕ) (node : InnerNode K) → get a.nodes at ≡ Some node → (content_of a).node at ≡ Some (node.children, node.last)
node_content a at node here = ap (option_map (λ (n : InnerNode _). (n.children, n.last))) here
