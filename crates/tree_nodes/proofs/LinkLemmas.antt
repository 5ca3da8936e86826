-- What the leaves of an arena name, after a write to one of them.
use Rattle.std.proofs.Common.{◌≡◌, ◌≢◌, ◌⊎◌, inl, inr, ℕ, ◌==◌, true, false, Option, Some, refl, sym, ap, subst}
use Rattle.std.specs.Option.{option_map}
use Rattle.std.proofs.lemmas.Bool.Decides.{eqb_tells}
use Rattle.slab.specs.Slab.{Slab, get, with_value, Updates}
use Rattle.slab.proofs.SlabLemmas.{Updates-with_value}
use Rattle.tree_nodes.specs.declared.leaf.Leaf.{Leaf}
use Rattle.tree_nodes.specs.Chain.{leaf_links}

abbrev named_by : {K V : Type 0} → Option (Leaf K V) → Option (Option ℕ × Option ℕ)
named_by = option_map (λ l. (l.prev, l.next))

module _ {K V : Type 0} (s : Slab (Leaf K V)) (k : ℕ) (l m : Leaf K V) (here : get s k ≡ Some l) where
  u : Updates s (with_value s k m) k (Some m)
  u = Updates-with_value s k m (rw here refl)

  -- the leaf at the place names what the new one does, and the others what they did
  by_place : (P : ℕ → Option (Option ℕ × Option ℕ) → Type 0) (n : ℕ) → (n ≡ k → P k (Some (m.prev, m.next))) → (n ≢ k → P n (leaf_links s n)) → P n (leaf_links (with_value s k m) n)
  by_place P n at off = split (eqb_tells n k)
    where
      split : ((n == k) ≡ true × (n ≡ k)) ⊎ ((n == k) ≡ false × (n ≢ k)) → P n (leaf_links (with_value s k m) n)
      split (inl e) = subst (λ (j : ℕ). P j (leaf_links (with_value s k m) j)) (sym e.1) (subst (P k) (sym (ap named_by u.changed)) (at e.1))
      split (inr e) = subst (P n) (sym (ap named_by (u.others n e.1))) (off e.1)

  pub links_kept : m.prev ≡ l.prev → m.next ≡ l.next → (n : ℕ) → leaf_links (with_value s k m) n ≡ leaf_links s n
  links_kept p q n = by_place (λ j x. x ≡ leaf_links s j) n (λ e. rw (p, q) (sym (ap named_by here))) (λ d. refl)
