-- private bags, while items and views change
use Rattle.std.proofs.Common.{◌≡◌, ◌≢◌, ◌⊎◌, ℕ, List, [], set, sym, refl, subst, ⊎_elim, inr}
use Rattle.sdd_steps.specs.declared.item.Item.{Item}
use Rattle.sdd_steps.specs.State.{At, Has}
use Rattle.sdd_steps.proofs.ListLemmas.{set_all}
use Rattle.sdd_homes.specs.declared.Garbage.{Garbage}
use Rattle.domain_table.specs.Items.{IsNoted, Private, Distinct}
use Rattle.domain_table.specs.declared.board.Acting.{Acting}

-- a view has no private bag, or one that was there before
abbrev pub Keeps : List Acting → ℕ → Acting → Type 0
Keeps views j e = (e.collected ≡ []) ⊎ ((d : Acting) × At views j d × (e.collected ≡ d.collected))

module _ {items items' : List Item} {slot_of slot_of' : ℕ → ℕ} {views : List Acting} (r : Private items slot_of views) where
  -- no bag is new
  pub private_on : {views' : List Acting} → ((w : Garbage) → IsNoted items slot_of w → IsNoted items' slot_of' w) → ((j : ℕ) (e : Acting) → At views' j e → Keeps views j e) → Private items' slot_of' views'
  private_on on keeps = record {
    noted = λ j e w at has. ⊎_elim (λ (none : e.collected ≡ []). absurd (subst (λ (ws : List Garbage). Has ws w) none has))
        (λ (c : (d : Acting) × At views j d × (e.collected ≡ d.collected)). on w (r.noted j c.0 w c.1 (subst (λ (ws : List Garbage). Has ws w) c.2 has))) (keeps j e at);
    once = λ j e at. ⊎_elim (λ (none : e.collected ≡ []). subst Distinct (sym none) tt) (λ (c : (d : Acting) × At views j d × (e.collected ≡ d.collected)). subst Distinct (sym c.2) (r.once j c.0 c.1)) (keeps j e at);
    apart = λ j k d e v w at_d at_e has_v has_w same. ⊎_elim (λ (none : d.collected ≡ []). absurd (subst (λ (ws : List Garbage). Has ws v) none has_v))
        (λ (a : (x : Acting) × At views j x × (d.collected ≡ x.collected)). ⊎_elim (λ (none : e.collected ≡ []). absurd (subst (λ (ws : List Garbage). Has ws w) none has_w))
        (λ (b : (x : Acting) × At views k x × (e.collected ≡ x.collected)). r.apart j k a.0 b.0 v w a.1 b.1 (subst (λ (ws : List Garbage). Has ws v) a.2 has_v) (subst (λ (ws : List Garbage). Has ws w) b.2 has_w) same) (keeps k e at_e)) (keeps j d at_d);
  }

  -- one view changes, with the same bag
  pub private_set : ((w : Garbage) → IsNoted items slot_of w → IsNoted items' slot_of' w) → (id : ℕ) (d d' : Acting) → At views id d → d'.collected ≡ d.collected → Private items' slot_of' (set views id d')
  private_set on id d d' at same = private_on on (set_all (λ j e. Keeps views j e) views id d' (inr (d, at, same)) (λ j e _ here. inr (e, here, refl)))

  -- the bag of one view changes
  pub private_new : (id : ℕ) (d' : Acting) → ((w : Garbage) → Has d'.collected w → IsNoted items' slot_of' w) → Distinct d'.collected → ((j : ℕ) (e : Acting) (w : Garbage) → j ≢ id → At views j e → Has e.collected w → IsNoted items' slot_of' w)
      → ((j : ℕ) (e : Acting) (v w : Garbage) → j ≢ id → At views j e → Has d'.collected v → Has e.collected w → v.item ≢ w.item) → Private items' slot_of' (set views id d')
  private_new id d' mine distinct others apart = record {
    noted = λ j e w at. set_all (λ _ (e' : Acting). Has e'.collected w → IsNoted items' slot_of' w) views id d' (mine w) (λ j' e' ne here. others j' e' w ne here) j e at;
    once = set_all (λ _ (e : Acting). Distinct e.collected) views id d' distinct (λ j e _ here. r.once j e here);
    apart = λ j k a b v w at_a at_b. set_all (λ j' (a' : Acting). Has a'.collected v → Has b.collected w → v.item ≡ w.item → j' ≡ k) views id d'
        (set_all (λ k' (b' : Acting). Has d'.collected v → Has b'.collected w → v.item ≡ w.item → id ≡ k') views id d' (λ _ _ _. refl) (λ k' b' ne here has_v has_w e. absurd (apart k' b' v w ne here has_v has_w e)) k b at_b)
        (λ j' a' ne here. set_all (λ k' (b' : Acting). Has a'.collected v → Has b'.collected w → v.item ≡ w.item → j' ≡ k') views id d' (λ has_v has_w e. absurd (apart j' a' w v ne here has_w has_v (sym e)))
        (λ k' b' _ here' has_v has_w e. r.apart j' k' a' b' v w here here' has_v has_w e) k b at_b) j a at_a;
  }
