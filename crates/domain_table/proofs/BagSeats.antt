-- a private bag gets a seat of its own, or comes to the seat of a participant
use Rattle.std.proofs.Common.{◌≡◌, ◌≢◌, ◌⊎◌, ℕ, zero, suc, List, [], ◌∷◌, ◌++◌, length, set, sym, refl, ap, ◌∙◌, subst, ⊎_elim, inl, inr, arith}
use mathlib.Core.Option.{some}
use lib.ListN.{get_elem?}
use Rattle.atomic_table.specs.Table.{State, Splits, Joins}
use Rattle.atomic_table.proofs.Lists.{at_snoc}
use Rattle.sdd_steps.specs.State.{At, Has}
use Rattle.sdd_steps.proofs.ListLemmas.{set_all, set_else, at_longer}
use Rattle.sdd_homes.specs.declared.Garbage.{Garbage}
use Rattle.sdd_homes.specs.Book.{Content}
use Rattle.sdd_homes.specs.Reasons.{Loads}
use Rattle.sdd_homes.proofs.HandLemmas.{owned_set, owned_end}
use Rattle.domain_table.specs.Items.{owners_in_hand, Grip, Owns, IsWaiting, IsNoted, Private, IsLinked, Distinct, Carries}
use Rattle.domain_table.specs.Rule.{Acts, Shows}
use Rattle.domain_table.specs.Views.{spent, gathering}
use Rattle.domain_table.specs.Plays.{without_bag, bag_alone}
use Rattle.domain_table.specs.declared.board.Acting.{Acting}
use Rattle.domain_table.specs.declared.board.Plan.{Plan}
use Rattle.domain_table.proofs.OwnerSeats.{rehanded}
use Rattle.domain_table.proofs.Stirred as items

-- what is behind a list is at its length
at_end : {A : Type 0} (l : List A) (x y : A) (j : ℕ) → At (l ++ x ∷ []) j y → At l j y ⊎ ((j ≡ length l) × (x ≡ y))
at_end [] x y zero e = let same : x ≡ y = cc in inr (refl, same)
at_end [] x y (suc j) e = absurd (cc)
at_end (z ∷ zs) x y zero e = inl e
at_end (z ∷ zs) x y (suc j) e = ⊎_elim (λ (h : At zs j y). inl h) (λ (h : (j ≡ length zs) × (x ≡ y)). inr (ap suc h.0, h.1)) (at_end zs x y j e)

module _ (S : Type 0) (IsIn : Content → S → Type 0) (plan : Plan) where
  -- the bag goes to a new seat
  module _ (s : State S Acting) (r : Shows IsIn plan s) (id : ℕ) (d : Acting) (at : get_elem? s.views id ≡ some d) (kind : d.kind ≡ 1) where
    abbrev left : Acting
    left = without_bag d

    abbrev right : Acting
    right = bag_alone d

    abbrev mid : List Acting
    mid = set s.views id left

    -- where the bag of a view was before
    origin : (j : ℕ) (e : Acting) (w : Garbage) → At (mid ++ right ∷ []) j e → Has e.collected w → ((j ≢ id) × At s.views j e) ⊎ ((j ≡ length mid) × (right ≡ e))
    origin j e w at_j has = ⊎_elim (λ (h : At mid j e). inl (set_all (λ j' (e' : Acting). Has e'.collected w → (j' ≢ id) × At s.views j' e') s.views id left (λ t. absurd t) (λ j' e' ne here _. (ne, here)) j e h has)) (λ (h : (j ≡ length mid) × (right ≡ e)). inr h) (at_end mid right e j at_j)

    moved : (e : Acting) (w : Garbage) → right ≡ e → Has e.collected w → Has d.collected w
    moved e w same has = subst (λ (z : Acting). Has z.collected w) (sym same) has

    private_now : Private r.state.items r.book.slot_of (mid ++ right ∷ [])
    private_now = let old = r.items.private in record {
      noted = λ j e w at_j has. ⊎_elim (λ (h : (j ≢ id) × At s.views j e). old.noted j e w h.1 has) (λ (h : (j ≡ length mid) × (right ≡ e)). old.noted id d w at (moved e w h.1 has)) (origin j e w at_j has);
      once = λ j e at_j. ⊎_elim (λ (h : At mid j e). set_all (λ _ (e' : Acting). Distinct e'.collected) s.views id left tt (λ j' e' _ here. old.once j' e' here) j e h)
          (λ (h : (j ≡ length mid) × (right ≡ e)). subst (λ (z : Acting). Distinct z.collected) h.1 (old.once id d at)) (at_end mid right e j at_j);
      apart = λ j k a b v w at_a at_b has_v has_w same. ⊎_elim
          (λ (h : (j ≢ id) × At s.views j a). ⊎_elim (λ (g : (k ≢ id) × At s.views k b). old.apart j k a b v w h.1 g.1 has_v has_w same) (λ (g : (k ≡ length mid) × (right ≡ b)). absurd (h.0 (old.apart j id a d v w h.1 at has_v (moved b w g.1 has_w) same))) (origin k b w at_b has_w))
          (λ (h : (j ≡ length mid) × (right ≡ a)). ⊎_elim (λ (g : (k ≢ id) × At s.views k b). absurd (g.0 (old.apart k id b d w v g.1 at has_w (moved a v h.1 has_v) (sym same)))) (λ (g : (k ≡ length mid) × (right ≡ b)). h.0 ∙ sym g.0) (origin k b w at_b has_w))
          (origin j a v at_a has_v);
    }

  pub parts_bag : (id : ℕ) (d : Acting) → d.kind ≡ 1 → Splits {S = S} (Shows IsIn plan) id d (without_bag d) (bag_alone d)
  parts_bag id d kind s r at = let left = without_bag d in let right = bag_alone d in let a = r.epochs.seats id d at kind in let c = r.items.seats id d at kind in let mid = set s.views id left in
      let each : (P : ℕ → Acting → Type 0) → P id left → ((j : ℕ) → P j right) → ((j : ℕ) (e : Acting) → At s.views j e → P j e) → (j : ℕ) (e : Acting) → At (mid ++ right ∷ []) j e → P j e =
      (λ P first last others j e at_j. ⊎_elim (λ (h : At mid j e). set_all P s.views id left first (λ j' e' _ here. others j' e' here) j e h) (λ (t : right ≡ e). subst (P j) t (last j)) (at_snoc mid right e j at_j)) in
      rehanded S IsIn plan s r (mid ++ right ∷ [])
      (record {
        same = λ i. let g = owned_set owners_in_hand i s.views id d left at in let e = owned_end owners_in_hand i mid right in omega arith;
        owners = λ j e o at_j has. each (λ _ (e' : Acting). Has e'.hand o → Owns r.state.items r.book.slot_of o) (λ t. r.items.owners id d o at t) (λ _ t. absurd t) (λ j' e' here t. r.items.owners j' e' o here t) j e at_j has;
        seats = λ j e at_j k. each (λ _ (e' : Acting). e'.kind ≡ 1 → Carries plan.sizes r.book e') (λ _. record { sizes_are = c.sizes_are; leases = c.leases; spare = c.spare; fills = c.fills; distinct = c.distinct; left = c.left }) (λ _ z. absurd (omega arith)) (λ j' e' here k'. r.items.seats j' e' here k') j e at_j k;
      })
      (λ q l _. ⊎_elim (λ (t : Loads r.state q l.item). inl t) (λ (g : Grip s.views q l.item). let h = items.grip_set s.views id d left at (λ _ _ y. y) q l.item g in inr (h.0, h.1, at_longer mid (right ∷ []) h.0 h.1 h.2, h.3)))
      (λ j e w at_j k has. each (λ _ (e' : Acting). e'.kind ≡ 1 → Has e'.waits w → IsWaiting r.state.items r.book.slot_of e'.number w) (λ _ t. r.items.waiting id d w at kind t) (λ _ _ t. absurd t) (λ j' e' here k' t. r.items.waiting j' e' w here k' t) j e at_j k has)
      (private_now s r id d at kind)
      (items.links_all r.items s.words r.book.left (mid ++ right ∷ []) (λ _. refl)
      (λ j e w at_j k has. each (λ _ (e' : Acting). e'.kind ≡ 1 → Has e'.waits w → IsLinked plan.sizes s.words w) (λ _ t. r.items.links.waits id d w at kind t) (λ _ _ t. absurd t) (λ j' e' here k' t. r.items.links.waits j' e' w here k' t) j e at_j k has)
      (λ j e w at_j has. each (λ _ (e' : Acting). Has e'.collected w → IsLinked plan.sizes s.words w) (λ t. absurd t) (λ _ t. r.items.links.notes id d w at t) (λ j' e' here t. r.items.links.notes j' e' w here t) j e at_j has)
      r.items.links.lefts)
      (λ j e at_j k. each (λ j' (e' : Acting). e'.kind ≡ 1 → Acts r.state.participants r.state.count r.born s.words r.epochs.seat_of r.epochs.scanner j' e')
      (λ _. record { is = a.is; seated = a.seated; claimed = a.claimed; locked = a.locked; present = a.present; begun = a.begun; still = a.still }) (λ _ z. absurd (omega arith)) (λ j' e' here k'. r.epochs.seats j' e' here k') j e at_j k)

  -- the bag of a seat comes to that of a participant
  pub takes_bag : (id : ℕ) (d : Acting) (other : ℕ) (ws : List Garbage) → d.kind ≡ 1 → Joins {S = S} (Shows IsIn plan) id d other (gathering ws) (record d { collected = ws }) spent
  takes_bag id d other ws kind s r at apart there = let both : Acting = record d { collected = ws } in let w0 = gathering ws in let a = r.epochs.seats id d at kind in let c = r.items.seats id d at kind in let mid = set s.views id both in let views' = set mid other spent in
      let at_w : At s.views other w0 = sym (set_else s.views id other both apart) ∙ there in let old = r.items.private in
      let each : (P : ℕ → Acting → Type 0) → P id both → P other spent → ((j : ℕ) (e : Acting) → j ≢ other → At s.views j e → P j e) → (j : ℕ) (e : Acting) → At views' j e → P j e =
      (λ P first last others. set_all P mid other spent last (λ j e ne here. set_all (λ j' e'. j' ≢ other → P j' e') s.views id both (λ _. first) (λ j' e' _ here' ne'. others j' e' ne' here') j e here ne)) in
      rehanded S IsIn plan s r views'
      (record {
        same = λ i. let g = owned_set owners_in_hand i s.views id d both at in let h = owned_set owners_in_hand i mid other w0 spent there in omega arith;
        owners = λ j e v at_j has. each (λ _ (e' : Acting). Has e'.hand v → Owns r.state.items r.book.slot_of v) (λ t. r.items.owners id d v at t) (λ t. absurd t) (λ j' e' _ here t. r.items.owners j' e' v here t) j e at_j has;
        seats = λ j e at_j k. each (λ _ (e' : Acting). e'.kind ≡ 1 → Carries plan.sizes r.book e') (λ _. record { sizes_are = c.sizes_are; leases = c.leases; spare = c.spare; fills = c.fills; distinct = c.distinct; left = c.left }) (λ z. absurd (omega arith)) (λ j' e' _ here k'. r.items.seats j' e' here k') j e at_j k;
      })
      (λ q l _. ⊎_elim (λ (t : Loads r.state q l.item). inl t)
      (λ (g : Grip s.views q l.item). let h = items.grip_set s.views id d both at (λ _ _ y. y) q l.item g in inr (items.grip_set mid other w0 spent there (λ _ _ y. let z = y.0 in absurd (omega arith)) q l.item h)))
      (λ j e v at_j k has. each (λ _ (e' : Acting). e'.kind ≡ 1 → Has e'.waits v → IsWaiting r.state.items r.book.slot_of e'.number v) (λ _ t. r.items.waiting id d v at kind t) (λ _ t. absurd t) (λ j' e' _ here k' t. r.items.waiting j' e' v here k' t) j e at_j k has)
      (record {
        noted = λ j e v at_j has. each (λ _ (e' : Acting). Has e'.collected v → IsNoted r.state.items r.book.slot_of v) (λ h. old.noted other w0 v at_w h) (λ t. absurd t) (λ j' e' _ here h. old.noted j' e' v here h) j e at_j has;
        once = each (λ _ (e : Acting). Distinct e.collected) (old.once other w0 at_w) tt (λ j e _ here. old.once j e here);
        apart = λ j k x y v w at_x at_y. each (λ j' (x' : Acting). Has x'.collected v → Has y.collected w → v.item ≡ w.item → j' ≡ k)
            (each (λ k' (y' : Acting). Has ws v → Has y'.collected w → v.item ≡ w.item → id ≡ k') (λ _ _ _. refl) (λ _ h. absurd h) (λ k' y' ne here has_v has_w e. absurd (ne (old.apart k' other y' w0 w v here at_w has_w has_v (sym e)))) k y at_y)
            (λ h. absurd h)
            (λ j' x' ne here. each (λ k' (y' : Acting). Has x'.collected v → Has y'.collected w → v.item ≡ w.item → j' ≡ k') (λ has_v has_w e. absurd (ne (old.apart j' other x' w0 v w here at_w has_v has_w e))) (λ _ h. absurd h)
            (λ k' y' _ here' has_v has_w e. old.apart j' k' x' y' v w here here' has_v has_w e) k y at_y) j x at_x;
      })
      (items.links_all r.items s.words r.book.left views' (λ _. refl)
      (λ j e v at_j k has. each (λ _ (e' : Acting). e'.kind ≡ 1 → Has e'.waits v → IsLinked plan.sizes s.words v) (λ _ t. r.items.links.waits id d v at kind t) (λ _ t. absurd t) (λ j' e' _ here k' t. r.items.links.waits j' e' v here k' t) j e at_j k has)
      (λ j e v at_j has. each (λ _ (e' : Acting). Has e'.collected v → IsLinked plan.sizes s.words v) (λ h. r.items.links.notes other w0 v at_w h) (λ t. absurd t) (λ j' e' _ here h. r.items.links.notes j' e' v here h) j e at_j has)
      r.items.links.lefts)
      (λ j e at_j k. each (λ j' (e' : Acting). e'.kind ≡ 1 → Acts r.state.participants r.state.count r.born s.words r.epochs.seat_of r.epochs.scanner j' e')
      (λ _. record { is = a.is; seated = a.seated; claimed = a.claimed; locked = a.locked; present = a.present; begun = a.begun; still = a.still }) (λ z. absurd (omega arith)) (λ j' e' _ here k'. r.epochs.seats j' e' here k') j e at_j k)
