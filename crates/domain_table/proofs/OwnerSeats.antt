-- an owner in hand gets a seat of its own, and comes back from it
use Rattle.std.proofs.Common.{◌≡◌, ℕ, List, [], ◌∷◌, ◌++◌, set, sym, refl, ap, ◌∙◌, subst, ⊎_elim, inl, inr, arith}
use mathlib.Core.Option.{some}
use lib.ListN.{get_elem?}
use Rattle.atomic_table.specs.Table.{State, Splits, Joins}
use Rattle.atomic_table.proofs.Lists.{at_snoc}
use Rattle.sdd_steps.specs.State as steps
use Rattle.sdd_steps.specs.State.{At, Has}
use Rattle.sdd_steps.proofs.ListLemmas.{set_all, set_else, at_longer}
use Rattle.sdd_homes.specs.declared.Lease.{Lease}
use Rattle.sdd_homes.specs.declared.Owner.{Owner}
use Rattle.sdd_homes.specs.declared.Garbage.{Garbage}
use Rattle.sdd_homes.specs.Book.{Content}
use Rattle.sdd_homes.specs.Hands.{items_of}
use Rattle.sdd_homes.specs.Reasons.{Loads, Why}
use Rattle.sdd_homes.proofs.HandLemmas.{owned_set, owned_end}
use Rattle.domain_table.specs.Items.{owners_in_hand, Grip, Owns, IsWaiting, Private, IsLinked, Links, Carries}
use Rattle.domain_table.specs.Rule.{Acts, Shows}
use Rattle.domain_table.specs.Views.{spent, holding}
use Rattle.domain_table.specs.declared.board.Acting.{Acting}
use Rattle.domain_table.specs.declared.board.Plan.{Plan}
use Rattle.domain_table.proofs.Stirred.{Seated, stirred_none}
use Rattle.domain_table.proofs.Stirred as items
use Rattle.domain_table.proofs.Privates.{Keeps, private_on}

module _ (S : Type 0) (IsIn : Content → S → Type 0) (plan : Plan) where
  -- views change in their hands alone
  module _ (s : State S Acting) (r : Shows IsIn plan s) (views' : List Acting) where
    pub rehanded : Seated r.items views' → ((q : ℕ) (l : Lease) → Has (r.book.out q) l → Why r.state (Grip s.views) q l.item → Why r.state (Grip views') q l.item)
        → ((j : ℕ) (e : Acting) (w : Garbage) → At views' j e → e.kind ≡ 1 → Has e.waits w → IsWaiting r.state.items r.book.slot_of e.number w)
        → Private r.state.items r.book.slot_of views'
        → Links plan.sizes s.words r.book.left views'
        → ((j : ℕ) (e : Acting) → get_elem? views' j ≡ some e → e.kind ≡ 1 → Acts r.state.participants r.state.count r.born s.words r.epochs.seat_of r.epochs.scanner j e) → Shows IsIn plan record { words = s.words; homes = s.homes; views = views' }
    rehanded seated why waiting private links acts = let o = r.epochs in record {
      state = r.state;
      run = r.run;
      kept = r.kept;
      book = r.book;
      items = items.stays r.items r.state s.words views' refl (stirred_none r.state.items) why (record { long = refl; high = λ _ _. refl; freed = λ _ _ _. inl refl }) seated waiting r.items.leftovers private links;
      born = r.born;
      lefts = r.lefts;
      bounded = r.bounded;
      epochs = record { seat_of = o.seat_of; scanner = o.scanner; wide = o.wide; many = o.many; count_is = o.count_is; states = o.states; free = o.free; seats = acts };
    }

  -- the first owner in hand gets a seat
  pub parts_with : (id : ℕ) (d : Acting) (o : Owner) (os : List Owner) → d.kind ≡ 1 → d.releasing ≡ 0 → d.hand ≡ o ∷ os → Splits {S = S} (Shows IsIn plan) id d (record d { hand = os }) (holding o)
  parts_with id d o os kind idle first s r at = let left : Acting = record d { hand = os } in let right = holding o in let a = r.epochs.seats id d at kind in let c = r.items.seats id d at kind in let views' = set s.views id left ++ right ∷ [] in
      rehanded s r views'
      (record {
        same = λ i. let g = owned_set owners_in_hand i s.views id d left at in let e = owned_end owners_in_hand i (set s.views id left) right in let mine = ap (λ (z : List Owner). steps.times i (items_of z)) first in omega arith;
        owners = λ j e w at_j has. ⊎_elim
            (λ (h : get_elem? (set s.views id left) j ≡ some e). set_all (λ _ e'. Has e'.hand w → Owns r.state.items r.book.slot_of w) s.views id left (λ t. r.items.owners id d w at (subst (λ (z : List Owner). Has z w) (sym first) (inr t))) (λ j' e' _ here t. r.items.owners j' e' w here t) j e h has)
            (λ (t : right ≡ e). r.items.owners id d w at (subst (λ (z : List Owner). Has z w) (sym first) (⊎_elim (λ (k : o ≡ w). inl k) (λ t'. absurd t') (subst (λ (z : Acting). Has z.hand w) (sym t) has)))) (at_snoc (set s.views id left) right e j at_j);
        seats = λ j e at_j k. ⊎_elim
            (λ (h : get_elem? (set s.views id left) j ≡ some e). set_all (λ _ e'. e'.kind ≡ 1 → Carries plan.sizes r.book e') s.views id left (λ _. record { sizes_are = c.sizes_are; leases = c.leases; spare = c.spare; fills = c.fills; distinct = c.distinct; left = c.left }) (λ j' e' _ here k'. r.items.seats j' e' here k') j e h k)
            (λ (t : right ≡ e). let z : 3 ≡ e.kind = ap (λ (y : Acting). y.kind) t in absurd (omega arith)) (at_snoc (set s.views id left) right e j at_j);
      })
      (λ q l _. ⊎_elim (λ (t : Loads r.state q l.item). inl t) (λ (g : Grip s.views q l.item). let h = items.grip_set s.views id d left at (λ _ _ y. let z = y.2 in absurd (omega arith)) q l.item g in inr (h.0, h.1, at_longer (set s.views id left) (right ∷ []) h.0 h.1 h.2, h.3)))
      (λ j e w at_j k has. ⊎_elim
      (λ (h : get_elem? (set s.views id left) j ≡ some e). set_all (λ _ e'. e'.kind ≡ 1 → Has e'.waits w → IsWaiting r.state.items r.book.slot_of e'.number w) s.views id left (λ k' t. r.items.waiting id d w at kind t) (λ j' e' _ here k' t. r.items.waiting j' e' w here k' t) j e h k has)
      (λ (t : right ≡ e). absurd (subst (λ (z : Acting). Has z.waits w) (sym t) has)) (at_snoc (set s.views id left) right e j at_j))
      (private_on r.items.private (λ _ h. h) (λ j e at_j. ⊎_elim (λ (h : get_elem? (set s.views id left) j ≡ some e). set_all (λ j' e'. Keeps s.views j' e') s.views id left (inr (d, at, refl)) (λ j' e' _ here. inr (e', here, refl)) j e h)
      (λ (t : right ≡ e). inl (ap (λ (z : Acting). z.collected) (sym t))) (at_snoc (set s.views id left) right e j at_j)))
      (items.links_all r.items s.words r.book.left views' (λ _. refl)
      (λ j e w at_j k has. ⊎_elim
      (λ (h : get_elem? (set s.views id left) j ≡ some e). set_all (λ _ e'. e'.kind ≡ 1 → Has e'.waits w → IsLinked plan.sizes s.words w) s.views id left (λ _ t. r.items.links.waits id d w at kind t) (λ j' e' _ here k' t. r.items.links.waits j' e' w here k' t) j e h k has)
      (λ (t : right ≡ e). absurd (subst (λ (z : Acting). Has z.waits w) (sym t) has)) (at_snoc (set s.views id left) right e j at_j))
      (λ j e w at_j has. ⊎_elim
      (λ (h : get_elem? (set s.views id left) j ≡ some e). set_all (λ _ (e' : Acting). Has e'.collected w → IsLinked plan.sizes s.words w) s.views id left (λ t. r.items.links.notes id d w at t) (λ j' e' _ here t. r.items.links.notes j' e' w here t) j e h has)
      (λ (t : right ≡ e). absurd (subst (λ (z : Acting). Has z.collected w) (sym t) has)) (at_snoc (set s.views id left) right e j at_j))
      r.items.links.lefts)
      (λ j e at_j k. ⊎_elim
      (λ (h : get_elem? (set s.views id left) j ≡ some e). set_all (λ j' e'. e'.kind ≡ 1 → Acts r.state.participants r.state.count r.born s.words r.epochs.seat_of r.epochs.scanner j' e') s.views id left
      (λ _. record { is = a.is; seated = a.seated; claimed = a.claimed; locked = a.locked; present = a.present; begun = a.begun; still = a.still }) (λ j' e' _ here k'. r.epochs.seats j' e' here k') j e h k)
      (λ (t : right ≡ e). let z : 3 ≡ e.kind = ap (λ (y : Acting). y.kind) t in absurd (omega arith)) (at_snoc (set s.views id left) right e j at_j))

  -- the owner of a seat comes into the hand of another
  pub takes_in : (id : ℕ) (d : Acting) (other : ℕ) (o : Owner) → d.kind ≡ 1 → Joins {S = S} (Shows IsIn plan) id d other (holding o) (record d { hand = o ∷ d.hand }) spent
  takes_in id d other o kind s r at apart there = let both : Acting = record d { hand = o ∷ d.hand } in let w = holding o in let a = r.epochs.seats id d at kind in let c = r.items.seats id d at kind in let mid = set s.views id both in let views' = set mid other spent in
      let at_w : At s.views other w = sym (set_else s.views id other both apart) ∙ there in let own = r.items.owners other w o at_w (inl refl) in
      let each : (P : ℕ → Acting → Type 0) → P id both → P other spent → ((j : ℕ) (e : Acting) → At s.views j e → P j e) → (j : ℕ) (e : Acting) → At views' j e → P j e = (λ P first last others. set_all P mid other spent last (λ j e _ here. set_all P s.views id both first (λ j' e' _ here'. others j' e' here') j e here)) in
      rehanded s r views'
      (record {
        same = λ i. let g = owned_set owners_in_hand i s.views id d both at in let h = owned_set owners_in_hand i mid other w spent there in omega arith;
        owners = λ j e v at_j has. each (λ _ e'. Has e'.hand v → Owns r.state.items r.book.slot_of v) (λ h. ⊎_elim (λ (k : o ≡ v). subst (Owns r.state.items r.book.slot_of) k own) (λ (t : Has d.hand v). r.items.owners id d v at t) h) (λ t. absurd t) (λ j' e' here t. r.items.owners j' e' v here t) j e at_j has;
        seats = λ j e at_j k. each (λ _ e'. e'.kind ≡ 1 → Carries plan.sizes r.book e') (λ _. record { sizes_are = c.sizes_are; leases = c.leases; spare = c.spare; fills = c.fills; distinct = c.distinct; left = c.left }) (λ z. absurd (omega arith)) (λ j' e' here k'. r.items.seats j' e' here k') j e at_j k;
      })
      (λ q l _. ⊎_elim (λ (t : Loads r.state q l.item). inl t)
      (λ (g : Grip s.views q l.item). let h = items.grip_set s.views id d both at (λ _ _ y. (y.0, y.1, y.2, inr y.3)) q l.item g in inr (items.grip_set mid other w spent there (λ _ _ y. let z = y.0 in absurd (omega arith)) q l.item h)))
      (λ j e v at_j k has. each (λ _ e'. e'.kind ≡ 1 → Has e'.waits v → IsWaiting r.state.items r.book.slot_of e'.number v) (λ _ t. r.items.waiting id d v at kind t) (λ _ t. absurd t) (λ j' e' here k' t. r.items.waiting j' e' v here k' t) j e at_j k has)
      (private_on r.items.private (λ _ h. h) (each (λ j e. Keeps s.views j e) (inr (d, at, refl)) (inl refl) (λ j e here. inr (e, here, refl))))
      (items.links_all r.items s.words r.book.left views' (λ _. refl)
      (λ j e v at_j k has. each (λ _ e'. e'.kind ≡ 1 → Has e'.waits v → IsLinked plan.sizes s.words v) (λ _ t. r.items.links.waits id d v at kind t) (λ _ t. absurd t) (λ j' e' here k' t. r.items.links.waits j' e' v here k' t) j e at_j k has)
      (λ j e v at_j has. each (λ _ (e' : Acting). Has e'.collected v → IsLinked plan.sizes s.words v) (λ t. r.items.links.notes id d v at t) (λ t. absurd t) (λ j' e' here t. r.items.links.notes j' e' v here t) j e at_j has)
      r.items.links.lefts)
      (λ j e at_j k. each (λ j' e'. e'.kind ≡ 1 → Acts r.state.participants r.state.count r.born s.words r.epochs.seat_of r.epochs.scanner j' e')
      (λ _. record { is = a.is; seated = a.seated; claimed = a.claimed; locked = a.locked; present = a.present; begun = a.begun; still = a.still }) (λ z. absurd (omega arith)) (λ j' e' here k'. r.epochs.seats j' e' here k') j e at_j k)
