-- how many items can wait, and how many slots be leased
use Rattle.std.proofs.Common.{◌≡◌, ◌≢◌, ◌⊎◌, ℕ, zero, suc, ◌<◌, ◌≤◌, List, [], ◌∷◌, map, length, sym, refl, ap, ◌∙◌, subst, ⊎_elim, inl, inr, arith}
use mathlib.Core.Logic.{dite}
use mathlib.Core.Option.{some}
use native.Mathlib.Decide.{ℕ_discrete}
use lib.ListN.{get_elem?, length-map}
use Rattle.atomic_table.specs.Table.{State}
use Rattle.sdd_steps.specs.declared.item.Item.{Item}
use Rattle.sdd_steps.specs.declared.item.ItemState.{ItemState}
use Rattle.sdd_steps.specs.declared.item.ItemState.TheVariants.{Live, Retired, Collected, Reclaimed}
use Rattle.sdd_steps.specs.State.{At, Has}
use Rattle.sdd_steps.proofs.ListLemmas.{same_at}
use Rattle.sdd_homes.specs.declared.Garbage.{Garbage}
use Rattle.sdd_homes.specs.declared.Owner.{Owner}
use Rattle.sdd_homes.specs.declared.Lease.{Lease}
use Rattle.sdd_homes.specs.Book.{Content, full, Lends, Apart}
use Rattle.sdd_homes.proofs.HandLemmas.{owned_some, mine_some}
use Rattle.domain_table.specs.Items.{owners_in_hand, Owns, HasState, Distinct}
use Rattle.domain_table.specs.Rule.{Shows}
use Rattle.domain_table.specs.declared.board.Acting.{Acting}
use Rattle.domain_table.specs.declared.board.Plan.{Plan}

-- no two of these are the same number
abbrev AreApart : List ℕ → Type 0
AreApart [] = Unit {0}
AreApart (x ∷ xs) = ¬ Has xs x × AreApart xs

is_there : (xs : List ℕ) (x : ℕ) → Has xs x ⊎ ¬ Has xs x
is_there [] x = inr (λ h. h)
is_there (y ∷ ys) x = dite (ℕ_discrete y x) (λ e. inl (inl e)) (λ ne. ⊎_elim (λ (h : Has ys x). inl (inr h)) (λ (not_there : ¬ Has ys x). inr (λ h. ⊎_elim (λ (e : y ≡ x). ne e) (λ (t : Has ys x). not_there t) h)) (is_there ys x))

-- one of the numbers is taken out
record Without (xs : List ℕ) (x : ℕ) : Type 0 where
  others : List ℕ
  fewer : length xs ≡ suc (length others)
  had : (y : ℕ) → Has others y → Has xs y × (y ≢ x)
  apart : AreApart others

without : (xs : List ℕ) (x : ℕ) → AreApart xs → Has xs x → Without xs x
without [] x a h = absurd h
without (y ∷ ys) x a h = dite (ℕ_discrete y x)
    (λ e. record { others = ys; fewer = refl; had = λ z t. (inr t, λ same. a.0 (subst (Has ys) (same ∙ sym e) t)); apart = a.1 })
    (λ ne. let t : Has ys x = ⊎_elim (λ (e : y ≡ x). absurd (ne e)) (λ (t : Has ys x). t) h in let l = without ys x a.1 t in record {
      others = y ∷ l.others;
      fewer = ap suc l.fewer;
      had = λ z g. ⊎_elim (λ (e : y ≡ z). (inl e, λ same. ne (e ∙ same))) (λ (k : Has l.others z). let o = l.had z k in (inr o.0, o.1)) g;
      apart = ((λ g. a.0 (l.had y g).0), l.apart);
    })

-- numbers below n that are all different are at most n
fits : (n : ℕ) (xs : List ℕ) → ((x : ℕ) → Has xs x → x < n) → AreApart xs → length xs ≤ n
fits zero [] low a = omega arith
fits zero (x ∷ xs) low a = let bad = low x (inl refl) in absurd (omega arith)
fits (suc n) xs low a = ⊎_elim
    (λ (h : Has xs n). let l = without xs n a h in let e = l.fewer in let f = fits n l.others (λ x t. let o = l.had x t in let lt = low x o.0 in let ne = o.1 in omega arith) l.apart in omega arith)
    (λ (not_there : ¬ Has xs n). let f = fits n xs (λ x t. let lt = low x t in let ne : x ≢ n = (λ e. not_there (subst (Has xs) e t)) in omega arith) a in omega arith) (is_there xs n)

leased_slots : List Lease → List ℕ
leased_slots ls = map (λ (l : Lease). l.slot) ls

-- a slot that is leased, and its lease
lends_slot : (ls : List Lease) (k : ℕ) → Has (leased_slots ls) k → Lends ls k
unfolding leased_slots
lends_slot [] k h = absurd h
lends_slot (l ∷ ls) k h = ⊎_elim (λ (e : l.slot ≡ k). inl e) (λ (t : Has (leased_slots ls) k). inr (lends_slot ls k t)) h

lease_there : (ls : List Lease) (k : ℕ) → Has (leased_slots ls) k → (l : Lease) × Has ls l × (l.slot ≡ k)
unfolding leased_slots
lease_there [] k h = absurd h
lease_there (l ∷ ls) k h = ⊎_elim (λ (e : l.slot ≡ k). (l, inl refl, e)) (λ (t : Has (leased_slots ls) k). let g = lease_there ls k t in (g.0, inr g.1, g.2)) h

leases_apart : (ls : List Lease) → Apart ls → AreApart (leased_slots ls)
unfolding leased_slots
leases_apart [] a = tt
leases_apart (l ∷ ls) a = ((λ h. a.0 (lends_slot ls l.slot h)), leases_apart ls a.1)

-- leases of different slots, and one slot that isn't leased, are at most all slots
pub fewer_leased : (n : ℕ) (ls : List Lease) (k : ℕ) → k < n → ¬ Lends ls k → ((l : Lease) → Has ls l → l.slot < n) → Apart ls → length ls < n
unfolding leased_slots
fewer_leased n ls k low free all apart = let long = length-map ls (λ (l : Lease). l.slot) in let f = fits n (k ∷ leased_slots ls) (λ x h. ⊎_elim (λ (e : k ≡ x). subst (λ z. z < n) e low) (λ (t : Has (leased_slots ls) x). let g = lease_there ls x t in subst (λ z. z < n) g.2 (all g.0 g.1)) h)
    ((λ h. free (lends_slot ls k h)), leases_apart ls apart) in omega arith

garbage_slots : List Garbage → List ℕ
garbage_slots ws = map (λ (w : Garbage). w.slot) ws

module _ (S : Type 0) (IsIn : Content → S → Type 0) (plan : Plan) where
  module _ (s : State S Acting) (r : Shows IsIn plan s) where
    abbrev Stands : ℕ → ℕ → Type 0
    Stands k i = (k < plan.sizes.slots) × (r.book.stage k ≡ full i)

    one_item : (k i j : ℕ) → r.book.stage k ≡ full i → r.book.stage k ≡ full j → i ≡ j
    one_item k i j a b = let same : full i ≡ full j = sym a ∙ b in cc

    slot_there : (ws : List Garbage) (k : ℕ) → Has (garbage_slots ws) k → (w : Garbage) × Has ws w × (w.slot ≡ k)
    unfolding garbage_slots
    slot_there [] k h = absurd h
    slot_there (w ∷ ws) k h = ⊎_elim (λ (e : w.slot ≡ k). (w, inl refl, e)) (λ (t : Has (garbage_slots ws) k). let g = slot_there ws k t in (g.0, inr g.1, g.2)) h

    apart : (ws : List Garbage) → Distinct ws → ((w : Garbage) → Has ws w → Stands w.slot w.item) → AreApart (garbage_slots ws)
    unfolding garbage_slots
    apart [] a stand = tt
    apart (w ∷ ws) a stand = ((λ h. let g = slot_there ws w.slot h in a.0 g.0 g.1 (one_item w.slot g.0.item w.item (subst (λ z. r.book.stage z ≡ full g.0.item) g.2 (stand g.0 (inr g.1)).1) (stand w (inl refl)).1)), apart ws a.1 (λ v t. stand v (inr t)))

    -- items that stand in slots are fewer than these, beside one more
    fewer : (k i : ℕ) (ws : List Garbage) → Stands k i → Distinct ws → ((w : Garbage) → Has ws w → Stands w.slot w.item × (w.item ≢ i)) → length ws < plan.sizes.slots
    unfolding garbage_slots
    fewer k i ws mine distinct others = let long = length-map ws (λ (w : Garbage). w.slot) in let f = fits plan.sizes.slots (k ∷ garbage_slots ws)
        (λ x h. ⊎_elim (λ (e : k ≡ x). subst (λ z. z < plan.sizes.slots) e mine.0) (λ (t : Has (garbage_slots ws) x). let g = slot_there ws x t in subst (λ z. z < plan.sizes.slots) g.2 (others g.0 g.1).0.0) h)
        ((λ h. let g = slot_there ws k h in let o = others g.0 g.1 in o.1 (one_item k g.0.item i (subst (λ z. r.book.stage z ≡ full g.0.item) g.2 o.0.1) mine.1)), apart ws distinct (λ w t. (others w t).0)) in omega arith

    stands : (st : ItemState) (w : Garbage) → ((q : ℕ) → st ≢ Reclaimed q) → HasState r.state.items r.book.slot_of st w → Stands w.slot w.item
    stands st w there h = subst (λ z. Stands z w.item) h.4 (r.items.standing w.item h.0 h.1 (λ q e. there q (sym h.2 ∙ e)))

    -- an item in another state is another item
    unlike : (i : ℕ) (it : Item) (st : ItemState) (w : Garbage) → At r.state.items i it → st ≢ it.state → HasState r.state.items r.book.slot_of st w → w.item ≢ i
    unlike i it st w here ne h e = let one : h.0 ≡ it = same_at r.state.items i h.0 it (subst (λ z. At r.state.items z h.0) e h.1) here in ne (sym h.2 ∙ ap (λ (z : Item). z.state) one)

    waiting_stands : (id : ℕ) (d : Acting) (w : Garbage) → get_elem? s.views id ≡ some d → d.kind ≡ 1 → Has d.waits w → Stands w.slot w.item
    waiting_stands id d w at kind h = stands (Retired d.number w.age) w (λ q e. absurd (cc)) (r.items.waiting id d w at kind h)

    noted_stands : (id : ℕ) (d : Acting) (w : Garbage) → get_elem? s.views id ≡ some d → Has d.collected w → Stands w.slot w.item
    noted_stands id d w at h = stands (Collected w.age) w (λ q e. absurd (cc)) (r.items.private.noted id d w at h)

    -- while something is in its private bag, a participant has retired fewer items than there are slots
    pub fewer_beside : (id : ℕ) (d : Acting) (w : Garbage) → get_elem? s.views id ≡ some d → d.kind ≡ 1 → Has d.collected w → length d.waits < plan.sizes.slots
    fewer_beside id d w at kind has = let n = r.items.private.noted id d w at has in fewer w.slot w.item d.waits (noted_stands id d w at has) (r.items.seats id d at kind).distinct
        (λ v h. (waiting_stands id d v at kind h, unlike w.item n.0 (Retired d.number v.age) v n.1 (λ e. let bad : Retired d.number v.age ≡ Collected w.age = e ∙ n.2 in absurd (cc)) (r.items.waiting id d v at kind h)))

    -- while it has an owner in hand, both of its bags have fewer
    module _ (id : ℕ) (d : Acting) (o : Owner) (at : get_elem? s.views id ≡ some d) (kind : d.kind ≡ 1) (in_hand : Has d.hand o) where
      own : Owns r.state.items r.book.slot_of o
      own = r.items.owners id d o at in_hand

      lives : own.0.state ≡ Live
      lives = let w = own in let g = r.items.hands o.item w.0 w.1 in let some_ = owned_some owners_in_hand o.item s.views id d at in let mine = mine_some owners_in_hand o.item d o in_hand refl in let count = (r.kept.0.owned o.item w.0 w.1).counted in
          (r.kept.0.owned o.item w.0 w.1).is_live (omega arith)

      owner_stands : Stands o.slot o.item
      owner_stands = let w = own in subst (λ z. Stands z o.item) w.3 (r.items.standing o.item w.0 w.1 (λ q e. let bad : Live ≡ Reclaimed q = sym lives ∙ e in absurd (cc)))

      pub fewer_wait : length d.waits < plan.sizes.slots
      fewer_wait = fewer o.slot o.item d.waits owner_stands (r.items.seats id d at kind).distinct
          (λ v h. (waiting_stands id d v at kind h, unlike o.item own.0 (Retired d.number v.age) v own.1 (λ e. let bad : Retired d.number v.age ≡ Live = e ∙ lives in absurd (cc)) (r.items.waiting id d v at kind h)))

      pub fewer_noted : length d.collected < plan.sizes.slots
      fewer_noted = fewer o.slot o.item d.collected owner_stands (r.items.private.once id d at)
          (λ v h. (noted_stands id d v at h, unlike o.item own.0 (Collected v.age) v own.1 (λ e. let bad : Collected v.age ≡ Live = e ∙ lives in absurd (cc)) (r.items.private.noted id d v at h)))
