-- an owner in hand is released, and its part joined to the participant's lease of the item; with the last owner the item is retired in the same step, or put into the private bag
use Rattle.std.proofs.Common.{◌≡◌, ◌≢◌, ◌==◌, ◌&&◌, ◌%◌, cond, is_some, true, Option, None, Some, ℕ, ◌+◌, ◌-◌, ◌^◌, ◌<◌, List, ◌∷◌, get_or, set, length, sym, refl, ap, ◌∙◌, subst, ⊎_elim, inl, inr, arith, eq-eqb, ne_eqb, lt-ltb, ◌⊎◌, false}
use mathlib.Core.Logic.{dite}
use mathlib.Core.Option.{some, none}
use native.Mathlib.Decide.{ℕ_discrete}
use lib.ListN.{get_elem?}
use Rattle.atomic_table.specs.Table.{State, Me, step, keeps, Allows}
use Rattle.sdd_steps.specs.declared.item.Item.{Item}
use Rattle.sdd_steps.specs.declared.item.ItemState.{ItemState}
use Rattle.sdd_steps.specs.declared.item.ItemState.TheVariants.{Live, Due, Retired, Collected}
use Rattle.sdd_steps.specs.declared.participant.Participant.{Participant}
use Rattle.sdd_steps.specs.declared.step.Step.TheVariants.{Release, Retire, Collect}
use Rattle.sdd_steps.specs.State as steps
use Rattle.sdd_steps.specs.State.{At, Has, with_item, participant_is, item_is}
use Rattle.sdd_steps.specs.Steps.{LeadsTo, is_ready, is_inside, is_due, has_loose_owner, after_release, noted}
use Rattle.sdd_steps.proofs.Enabling.{participant_read, participant_passes, item_passes, item_read}
use Rattle.sdd_steps.proofs.CountLemmas.{points_self, points_other}
use Rattle.sdd_steps.proofs.ListLemmas.{put, put_here, put_else, set_here, same_at}
use Rattle.sdd_homes.specs.declared.Lease.{Lease}
use Rattle.sdd_homes.specs.declared.Owner.{Owner}
use Rattle.sdd_homes.specs.declared.Garbage.{Garbage}
use Rattle.sdd_homes.specs.Book.{Content, full, Apart, recounted}
use Rattle.sdd_homes.specs.Hands.{items_of}
use Rattle.sdd_homes.specs.Parts.{Leased, Full}
use Rattle.sdd_homes.specs.Reasons.{Loads, Why}
use Rattle.sdd_homes.proofs.HandLemmas.{owned_some, mine_some}
use Rattle.sdd_homes.proofs.Leases.{lends_has, same_lease}
use Rattle.sdd_homes.proofs.OwnerLemmas.{counts}
use Rattle.sdd_homes.proofs.PartLemmas as parts
use Rattle.sdd_homes.proofs.SwapLemmas.{set_twice}
use Rattle.domain_table.specs.Layout.{slot_word}
use Rattle.domain_table.specs.Items.{owners_in_hand, Grip, HasState, IsWaiting, IsNoted, Distinct}
use Rattle.domain_table.specs.Rule.{Runs, Shows}
use Rattle.domain_table.specs.Plays.{retiring, collecting, MayNote, HasRoom, releasing_one, release_then}
use Rattle.domain_table.specs.declared.board.Acting.{Acting}
use Rattle.domain_table.specs.declared.board.Plan.{Plan}
use Rattle.sdd_plain.specs.declared.sizes.Sizes.{Sizes}
use Rattle.sdd_homes.proofs.Totals.{total_put}
use Rattle.domain_table.proofs.Crowds.{fewer_wait, fewer_noted}
use Rattle.domain_table.proofs.Taken as taken
use Rattle.domain_table.proofs.Taken.{and_true}
use Rattle.domain_table.proofs.Stirred.{grip_set}
use Rattle.domain_table.proofs.Recounts.{Recounts, waits_else, recounted_shown}

-- what an item without an owner is: retired by p, or in a private bag with a note
abbrev pub put_away : ℕ → Option ℕ → ItemState
put_away p None = Retired p 0
put_away p (Some note) = Collected note

-- an item with one owner fewer, put away if that was the last
abbrev pub lowered : ℕ → Option ℕ → Item → Item
lowered p to it = record it { hand = it.hand - 1; owners = it.owners - 1; state = cond (it.owners - 1 == 0) (put_away p to) it.state }

-- an item that is due is put away
puts_away : (to : Option ℕ) (s : steps.State) (p i : ℕ) (x : Participant) (a : Item) → MayNote to x → At s.participants p x → is_ready x ≡ true → At s.items i a → a.state ≡ Due p → Runs s (with_item s i (record a { state = put_away p to }))
puts_away None s p i x a may at ready there due = taken.one s (Retire p i) (with_item s i (record a { state = Retired p 0 })) (
  and_true (participant_is is_ready s p) (item_is (λ z. is_due p z.state) s i) (participant_passes is_ready s p x at ready) (item_passes (λ z. is_due p z.state) s i a there (ap (is_due p) due ∙ eq-eqb p p refl)),
  λ j. with_item s i (record (sym (item_read s i a there) j) { state = Retired p 0 }),
)
puts_away (Some note) s p i x a may at ready there due = taken.one s (Collect p i) (with_item s i (record a { state = Collected note })) (
  and_true (participant_is (λ z. is_inside z && is_some z.reread) s p) (item_is (λ z. is_due p z.state) s i)
      (participant_passes (λ z. is_inside z && is_some z.reread) s p x at (and_true (is_inside x) (is_some x.reread) may.0 (ap is_some may.1)))
      (item_passes (λ z. is_due p z.state) s i a there (ap (is_due p) due ∙ eq-eqb p p refl)),
  λ j. with_item s i (record (sym (item_read s i a there) j) { state = noted (sym (ap (λ (z : Participant). z.reread) (participant_read s p x at) ∙ may.1) j) }),
)

-- the release, and what is done behind it with the last owner
pub lowers : (to : Option ℕ) (s : steps.State) (p i : ℕ) (x : Participant) (it : Item) → MayNote to x → At s.participants p x → is_ready x ≡ true → At s.items i it → 0 < it.hand → Runs s (with_item s i (lowered p to it))
lowers to s p i x it may at ready here held = let a : Item = after_release p it in let m = with_item s i a in
    let released : LeadsTo s (Release p i) m = (
      and_true (participant_is is_ready s p) (item_is has_loose_owner s i) (participant_passes is_ready s p x at ready) (item_passes has_loose_owner s i it here (lt-ltb 0 it.hand held)),
      λ j. with_item s i (after_release p (sym (item_read s i it here) j)),
    ) in dite (ℕ_discrete (it.owners - 1) 0)
    (λ last. let due : a.state ≡ Due p = ap (λ b. cond b (Due p) it.state) (eq-eqb (it.owners - 1) 0 last) in let there : At m.items i a = set_here s.items i a it here in let b : Item = record a { state = put_away p to } in
    subst (Runs s) ((λ j. record s { items = set_twice s.items i a b j }) ∙ (λ j. with_item s i (record it { hand = it.hand - 1; owners = it.owners - 1; state = ap (λ h. cond h (put_away p to) it.state) (sym (eq-eqb (it.owners - 1) 0 last)) j })))
    (taken.goes_on s m (with_item m i b) (taken.one s (Release p i) m released) (puts_away to m p i x a may at ready there due)))
    (λ more. subst (Runs s) (λ j. with_item s i (record it { hand = it.hand - 1; owners = it.owners - 1; state = (ap (λ h. cond h (Due p) it.state) (ne_eqb (it.owners - 1) 0 more) ∙ ap (λ h. cond h (put_away p to) it.state) (sym (ne_eqb (it.owners - 1) 0 more))) j }))
    (taken.one s (Release p i) m released))

away_not_due : (to : Option ℕ) (p q : ℕ) → put_away p to ≢ Due q
away_not_due None p q e = absurd (cc)
away_not_due (Some note) p q e = absurd (cc)

pub never_due : (to : Option ℕ) (p q : ℕ) (it : Item) → it.state ≡ Live → (lowered p to it).state ≢ Due q
never_due to p q it alive e = dite (ℕ_discrete (it.owners - 1) 0)
    (λ last. away_not_due to p q (ap (λ b. cond b (put_away p to) it.state) (sym (eq-eqb (it.owners - 1) 0 last)) ∙ e))
    (λ more. let bad : Live ≡ Due q = sym alive ∙ (ap (λ b. cond b (put_away p to) it.state) (sym (ne_eqb (it.owners - 1) 0 more)) ∙ e) in absurd (cc))

-- what waits behind the step waited before it, or is the item of the lease, without an owner now; the same of what is in the private bag
module _ (items : List Item) (slot_of : ℕ → ℕ) (p : ℕ) (l : Lease) (it : Item) (here : At items l.item it) (slot : slot_of l.item ≡ l.slot) (round : it.value ≡ l.round) (owned : 0 < it.owners) where
  retires_as : (to : Option ℕ) (ws : List Garbage) (w : Garbage) → Has (retiring to (2 + it.owners) l ws) w → (IsWaiting (set items l.item (lowered p to it)) slot_of p w) ⊎ Has ws w
  retires_as None ws w h = dite (ℕ_discrete (it.owners - 1) 0)
      (λ last. ⊎_elim
      (λ (e : record { item = l.item; slot = l.slot; round = l.round; age = 0; next = 0 } ≡ w). inl (subst (IsWaiting (set items l.item (lowered p None it)) slot_of p) e
      (lowered p None it, set_here items l.item (lowered p None it) it here, ap (λ b. cond b (Retired p 0) it.state) (eq-eqb (it.owners - 1) 0 last), round, slot)))
      (λ (t : Has ws w). inr t) (subst (λ b. Has (cond b (record { item = l.item; slot = l.slot; round = l.round; age = 0; next = 0 } ∷ ws) ws) w) (eq-eqb (2 + it.owners) 3 (omega arith)) h))
      (λ more. inr (subst (λ b. Has (cond b (record { item = l.item; slot = l.slot; round = l.round; age = 0; next = 0 } ∷ ws) ws) w) (ne_eqb (2 + it.owners) 3 (λ e. more (omega arith))) h))
  retires_as (Some note) ws w h = inr h

  collects_as : (to : Option ℕ) (ws : List Garbage) (w : Garbage) → Has (collecting to (2 + it.owners) l ws) w → Has ws w ⊎ ((w.item ≡ l.item) × IsNoted (set items l.item (lowered p to it)) slot_of w)
  collects_as None ws w h = inl h
  collects_as (Some note) ws w h = dite (ℕ_discrete (it.owners - 1) 0)
      (λ last. ⊎_elim
      (λ (e : record { item = l.item; slot = l.slot; round = l.round; age = note; next = 0 } ≡ w). inr (subst (λ (v : Garbage). (v.item ≡ l.item) × IsNoted (set items l.item (lowered p (Some note) it)) slot_of v) e
      (refl, (lowered p (Some note) it, set_here items l.item (lowered p (Some note) it) it here, ap (λ b. cond b (Collected note) it.state) (eq-eqb (it.owners - 1) 0 last), round, slot))))
      (λ (t : Has ws w). inl t) (subst (λ b. Has (cond b (record { item = l.item; slot = l.slot; round = l.round; age = note; next = 0 } ∷ ws) ws) w) (eq-eqb (2 + it.owners) 3 (omega arith)) h))
      (λ more. inl (subst (λ b. Has (cond b (record { item = l.item; slot = l.slot; round = l.round; age = note; next = 0 } ∷ ws) ws) w) (ne_eqb (2 + it.owners) 3 (λ e. more (omega arith))) h))

-- what comes into a bag isn't linked yet
pub new_waits : (to : Option ℕ) (n : ℕ) (l : Lease) (ws : List Garbage) (w : Garbage) → Has (retiring to n l ws) w → Has ws w ⊎ (w.next ≡ 0)
new_waits None n l ws w = elim (n == 3) as (λ b. Has (cond b (record { item = l.item; slot = l.slot; round = l.round; age = 0; next = 0 } ∷ ws) ws) w → Has ws w ⊎ (w.next ≡ 0)) [
  | true ↦ λ h. ⊎_elim (λ (e : record { item = l.item; slot = l.slot; round = l.round; age = 0; next = 0 } ≡ w). inr (ap (λ (v : Garbage). v.next) (sym e))) (λ (t : Has ws w). inl t) h
  | false ↦ λ h. inl h
]
new_waits (Some note) n l ws w = λ h. inl h

pub new_notes : (to : Option ℕ) (n : ℕ) (l : Lease) (ws : List Garbage) (w : Garbage) → Has (collecting to n l ws) w → Has ws w ⊎ (w.next ≡ 0)
new_notes None n l ws w = λ h. inl h
new_notes (Some note) n l ws w = elim (n == 3) as (λ b. Has (cond b (record { item = l.item; slot = l.slot; round = l.round; age = note; next = 0 } ∷ ws) ws) w → Has ws w ⊎ (w.next ≡ 0)) [
  | true ↦ λ h. ⊎_elim (λ (e : record { item = l.item; slot = l.slot; round = l.round; age = note; next = 0 } ≡ w). inr (ap (λ (v : Garbage). v.next) (sym e))) (λ (t : Has ws w). inl t) h
  | false ↦ λ h. inl h
]

-- where none of a bag is of the item, none is twice in it
distinct_waits : (to : Option ℕ) (n : ℕ) (l : Lease) (ws : List Garbage) → ((v : Garbage) → Has ws v → v.item ≢ l.item) → Distinct ws → Distinct (retiring to n l ws)
distinct_waits None n l ws apart h = (elim (n == 3) as (λ b. Distinct (cond b (record { item = l.item; slot = l.slot; round = l.round; age = 0; next = 0 } ∷ ws) ws)) [ true ↦ (apart, h) | false ↦ h ])
distinct_waits (Some note) n l ws apart h = h

distinct_noted : (to : Option ℕ) (n : ℕ) (l : Lease) (ws : List Garbage) → ((v : Garbage) → Has ws v → v.item ≢ l.item) → Distinct ws → Distinct (collecting to n l ws)
distinct_noted None n l ws apart h = h
distinct_noted (Some note) n l ws apart h = (elim (n == 3) as (λ b. Distinct (cond b (record { item = l.item; slot = l.slot; round = l.round; age = note; next = 0 } ∷ ws) ws)) [ true ↦ (apart, h) | false ↦ h ])

pub less_one : (w : ℕ) → 0 < w → w < 18446744073709551616 → (w + (18446744073709551616 - 1)) % 18446744073709551616 ≡ w - 1
less_one w more fits = omega arith

module _ (S : Type 0) (IsIn : Content → S → Type 0) (plan : Plan) where
  abbrev n : ℕ
  n = plan.sizes.participants

  module _ (s : State S Acting) (r : Shows IsIn plan s) (id : ℕ) (d : Acting) (l : Lease) (o : Owner) (os : List Owner) (at : get_elem? s.views id ≡ some d) (kind : d.kind ≡ 1) (ready : is_ready d.known ≡ true) (has : Has d.leases l) (first : d.hand ≡ o ∷ os) (slot : o.slot ≡ l.slot) (to : Option ℕ) where
    abbrev pub p : ℕ
    p = d.number

    pub in_out : Has (r.book.out p) l
    in_out = subst (λ (ls : List Lease). Has ls l) (sym (r.items.seats id d at kind).leases) has

    pub y : Leased n plan.sizes.slots r.state.items (Why r.state (Grip s.views)) r.book.stage r.book.share p l
    y = r.items.parts.leases p l in_out

    pub f : Full n plan.sizes.slots r.state.items r.book.slot_of (r.book.share l.slot) r.book.out r.book.what (r.book.held l.slot) l.slot l.item
    f = r.items.parts.full_at l.slot l.item y.inside y.is

    abbrev pub it : Item
    it = f.it

    pub in_hand : Has d.hand o
    in_hand = subst (λ (ls : List Owner). Has ls o) (sym first) (inl refl)

    -- the owner is of the item that is leased
    pub same_item : o.item ≡ l.item
    same_item = let w = r.items.owners id d o at in_hand in let g = r.items.hands o.item w.0 w.1 in let some_ = owned_some owners_in_hand o.item s.views id d at in let mine = mine_some owners_in_hand o.item d o in_hand refl in
        let count = (r.kept.0.owned o.item w.0 w.1).counted in let alive = (r.kept.0.owned o.item w.0 w.1).is_live (omega arith) in
        let stand = r.items.standing o.item w.0 w.1 (λ q e. let bad : Live ≡ Rattle.sdd_steps.specs.declared.item.ItemState.TheVariants.Reclaimed q = sym alive ∙ e in absurd (cc)) in
        let two : full o.item ≡ full l.item = sym stand.1 ∙ (ap r.book.stage (w.3 ∙ slot) ∙ y.is) in cc

    pub held : 0 < it.hand
    held = let g = r.items.hands l.item it f.here in let some_ = owned_some owners_in_hand l.item s.views id d at in let mine = mine_some owners_in_hand l.item d o in_hand same_item in omega arith

    pub owned : 0 < it.owners
    owned = let h = held in let count = (r.kept.0.owned l.item it f.here).counted in omega arith

    pub live_owned : it.state ≡ Live
    live_owned = (r.kept.0.owned l.item it f.here).is_live owned

    -- what is put away has no owner, so it is another item
    owned_apart : (st : ItemState) (v : Garbage) → Live ≢ st → HasState r.state.items r.book.slot_of st v → v.item ≢ l.item
    owned_apart st v dead w e = let same : w.0 ≡ it = same_at r.state.items l.item w.0 it (subst (λ m. At r.state.items m w.0) e w.1) f.here in dead (sym live_owned ∙ (ap (λ (z : Item). z.state) (sym same) ∙ w.2))

    pub retires : (w : Garbage) → Has (retiring to (2 + it.owners) l d.waits) w → (IsWaiting (set r.state.items l.item (lowered p to it)) r.book.slot_of p w) ⊎ Has d.waits w
    retires w h = retires_as r.state.items r.book.slot_of p l it f.here f.slot (y.round it f.here) owned to d.waits w h

    pub collects : (w : Garbage) → Has (collecting to (2 + it.owners) l d.collected) w → Has d.collected w ⊎ ((w.item ≡ l.item) × IsNoted (set r.state.items l.item (lowered p to it)) r.book.slot_of w)
    collects w h = collects_as r.state.items r.book.slot_of p l it f.here f.slot (y.round it f.here) owned to d.collected w h

    pub distinct_now : Distinct (retiring to (2 + it.owners) l d.waits)
    distinct_now = distinct_waits to (2 + it.owners) l d.waits (λ v h. owned_apart (Retired p v.age) v (λ e. absurd (cc)) (r.items.waiting id d v at kind h)) (r.items.seats id d at kind).distinct

    pub once_now : Distinct (collecting to (2 + it.owners) l d.collected)
    once_now = distinct_noted to (2 + it.owners) l d.collected (λ v h. owned_apart (Collected v.age) v (λ e. absurd (cc)) (r.items.private.noted id d v at h)) (r.items.private.once id d at)

    abbrev pub c : ℕ
    c = r.book.share l.slot p + 1

    pub same_count : c ≡ l.count + 1
    same_count = let z = y.count in omega arith

    pub word_is : get_or s.words (slot_word plan.sizes l.slot) 0 ≡ 2 + it.owners
    word_is = r.items.slot_words l.slot l.item it y.inside y.is f.here

    pub some_left : 2 < get_or s.words (slot_word plan.sizes l.slot) 0
    some_left = let w = word_is in let h = owned in omega arith

    -- the owner has one part, so the participant hasn't all of them
    pub few : l.count < 2 ^ 63
    few = let z = y.count in let some_owner = owned in let all = f.sum in let part_of_all = total_put n (r.book.share l.slot) p 0 y.low in omega arith

    pub room : HasRoom d
    room = let sizes = sym (r.items.seats id d at kind).sizes_are in (subst (λ (z : Sizes). length d.waits < z.slots) sizes (fewer_wait S IsIn plan s r id d o at kind in_hand), subst (λ (z : Sizes). length d.collected < z.slots) sizes (fewer_noted S IsIn plan s r id d o at kind in_hand))

    pub same_round : o.round ≡ l.round
    same_round = let w = r.items.owners id d o at in_hand in let one = same_at r.state.items l.item w.0 it (subst (λ m. At r.state.items m w.0) same_item w.1) f.here in sym w.2 ∙ (ap (λ (z : Item). z.value) one ∙ y.round it f.here)

    module _ (idle : d.releasing ≡ 0) (may : MayNote to d.known) where
      abbrev out' : ℕ → List Lease
      out' = put r.book.out p (recounted l.slot c (r.book.out p))

      abbrev share' : ℕ → ℕ → ℕ
      share' = put r.book.share l.slot (put (r.book.share l.slot) p c)

      abbrev views' : List Acting
      views' = set s.views id (releasing_one to (2 + it.owners) l os d)

      reasons : (q : ℕ) (e : Lease) → Has (r.book.out q) e → Why r.state (Grip s.views) q e.item → Why (with_item r.state l.item (lowered p to it)) (Grip views') q e.item
      reasons q e _ = ⊎_elim (λ (t : Loads r.state q e.item). inl t) (λ (g : Grip s.views q e.item). inr (grip_set s.views id d (releasing_one to (2 + it.owners) l os d) at (λ _ _ h. let one = h.2 in absurd (omega arith)) q e.item g))

      retires_now : (w : Garbage) → Has (retiring to (2 + it.owners) l d.waits) w → IsWaiting (set r.state.items l.item (lowered p to it)) r.book.slot_of p w
      retires_now w h = ⊎_elim (λ (new : IsWaiting (set r.state.items l.item (lowered p to it)) r.book.slot_of p w). new)
          (λ (t : Has d.waits w). waits_else S IsIn plan s r id l.slot l.item d it (lowered p to it) at kind y.inside y.is f.here (recounted l.slot (l.count + 1) d.leases) os d.releasing (retiring to (2 + it.owners) l d.waits) (collecting to (2 + it.owners) l d.collected) share' out' r.book.what s.homes live_owned p w (r.items.waiting id d w at kind t)) (retires w h)

      counted : Recounts S IsIn plan s r id l.slot l.item d it (lowered p to it) at kind y.inside y.is f.here (recounted l.slot (l.count + 1) d.leases) os d.releasing (retiring to (2 + it.owners) l d.waits) (collecting to (2 + it.owners) l d.collected) share' out' r.book.what s.homes
      counted = record {
        parts = let z = y.count in let some_owner = owned in counts (parts.stays r.items.parts r.state.items (Why (with_item r.state l.item (lowered p to it)) (Grip views')) (λ i w at_i. (w, at_i, refl, refl)) reasons) p l.slot l.item it y.low y.inside y.is (lends_has (r.book.out p) l in_out) f.here (lowered p to it) c refl (omega arith);
        lying = r.items.lying;
        mine = put_here r.book.out p (recounted l.slot c (r.book.out p)) ∙ (λ j. recounted l.slot (same_count j) ((r.items.seats id d at kind).leases j));
        others = λ q ne. put_else r.book.out p (recounted l.slot c (r.book.out p)) q ne;
        value = refl;
        settled = λ q. never_due to p q it live_owned;
        hand_here = let h = held in let one = points_self l.item in let split = ap (λ (z : List Owner). steps.times l.item (items_of z)) first in let mine = ap (steps.one_if_same l.item) same_item in omega arith;
        hand_else = λ j ne. let none_of = points_other j l.item (λ e. ne (sym e)) in let split = ap (λ (z : List Owner). steps.times j (items_of z)) first in let mine = ap (steps.one_if_same j) same_item in omega arith;
        alive = live_owned;
        holds = refl;
        distinct = distinct_now;
        waits = retires_now;
        once = once_now;
        noted = collects;
        old_waits = λ w h. new_waits to (2 + it.owners) l d.waits w h;
        old_notes = λ w h. new_notes to (2 + it.owners) l d.collected w h;
        owns = λ w h. r.items.owners id d w at (subst (λ (ls : List Owner). Has ls w) (sym first) (inr h));
      }

      pub shown_release : Shows IsIn plan record { words = set s.words (slot_word plan.sizes l.slot) (get_or s.words (slot_word plan.sizes l.slot) 0 - 1); homes = s.homes; views = views' }
      shown_release = subst (λ z. Shows IsIn plan record { words = set s.words (slot_word plan.sizes l.slot) z; homes = s.homes; views = views' }) (let w = word_is in let h = owned in let e : 2 + (it.owners - 1) ≡ get_or s.words (slot_word plan.sizes l.slot) 0 - 1 = omega arith in e)
          (recounted_shown S IsIn plan s r id l.slot l.item d it (lowered p to it) at kind y.inside y.is f.here (recounted l.slot (l.count + 1) d.leases) os d.releasing (retiring to (2 + it.owners) l d.waits) (collecting to (2 + it.owners) l d.collected) share' out' r.book.what s.homes counted
          (lowers to r.state p l.item d.known it may (r.epochs.seats id d at kind).is ready f.here held))

  pub releases_one : (to : Participant → Option ℕ) (slots id : ℕ) (me : Me S Acting) (l : Lease) (o : Owner) (os : List Owner) → MayNote (to me.0.known) me.0.known → me.0.kind ≡ 1 → is_ready me.0.known ≡ true → me.0.releasing ≡ 0 → Has me.0.leases l → me.0.hand ≡ o ∷ os → o.slot ≡ l.slot
      → Allows (Shows IsIn plan) slots id me (slot_word plan.sizes l.slot) (λ k. (k + (18446744073709551616 - 1)) % 18446744073709551616) (release_then to (step slots (slot_word plan.sizes l.slot) 1 0 none) me)
  releases_one to slots id me l o os may kind ready idle has first slot s r _ at fits = let d = me.0 in let i : ℕ = slot_word plan.sizes l.slot in let k : ℕ = get_or s.words i 0 in let more = some_left s r id d l o os at kind ready has first slot (to d.known) in let once = subst Apart (r.items.seats id d at kind).leases (r.items.parts.once d.number) in (
    releasing_one (to d.known) k l os d,
    keeps,
    tt,
    subst (λ z. Shows IsIn plan record { words = set s.words i z; homes = s.homes; views = set s.views id (releasing_one (to d.known) k l os d) }) (sym (less_one k (omega arith) fits)) (subst (λ z. Shows IsIn plan record { words = set s.words i (k - 1); homes = s.homes; views = set s.views id (releasing_one (to d.known) z l os d) }) (sym (word_is s r id d l o os at kind ready has first slot (to d.known))) (shown_release s r id d l o os at kind ready has first slot (to d.known) idle may)),
    λ e o' os' has_e slot_e first_e. let heads : o ∷ os ≡ o' ∷ os' = sym first ∙ first_e in let owners : o ≡ o' = cc in let rest : os ≡ os' = cc in let same : l ≡ e = same_lease d.leases l e once has has_e (sym slot ∙ (ap (λ (z : Owner). z.slot) owners ∙ slot_e)) in
        (more, subst (λ (z : Lease). z.count < 2 ^ 63) same (few s r id d l o os at kind ready has first slot (to d.known)), room s r id d l o os at kind ready has first slot (to d.known), once, ap (λ (z : Owner). z.round) (sym owners) ∙ (same_round s r id d l o os at kind ready has first slot (to d.known) ∙ ap (λ (z : Lease). z.round) same), λ j. (releasing_one (to d.known) k (same j) (rest j) d, me.1)),
  )
