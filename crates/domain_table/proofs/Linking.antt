-- a load and a store of the link word of what a bag of the acting participant holds keep the rule of the table
use Rattle.std.proofs.Common.{◌≡◌, ◌≢◌, ◌==◌, cond, ℕ, ◌<◌, List, [], ◌∷◌, ◌++◌, suc, length, get_or, set, sym, refl, ap, ◌∙◌, subst, ⊎_elim, inl, inr, arith, length-set, get_or-set_other, get_or-set_same, eq-eqb, ne_eqb}
use mathlib.Core.Logic.{dite}
use mathlib.Core.Option.{some, none}
use native.Mathlib.Decide.{ℕ_discrete}
use lib.ListN.{get_elem?, length-map}
use Rattle.atomic_table.specs.Table.{State, Me, step, keeps, Allows}
use Rattle.sdd_steps.specs.declared.item.Item.{Item}
use Rattle.sdd_steps.specs.declared.item.Cell.{Cell}
use Rattle.sdd_steps.specs.declared.item.ItemState.{ItemState}
use Rattle.sdd_steps.specs.declared.item.ItemState.TheVariants.{Retired, Collected, Waiting, Reclaimed}
use Rattle.sdd_steps.specs.State.{At, Has}
use Rattle.sdd_steps.specs.Invariant.{names_of}
use Rattle.sdd_steps.proofs.ListLemmas.{set_all, at_inside, same_at}
use Rattle.sdd_homes.specs.declared.Garbage.{Garbage}
use Rattle.sdd_homes.specs.declared.Lease.{Lease}
use Rattle.sdd_homes.specs.Book.{Content, full}
use Rattle.sdd_homes.specs.Reasons.{Loads, Why}
use Rattle.sdd_homes.proofs.PartLemmas as parts
use Rattle.sdd_homes.proofs.HandLemmas.{owned_set}
use Rattle.domain_table.specs.Layout.{state_word, claim_word, cell_word, slot_word, link_word, shown}
use Rattle.domain_table.specs.Items.{owners_in_hand, Grip, Owns, HasState, IsWaiting, IsNoted, Private, Distinct, IsLinked, Links, Carries, Items}
use Rattle.domain_table.specs.Rule.{Shows}
use Rattle.domain_table.specs.Plays.{linked_to, linking, HoldsSlot, SlotsApart, TellsLink, load_link_then, follow_then, follow_noted_then}
use Rattle.domain_table.specs.declared.board.Acting.{Acting}
use Rattle.domain_table.specs.declared.board.Plan.{Plan}
use Rattle.sdd_plain.specs.declared.sizes.Sizes.{Sizes}
use Rattle.domain_table.proofs.LeftWords.{lefts_behind}
use Rattle.domain_table.proofs.Moves.{Writes, items_change, idles}
use Rattle.domain_table.proofs.Stirred.{grip_set, waits_set}
use Rattle.domain_table.proofs.Privates.{private_new}

-- what is in a list once a link is written was there before, but for the link
pub from_linked : (k n : ℕ) (ws : List Garbage) (u : Garbage) → Has (linked_to k n ws) u → (v : Garbage) × Has ws v × (record v { next = cond (v.slot == k) n v.next } ≡ u)
from_linked k n [] u h = absurd h
from_linked k n (w ∷ ws) u h = ⊎_elim (λ (e : record w { next = cond (w.slot == k) n w.next } ≡ u). (w, inl refl, e)) (λ (t : Has (linked_to k n ws) u). let s = from_linked k n ws u t in (s.0, inr s.1, s.2)) h

pub distinct_linked : (k n : ℕ) (ws : List Garbage) → Distinct ws → Distinct (linked_to k n ws)
distinct_linked k n [] d = tt
distinct_linked k n (w ∷ ws) d = ((λ v has. let t = from_linked k n ws v has in λ same. d.0 t.0 t.1 (ap (λ (z : Garbage). z.item) t.2 ∙ same)), distinct_linked k n ws d.1)

-- nothing is written where nothing is in that slot
linked_none : (k n : ℕ) (ws : List Garbage) → ((u : Garbage) → Has ws u → u.slot ≢ k) → linked_to k n ws ≡ ws
linked_none k n [] none_ = refl
linked_none k n (w ∷ ws) none_ = let same : cond (w.slot == k) n w.next ≡ w.next = ap (λ b. cond b n w.next) (ne_eqb w.slot k (none_ w (inl refl))) in λ j. record w { next = same j } ∷ linked_none k n ws (λ u h. none_ u (inr h)) j

pub has_mid : (xs : List Garbage) (w v : Garbage) (ys : List Garbage) → Has (xs ++ (w ∷ v ∷ ys)) v
has_mid [] w v ys = inr (inl refl)
has_mid (x ∷ xs) w v ys = inr (has_mid xs w v ys)

-- of those in slots of their own one is written
linked_at : (k n : ℕ) (xs : List Garbage) (w v : Garbage) (ys : List Garbage) → v.slot ≡ k → SlotsApart (xs ++ (w ∷ v ∷ ys)) → linked_to k n (xs ++ (w ∷ v ∷ ys)) ≡ xs ++ (w ∷ record v { next = n } ∷ ys)
linked_at k n [] w v ys e apart = let first : cond (w.slot == k) n w.next ≡ w.next = ap (λ b. cond b n w.next) (ne_eqb w.slot k (λ z. apart.0 v (inl refl) (e ∙ sym z))) in
    let second : cond (v.slot == k) n v.next ≡ n = ap (λ b. cond b n v.next) (eq-eqb v.slot k e) in
    let others = linked_none k n ys (λ u h z. apart.1.0 u h (z ∙ sym e)) in λ j. record w { next = first j } ∷ record v { next = second j } ∷ others j
linked_at k n (x ∷ xs) w v ys e apart = let same : cond (x.slot == k) n x.next ≡ x.next = ap (λ b. cond b n x.next) (ne_eqb x.slot k (λ z. apart.0 v (has_mid xs w v ys) (e ∙ sym z))) in λ j. record x { next = same j } ∷ linked_at k n xs w v ys e apart.1 j

module _ (S : Type 0) (IsIn : Content → S → Type 0) (plan : Plan) where
  module _ (s : State S Acting) (r : Shows IsIn plan s) where
    -- what isn't reclaimed is in a slot of its own
    one_item : (a b : ItemState) (v w : Garbage) → ((q : ℕ) → a ≢ Reclaimed q) → ((q : ℕ) → b ≢ Reclaimed q) → HasState r.state.items r.book.slot_of a v → HasState r.state.items r.book.slot_of b w → v.slot ≡ w.slot → v.item ≡ w.item
    one_item a b v w stays_v stays_w hv hw e = let tv = r.items.standing v.item hv.0 hv.1 (λ q z. stays_v q (sym hv.2 ∙ z)) in let tw = r.items.standing w.item hw.0 hw.1 (λ q z. stays_w q (sym hw.2 ∙ z)) in
        let slots : r.book.slot_of v.item ≡ r.book.slot_of w.item = hv.4 ∙ (e ∙ sym hw.4) in let both : full v.item ≡ full w.item = sym tv.1 ∙ (ap r.book.stage slots ∙ tw.1) in cc

    same_state : (a b : ItemState) (v w : Garbage) → HasState r.state.items r.book.slot_of a v → HasState r.state.items r.book.slot_of b w → v.item ≡ w.item → a ≡ b
    same_state a b v w hv hw e = let same : hv.0 ≡ hw.0 = same_at r.state.items w.item hv.0 hw.0 (subst (λ m. At r.state.items m hv.0) e hv.1) hw.1 in sym hv.2 ∙ (ap (λ (z : Item). z.state) same ∙ hw.2)

    -- in two states they are in two slots
    two_slots : (a b : ItemState) (v w : Garbage) → ((q : ℕ) → a ≢ Reclaimed q) → ((q : ℕ) → b ≢ Reclaimed q) → a ≢ b → HasState r.state.items r.book.slot_of a v → HasState r.state.items r.book.slot_of b w → v.slot ≢ w.slot
    two_slots a b v w stays_v stays_w other hv hw e = other (same_state a b v w hv hw (one_item a b v w stays_v stays_w hv hw e))

    waits_stand : (p m q : ℕ) → Retired p m ≢ Reclaimed q
    waits_stand p m q e = absurd (cc)

    notes_stand : (m q : ℕ) → Collected m ≢ Reclaimed q
    notes_stand m q e = absurd (cc)

    left_stands : (q : ℕ) → Waiting ≢ Reclaimed q
    left_stands q e = absurd (cc)

    apart_by : (ws : List Garbage) → Distinct ws → ((v w : Garbage) → Has ws v → Has ws w → v.slot ≡ w.slot → v.item ≡ w.item) → SlotsApart ws
    apart_by [] d one = tt
    apart_by (w ∷ ws) d one = ((λ v has e. d.0 v has (one v w (inr has) (inl refl) e)), apart_by ws d.1 (λ v u hv hu. one v u (inr hv) (inr hu)))

    module _ (id : ℕ) (d : Acting) (at : get_elem? s.views id ≡ some d) (kind : d.kind ≡ 1) where
      abbrev p : ℕ
      p = d.number

      pub waits_apart : SlotsApart d.waits
      waits_apart = apart_by d.waits (r.items.seats id d at kind).distinct (λ v w hv hw e. one_item (Retired p v.age) (Retired p w.age) v w (λ q z. waits_stand p v.age q z) (λ q z. waits_stand p w.age q z) (r.items.waiting id d v at kind hv) (r.items.waiting id d w at kind hw) e)

      pub notes_apart : SlotsApart d.collected
      notes_apart = apart_by d.collected (r.items.private.once id d at) (λ v w hv hw e. one_item (Collected v.age) (Collected w.age) v w (λ q z. notes_stand v.age q z) (λ q z. notes_stand w.age q z) (r.items.private.noted id d v at hv) (r.items.private.noted id d w at hw) e)

      -- what is known of a link word is so
      pub tells : (k : ℕ) → TellsLink d k (get_or s.words (link_word plan.sizes k) 0)
      tells k w held e some_ = let l = r.items.links in let known : IsLinked plan.sizes s.words w = ⊎_elim (λ (t : Has d.waits w). l.waits id d w at kind t) (λ (t : Has d.collected w). l.notes id d w at t) held in ap (λ z. get_or s.words (link_word plan.sizes z) 0) (sym e) ∙ known some_

      -- what waits and what is in the private bag are in different slots
      bags_apart : (v u : Garbage) → Has d.waits v → Has d.collected u → u.slot ≢ v.slot
      bags_apart v u hv hu = two_slots (Collected u.age) (Retired p v.age) u v (λ q z. notes_stand u.age q z) (λ q z. waits_stand p v.age q z) (λ z. absurd (cc)) (r.items.private.noted id d u at hu) (r.items.waiting id d v at kind hv)

      pub one_linked : (n : ℕ) (xs : List Garbage) (w v : Garbage) (ys : List Garbage) → d.waits ≡ xs ++ (w ∷ v ∷ ys) → linking v.slot n d ≡ record d { waits = xs ++ (w ∷ record v { next = n } ∷ ys) }
      one_linked n xs w v ys is = let there : Has d.waits v = subst (λ (zs : List Garbage). Has zs v) (sym is) (has_mid xs w v ys) in
          let mine : linked_to v.slot n d.waits ≡ xs ++ (w ∷ record v { next = n } ∷ ys) = ap (linked_to v.slot n) is ∙ linked_at v.slot n xs w v ys refl (subst SlotsApart is waits_apart) in
          let others : linked_to v.slot n d.collected ≡ d.collected = linked_none v.slot n d.collected (λ u h. bags_apart v u there h) in λ j. record d { waits = mine j; collected = others j }

      pub one_noted : (n : ℕ) (xs : List Garbage) (w v : Garbage) (ys : List Garbage) → d.collected ≡ xs ++ (w ∷ v ∷ ys) → linking v.slot n d ≡ record d { collected = xs ++ (w ∷ record v { next = n } ∷ ys) }
      one_noted n xs w v ys is = let there : Has d.collected v = subst (λ (zs : List Garbage). Has zs v) (sym is) (has_mid xs w v ys) in
          let mine : linked_to v.slot n d.collected ≡ xs ++ (w ∷ record v { next = n } ∷ ys) = ap (linked_to v.slot n) is ∙ linked_at v.slot n xs w v ys refl (subst SlotsApart is notes_apart) in
          let others : linked_to v.slot n d.waits ≡ d.waits = linked_none v.slot n d.waits (λ u h e. bags_apart u v h there (sym e)) in λ j. record d { waits = others j; collected = mine j }

      module _ (k n : ℕ) (held : HoldsSlot d k) where
        abbrev w : Garbage
        w = held.0

        abbrev word : ℕ
        word = link_word plan.sizes k

        abbrev words' : List ℕ
        words' = set s.words word n

        abbrev d' : Acting
        d' = linking k n d

        abbrev views' : List Acting
        views' = set s.views id d'

        low : k < plan.sizes.slots
        low = let in_slot : (st : ItemState) → ((q : ℕ) → st ≢ Reclaimed q) → HasState r.state.items r.book.slot_of st w → k < plan.sizes.slots =
            (λ st stands h. let t = r.items.standing w.item h.0 h.1 (λ q z. stands q (sym h.2 ∙ z)) in let at_slot : r.book.slot_of w.item ≡ k = h.4 ∙ held.2 in subst (λ z. z < plan.sizes.slots) at_slot t.0) in
            ⊎_elim (λ (t : Has d.waits w). in_slot (Retired p w.age) (λ q z. waits_stand p w.age q z) (r.items.waiting id d w at kind t)) (λ (t : Has d.collected w). in_slot (Collected w.age) (λ q z. notes_stand w.age q z) (r.items.private.noted id d w at t)) held.1

        other_number : (j : ℕ) (z : Acting) → j ≢ id → At s.views j z → z.kind ≡ 1 → z.number ≢ p
        other_number j z other at_j k' same = let a = r.epochs.seats id d at kind in let x = r.epochs.seats j z at_j k' in other (sym x.seated ∙ (ap r.epochs.seat_of same ∙ a.seated))

        -- what another participant has retired, what is in another private bag, and what was left is in other slots
        else_waits : (j : ℕ) (e : Acting) (u : Garbage) → j ≢ id → At s.views j e → e.kind ≡ 1 → Has e.waits u → u.slot ≢ k
        else_waits j e u ne at_j k' has same = let hu = r.items.waiting j e u at_j k' has in let slots : u.slot ≡ w.slot = same ∙ sym held.2 in
            ⊎_elim (λ (t : Has d.waits w). two_slots (Retired e.number u.age) (Retired p w.age) u w (λ q z. waits_stand e.number u.age q z) (λ q z. waits_stand p w.age q z) (λ z. other_number j e ne at_j k' (cc)) hu (r.items.waiting id d w at kind t) slots)
            (λ (t : Has d.collected w). two_slots (Retired e.number u.age) (Collected w.age) u w (λ q z. waits_stand e.number u.age q z) (λ q z. notes_stand w.age q z) (λ z. absurd (cc)) hu (r.items.private.noted id d w at t) slots) held.1

        else_notes : (j : ℕ) (e : Acting) (u : Garbage) → j ≢ id → At s.views j e → Has e.collected u → u.slot ≢ k
        else_notes j e u ne at_j has same = let hu = r.items.private.noted j e u at_j has in let slots : u.slot ≡ w.slot = same ∙ sym held.2 in
            ⊎_elim (λ (t : Has d.waits w). two_slots (Collected u.age) (Retired p w.age) u w (λ q z. notes_stand u.age q z) (λ q z. waits_stand p w.age q z) (λ z. absurd (cc)) hu (r.items.waiting id d w at kind t) slots)
            (λ (t : Has d.collected w). ne (r.items.private.apart j id e d u w at_j at has t (one_item (Collected u.age) (Collected w.age) u w (λ q z. notes_stand u.age q z) (λ q z. notes_stand w.age q z) hu (r.items.private.noted id d w at t) slots))) held.1

        else_left : (q : ℕ) (u : Garbage) → Has (r.book.left q) u → u.slot ≢ k
        else_left q u has same = let hu = r.items.leftovers.waits q u has in let slots : u.slot ≡ w.slot = same ∙ sym held.2 in
            ⊎_elim (λ (t : Has d.waits w). two_slots Waiting (Retired p w.age) u w (λ q' z. left_stands q' z) (λ q' z. waits_stand p w.age q' z) (λ z. absurd (cc)) hu (r.items.waiting id d w at kind t) slots)
            (λ (t : Has d.collected w). two_slots Waiting (Collected w.age) u w (λ q' z. left_stands q' z) (λ q' z. notes_stand w.age q' z) (λ z. absurd (cc)) hu (r.items.private.noted id d w at t) slots) held.1

        elsewhere : (u : Garbage) → u.slot ≢ k → IsLinked plan.sizes s.words u → IsLinked plan.sizes words' u
        elsewhere u ne h = λ some_. get_or-set_other s.words word (link_word plan.sizes u.slot) n 0 (λ z. ne (omega arith)) ∙ h some_

        mine : (ws : List Garbage) (u : Garbage) → ((v : Garbage) → Has ws v → IsLinked plan.sizes s.words v) → Has (linked_to k n ws) u → IsLinked plan.sizes words' u
        mine ws u all has = let t = from_linked k n ws u has in let v = t.0 in subst (IsLinked plan.sizes words') t.2 (dite (ℕ_discrete v.slot k)
            (λ e. λ _. ap (λ z. get_or words' (link_word plan.sizes z) 0) e ∙ (get_or-set_same s.words word n 0 (let long = r.items.long in let few = low in omega arith) ∙ ap (λ b. cond b n v.next) (sym (eq-eqb v.slot k e))))
            (λ ne. λ some_. let keeps_next : cond (v.slot == k) n v.next ≡ v.next = ap (λ b. cond b n v.next) (ne_eqb v.slot k ne) in elsewhere v ne (all v t.1) (λ z. some_ (keeps_next ∙ z)) ∙ sym keeps_next))

        links_now : Links plan.sizes words' r.book.left views'
        links_now = let l = r.items.links in record {
          waits = λ j e u at_j. set_all (λ _ (e' : Acting). e'.kind ≡ 1 → Has e'.waits u → IsLinked plan.sizes words' u) s.views id d' (λ _ h. mine d.waits u (λ v hv. l.waits id d v at kind hv) h)
              (λ j' e' ne here k' h. elsewhere u (else_waits j' e' u ne here k' h) (l.waits j' e' u here k' h)) j e at_j;
          notes = λ j e u at_j. set_all (λ _ (e' : Acting). Has e'.collected u → IsLinked plan.sizes words' u) s.views id d' (λ h. mine d.collected u (λ v hv. l.notes id d v at hv) h)
              (λ j' e' ne here h. elsewhere u (else_notes j' e' u ne here h) (l.notes j' e' u here h)) j e at_j;
          lefts = λ q u h. elsewhere u (else_left q u h) (l.lefts q u h);
        }

        private_now : Private r.state.items r.book.slot_of views'
        private_now = let old = r.items.private in private_new old id d'
            (λ u h. let t = from_linked k n d.collected u h in subst (IsNoted r.state.items r.book.slot_of) t.2 (old.noted id d t.0 at t.1))
            (distinct_linked k n d.collected (old.once id d at))
            (λ j e u _ here h. old.noted j e u here h)
            (λ j e v u ne here hv hu same. let t = from_linked k n d.collected v hv in ne (old.apart j id e d u t.0 here at hu t.1 (sym same ∙ sym (ap (λ (z : Garbage). z.item) t.2))))

        why : (q : ℕ) (l : Lease) → Has (r.book.out q) l → Why r.state (Grip s.views) q l.item → Why r.state (Grip views') q l.item
        why q l _ y = ⊎_elim (λ (t : Loads r.state q l.item). inl t) (λ (g : Grip s.views q l.item). inr (grip_set s.views id d d' at (λ _ _ h. h) q l.item g)) y

        items_now : Items IsIn plan.sizes r.state r.book words' s.homes views'
        items_now = let old = r.items in let c = old.seats id d at kind in let m = parts.stays old.parts r.state.items (Why r.state (Grip views')) (λ i it here. (it, here, refl, refl)) why in record {
          parts = record { full_at = m.full_at; partly_at = m.partly_at; vacant_at = m.vacant_at; leases = m.leases; once = m.once };
          spares = old.spares;
          lying = old.lying;
          standing = old.standing;
          settled = old.settled;
          many = old.many;
          long = length-set s.words word n ∙ old.long;
          cell_words = λ q o at_q. let was = old.cell_words q o at_q in let few = at_inside (names_of r.state.cells) q o at_q in let many = old.many in let all = length-map r.state.cells (λ (z : Cell). z.names) in (was.0, was.1, get_or-set_other s.words word (cell_word plan.sizes q) n 0 (λ z. omega arith) ∙ was.2);
          slot_words = λ q i it lq is at_i. get_or-set_other s.words word (slot_word plan.sizes q) n 0 (λ z. omega arith) ∙ old.slot_words q i it lq is at_i;
          vacancies = λ q lq none_. old.vacancies q lq (sym (get_or-set_other s.words word (slot_word plan.sizes q) n 0 (λ z. omega arith)) ∙ none_);
          alone = old.alone;
          free = λ q small some_. let same = get_or-set_other s.words word (claim_word q) n 0 (λ z. omega arith) in let t = old.free q small (λ z. some_ (same ∙ z)) in (t.0, same ∙ t.1, t.2);
          hands = λ i it at_i. let h = owned_set owners_in_hand i s.views id d d' at in let g = old.hands i it at_i in omega arith;
          owners = λ j e o at_j has. set_all (λ _ (e' : Acting). Has e'.hand o → Owns r.state.items r.book.slot_of o) s.views id d' (λ h. old.owners id d o at h) (λ j' e' _ here h. old.owners j' e' o here h) j e at_j has;
          given = old.given;
          waiting = waits_set old r.state.items id d' (λ u _ h. let t = from_linked k n d.waits u h in subst (IsWaiting r.state.items r.book.slot_of p) t.2 (old.waiting id d t.0 at kind t.1)) (λ j e u _ here k' h. old.waiting j e u here k' h);
          leftovers = old.leftovers;
          private = private_now;
          links = links_now;
          seats = λ j e at_j k'. set_all (λ _ (e' : Acting). e'.kind ≡ 1 → Carries plan.sizes r.book e') s.views id d' (λ _. record { sizes_are = c.sizes_are; leases = c.leases; spare = c.spare; fills = c.fills; distinct = distinct_linked k n d.waits c.distinct; left = c.left }) (λ j' e' _ here k''. old.seats j' e' here k'') j e at_j k';
        }

        written : Writes (length r.state.participants) p s.words words' (shown d'.known.phase)
        written = let a = r.epochs.seats id d at kind in let small = at_inside r.state.participants p d.known a.is in let many = r.epochs.many in record {
          long = length-set s.words word n;
          count = get_or-set_other s.words word 0 n 0 (λ z. omega arith);
          lock = get_or-set_other s.words word 8 n 0 (λ z. omega arith);
          claims = λ q few. get_or-set_other s.words word (claim_word q) n 0 (λ z. omega arith);
          others = λ q few _. get_or-set_other s.words word (state_word q) n 0 (λ z. omega arith);
          mine = get_or-set_other s.words word (state_word p) n 0 (λ z. omega arith) ∙ r.epochs.states p d.known a.is;
        }

        pub shown_link : Shows IsIn plan record { words = words'; homes = s.homes; views = views' }
        shown_link = items_change S IsIn plan s r id d d' r.state words' s.homes r.book at kind refl refl refl refl ([], refl) refl refl written (lefts_behind r.lefts word n (omega arith)) items_now

  pub loads_link : (slots id k : ℕ) (me : Me S Acting) → me.0.kind ≡ 1 → me.0.sizes ≡ plan.sizes → Allows (Shows IsIn plan) slots id me (link_word plan.sizes k) (λ m. m) (load_link_then (step slots (link_word plan.sizes k) 0 0 none) me)
  loads_link slots id k me kind sizes s r _ at _ = (
    me.0,
    keeps,
    tt,
    idles S IsIn plan s r (link_word plan.sizes k) id me.0 at,
    (refl, waits_apart s r id me.0 at kind, notes_apart s r id me.0 at kind, λ k' e. let words : link_word plan.sizes k ≡ link_word plan.sizes k' = e ∙ ap (λ (z : Sizes). link_word z k') sizes in let same : k' ≡ k = omega arith in subst (λ z. TellsLink me.0 z (get_or s.words (link_word plan.sizes k) 0)) (sym same) (tells s r id me.0 at kind k)),
  )

  -- the same of two that came into a bag one after the other
  pub follows_link : (slots id : ℕ) (me : Me S Acting) (xs : List Garbage) (w v : Garbage) (ys : List Garbage) → me.0.kind ≡ 1 → me.0.sizes ≡ plan.sizes → me.0.waits ≡ xs ++ (w ∷ v ∷ ys)
      → Allows (Shows IsIn plan) slots id me (link_word plan.sizes v.slot) (λ _. suc w.slot) (λ _. follow_then (step slots (link_word plan.sizes v.slot) (suc w.slot) 0 none) me (suc w.slot))
  follows_link slots id me xs w v ys kind sizes is s r _ at _ = let there : Has me.0.waits v = subst (λ (zs : List Garbage). Has zs v) (sym is) (has_mid xs w v ys) in (
    linking v.slot (suc w.slot) me.0,
    keeps,
    tt,
    shown_link s r id me.0 at kind v.slot (suc w.slot) (v, inl there, refl),
    λ xs' w' v' ys' is' word first. let words : link_word plan.sizes v.slot ≡ link_word plan.sizes v'.slot = word ∙ ap (λ (z : Sizes). link_word z v'.slot) sizes in let same : v.slot ≡ v'.slot = omega arith in
        λ j. ((ap (λ k. linking k (suc w.slot) me.0) same ∙ (ap (λ n. linking v'.slot n me.0) first ∙ one_linked s r id me.0 at kind (suc w'.slot) xs' w' v' ys' is')) j, me.1),
  )

  -- the same in a private bag
  pub follows_noted : (slots id : ℕ) (me : Me S Acting) (xs : List Garbage) (w v : Garbage) (ys : List Garbage) → me.0.kind ≡ 1 → me.0.sizes ≡ plan.sizes → me.0.collected ≡ xs ++ (w ∷ v ∷ ys)
      → Allows (Shows IsIn plan) slots id me (link_word plan.sizes v.slot) (λ _. suc w.slot) (λ _. follow_noted_then (step slots (link_word plan.sizes v.slot) (suc w.slot) 0 none) me (suc w.slot))
  follows_noted slots id me xs w v ys kind sizes is s r _ at _ = let there : Has me.0.collected v = subst (λ (zs : List Garbage). Has zs v) (sym is) (has_mid xs w v ys) in (
    linking v.slot (suc w.slot) me.0,
    keeps,
    tt,
    shown_link s r id me.0 at kind v.slot (suc w.slot) (v, inr there, refl),
    λ xs' w' v' ys' is' word first. let words : link_word plan.sizes v.slot ≡ link_word plan.sizes v'.slot = word ∙ ap (λ (z : Sizes). link_word z v'.slot) sizes in let same : v.slot ≡ v'.slot = omega arith in
        λ j. ((ap (λ k. linking k (suc w.slot) me.0) same ∙ (ap (λ n. linking v'.slot n me.0) first ∙ one_noted s r id me.0 at kind (suc w'.slot) xs' w' v' ys' is')) j, me.1),
  )
