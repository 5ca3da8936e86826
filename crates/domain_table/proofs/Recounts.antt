-- a step on the word of a slot: its item has more owners or fewer, which come from the participant's leased parts or are joined to them
use Rattle.std.proofs.Common.{◌≡◌, ◌≢◌, ◌⊎◌, ℕ, ◌+◌, ◌<◌, List, get_or, set, sym, refl, ap, ◌∙◌, subst, ⊎_elim, arith, length-set, get_or-set_other, get_or-set_same}
use mathlib.Core.Logic.{dite}
use mathlib.Core.Option as maybe
use mathlib.Core.Option.{some}
use native.Mathlib.Decide.{ℕ_discrete}
use lib.ListN.{get_elem?, length-map}
use Rattle.atomic_table.specs.Table.{State}
use Rattle.sdd_steps.specs.declared.item.Item.{Item}
use Rattle.sdd_steps.specs.declared.item.Cell.{Cell}
use Rattle.sdd_steps.specs.declared.item.ItemState.{ItemState}
use Rattle.sdd_steps.specs.declared.item.ItemState.TheVariants.{Live, Due, Retired, Collected, Waiting, Reclaimed}
use Rattle.sdd_steps.specs.State as steps
use Rattle.sdd_steps.specs.State.{At, Has, times}
use Rattle.sdd_steps.specs.Invariant.{names_of}
use Rattle.sdd_steps.proofs.ListLemmas.{set_all, set_here, set_else, at_set, at_inside, same_at}
use Rattle.sdd_homes.specs.declared.Lease.{Lease}
use Rattle.sdd_homes.specs.declared.Owner.{Owner}
use Rattle.sdd_homes.specs.declared.Garbage.{Garbage}
use Rattle.sdd_homes.specs.Book.{Content, vacant, full, Book}
use Rattle.sdd_homes.specs.Hands.{items_of, owned}
use Rattle.sdd_homes.specs.Parts.{Parts}
use Rattle.sdd_homes.specs.Reasons.{Why}
use Rattle.sdd_homes.specs.Lying.{Lying}
use Rattle.sdd_homes.proofs.SpareLemmas.{Was, stays_kept}
use Rattle.sdd_homes.proofs.HandLemmas.{owned_set}
use Rattle.domain_table.specs.Layout.{cell_word, slot_word, link_word, claim_word, all_homes, all_spares}
use Rattle.domain_table.specs.Items.{owners_in_hand, Grip, Owns, HasState, IsWaiting, IsNoted, Private, Carries, Items, Distinct, IsGiven}
use Rattle.domain_table.specs.Rule.{Runs, Shows}
use Rattle.domain_table.specs.declared.board.Acting.{Acting}
use Rattle.domain_table.specs.declared.board.Plan.{Plan}
use Rattle.domain_table.proofs.Privates.{private_new}
use Rattle.domain_table.proofs.LeftWords.{lefts_behind}
use Rattle.domain_table.proofs.Moves.{items_change, slot_written}
use Rattle.domain_table.proofs.Stirred.{rests_on, still_left, waits_set, links_at}

module _ (S : Type 0) (IsIn : Content → S → Type 0) (plan : Plan) (s : State S Acting) (r : Shows IsIn plan s) (id k i : ℕ) (d : Acting) (it it' : Item) (at : get_elem? s.views id ≡ some d) (kind : d.kind ≡ 1)
    (inside : k < plan.sizes.slots) (is : r.book.stage k ≡ full i) (here : At r.state.items i it) (leases' : List Lease) (hand' : List Owner) (releasing' : ℕ) (waits' collected' : List Garbage) (share' : ℕ → ℕ → ℕ) (out' : ℕ → List Lease) (what' : ℕ → Content) (homes' : List (maybe.Option S)) where
  abbrev pub core : steps.State
  core = record r.state { items = set r.state.items i it' }

  abbrev pub d' : Acting
  d' = record d { leases = leases'; hand = hand'; releasing = releasing'; waits = waits'; collected = collected' }

  abbrev pub book' : Book
  book' = record r.book { share = share'; out = out'; what = what' }

  abbrev pub views' : List Acting
  views' = set s.views id d'

  abbrev word : ℕ
  word = slot_word plan.sizes k

  abbrev words' : List ℕ
  words' = set s.words word (2 + it'.owners)

  -- parts are counted with the item as it is after the step, and so are owners in hand
  pub record Recounts : Type 0 where
    pub parts : Parts plan.sizes.participants plan.sizes.slots core.items (Why core (Grip views')) book'
    pub lying : Lying IsIn (all_homes plan.sizes) (all_spares plan.sizes) what' r.book.extra homes'
    pub mine : out' d.number ≡ leases'
    pub others : (q : ℕ) → q ≢ d.number → out' q ≡ r.book.out q
    pub value : it'.value ≡ it.value
    pub settled : (q : ℕ) → it'.state ≢ Due q
    pub hand_here : it'.hand + times i (items_of d.hand) ≡ it.hand + times i (items_of hand')
    pub hand_else : (j : ℕ) → j ≢ i → times j (items_of hand') ≡ times j (items_of d.hand)
    pub owns : (o : Owner) → Has hand' o → Owns r.state.items r.book.slot_of o
    pub alive : it.state ≡ Live
    pub holds : it'.holds ≡ it.holds
    pub distinct : Distinct waits'
    pub waits : (w : Garbage) → Has waits' w → IsWaiting core.items r.book.slot_of d.number w
    pub once : Distinct collected'
    pub old_waits : (w : Garbage) → Has waits' w → Has d.waits w ⊎ (w.next ≡ 0)
    pub old_notes : (w : Garbage) → Has collected' w → Has d.collected w ⊎ (w.next ≡ 0)
    pub noted : (w : Garbage) → Has collected' w → Has d.collected w ⊎ ((w.item ≡ i) × IsNoted core.items r.book.slot_of w)

  -- the item has an owner, so nobody has retired it
  state_else : it.state ≡ Live → (st : ItemState) (w : Garbage) → Live ≢ st → HasState r.state.items r.book.slot_of st w → HasState core.items r.book.slot_of st w
  state_else alive st w dead h = let ne : w.item ≢ i = (λ e. let same : h.0 ≡ it = same_at r.state.items i h.0 it (subst (λ m. At r.state.items m h.0) e h.1) here in dead (sym alive ∙ (ap (λ (z : Item). z.state) (sym same) ∙ h.2))) in
      (h.0, set_else r.state.items i w.item it' ne ∙ h.1, h.2, h.3, h.4)

  pub waits_else : it.state ≡ Live → (q : ℕ) (w : Garbage) → IsWaiting r.state.items r.book.slot_of q w → IsWaiting core.items r.book.slot_of q w
  waits_else alive q w h = state_else alive (Retired q w.age) w (λ e. absurd (cc)) h

  module _ (c : Recounts) where
    slot_is : r.book.slot_of i ≡ k
    slot_is = (r.items.parts.full_at k i inside is).slot

    was : (j : ℕ) → Was r.state.items core.items j
    was j w at_j = ⊎_elim (λ (h : (j ≡ i) × (it' ≡ w)). (it, subst (λ q. At r.state.items q it) (sym h.0) here, ap (λ (z : Item). z.value) (sym h.1) ∙ c.value)) (λ (h : (j ≢ i) × At r.state.items j w). (w, h.1, refl)) (at_set r.state.items i j it' w at_j)

    owns_on : (o : Owner) → Owns r.state.items r.book.slot_of o → Owns core.items r.book.slot_of o
    owns_on o h = dite (ℕ_discrete o.item i)
        (λ e. let same : h.0 ≡ it = same_at r.state.items i h.0 it (subst (λ j. At r.state.items j h.0) e h.1) here in (it', subst (λ j. At core.items j it') (sym e) (set_here r.state.items i it' it here), c.value ∙ (ap (λ (z : Item). z.value) (sym same) ∙ h.2), h.3))
        (λ ne. (h.0, set_else r.state.items i o.item it' ne ∙ h.1, h.2, h.3))

    stands : (j : ℕ) (w : Item) → At core.items j w → ((q : ℕ) → w.state ≢ Reclaimed q) → (r.book.slot_of j < plan.sizes.slots) × (r.book.stage (r.book.slot_of j) ≡ full j)
    stands j w at_j alive = ⊎_elim
        (λ (h : (j ≡ i) × (it' ≡ w)). subst (λ z. (r.book.slot_of z < plan.sizes.slots) × (r.book.stage (r.book.slot_of z) ≡ full z)) (sym h.0) (subst (λ z. z < plan.sizes.slots) (sym slot_is) inside, ap r.book.stage slot_is ∙ is))
        (λ (h : (j ≢ i) × At r.state.items j w). r.items.standing j w h.1 alive) (at_set r.state.items i j it' w at_j)

    slots_now : (m j : ℕ) (w : Item) → m < plan.sizes.slots → r.book.stage m ≡ full j → At core.items j w → get_or words' (slot_word plan.sizes m) 0 ≡ 2 + w.owners
    slots_now m j w lm is_m at_j = let g = (r.items.parts.full_at m j lm is_m).slot in let long = r.items.long in ⊎_elim
        (λ (h : (j ≡ i) × (it' ≡ w)). let same : m ≡ k = sym g ∙ (ap r.book.slot_of h.0 ∙ slot_is) in ap (λ z. get_or words' (slot_word plan.sizes z) 0) same ∙ (get_or-set_same s.words word (2 + it'.owners) 0 (omega arith) ∙ ap (λ (z : Item). 2 + z.owners) h.1))
        (λ (h : (j ≢ i) × At r.state.items j w). let ne : m ≢ k = (λ e. let two : full j ≡ full i = sym is_m ∙ (ap r.book.stage e ∙ is) in let same : j ≡ i = cc in h.0 same) in
        get_or-set_other s.words word (slot_word plan.sizes m) (2 + it'.owners) 0 (λ e. ne (omega arith)) ∙ r.items.slot_words m j w lm is_m h.1) (at_set r.state.items i j it' w at_j)

    vacancies_now : (m : ℕ) → m < plan.sizes.slots → get_or words' (slot_word plan.sizes m) 0 ≡ 0 → r.book.stage m ≡ vacant
    vacancies_now m lm none = let long = r.items.long in dite (ℕ_discrete m k)
        (λ e. let now = ap (λ z. get_or words' (slot_word plan.sizes z) 0) e ∙ get_or-set_same s.words word (2 + it'.owners) 0 (omega arith) in absurd (omega arith))
        (λ ne. r.items.vacancies m lm (sym (get_or-set_other s.words word (slot_word plan.sizes m) (2 + it'.owners) 0 (λ e. ne (omega arith))) ∙ none))

    given_now : (j : ℕ) (w : Item) → At core.items j w → ((q : ℕ) → w.state ≢ Reclaimed q) → IsGiven core.items r.book.slot_of (r.book.held (r.book.slot_of j)) w
    given_now j w at_j alive = ⊎_elim
        (λ (h : (j ≡ i) × (it' ≡ w)). let g = r.items.given i it here (λ q e. let bad : Live ≡ Reclaimed q = sym c.alive ∙ e in absurd (cc)) in subst (λ (z : ℕ × Item). IsGiven core.items r.book.slot_of (r.book.held (r.book.slot_of z.0)) z.1) (λ m. (sym h.0 m, h.1 m)) (g.0 ∙ sym c.holds, λ o t. owns_on o (g.1 o t)))
        (λ (h : (j ≢ i) × At r.state.items j w). let g = r.items.given j w h.1 alive in (g.0, λ o t. owns_on o (g.1 o t))) (at_set r.state.items i j it' w at_j)

    hands_now : (j : ℕ) (w : Item) → At core.items j w → w.hand ≡ owned owners_in_hand j views'
    hands_now j w at_j = let g = owned_set owners_in_hand j s.views id d d' at in ⊎_elim
        (λ (h : (j ≡ i) × (it' ≡ w)). let old = r.items.hands j it (subst (λ q. At r.state.items q it) (sym h.0) here) in let e = ap (λ (z : Item). z.hand) h.1 in let own = subst (λ q. it'.hand + times q (items_of d.hand) ≡ it.hand + times q (items_of hand')) (sym h.0) c.hand_here in omega arith)
        (λ (h : (j ≢ i) × At r.state.items j w). let old = r.items.hands j w h.1 in let own = c.hand_else j h.0 in omega arith) (at_set r.state.items i j it' w at_j)

    notes_else : (w : Garbage) → IsNoted r.state.items r.book.slot_of w → IsNoted core.items r.book.slot_of w
    notes_else w h = state_else c.alive (Collected w.age) w (λ e. absurd (cc)) h

    -- what is in a private bag has no owner
    owned_apart : (w : Garbage) → IsNoted r.state.items r.book.slot_of w → w.item ≢ i
    owned_apart w h e = let same : h.0 ≡ it = same_at r.state.items i h.0 it (subst (λ m. At r.state.items m h.0) e h.1) here in let bad : Live ≡ Collected w.age = sym c.alive ∙ (ap (λ (z : Item). z.state) (sym same) ∙ h.2) in absurd (cc)

    private_now : Private core.items r.book.slot_of views'
    private_now = private_new r.items.private id d' (λ w has. ⊎_elim (λ (t : Has d.collected w). notes_else w (r.items.private.noted id d w at t)) (λ (t : (w.item ≡ i) × IsNoted core.items r.book.slot_of w). t.1) (c.noted w has)) c.once
        (λ j e w _ e_at has. notes_else w (r.items.private.noted j e w e_at has))
        (λ j e v w other e_at has_v has_w same. ⊎_elim (λ (t : Has d.collected v). other (r.items.private.apart j id e d w v e_at at has_w t (sym same)))
        (λ (t : (v.item ≡ i) × IsNoted core.items r.book.slot_of v). owned_apart w (r.items.private.noted j e w e_at has_w) (sym same ∙ t.0)) (c.noted v has_v))

    seats_now : (j : ℕ) (e : Acting) → At views' j e → e.kind ≡ 1 → Carries plan.sizes book' e
    seats_now = set_all (λ _ e. e.kind ≡ 1 → Carries plan.sizes book' e) s.views id d' (λ _. let b = r.items.seats id d at kind in record { sizes_are = b.sizes_are; leases = c.mine; spare = b.spare; fills = b.fills; distinct = c.distinct; left = b.left })
        (λ j e other e_at e_kind. let b = r.items.seats j e e_at e_kind in let a = r.epochs.seats id d at kind in let x = r.epochs.seats j e e_at e_kind in
        record { sizes_are = b.sizes_are; leases = c.others e.number (λ same. other (sym x.seated ∙ (ap r.epochs.seat_of same ∙ a.seated))) ∙ b.leases; spare = b.spare; fills = b.fills; distinct = b.distinct; left = b.left })

    items_now : Items IsIn plan.sizes core book' words' homes' views'
    items_now = let y = stays_kept r.items.spares core.items (λ j _ _. was j) in let a = r.epochs.seats id d at kind in record {
      parts = c.parts;
      spares = record { users = y.users; range = y.range; kept = y.kept };
      lying = c.lying;
      standing = stands;
      settled = λ j w q at_j e. ⊎_elim (λ (h : (j ≡ i) × (it' ≡ w)). c.settled q (ap (λ (z : Item). z.state) h.1 ∙ e)) (λ (h : (j ≢ i) × At r.state.items j w). r.items.settled j w q h.1 e) (at_set r.state.items i j it' w at_j);
      many = r.items.many;
      long = length-set s.words word (2 + it'.owners) ∙ r.items.long;
      cell_words = λ e x at_e. let le = length-map r.state.cells (λ (q : Cell). q.names) in let in_ = at_inside (names_of r.state.cells) e x at_e in let many = r.items.many in let was = r.items.cell_words e x at_e in (was.0, was.1, get_or-set_other s.words word (cell_word plan.sizes e) (2 + it'.owners) 0 (λ z. omega arith) ∙ was.2);
      slot_words = slots_now;
      vacancies = vacancies_now;
      alone = r.items.alone;
      free = λ p low some_. let same = get_or-set_other s.words word (claim_word p) (2 + it'.owners) 0 (λ z. omega arith) in let t = rests_on r.items words' p low same some_ in
          (c.others p (λ e. some_ (same ∙ (ap (λ z. get_or s.words (claim_word z) 0) e ∙ a.claimed))) ∙ t.0, t.1, t.2);
      hands = hands_now;
      owners = λ j e o at_j has. set_all (λ _ e'. Has e'.hand o → Owns core.items r.book.slot_of o) s.views id d' (λ h. owns_on o (c.owns o h)) (λ j' e' _ e_at h. owns_on o (r.items.owners j' e' o e_at h)) j e at_j has;
      given = given_now;
      waiting = waits_set r.items core.items id d' (λ w _ h. c.waits w h) (λ j e w _ e_at k' h. waits_else c.alive e.number w (r.items.waiting j e w e_at k' h));
      leftovers = still_left r.items.leftovers (λ w h. state_else c.alive Waiting w (λ e. absurd (cc)) h);
      private = private_now;
      links = links_at r.items words' r.book.left id d' (λ m. get_or-set_other s.words word (link_word plan.sizes m) (2 + it'.owners) 0 (λ z. omega arith))
          (λ w _ h. ⊎_elim (λ (t : Has d.waits w). r.items.links.waits id d w at kind t) (λ (none : w.next ≡ 0). λ some_. absurd (some_ none)) (c.old_waits w h))
          (λ w h. ⊎_elim (λ (t : Has d.collected w). r.items.links.notes id d w at t) (λ (none : w.next ≡ 0). λ some_. absurd (some_ none)) (c.old_notes w h)) r.items.links.lefts;
      seats = seats_now;
    }

    pub recounted_shown : Runs r.state core → Shows IsIn plan record { words = words'; homes = homes'; views = views' }
    recounted_shown runs = items_change S IsIn plan s r id d d' core words' homes' book' at kind refl refl refl refl runs refl refl (slot_written S IsIn plan s r id d d' k (2 + it'.owners) at kind refl inside) (lefts_behind r.lefts word (2 + it'.owners) (omega arith)) items_now
