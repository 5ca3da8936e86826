-- the swap of a cell is one step: the word, and with it the parts of both owners
use Rattle.std.proofs.Common.{◌≡◌, ◌≢◌, ◌⊎◌, ◌&&◌, ◌||◌, not, is_some, true, ℕ, suc, ◌+◌, ◌<◌, List, length, get_or, set, sym, refl, ap, ◌∙◌, subst, ⊎_elim, inl, inr, arith, Option, None, Some, length-set, get_or-set_other, get_or-set_same, lt-ltb}
use mathlib.Core.Option as maybe
use mathlib.Core.Option.{some, none}
use lib.ListN.{get_elem?, length-map}
use Rattle.atomic_table.specs.Table.{State}
use Rattle.atomic_table.proofs.Lists.{set_again}
use Rattle.sdd_steps.specs.declared.participant.Participant.{Participant}
use Rattle.sdd_steps.specs.declared.item.Item.{Item}
use Rattle.sdd_steps.specs.declared.item.ItemState.{ItemState}
use Rattle.sdd_steps.specs.declared.item.ItemState.TheVariants.{Retired, Collected, Waiting}
use Rattle.sdd_steps.specs.declared.item.Cell.{Cell}
use Rattle.sdd_steps.specs.declared.step.Step.TheVariants.{SwapCell}
use Rattle.sdd_steps.specs.State as steps
use Rattle.sdd_steps.specs.State.{At, Has, times, cell_at, cell_is, participant_is}
use Rattle.sdd_steps.specs.Steps.{LeadsTo, is_ready, is_reachable, is_within, is_offered, has_loose_owner, stands_alone, emptied, filled}
use Rattle.sdd_steps.specs.Invariant.{names_of, points}
use Rattle.sdd_steps.proofs.Enabling.{participant_passes, cell_passes, item_passes}
use Rattle.sdd_homes.specs.declared.Owner.{Owner}
use Rattle.sdd_homes.specs.declared.Garbage.{Garbage}
use Rattle.sdd_homes.specs.Book.{Content, away, part}
use Rattle.sdd_homes.specs.Hands.{items_of, owned}
use Rattle.sdd_homes.proofs.SwapLemmas.{long_swapped}
use Rattle.sdd_steps.specs.Invariant.{Inv}
use Rattle.sdd_steps.proofs.ListLemmas.{put, set_all, at_set, at_inside, at_map, same_at}
use Rattle.sdd_homes.specs.declared.Lease.{Lease}
use Rattle.sdd_homes.specs.Book.{Book}
use Rattle.sdd_homes.specs.Reasons.{Loads, Why}
use Rattle.sdd_homes.specs.Spares.{IsKept, Spares}
use Rattle.sdd_homes.specs.Parts.{Parts}
use Rattle.sdd_homes.specs.Lying.{Lying}
use Rattle.sdd_homes.proofs.LyingLemmas.{gives_high, takes_high}
use Rattle.sdd_homes.proofs.PartLemmas as parts
use Rattle.sdd_homes.proofs.SwapLemmas.{Handy, handy_swapped, handy_back, hand_swapped, names_swapped, alone_swapped}
use Rattle.sdd_homes.proofs.SpareLemmas.{Was, exchanged, spare_of_user, spare_of_cell, spare_of_others, extra_of_others, swapped}
use Rattle.sdd_homes.proofs.HandLemmas.{owned_set, owned_some, mine_some}
use Rattle.domain_table.specs.Layout.{cell_word, slot_word, link_word, claim_word, state_word, all_homes, all_spares, packed, Tells}
use Rattle.domain_table.specs.Items.{owners_in_hand, code, Grip, Owns, HasState, IsWaiting, Carries, Items}
use Rattle.domain_table.specs.Owners.{item_of, slot_code, part_of, besides}
use Rattle.domain_table.specs.Rule.{Runs, Shows}
use Rattle.domain_table.specs.declared.board.Acting.{Acting}
use Rattle.domain_table.specs.declared.board.Plan.{Plan}
use Rattle.domain_table.proofs.Privates.{private_set}
use Rattle.domain_table.proofs.Moves.{moved, own_inside}
use Rattle.domain_table.proofs.Stirred.{rests_on, still_left, grip_set, waits_set, links_at}
use Rattle.domain_table.proofs.Taken as taken
use Rattle.domain_table.proofs.Taken.{and_true, or_left}
use Rattle.domain_table.proofs.LeftWords.{lefts_behind}

pub besides_times : (i : ℕ) (x : Option Owner) (os : List Owner) → times i (items_of (besides x os)) ≡ points i (item_of x) + times i (items_of os)
besides_times i None os = omega arith
besides_times i (Some o) os = refl

pub part_there : (x : Option Owner) → part_of x ≢ away
part_there None e = absurd (cc)
part_there (Some o) e = absurd (cc)

count_emptied : (s : steps.State) (c : ℕ) (o : Option ℕ) → (emptied s c o).count ≡ s.count
count_emptied s c None = refl
count_emptied s c (Some j) = refl

count_filled : (s : steps.State) (c : ℕ) (o : Option ℕ) → (filled s c o).count ≡ s.count
count_filled s c None = refl
count_filled s c (Some j) = refl

abbrev pub swapped_state : steps.State → ℕ → Option ℕ → steps.State
swapped_state s c new = filled (emptied s c (cell_at s c).names) c new

pub count_swapped : (s : steps.State) (c : ℕ) (new : Option ℕ) → (swapped_state s c new).count ≡ s.count
count_swapped s c new = count_filled (emptied s c (cell_at s c).names) c new ∙ count_emptied s c (cell_at s c).names

offered : (s : steps.State) (new : Option ℕ) → ((i : ℕ) → new ≡ Some i → (it : Item) × At s.items i it × (0 < it.hand)) → is_offered s new ≡ true
offered s None h = refl
offered s (Some i) h = let t = h i refl in item_passes has_loose_owner s i t.0 t.1 (lt-ltb 0 t.0.hand t.2)

-- a cell that stands by itself is swapped by a participant that is ready, which has what it brings in hand
pub swaps_step : (s : steps.State) (p c : ℕ) (new : Option ℕ) (x : Participant) → At s.participants p x → is_ready x ≡ true → (o : Cell) → At s.cells c o → o.holder ≡ None → ((i : ℕ) → new ≡ Some i → (it : Item) × At s.items i it × (0 < it.hand))
    → LeadsTo s (SwapCell p c new) (swapped_state s c new)
swaps_step s p c new x at ready o at_c alone there = (
  and_true (participant_is is_ready s p && cell_is (λ q. is_reachable s q || is_within s p q) s c) (is_offered s new)
      (and_true (participant_is is_ready s p) (cell_is (λ q. is_reachable s q || is_within s p q) s c) (participant_passes is_ready s p x at ready)
      (cell_passes (λ q. is_reachable s q || is_within s p q) s c o at_c (or_left (is_reachable s o) (is_within s p o) (or_left (stands_alone o) _ (ap (λ h. not (is_some h)) alone)))))
      (offered s new there),
  refl,
)

has_besides : (x : Option Owner) (os : List Owner) (o : Owner) → Has os o → Has (besides x os) o
has_besides None os o h = h
has_besides (Some w) os o h = inr h

besides_has : (x : Option Owner) (os : List Owner) (o : Owner) → Has (besides x os) o → (x ≡ Some o) ⊎ Has os o
besides_has None os o h = inr h
besides_has (Some w) os o h = ⊎_elim (λ (e : w ≡ o). inl (ap Some e)) (λ (t : Has os o). inr t) h

is_brought : (x : Option Owner) (os : List Owner) (i : ℕ) → item_of x ≡ Some i → (o : Owner) × Has (besides x os) o × (x ≡ Some o) × (o.item ≡ i)
is_brought None os i e = absurd (cc)
is_brought (Some o) os i e = let same : o.item ≡ i = cc in (o, inl refl, refl, same)

word_of : (slot_of : ℕ → ℕ) (x : Option Owner) → ((o : Owner) → x ≡ Some o → slot_of o.item ≡ o.slot) → slot_code x ≡ code slot_of (item_of x)
word_of slot_of None h = refl
word_of slot_of (Some o) h = ap suc (sym (h o refl))

module _ (S : Type 0) (IsIn : Content → S → Type 0) (plan : Plan) (s : State S Acting) (r : Shows IsIn plan s) (id c : ℕ) (d : Acting) (at : get_elem? s.views id ≡ some d) (kind : d.kind ≡ 1) (ready : is_ready d.known ≡ true) (idle : d.releasing ≡ 0) (lc : c < plan.sizes.cells)
    (new old : Option Owner) (os : List Owner) (brings : d.hand ≡ besides new os) (o : Cell) (at_c : At r.state.cells c o) (names : o.names ≡ item_of old) (was : (w : Owner) → old ≡ Some w → Owns r.state.items r.book.slot_of w) (u : S) (is_in : IsIn (part_of new) u) (tag : ℕ) (few : tag < 4) where
  abbrev n : ℕ
  n = plan.sizes.participants

  abbrev v : ℕ
  v = plan.sizes.cells + d.number

  abbrev t : steps.State
  t = swapped_state r.state c (item_of new)

  abbrev d' : Acting
  d' = record d { spare = r.book.spare c; hand = besides old os }

  abbrev book' : Book
  book' = exchanged r.book c v (part_of new)

  abbrev cw : ℕ
  cw = cell_word plan.sizes c

  abbrev value : ℕ
  value = packed d.spare tag (slot_code new)

  low : d.number < n
  low = let l = at_inside r.state.participants d.number d.known (r.epochs.seats id d at kind).is in let many = r.epochs.many in omega arith

  lv : v < plan.sizes.cells + n
  lv = let l = low in omega arith

  ne : c ≢ v
  ne = λ e. omega arith

  owns : (w : Owner) → Has d.hand w → Owns r.state.items r.book.slot_of w
  owns w has = r.items.owners id d w at has

  brought : (i : ℕ) → item_of new ≡ Some i → (w : Owner) × Has d.hand w × (new ≡ Some w) × (w.item ≡ i)
  brought i e = let b = is_brought new os i e in (b.0, subst (λ (l : List Owner). Has l b.0) (sym brings) b.1, b.2, b.3)

  in_hand : (i : ℕ) → item_of new ≡ Some i → (it : Item) × At r.state.items i it × (0 < it.hand)
  in_hand i e = let b = brought i e in let w = owns b.0 b.1 in let here = subst (λ z. At r.state.items z w.0) b.3 w.1 in let h = r.items.hands i w.0 here in let some_ = owned_some owners_in_hand i s.views id d at in let mine = mine_some owners_in_hand i d b.0 b.1 b.3 in (w.0, here, omega arith)

  runs : Runs r.state t
  runs = taken.one r.state (SwapCell d.number c (item_of new)) t (swaps_step r.state d.number c (item_of new) d.known (r.epochs.seats id d at kind).is ready o at_c (r.items.alone c o at_c) in_hand)

  kept : Inv t
  kept = taken.run_keeps r.state t runs r.kept

  lens : (length t.items ≡ length r.state.items) × (length t.cells ≡ length r.state.cells) × (t.participants ≡ r.state.participants)
  lens = long_swapped r.state c (item_of new)

  ahead : Handy r.state.items t.items
  ahead = handy_swapped r.state c (item_of new)

  back : (i : ℕ) (it' : Item) → At t.items i it' → (it : Item) × At r.state.items i it × (it' ≡ record it { hand = it'.hand })
  back = handy_back r.state.items t.items lens.0 ahead

  same_value : (i : ℕ) → Was r.state.items t.items i
  same_value i it' at_i = let w = back i it' at_i in (w.0, w.1, ap (λ (z : Item). z.value) w.2)

  at_old : At (names_of r.state.cells) c (item_of old)
  at_old = subst (At (names_of r.state.cells) c) names (at_map (λ (z : Cell). z.names) r.state.cells c o at_c)

  owns_on : (w : Owner) → Owns r.state.items r.book.slot_of w → Owns t.items r.book.slot_of w
  owns_on w h = let a = ahead w.item h.0 h.1 in (a.0, a.1, ap (λ (z : Item). z.value) a.2 ∙ h.2, h.3)

  kept_in : IsKept t.items (item_of new) (part_of new)
  kept_in = (elim new as (λ x. new ≡ x → IsKept t.items (item_of x) (part_of x)) [
    | None ↦ λ e. refl
    | Some w ↦ λ e it' at_i. let h = owns w (subst (λ (l : List Owner). Has l w) (sym (brings ∙ ap (λ x. besides x os) e)) (inl refl)) in let b = back w.item it' at_i in
        ap (λ q. part q 1) (sym (ap (λ (z : Item). z.value) b.2 ∙ (ap (λ (z : Item). z.value) (same_at r.state.items w.item b.0 h.0 b.1 h.1) ∙ h.2)))
  ]) refl

  code_is : slot_code new ≡ code r.book.slot_of (item_of new)
  code_is = word_of r.book.slot_of new (λ w e. (owns w (subst (λ (l : List Owner). Has l w) (sym (brings ∙ ap (λ x. besides x os) e)) (inl refl))).3)

  reasons : (q : ℕ) (l : Lease) → Has (r.book.out q) l → Why r.state (Grip s.views) q l.item → Why t (Grip (set s.views id d')) q l.item
  reasons q l _ y = ⊎_elim (λ (w : Loads r.state q l.item). inl (w.0, w.1, w.2, subst (λ ps. At ps q w.0) (sym lens.2) w.3, w.4, w.5, w.6))
      (λ (g : Grip s.views q l.item). inr (grip_set s.views id d d' at (λ q' i h. let one = h.2 in absurd (omega arith)) q l.item g)) y

  abbrev words' : List ℕ
  words' = set s.words cw value

  abbrev homes' : List (maybe.Option S)
  homes' = set (set s.homes (all_homes plan.sizes + d.spare) (some u)) (all_homes plan.sizes + r.book.spare c) none

  lies : Lying IsIn (all_homes plan.sizes) (all_spares plan.sizes) r.book.what book'.extra homes'
  lies = let b = r.items.seats id d at kind in takes_high (subst (λ z. Lying IsIn (all_homes plan.sizes) (all_spares plan.sizes) r.book.what (put r.book.extra (r.book.spare v) (part_of new)) (set s.homes (all_homes plan.sizes + z) (some u))) b.spare
      (gives_high r.items.lying (r.book.spare v) (part_of new) u (let in_ = r.items.spares.range v lv in omega arith) is_in)) (r.book.spare c) (let in_ = r.items.spares.range c (omega arith) in omega arith)

  cells_now : (e : ℕ) (x : Option ℕ) → At (names_of t.cells) e x → Tells (get_or words' (cell_word plan.sizes e) 0) (book'.spare e) (code r.book.slot_of x)
  cells_now e x at_e = let b = r.items.seats id d at kind in let long = r.items.long in ⊎_elim
      (λ (h : (e ≡ c) × (item_of new ≡ x)). subst (λ (q : ℕ × Option ℕ). Tells (get_or words' (cell_word plan.sizes q.0) 0) (book'.spare q.0) (code r.book.slot_of q.1)) (λ j. (sym h.0 j, h.1 j))
      (tag, few, get_or-set_same s.words cw value 0 (omega arith) ∙ (λ j. packed ((sym b.spare ∙ sym (spare_of_cell r.items.spares c v (part_of new) lc lv ne)) j) tag (code_is j))))
      (λ (h : (e ≢ c) × At (names_of r.state.cells) e x). let many = r.items.many in let le = length-map r.state.cells (λ (q : Cell). q.names) in let in_ = at_inside (names_of r.state.cells) e x h.1 in let before = r.items.cell_words e x h.1 in (
        before.0,
        before.1,
        get_or-set_other s.words cw (cell_word plan.sizes e) value 0 (λ z. h.0 (omega arith))
            ∙ (before.2 ∙ ap (λ z. packed z before.0 (code r.book.slot_of x)) (sym (spare_of_others r.items.spares c v (part_of new) lc lv ne e h.0 (λ z. omega arith)))),
      ))
      (at_set (names_of r.state.cells) c e (item_of new) x (subst (λ ns. At ns e x) (names_swapped r.state c (item_of new)) at_e))

  hands_now : (i : ℕ) (it' : Item) → At t.items i it' → it'.hand ≡ owned owners_in_hand i (set s.views id d')
  hands_now i it' at_i = let w = back i it' at_i in let h = hand_swapped r.state c (item_of old) (item_of new) r.kept kept at_old i w.0 it' w.1 at_i in let g = r.items.hands i w.0 w.1 in let e = owned_set owners_in_hand i s.views id d d' at in
      let mine : times i (items_of d.hand) ≡ points i (item_of new) + times i (items_of os) = ap (λ (l : List Owner). times i (items_of l)) brings ∙ besides_times i new os in let mine' = besides_times i old os in omega arith

  owners_now : (j : ℕ) (e : Acting) (w : Owner) → At (set s.views id d') j e → Has e.hand w → Owns t.items r.book.slot_of w
  owners_now j e w at_j has = set_all (λ _ e'. Has e'.hand w → Owns t.items r.book.slot_of w) s.views id d'
      (λ h. owns_on w (⊎_elim (λ (x : old ≡ Some w). was w x) (λ (y : Has os w). owns w (subst (λ (l : List Owner). Has l w) (sym brings) (has_besides new os w y))) (besides_has old os w h)))
      (λ j' e' _ here h. owns_on w (r.items.owners j' e' w here h)) j e at_j has

  seats_now : (j : ℕ) (e : Acting) → At (set s.views id d') j e → e.kind ≡ 1 → Carries plan.sizes book' e
  seats_now = set_all (λ _ e'. e'.kind ≡ 1 → Carries plan.sizes book' e') s.views id d'
      (λ _. let b = r.items.seats id d at kind in record { sizes_are = b.sizes_are; leases = b.leases; spare = spare_of_user r.items.spares c v (part_of new) lc lv ne; fills = b.fills; distinct = b.distinct; left = b.left })
      (λ j' e' other here k. let b = r.items.seats j' e' here k in let a = r.epochs.seats id d at kind in let x = r.epochs.seats j' e' here k in let apart : e'.number ≢ d.number = (λ same. other (sym x.seated ∙ (ap r.epochs.seat_of same ∙ a.seated))) in record {
        sizes_are = b.sizes_are;
        fills = b.fills;
        distinct = b.distinct;
        left = b.left;
        leases = b.leases;
        spare = spare_of_others r.items.spares c v (part_of new) lc lv ne (plan.sizes.cells + e'.number) (λ z. omega arith) (λ z. apart (omega arith)) ∙ b.spare;
      })

  waits_on : (st : ItemState) (w : Garbage) → HasState r.state.items r.book.slot_of st w → HasState t.items r.book.slot_of st w
  waits_on st w h = let a = ahead w.item h.0 h.1 in (a.0, a.1, ap (λ (z : Item). z.state) a.2 ∙ h.2, ap (λ (z : Item). z.value) a.2 ∙ h.3, h.4)

  waits_now : (j : ℕ) (e : Acting) (w : Garbage) → At (set s.views id d') j e → e.kind ≡ 1 → Has e.waits w → IsWaiting t.items r.book.slot_of e.number w
  waits_now = waits_set r.items t.items id d' (λ w _ h. waits_on (Retired d.number w.age) w (r.items.waiting id d w at kind h)) (λ j e w _ here k h. waits_on (Retired e.number w.age) w (r.items.waiting j e w here k h))

  items_now : Items IsIn plan.sizes t book' words' homes' (set s.views id d')
  items_now = record {
    parts = moved_parts;
    spares = subst (λ ns. Spares plan.sizes.cells n ns t.items book') (sym (names_swapped r.state c (item_of new))) (swapped r.items.spares c v (part_of new) lc lv ne (item_of new) t.items (omega arith) kept_in same_value);
    lying = lies;
    standing = λ i it' at_i alive. let w = back i it' at_i in r.items.standing i w.0 w.1 (λ q e. alive q (ap (λ (z : Item). z.state) w.2 ∙ e));
    settled = λ i it' q at_i e. let w = back i it' at_i in r.items.settled i w.0 q w.1 (sym (ap (λ (z : Item). z.state) w.2) ∙ e);
    many = lens.1 ∙ r.items.many;
    long = length-set s.words cw value ∙ r.items.long;
    cell_words = cells_now;
    slot_words = λ k i it' lk is at_i. let w = back i it' at_i in get_or-set_other s.words cw (slot_word plan.sizes k) value 0 (λ z. omega arith) ∙ (r.items.slot_words k i w.0 lk is w.1 ∙ ap (λ (z : Item). 2 + z.owners) (sym w.2));
    vacancies = λ k lk none. r.items.vacancies k lk (sym (get_or-set_other s.words cw (slot_word plan.sizes k) value 0 (λ z. omega arith)) ∙ none);
    alone = alone_swapped r.state c (item_of new) r.items.alone;
    free = λ p low_p some_. let same = get_or-set_other s.words cw (claim_word p) value 0 (λ z. omega arith) in let t = rests_on r.items words' p low_p same some_ in
        let other : p ≢ d.number = (λ e. some_ (same ∙ (ap (λ z. get_or s.words (claim_word z) 0) e ∙ (r.epochs.seats id d at kind).claimed))) in
        (t.0, t.1 ∙ ap suc (sym (spare_of_others r.items.spares c v (part_of new) lc lv ne (plan.sizes.cells + p) (λ z. omega arith) (λ z. other (omega arith)))), extra_of_others r.items.spares c v (part_of new) lc lv ne (plan.sizes.cells + p) (omega arith) (λ z. omega arith) (λ z. other (omega arith)) ∙ t.2);
    hands = hands_now;
    owners = owners_now;
    given = λ i it' at_i alive. let w = back i it' at_i in let g = r.items.given i w.0 w.1 (λ q e. alive q (ap (λ (z : Item). z.state) w.2 ∙ e)) in (g.0 ∙ sym (ap (λ (z : Item). z.holds) w.2), λ o h. owns_on o (g.1 o h));
    waiting = waits_now;
    leftovers = still_left r.items.leftovers (waits_on Waiting);
    private = private_set r.items.private (λ w h. waits_on (Collected w.age) w h) id d d' at refl;
    links = links_at r.items words' r.book.left id d' (λ m. get_or-set_other s.words cw (link_word plan.sizes m) value 0 (λ z. omega arith)) (λ w _ h. r.items.links.waits id d w at kind h) (λ w h. r.items.links.notes id d w at h) r.items.links.lefts;
    seats = seats_now;
  }
    where
      moved_parts : Parts n plan.sizes.slots t.items (Why t (Grip (set s.views id d'))) book'
      moved_parts = let m = parts.stays r.items.parts t.items (Why t (Grip (set s.views id d'))) (λ i it at_i. let w = ahead i it at_i in (w.0, w.1, ap (λ (z : Item). z.value) w.2, ap (λ (z : Item). z.owners) w.2)) reasons in
          record { full_at = m.full_at; partly_at = m.partly_at; vacant_at = m.vacant_at; leases = m.leases; once = m.once }

  pub shown_swap : Shows IsIn plan record { words = words'; homes = homes'; views = set s.views id d' }
  shown_swap = let a = r.epochs.seats id d at kind in let inside = at_inside r.state.participants d.number d.known a.is in let many = r.epochs.many in moved S IsIn plan s r id d d' words' homes' book' (record {
    core = t;
    runs = runs;
    count = count_swapped r.state c (item_of new);
    changed = lens.2 ∙ sym (set_again r.state.participants d.number d.known a.is);
    inside = own_inside S IsIn plan s r id d at kind;
    again = λ e is. inr (is, a.begun e is);
    looks = λ q y e is has other at_q is_q. r.bounded.looks d.number d.known q y e a.is is has at_q is_q;
    still = a.still;
    number = refl;
    scan = λ z. z;
    present = a.present;
  }) at kind (record {
    long = length-set s.words cw value;
    count = get_or-set_other s.words cw 0 value 0 (λ z. omega arith);
    lock = get_or-set_other s.words cw 8 value 0 (λ z. omega arith);
    claims = λ q small. get_or-set_other s.words cw (claim_word q) value 0 (λ z. omega arith);
    others = λ q small _. get_or-set_other s.words cw (state_word q) value 0 (λ z. omega arith);
    mine = get_or-set_other s.words cw (state_word d.number) value 0 (λ z. omega arith) ∙ r.epochs.states d.number d.known a.is;
  }) (lefts_behind r.lefts cw value (omega arith)) items_now
