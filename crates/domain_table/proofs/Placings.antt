-- a filled slot is given to a new item, which holds the items whose owners were in the placer's hand
use Rattle.std.proofs.Common.{◌≡◌, ◌≢◌, ◌&&◌, true, ℕ, suc, ◌+◌, ◌-◌, ◌<◌, ◌≤◌, nat_lt, nat_le, List, [], ◌∷◌, ◌++◌, length, Option, Some, None, get_or, set, sym, refl, ap, ◌∙◌, subst, ⊎_elim, inl, inr, arith, lt-ltb, le-leb, length-set, get_or-set_other, get_or-set_same}
use mathlib.Core.Logic.{dite}
use mathlib.Core.Option as maybe
use mathlib.Core.Option.{some, none}
use native.Mathlib.Decide.{ℕ_discrete}
use lib.ListN.{get_elem?, length-map}
use Rattle.atomic_table.specs.Table as table
use Rattle.atomic_table.specs.Table.{State, Me, step, stepped, gives, Allows}
use Rattle.sdd_plain.specs.declared.sizes.Sizes.{Sizes}
use Rattle.sdd_steps.specs.declared.item.Item.{Item}
use Rattle.sdd_steps.specs.declared.item.Cell.{Cell}
use Rattle.sdd_steps.specs.declared.item.ItemState.{ItemState}
use Rattle.sdd_steps.specs.declared.item.ItemState.TheVariants.{Due, Retired, Collected, Waiting, Reclaimed}
use Rattle.sdd_steps.specs.declared.step.Step.TheVariants.{Place}
use Rattle.sdd_steps.specs.State as steps
use Rattle.sdd_steps.specs.State.{At, Has, times, no_item, item_at, participant_is}
use Rattle.sdd_steps.specs.Steps.{is_ready, all_have_loose_owners, all_alone, paid, new_item}
use Rattle.sdd_steps.specs.Invariant.{names_of}
use Rattle.sdd_steps.proofs.CountLemmas.{points_self, points_other, paid_length, paid_at, placed_all}
use Rattle.sdd_steps.proofs.Enabling.{participant_passes}
use Rattle.sdd_steps.proofs.StepLemmas.{named_there}
use Rattle.sdd_steps.proofs.ListLemmas.{put, put_here, put_else, set_all, at_inside, at_mapped, at_longer, same_at, get_at, has_map}
use Rattle.sdd_homes.specs.declared.Lease.{Lease}
use Rattle.sdd_homes.specs.declared.Owner.{Owner}
use Rattle.sdd_homes.specs.declared.Filling.{Filling}
use Rattle.sdd_homes.specs.declared.Garbage.{Garbage}
use Rattle.sdd_homes.specs.Book.{Content, deed, Stage, vacant, partly, full, home, Book}
use Rattle.sdd_homes.specs.Hands.{items_of, owned}
use Rattle.sdd_homes.specs.Parts.{Parts}
use Rattle.sdd_homes.specs.Reasons.{Loads, Why}
use Rattle.sdd_homes.specs.Lying.{Lying}
use Rattle.sdd_homes.specs.Spares.{Spares}
use Rattle.sdd_homes.proofs.Totals.{home_in}
use Rattle.sdd_homes.proofs.HandLemmas.{owned_set, owned_some, owned_none}
use Rattle.sdd_homes.proofs.LyingLemmas.{gives_low}
use Rattle.sdd_homes.proofs.OwnerLemmas.{alike_placed}
use Rattle.sdd_homes.proofs.SpareLemmas.{Was, stays_kept}
use Rattle.sdd_homes.proofs.PartLemmas as parts
use Rattle.sdd_homes.proofs.Fillings as fillings
use Rattle.domain_table.specs.Layout.{cell_word, slot_word, link_word, claim_word, packed, all_homes, all_spares}
use Rattle.domain_table.specs.Items.{owners_in_hand, code, Grip, Owns, HasState, IsWaiting, Carries, Items, IsGiven}
use Rattle.domain_table.specs.Rule.{Runs, Shows}
use Rattle.domain_table.specs.Plays.{placing, CanPlace, place_then}
use Rattle.domain_table.specs.declared.board.Acting.{Acting}
use Rattle.domain_table.specs.declared.board.Plan.{Plan}
use Rattle.domain_table.proofs.Taken as taken
use Rattle.domain_table.proofs.Taken.{and_true}
use Rattle.domain_table.proofs.Privates.{private_set}
use Rattle.domain_table.proofs.LeftWords.{lefts_behind}
use Rattle.domain_table.proofs.Moves.{items_change, slot_written}
use Rattle.domain_table.proofs.Stirred.{rests_on, still_left, grip_set, links_at}

at_last : {A : Type 0} (l : List A) (a : A) → At (l ++ a ∷ []) (length l) a
at_last [] a = refl
at_last (x ∷ l) a = at_last l a

-- so many owners of each are in hand
loose : (items : List Item) (all l : List ℕ) → ((k : ℕ) → Has l k → (k < length items) × (times k all ≤ (get_or items k no_item).hand)) → all_have_loose_owners items all l ≡ true
loose items all [] each = refl
loose items all (k ∷ ks) each = let here = each k (inl refl) in
    and_true (nat_lt k (length items) && nat_le (times k all) (get_or items k no_item).hand) (all_have_loose_owners items all ks)
    (and_true (nat_lt k (length items)) (nat_le (times k all) (get_or items k no_item).hand) (lt-ltb k (length items) here.0) (le-leb (times k all) (get_or items k no_item).hand here.1))
    (loose items all ks (λ j h. each j (inr h)))

module _ (S : Type 0) (IsIn : Content → S → Type 0) (plan : Plan) where
  abbrev n : ℕ
  n = plan.sizes.participants

  module _ (s : State S Acting) (r : Shows IsIn plan s) (id : ℕ) (d : Acting) (at : get_elem? s.views id ≡ some d) (kind : d.kind ≡ 1) (ready : is_ready d.known ≡ true) (idle : d.releasing ≡ 0) (f : Filling) (fills : d.filling ≡ Some f) (all : f.filled ≡ n) (one : f.left ≡ 1) (u : S) (is_in : IsIn (deed f.round d.hand) u) where
    abbrev p : ℕ
    p = d.number

    abbrev k : ℕ
    k = d.slot

    abbrev i0 : ℕ
    i0 = length r.state.items

    abbrev holds : List ℕ
    holds = items_of d.hand

    abbrev item : Item
    item = new_item f.round holds

    abbrev core : steps.State
    core = record r.state { items = paid holds r.state.items ++ item ∷ [] }

    abbrev d' : Acting
    d' = placing i0 f d

    abbrev owner : Owner
    owner = record { item = i0; slot = k; round = f.round }

    abbrev views' : List Acting
    views' = set s.views id d'

    abbrev stage' : ℕ → Stage
    stage' = put r.book.stage k (full i0)

    abbrev slot_of' : ℕ → ℕ
    slot_of' = put r.book.slot_of i0 k

    abbrev held' : ℕ → List Owner
    held' = put r.book.held k d.hand

    abbrev what' : ℕ → Content
    what' = put r.book.what (home plan.sizes.slots k n) (deed f.round d.hand)

    abbrev book' : Book
    book' = record r.book { stage = stage'; slot_of = slot_of'; held = held'; share = put r.book.share k (r.book.share k); what = what' }

    abbrev homes' : List (maybe.Option S)
    homes' = set s.homes (home plan.sizes.slots k n) (some u)

    abbrev word : ℕ
    word = slot_word plan.sizes k

    abbrev words' : List ℕ
    words' = set s.words word 3

    has : (k < plan.sizes.slots) × (f.by ≡ d.number) × (r.book.stage k ≡ partly f)
    has = (r.items.seats id d at kind).fills f fills

    here : At core.items i0 item
    here = subst (λ (z : ℕ). At core.items z item) (paid_length holds r.state.items) (at_last (paid holds r.state.items) item)

    -- an item that was there isn't the new one
    older : (i : ℕ) (it : Item) → At r.state.items i it → i ≢ i0
    older i it at_i e = let l = at_inside r.state.items i it at_i in omega arith

    was_there : (i : ℕ) (w : Item) → At core.items i w → i ≢ i0 → (it : Item) × At r.state.items i it × (w ≡ record it { hand = it.hand - times i holds })
    was_there = placed_all f.round holds r.state.items (λ i w. i ≢ i0 → (it : Item) × At r.state.items i it × (w ≡ record it { hand = it.hand - times i holds })) (λ ne. absurd (ne refl)) (λ j it at_j _. (it, at_j, refl))

    is_there : (i : ℕ) (it : Item) → At r.state.items i it → At core.items i (record it { hand = it.hand - times i holds })
    is_there i it at_i = at_longer (paid holds r.state.items) (item ∷ []) i (record it { hand = it.hand - times i holds }) (paid_at holds r.state.items i it at_i)

    in_hand_there : (j : ℕ) (e : Acting) (o : Owner) → At s.views j e → Has e.hand o → o.item ≢ i0
    in_hand_there j e o at_j h = let w = r.items.owners j e o at_j h in older o.item w.0 w.1

    named_old : (c : ℕ) (o : Option ℕ) (i : ℕ) → At (names_of r.state.cells) c o → o ≡ Some i → i ≢ i0
    named_old c o i at_c e = let z = at_mapped (λ (q : Cell). q.names) r.state.cells c o at_c in let t = named_there r.state r.kept.0 r.kept.1.0 r.kept.1.1 r.kept.1.2 c z.0 i z.1 (z.2 ∙ e) in older i (item_at r.state i) t.0

    -- the step
    enough : (j : ℕ) → Has holds j → (j < i0) × (times j holds ≤ (get_or r.state.items j no_item).hand)
    enough j h = let o = has_map (λ (z : Owner). z.item) d.hand j h in let w = r.items.owners id d o.0 at o.1 in let at_j = subst (λ z. At r.state.items z w.0) o.2 w.1 in
        let hand = r.items.hands j w.0 at_j in let some_ = owned_some owners_in_hand j s.views id d at in let read = ap (λ (z : Item). z.hand) (get_at r.state.items j no_item w.0 at_j) in let low = at_inside r.state.items j w.0 at_j in (low, omega arith)

    runs : Runs r.state core
    runs = let a = r.epochs.seats id d at kind in taken.one r.state (Place p f.round holds []) core (
      and_true (participant_is is_ready r.state p && all_have_loose_owners r.state.items holds holds) (all_alone r.state.cells [])
          (and_true (participant_is is_ready r.state p) (all_have_loose_owners r.state.items holds holds) (participant_passes is_ready r.state p d.known a.is ready) (loose r.state.items holds holds enough)) refl,
      refl,
    )

    reasons : (q : ℕ) (l : Lease) → Has (r.book.out q) l → Why r.state (Grip s.views) q l.item → Why core (Grip views') q l.item
    reasons q l _ = ⊎_elim (λ (t : Loads r.state q l.item). inl t) (λ (g : Grip s.views q l.item). inr (grip_set s.views id d d' at (λ _ _ h. let z = h.2 in absurd (omega arith)) q l.item g))

    unplaced : (i : ℕ) → r.book.stage k ≢ full i
    unplaced i e = let bad : partly f ≡ full i = sym has.2 ∙ e in absurd (cc)

    counted : Parts n plan.sizes.slots core.items (Why core (Grip views')) book'
    counted = subst (λ (hs : List Owner). Parts n plan.sizes.slots core.items (Why core (Grip views')) (record book' { what = put r.book.what (home plan.sizes.slots k n) (deed f.round hs) })) (put_here r.book.held k d.hand)
        (fillings.places (parts.stays (fillings.reholds (fillings.renames r.items.parts i0 k (λ m l e. let g = r.items.parts.full_at m i0 l e in older i0 g.it g.here refl)) k d.hand unplaced) core.items (Why core (Grip views')) (alike_placed f.round holds r.state.items) reasons)
        k f has.0 has.2 i0 item all here refl (sym one) (put_here r.book.slot_of i0 k))

    was : (i c : ℕ) → At (names_of r.state.cells) c (Some i) → Was r.state.items core.items i
    was i c at_c w at_w = let t = was_there i w at_w (named_old c (Some i) i at_c refl) in (t.0, t.1, ap (λ (z : Item). z.value) t.2)

    spares_now : Spares plan.sizes.cells n (names_of r.state.cells) core.items book'
    spares_now = let y = stays_kept r.items.spares core.items was in record { users = y.users; range = y.range; kept = y.kept }

    lies : Lying IsIn (all_homes plan.sizes) (all_spares plan.sizes) what' r.book.extra homes'
    lies = gives_low r.items.lying (home plan.sizes.slots k n) (deed f.round d.hand) u (home_in n plan.sizes.slots k n has.0 (omega arith)) is_in

    stands : (i : ℕ) (w : Item) → At core.items i w → ((q : ℕ) → w.state ≢ Reclaimed q) → (slot_of' i < plan.sizes.slots) × (stage' (slot_of' i) ≡ full i)
    stands = placed_all f.round holds r.state.items (λ i w. ((q : ℕ) → w.state ≢ Reclaimed q) → (slot_of' i < plan.sizes.slots) × (stage' (slot_of' i) ≡ full i))
        (λ _. let e = put_here r.book.slot_of i0 k in (subst (λ z. z < plan.sizes.slots) (sym e) has.0, ap stage' e ∙ put_here r.book.stage k (full i0)))
        (λ j it at_j alive. let t = r.items.standing j it at_j alive in let e = put_else r.book.slot_of i0 k j (older j it at_j) in (
          subst (λ z. z < plan.sizes.slots) (sym e) t.0,
          ap stage' e ∙ (put_else r.book.stage k (full i0) (r.book.slot_of j) (λ same. let bad : partly f ≡ full j = sym has.2 ∙ (ap r.book.stage (sym same) ∙ t.1) in absurd (cc)) ∙ t.1),
        ))

    settles : (i : ℕ) (w : Item) (q : ℕ) → At core.items i w → w.state ≢ Due q
    settles i w q at_i = placed_all f.round holds r.state.items (λ _ z. z.state ≢ Due q) (λ e. absurd (cc)) (λ j it at_j. r.items.settled j it q at_j) i w at_i

    code_same : (c : ℕ) (o : Option ℕ) → At (names_of r.state.cells) c o → code r.book.slot_of o ≡ code slot_of' o
    code_same c None _ = refl
    code_same c (Some i) at_c = ap suc (sym (put_else r.book.slot_of i0 k i (named_old c (Some i) i at_c refl)))

    slots_now : (m i : ℕ) (w : Item) → m < plan.sizes.slots → stage' m ≡ full i → At core.items i w → get_or words' (slot_word plan.sizes m) 0 ≡ 2 + w.owners
    slots_now m i w lm is_m at_i = let long = r.items.long in let low = has.0 in dite (ℕ_discrete m k)
        (λ e. let both : full i0 ≡ full i = sym (ap stage' e ∙ put_here r.book.stage k (full i0)) ∙ is_m in let same : i ≡ i0 = cc in let w_is : w ≡ item = same_at core.items i0 w item (subst (λ z. At core.items z w) same at_i) here in
        ap (λ z. get_or words' (slot_word plan.sizes z) 0) e ∙ (get_or-set_same s.words word 3 0 (omega arith) ∙ ap (λ (z : Item). 2 + z.owners) (sym w_is)))
        (λ ne. let is_old = sym (put_else r.book.stage k (full i0) m ne) ∙ is_m in let g = r.items.parts.full_at m i lm is_old in let t = was_there i w at_i (older i g.it g.here) in
        get_or-set_other s.words word (slot_word plan.sizes m) 3 0 (λ e. ne (omega arith)) ∙ (r.items.slot_words m i t.0 lm is_old t.1 ∙ ap (λ (z : Item). 2 + z.owners) (sym t.2)))

    vacancies_now : (m : ℕ) → m < plan.sizes.slots → get_or words' (slot_word plan.sizes m) 0 ≡ 0 → stage' m ≡ vacant
    vacancies_now m lm empty = let long = r.items.long in let low = has.0 in dite (ℕ_discrete m k)
        (λ e. let now = ap (λ z. get_or words' (slot_word plan.sizes z) 0) e ∙ get_or-set_same s.words word 3 0 (omega arith) in absurd (omega arith))
        (λ ne. put_else r.book.stage k (full i0) m ne ∙ r.items.vacancies m lm (sym (get_or-set_other s.words word (slot_word plan.sizes m) 3 0 (λ e. ne (omega arith))) ∙ empty))

    none_new : owned owners_in_hand i0 s.views ≡ 0
    none_new = owned_none owners_in_hand i0 s.views (λ j e o at_j h. in_hand_there j e o at_j h)

    hands_now : (i : ℕ) (w : Item) → At core.items i w → w.hand ≡ owned owners_in_hand i views'
    hands_now = placed_all f.round holds r.state.items (λ i w. w.hand ≡ owned owners_in_hand i views')
        (let g = owned_set owners_in_hand i0 s.views id d d' at in let z = none_new in let mine = owned_some owners_in_hand i0 s.views id d at in let self = points_self i0 in omega arith)
        (λ j it at_j. let g = owned_set owners_in_hand j s.views id d d' at in let old = r.items.hands j it at_j in let mine = owned_some owners_in_hand j s.views id d at in let other = points_other j i0 (λ e. older j it at_j (sym e)) in omega arith)

    owns_on : (o : Owner) → Owns r.state.items r.book.slot_of o → Owns core.items slot_of' o
    owns_on o w = (record w.0 { hand = w.0.hand - times o.item holds }, is_there o.item w.0 w.1, w.2, put_else r.book.slot_of i0 k o.item (older o.item w.0 w.1) ∙ w.3)

    given_now : (i : ℕ) (w : Item) → At core.items i w → ((q : ℕ) → w.state ≢ Reclaimed q) → IsGiven core.items slot_of' (held' (slot_of' i)) w
    given_now = placed_all f.round holds r.state.items (λ i w. ((q : ℕ) → w.state ≢ Reclaimed q) → IsGiven core.items slot_of' (held' (slot_of' i)) w)
        (λ _. subst (λ (hs : List Owner). IsGiven core.items slot_of' hs item) (sym (ap held' (put_here r.book.slot_of i0 k) ∙ put_here r.book.held k d.hand)) (refl, λ o h. owns_on o (r.items.owners id d o at h)))
        (λ j it at_j alive. let t = r.items.standing j it at_j alive in let g = r.items.given j it at_j alive in let e = put_else r.book.slot_of i0 k j (older j it at_j) in
        subst (λ (hs : List Owner). IsGiven core.items slot_of' hs (record it { hand = it.hand - times j holds })) (sym (ap held' e ∙ put_else r.book.held k d.hand (r.book.slot_of j) (λ same. unplaced j (ap r.book.stage (sym same) ∙ t.1)))) (g.0, λ o h. owns_on o (g.1 o h)))

    seats_now : (j : ℕ) (e : Acting) → At views' j e → e.kind ≡ 1 → Carries plan.sizes book' e
    seats_now = set_all (λ _ e. e.kind ≡ 1 → Carries plan.sizes book' e) s.views id d'
        (λ _. let b = r.items.seats id d at kind in record { sizes_are = b.sizes_are; leases = b.leases; spare = b.spare; fills = λ g e. absurd (cc); distinct = b.distinct; left = b.left })
        (λ j e other e_at e_kind. let b = r.items.seats j e e_at e_kind in let a = r.epochs.seats id d at kind in let x = r.epochs.seats j e e_at e_kind in
        let apart : (g : Filling) → r.book.stage e.slot ≡ partly g → g.by ≡ e.number → e.slot ≢ k = (λ g is by same. let both : partly f ≡ partly g = sym has.2 ∙ (ap r.book.stage (sym same) ∙ is) in let same_f : f ≡ g = cc in
        other (sym x.seated ∙ (ap r.epochs.seat_of (sym by ∙ (ap (λ (z : Filling). z.by) (sym same_f) ∙ has.1)) ∙ a.seated))) in
        record { sizes_are = b.sizes_are; leases = b.leases; spare = b.spare; fills = λ g h. let t = b.fills g h in (t.0, t.1, put_else r.book.stage k (full i0) e.slot (apart g t.2 t.1) ∙ t.2); distinct = b.distinct; left = b.left })

    waits_on : (st : ItemState) (w : Garbage) → HasState r.state.items r.book.slot_of st w → HasState core.items slot_of' st w
    waits_on st w h = (record h.0 { hand = h.0.hand - times w.item holds }, is_there w.item h.0 h.1, h.2, h.3, put_else r.book.slot_of i0 k w.item (older w.item h.0 h.1) ∙ h.4)

    waits_now : (j : ℕ) (e : Acting) (w : Garbage) → At views' j e → e.kind ≡ 1 → Has e.waits w → IsWaiting core.items slot_of' e.number w
    waits_now j e w at_j = set_all (λ _ e'. e'.kind ≡ 1 → Has e'.waits w → IsWaiting core.items slot_of' e'.number w) s.views id d' (λ _ h. waits_on (Retired d.number w.age) w (r.items.waiting id d w at kind h)) (λ j' e' _ here k' h. waits_on (Retired e'.number w.age) w (r.items.waiting j' e' w here k' h)) j e at_j

    items_now : Items IsIn plan.sizes core book' words' homes' views'
    items_now = record {
      parts = counted;
      spares = spares_now;
      lying = lies;
      standing = stands;
      settled = settles;
      many = r.items.many;
      long = length-set s.words word 3 ∙ r.items.long;
      cell_words = λ e x at_e. let le = length-map r.state.cells (λ (q : Cell). q.names) in let in_ = at_inside (names_of r.state.cells) e x at_e in let many = r.items.many in let was = r.items.cell_words e x at_e in
          (was.0, was.1, get_or-set_other s.words word (cell_word plan.sizes e) 3 0 (λ z. omega arith) ∙ (was.2 ∙ ap (packed (r.book.spare e) was.0) (code_same e x at_e)));
      slot_words = slots_now;
      vacancies = vacancies_now;
      alone = r.items.alone;
      free = λ q low some_. rests_on r.items words' q low (get_or-set_other s.words word (claim_word q) 3 0 (λ z. omega arith)) some_;
      hands = hands_now;
      owners = λ j e o at_j h. set_all (λ _ e'. Has e'.hand o → Owns core.items slot_of' o) s.views id d' (⊎_elim (λ (e' : owner ≡ o). subst (Owns core.items slot_of') e' (item, here, refl, put_here r.book.slot_of i0 k)) (λ t. absurd t))
          (λ j' e' _ e_at h'. owns_on o (r.items.owners j' e' o e_at h')) j e at_j h;
      given = given_now;
      waiting = waits_now;
      leftovers = still_left r.items.leftovers (waits_on Waiting);
      private = private_set r.items.private (λ w h. waits_on (Collected w.age) w h) id d d' at refl;
      links = links_at r.items words' r.book.left id d' (λ m. get_or-set_other s.words word (link_word plan.sizes m) 3 0 (λ z. let low = has.0 in omega arith)) (λ w _ h. r.items.links.waits id d w at kind h) (λ w h. r.items.links.notes id d w at h) r.items.links.lefts;
      seats = seats_now;
    }

    pub shown_place : Shows IsIn plan record { words = words'; homes = homes'; views = views' }
    shown_place = items_change S IsIn plan s r id d d' core words' homes' book' at kind refl refl refl refl runs refl refl (slot_written S IsIn plan s r id d d' k 3 at kind refl has.0) (lefts_behind r.lefts word 3 (omega arith)) items_now

  pub places_item : (slots id : ℕ) (me : Me S Acting) (f : Filling) (tail : List (ℕ × S)) → me.0.kind ≡ 1 → is_ready me.0.known ≡ true → me.0.releasing ≡ 0 → me.0.sizes ≡ plan.sizes → CanPlace IsIn me f tail
      → Allows (Shows IsIn plan) slots id me (slot_word plan.sizes me.0.slot) (λ _. 3) (place_then IsIn (step slots (slot_word plan.sizes me.0.slot) 3 0 none) me)
  places_item slots id me f tail kind ready idle sizes can s r _ at _ = let d = me.0 in let wide = ap (λ (z : Sizes). z.participants) sizes in let all = can.1 ∙ wide in let u = can.3.0 in let i : ℕ = slot_word plan.sizes d.slot in let d' = placing (length r.state.items) f d in
      let shown = subst (λ (z : Sizes). Shows IsIn plan record { words = set s.words i 3; homes = set s.homes (home z.slots d.slot z.participants) (some u); views = set s.views id d' }) (sym sizes) (shown_place s r id d at kind ready idle f can.0 all can.2 u can.3.1) in (
        d',
        gives,
        tt,
        subst (λ (cs : List (ℕ × S)). Shows IsIn plan (stepped s i 3 id cs d' gives)) (sym can.3.2) shown,
        λ f' tail' can'. let heads : Some f ≡ Some f' = sym can.0 ∙ can'.0 in let same : f ≡ f' = cc in (length r.state.items, λ j. (placing (length r.state.items) (same j) d, (ap table.rest can'.3.2) j)),
      )
