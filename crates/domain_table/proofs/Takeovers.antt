-- a participant takes over what another one left when it ended, or it itself, by one step on the word that tells it
use Rattle.std.proofs.Common.{◌≡◌, ◌≢◌, ◌⊎◌, true, ℕ, ◌<◌, List, [], ◌∷◌, ◌++◌, zero, suc, length, get_or, set, sym, refl, ap, ◌∙◌, subst, ⊎_elim, inl, inr, arith, length-set, get_or-set_other, get_or-set_same}
use mathlib.Core.Logic.{dite}
use mathlib.Core.Option.{some, none}
use native.Mathlib.Decide.{ℕ_discrete}
use lib.ListN.{get_elem?}
use lib.Seq.{set-get_or}
use Rattle.atomic_table.specs.Table.{State, Me, step, keeps, Allows}
use Rattle.sdd_steps.specs.declared.item.Item.{Item}
use Rattle.sdd_steps.specs.declared.item.ItemState.{ItemState}
use Rattle.sdd_steps.specs.declared.item.ItemState.TheVariants.{Retired, Collected, Waiting, Reclaimed}
use Rattle.sdd_steps.specs.declared.step.Step.TheVariants.{TakeOver}
use Rattle.sdd_steps.specs.State as steps
use Rattle.sdd_steps.specs.State.{At, Has, item_is, participant_is}
use Rattle.sdd_steps.specs.Steps.{is_ready, is_left}
use Rattle.sdd_steps.proofs.Enabling.{participant_passes, item_passes, item_read}
use Rattle.sdd_steps.proofs.ListLemmas.{put, put_here, put_else, put_all, at_set, set_all, set_here, set_else, same_at}
use Rattle.sdd_homes.specs.declared.Garbage.{Garbage}
use Rattle.sdd_homes.specs.Book.{Content, Book}
use Rattle.sdd_homes.specs.Reasons.{Loads}
use Rattle.sdd_homes.proofs.HandLemmas.{owned_set}
use Rattle.domain_table.specs.Chains.{is_threaded, left_code}
use Rattle.domain_table.specs.Layout.{claim_word, left_word, state_word, shown}
use Rattle.domain_table.specs.Items.{owners_in_hand, Grip, Owns, HasState, IsWaiting, IsLeftover, Leftovers, Distinct, IsLinked, Carries, Items}
use Rattle.domain_table.specs.Rule.{Runs, Shows, Lefts}
use Rattle.domain_table.specs.Plays.{taken_all, take_left_then, take_own_then}
use Rattle.domain_table.specs.declared.board.Acting.{Acting}
use Rattle.domain_table.specs.declared.board.Plan.{Plan}
use Rattle.domain_table.proofs.BagLemmas.{and_left, and_right, and_both}
use Rattle.domain_table.proofs.Taken as taken
use Rattle.domain_table.proofs.Taken.{and_true}
use Rattle.domain_table.proofs.Looks.{has_last, has_more}
use Rattle.domain_table.proofs.Reclaims.{init_distinct}
use Rattle.domain_table.proofs.Moves.{Writes, items_change, items_change_to, reads_only}
use Rattle.domain_table.proofs.Stirred.{Ages, Stirred, stirred_none, grip_set, seated}
use Rattle.domain_table.proofs.Stirred as items
use Rattle.domain_table.proofs.Privates.{private_set}

-- one item changes
pub stirred_set : (all : List Item) (i : ℕ) (it it' : Item) → At all i it → Ages it it' → Stirred all (set all i it')
stirred_set all i it it' here ages = let still : (x : Item) → Ages x x = (λ x. record { value = refl; hand = refl; owners = refl; holds = refl; due = λ q e. e; gone = λ q e. e }) in record {
  ahead = λ j x at. dite (ℕ_discrete j i)
      (λ e. let same : x ≡ it = same_at all i x it (subst (λ m. At all m x) e at) here in (it', subst (λ m. At (set all i it') m it') (sym e) (set_here all i it' it here), subst (λ z. Ages z it') (sym same) ages))
      (λ ne. (x, set_else all i j it' ne ∙ at, still x));
  back = λ j x at. ⊎_elim (λ (h : (j ≡ i) × (it' ≡ x)). (it, subst (λ m. At all m it) (sym h.0) here, subst (Ages it) h.1 ages)) (λ (h : (j ≢ i) × At all j x). (x, h.1, still x)) (at_set all i j it' x at);
}

-- what isn't empty has a last one
pub unsnoc : {A : Type 0} (xs : List A) (m : ℕ) → length xs ≡ suc m → (ws : List A) × (w : A) × (xs ≡ ws ++ w ∷ []) × (length ws ≡ m)
unsnoc [] m e = absurd (omega arith)
unsnoc (x ∷ []) zero e = ([], x, refl, refl)
unsnoc (x ∷ []) (suc m) e = absurd (omega arith)
unsnoc (x ∷ y ∷ xs) zero e = absurd (omega arith)
unsnoc (x ∷ y ∷ xs) (suc m) e = let t = unsnoc (y ∷ xs) m (omega arith) in (x ∷ t.0, t.1, ap (λ zs. x ∷ zs) t.2, ap suc t.3)

pub no_more : {A : Type 0} (xs : List A) → length xs ≡ 0 → xs ≡ []
no_more [] e = refl
no_more (x ∷ xs) e = absurd (omega arith)

never_empty : {A : Type 0} (ws : List A) (w : A) → ws ++ w ∷ [] ≢ []
never_empty [] w e = absurd (cc)
never_empty (x ∷ ws) w e = absurd (cc)

pub set_twice : {A : Type 0} (l : List A) (i : ℕ) (a b : A) → set (set l i a) i b ≡ set l i b
set_twice [] zero a b = refl
set_twice [] (suc i) a b = refl
set_twice (x ∷ l) zero a b = refl
set_twice (x ∷ l) (suc i) a b = ap (λ zs. x ∷ zs) (set_twice l i a b)

-- what is taken over last of all is the newest
pub taken_snoc : (ws vs : List Garbage) (w : Garbage) → taken_all (ws ++ w ∷ []) vs ≡ taken_all ws (record w { age = 0 } ∷ vs)
taken_snoc [] vs w = refl
taken_snoc (x ∷ ws) vs w = ap (λ zs. record x { age = 0 } ∷ zs) (taken_snoc ws vs w)

-- a chain without its oldest is a chain
threads_init : (ws : List Garbage) (w : Garbage) → is_threaded (ws ++ w ∷ []) ≡ true → is_threaded ws ≡ true
threads_init [] w t = refl
threads_init (x ∷ []) w t = refl
threads_init (x ∷ y ∷ ws) w t = and_both _ _ (and_left _ _ t) (threads_init (y ∷ ws) w (and_right _ _ t))

module _ (S : Type 0) (IsIn : Content → S → Type 0) (plan : Plan) where
  module _ (s : State S Acting) (r : Shows IsIn plan s) (id q : ℕ) (d : Acting) (w : Garbage) (ws : List Garbage) (at : get_elem? s.views id ≡ some d) (kind : d.kind ≡ 1) (ready : is_ready d.known ≡ true) (low : q < plan.sizes.participants) (last : r.book.left q ≡ ws ++ w ∷ []) where
    abbrev p : ℕ
    p = d.number

    abbrev i : ℕ
    i = w.item

    abbrev word : ℕ
    word = left_word q

    carries : Carries plan.sizes r.book d
    carries = r.items.seats id d at kind

    there : Has (r.book.left q) w
    there = subst (λ (z : List Garbage). Has z w) (sym last) (has_last ws w)

    was_left : IsLeftover r.state.items r.book.slot_of w
    was_left = r.items.leftovers.waits q w there

    abbrev it : Item
    it = was_left.0

    abbrev it' : Item
    it' = record it { state = Retired p 0 }

    abbrev core : steps.State
    core = record r.state { items = set r.state.items i it' }

    abbrev d' : Acting
    d' = record d { waits = record w { age = 0 } ∷ d.waits }

    abbrev views' : List Acting
    views' = set s.views id d'

    abbrev words' : List ℕ
    words' = set s.words word (left_code ws)

    abbrev left' : ℕ → List Garbage
    left' = put r.book.left q ws

    abbrev book' : Book
    book' = record r.book { left = left' }

    runs : Runs r.state core
    runs = let a = r.epochs.seats id d at kind in taken.one r.state (TakeOver p i) core (
      and_true (participant_is is_ready r.state p) (item_is (λ z. is_left z.state) r.state i) (participant_passes is_ready r.state p d.known a.is ready) (item_passes (λ z. is_left z.state) r.state i it was_left.1 (ap is_left was_left.2)),
      λ j. record r.state { items = set r.state.items i (record (sym (item_read r.state i it was_left.1) j) { state = Retired p 0 }) },
    )

    stirred : Stirred r.state.items core.items
    stirred = stirred_set r.state.items i it it' was_left.1 (record {
      value = refl;
      hand = refl;
      owners = refl;
      holds = refl;
      due = λ k e. absurd (cc);
      gone = λ k e. let bad : Waiting ≡ Reclaimed k = sym was_left.2 ∙ e in absurd (cc);
    })

    here : At core.items i it'
    here = set_here r.state.items i it' it was_left.1

    -- what is in another state is another item
    unlike : (st : ItemState) (v : Garbage) → st ≢ Waiting → HasState r.state.items r.book.slot_of st v → v.item ≢ i
    unlike st v other h e = let same : h.0 ≡ it = same_at r.state.items i h.0 it (subst (λ m. At r.state.items m h.0) e h.1) was_left.1 in other (sym h.2 ∙ (ap (λ (z : Item). z.state) same ∙ was_left.2))

    states_on : (st : ItemState) (v : Garbage) → v.item ≢ i → HasState r.state.items r.book.slot_of st v → HasState core.items r.book.slot_of st v
    states_on st v ne h = (h.0, set_else r.state.items i v.item it' ne ∙ h.1, h.2, h.3, h.4)

    waits_on : (k : ℕ) (v : Garbage) → IsWaiting r.state.items r.book.slot_of k v → IsWaiting core.items r.book.slot_of k v
    waits_on k v h = states_on (Retired k v.age) v (unlike (Retired k v.age) v (λ e. absurd (cc)) h) h

    distinct : ((v : Garbage) → Has ws v → v.item ≢ i) × Distinct ws
    distinct = init_distinct ws w (subst Distinct last (r.items.leftovers.once q))

    -- what is still left was left before, and is another item
    origin : (k : ℕ) (v : Garbage) → Has (left' k) v → Has (r.book.left k) v × (v.item ≢ i)
    origin k v = put_all (λ k' l. Has l v → Has (r.book.left k') v × (v.item ≢ i)) r.book.left q ws k (λ h. (subst (λ (z : List Garbage). Has z v) (sym last) (has_more ws w v h), distinct.0 v h)) (λ ne h. (h, λ e. ne (r.items.leftovers.apart k q v w h there e)))

    leftovers_now : Leftovers core.items r.book.slot_of left'
    leftovers_now = let old = r.items.leftovers in record {
      waits = λ k v h. let o = origin k v h in states_on Waiting v o.1 (old.waits k v o.0);
      once = λ k. put_all (λ _ l. Distinct l) r.book.left q ws k distinct.1 (λ _. old.once k);
      apart = λ k k' v v' hv hv' e. old.apart k k' v v' (origin k v hv).0 (origin k' v' hv').0 e;
    }

    -- of whom it is known that nothing of it is left, it is another one
    none_left : (m : ℕ) → r.book.left m ≡ [] → left' m ≡ []
    none_left m none_ = dite (ℕ_discrete m q) (λ e. absurd (never_empty ws w (sym last ∙ (ap r.book.left (sym e) ∙ none_)))) (λ ne. put_else r.book.left q ws m ne ∙ none_)

    else_same : (j : ℕ) → j ≢ word → get_or words' j 0 ≡ get_or s.words j 0
    else_same j ne = get_or-set_other s.words word j (left_code ws) 0 (λ e. ne (omega arith))

    items_now : Items IsIn plan.sizes core book' words' s.homes views'
    items_now = items.renewed r.items core left' words' views' (record {
      cells = refl;
      stirred = stirred;
      why = λ k l _. ⊎_elim (λ (t : Loads r.state k l.item). inl t) (λ (g : Grip s.views k l.item). inr (grip_set s.views id d d' at (λ _ _ h. h) k l.item g));
      long = length-set s.words word (left_code ws);
      high = λ j le. else_same j (λ e. omega arith);
      free = λ k low_k some_. items.rests_on r.items words' k low_k (else_same (claim_word k) (λ e. omega arith)) some_;
      same = λ k. let h = owned_set owners_in_hand k s.views id d d' at in omega arith;
      owners = λ j e o at_j has. set_all (λ _ e'. Has e'.hand o → Owns r.state.items r.book.slot_of o) s.views id d' (λ h. r.items.owners id d o at h) (λ j' e' _ at_e h. r.items.owners j' e' o at_e h) j e at_j has;
      waiting = items.waits_set r.items core.items id d'
          (λ v _ has. ⊎_elim (λ (e : record w { age = 0 } ≡ v). subst (IsWaiting core.items r.book.slot_of p) e (it', here, refl, was_left.3, was_left.4)) (λ (t : Has d.waits v). waits_on p v (r.items.waiting id d v at kind t)) has)
          (λ j e v _ at_e k has. waits_on e.number v (r.items.waiting j e v at_e k has));
      leftovers = leftovers_now;
      private = private_set r.items.private (λ v h. states_on (Collected v.age) v (unlike (Collected v.age) v (λ e. absurd (cc)) h) h) id d d' at refl;
      links = items.links_set r.items words' left' id d' (λ j le. else_same j (λ e. omega arith))
          (λ v _ has. ⊎_elim (λ (e : record w { age = 0 } ≡ v). subst (IsLinked plan.sizes s.words) e (r.items.links.lefts q w there)) (λ (t : Has d.waits v). r.items.links.waits id d v at kind t) has)
          (λ v has. r.items.links.notes id d v at has)
          (λ k v has. r.items.links.lefts k v (origin k v has).0);
      seats = set_all (λ _ e. e.kind ≡ 1 → Carries plan.sizes book' e) s.views id d'
          (λ _. record {
            sizes_are = carries.sizes_are;
            leases = carries.leases;
            spare = carries.spare;
            fills = carries.fills;
            distinct = ((λ v has. unlike (Retired p v.age) v (λ e. absurd (cc)) (r.items.waiting id d v at kind has)), carries.distinct);
            left = λ one. none_left p (carries.left one);
          })
          (λ j e other at_e k. let b = r.items.seats j e at_e k in record { sizes_are = b.sizes_are; leases = b.leases; spare = b.spare; fills = b.fills; distinct = b.distinct; left = λ one. none_left e.number (b.left one) });
    })

    written : Writes (length r.state.participants) p s.words words' (shown d'.known.phase)
    written = let a = r.epochs.seats id d at kind in record {
      long = length-set s.words word (left_code ws);
      count = else_same 0 (λ e. omega arith);
      lock = else_same 8 (λ e. omega arith);
      claims = λ k _. else_same (claim_word k) (λ e. omega arith);
      others = λ k _ _. else_same (state_word k) (λ e. omega arith);
      mine = else_same (state_word p) (λ e. omega arith) ∙ r.epochs.states p d.known a.is;
    }

    lefts_now : Lefts plan.sizes.participants words' left'
    lefts_now = record {
      told = λ k low_k. dite (ℕ_discrete k q)
          (λ e. ap (λ z. get_or words' (left_word z) 0) e ∙ (get_or-set_same s.words word (left_code ws) 0 (let wide = r.epochs.wide in omega arith) ∙ ap left_code (sym (ap left' e ∙ put_here r.book.left q ws))))
          (λ ne. else_same (left_word k) (λ e. ne (omega arith)) ∙ (r.lefts.told k low_k ∙ ap left_code (sym (put_else r.book.left q ws k ne))));
      chained = λ k. put_all (λ _ ls. is_threaded ls ≡ true) r.book.left q ws k (threads_init ws w (subst (λ (ls : List Garbage). is_threaded ls ≡ true) last (r.lefts.chained q))) (λ _. r.lefts.chained k);
    }

    -- the item that has waited the longest is taken over, and the word tells the others
    pub shown_one : (r' : Shows IsIn plan record { words = words'; homes = s.homes; views = views' }) × (r'.book.left q ≡ ws)
    shown_one = let t = items_change_to S IsIn plan s r id d d' core words' s.homes book' at kind refl refl refl refl runs refl refl written lefts_now items_now in (t.0, ap (λ (b : Book). b.left q) t.1 ∙ put_here r.book.left q ws)

  -- it may be noted whether nothing is left of the seat's own participant
  module _ (s : State S Acting) (r : Shows IsIn plan s) (id own : ℕ) (d : Acting) (at : get_elem? s.views id ≡ some d) (kind : d.kind ≡ 1) (nothing : own ≡ 1 → r.book.left d.number ≡ []) where
    pub shown_note : Shows IsIn plan record { words = s.words; homes = s.homes; views = set s.views id (record d { left = own }) }
    shown_note = let d' : Acting = record d { left = own } in let c = r.items.seats id d at kind in items_change S IsIn plan s r id d d' r.state s.words s.homes r.book at kind refl refl refl refl ([], refl) refl refl (reads_only S IsIn plan s r id d d' at kind refl) r.lefts
        (items.stays r.items r.state s.words (set s.views id d') refl (stirred_none r.state.items)
        (λ k l _. ⊎_elim (λ (t : Loads r.state k l.item). inl t) (λ (g : Grip s.views k l.item). inr (grip_set s.views id d d' at (λ _ _ h. h) k l.item g)))
        (record { long = refl; high = λ _ _. refl; freed = λ _ _ _. inl refl })
        (seated r.items id d d' at refl (λ _. record { sizes_are = c.sizes_are; leases = c.leases; spare = c.spare; fills = c.fills; distinct = c.distinct; left = nothing }))
        (items.waits_stay r.items id d' (λ w _ has. r.items.waiting id d w at kind has)) r.items.leftovers (private_set r.items.private (λ _ h. h) id d d' at refl)
        (items.links_set r.items s.words r.book.left id d' (λ _ _. refl) (λ w _ has. r.items.links.waits id d w at kind has) (λ w has. r.items.links.notes id d w at has) r.items.links.lefts))

  abbrev all_of : ℕ → List Garbage → Acting → Acting
  all_of own ws d = record d { waits = taken_all ws d.waits; left = own }

  -- one step on one word takes over all that it told, by as many single steps
  shown_all : (n : ℕ) (s : State S Acting) (r : Shows IsIn plan s) (id q own : ℕ) (d : Acting) (ws : List Garbage) → get_elem? s.views id ≡ some d → d.kind ≡ 1 → is_ready d.known ≡ true → q < plan.sizes.participants → (own ≡ d.left) ⊎ (q ≡ d.number) → r.book.left q ≡ ws → length ws ≡ n
      → Shows IsIn plan record { words = set s.words (left_word q) 0; homes = s.homes; views = set s.views id (all_of own ws d) }
  shown_all zero s r id q own d ws at kind ready low whose are none_ = let nil : ws ≡ [] = no_more ws none_ in let told : get_or s.words (left_word q) 0 ≡ 0 = r.lefts.told q low ∙ ap left_code (are ∙ nil) in
      let nothing : own ≡ 1 → r.book.left d.number ≡ [] = (λ one. ⊎_elim (λ (e : own ≡ d.left). (r.items.seats id d at kind).left (sym e ∙ one)) (λ (e : q ≡ d.number). ap r.book.left (sym e) ∙ (are ∙ nil)) whose) in
      subst (λ (z : List ℕ × List Garbage). Shows IsIn plan record { words = z.0; homes = s.homes; views = set s.views id (all_of own z.1 d) }) (λ j. ((sym (set-get_or s.words (left_word q) 0) ∙ ap (set s.words (left_word q)) told) j, sym nil j)) (shown_note s r id own d at kind nothing)
  shown_all (suc m) s r id q own d ws at kind ready low whose are more = let t = unsnoc ws m more in let w = t.1 in let vs = t.0 in let d1 : Acting = record d { waits = record w { age = 0 } ∷ d.waits } in
      let one = shown_one s r id q d w vs at kind ready low (are ∙ t.2) in
      let s1 : State S Acting = record { words = set s.words (left_word q) (left_code vs); homes = s.homes; views = set s.views id d1 } in
      let after = shown_all m s1 one.0 id q own d1 vs (set_here s.views id d1 d at) kind ready low whose one.1 t.3 in
      let same : all_of own vs d1 ≡ all_of own ws d = (λ j. record d { waits = (sym (taken_snoc vs d.waits w) ∙ ap (λ zs. taken_all zs d.waits) (sym t.2)) j; left = own }) in
      subst (λ (z : List ℕ × List Acting). Shows IsIn plan record { words = z.0; homes = s.homes; views = z.1 }) (λ j. (set_twice s.words (left_word q) (left_code vs) 0 j, (set_twice s.views id d1 (all_of own vs d1) ∙ ap (set s.views id) same) j)) after

  module _ (s : State S Acting) (r : Shows IsIn plan s) (id q : ℕ) (d : Acting) (at : get_elem? s.views id ≡ some d) (kind : d.kind ≡ 1) where
    -- what is left is in slots of the place
    below : (w : Garbage) → Has (r.book.left q) w → w.slot < d.sizes.slots
    below w has = let h = r.items.leftovers.waits q w has in let stand = r.items.standing w.item h.0 h.1 (λ k e. let bad : Waiting ≡ Reclaimed k = sym h.2 ∙ e in absurd (cc)) in let sizes = ap (λ (z : _). z.slots) (r.items.seats id d at kind).sizes_are in let slot = h.4 in let low = stand.0 in omega arith

  pub takes_left : (slots id q : ℕ) (me : Me S Acting) → me.0.kind ≡ 1 → is_ready me.0.known ≡ true → q < plan.sizes.participants → Allows (Shows IsIn plan) slots id me (left_word q) (λ _. 0) (take_left_then (step slots (left_word q) 0 0 none) me)
  takes_left slots id q me kind ready low s r _ at _ = (
    all_of me.0.left (r.book.left q) me.0,
    keeps,
    tt,
    shown_all (length (r.book.left q)) s r id q me.0.left me.0 (r.book.left q) at kind ready low (inl refl) refl refl,
    (r.book.left q, r.lefts.told q low, r.lefts.chained q, below s r id q me.0 at kind, refl),
  )

  pub takes_own : (slots id q : ℕ) (me : Me S Acting) → me.0.kind ≡ 1 → is_ready me.0.known ≡ true → q < plan.sizes.participants → me.0.number ≡ q → Allows (Shows IsIn plan) slots id me (left_word q) (λ _. 0) (take_own_then (step slots (left_word q) 0 0 none) me)
  takes_own slots id q me kind ready low mine s r _ at _ = (
    all_of 1 (r.book.left q) me.0,
    keeps,
    tt,
    shown_all (length (r.book.left q)) s r id q 1 me.0 (r.book.left q) at kind ready low (inr (sym mine)) refl refl,
    (r.book.left q, r.lefts.told q low, r.lefts.chained q, below s r id q me.0 at kind, refl),
  )
