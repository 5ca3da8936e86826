-- the load of a cell keeps the rule of the table
use Rattle.std.proofs.Common.{◌≡◌, ◌&&◌, ◌||◌, not, is_some, true, ℕ, ◌+◌, ◌^◌, ◌<◌, ◌≤◌, List, [], ◌∷◌, ◌++◌, get_or, set, length, lt-ltb, sym, refl, ap, ◌∙◌, subst, ⊎_elim, inl, inr, arith, Option, None, Some}
use mathlib.Core.Logic.{dite}
use mathlib.Core.Option.{some, none}
use native.Mathlib.Decide.{ℕ_discrete}
use lib.ListN.{get_elem?}
use lib.Seq.{set-get_or}
use Rattle.atomic_table.specs.Table as table
use Rattle.atomic_table.specs.Table.{State, Me, step, Act, keeps, takes, stepped, Allows}
use Rattle.sdd_plain.specs.declared.sizes.Sizes.{Sizes}
use Rattle.sdd_steps.specs.declared.participant.Phase.TheVariants.{Idle, Opened}
use Rattle.sdd_steps.specs.declared.participant.Participant.{Participant}
use Rattle.sdd_steps.specs.declared.participant.Loaded.{Loaded}
use Rattle.sdd_steps.specs.declared.item.Item.{Item}
use Rattle.sdd_steps.specs.declared.item.ItemState.TheVariants.{Live, Reclaimed}
use Rattle.sdd_steps.specs.declared.item.Cell.{Cell}
use Rattle.sdd_steps.specs.declared.step.Step.{Step}
use Rattle.sdd_steps.specs.declared.step.Step.TheVariants.{LoadCell, LoadInHand}
use Rattle.sdd_steps.specs.State as steps
use Rattle.sdd_steps.specs.State.{At, Has, item_at, cell_is, participant_is, item_is}
use Rattle.sdd_steps.specs.Steps.{LeadsTo, is_inside, is_full, is_reachable, is_within, has_loose_owner, stands_alone, loaded_as, count_of, named}
use Rattle.sdd_steps.specs.Invariant.{names_of}
use Rattle.sdd_steps.proofs.ListLemmas.{put, put_here, put_else, same_at, set_here, at_inside, at_map, find_at, has_end}
use Rattle.sdd_steps.proofs.StepLemmas.{named_there}
use Rattle.sdd_steps.proofs.EnabledLemmas.{inside_is}
use Rattle.sdd_steps.proofs.Enabling.{participant_passes, participant_read, cell_passes, cell_read, item_passes, item_read}
use Rattle.sdd_homes.specs.declared.Lease.{Lease}
use Rattle.sdd_homes.specs.declared.Owner.{Owner}
use Rattle.sdd_homes.specs.Book.{Content, away, part, full, home, Lends, Apart, lease}
use Rattle.sdd_homes.specs.Parts.{Parts}
use Rattle.sdd_homes.specs.Reasons.{Loads, Why}
use Rattle.sdd_homes.proofs.Totals.{home_in, total_put}
use Rattle.sdd_homes.proofs.HandLemmas.{owned_some, mine_some}
use Rattle.sdd_homes.proofs.Leases.{has_lends, lends_or}
use Rattle.sdd_homes.proofs.LyingLemmas.{takes_low}
use Rattle.sdd_homes.proofs.PartLemmas as parts
use Rattle.domain_table.specs.Layout.{cell_word, Tells}
use Rattle.domain_table.specs.Items.{Grip, owners_in_hand}
use Rattle.domain_table.specs.Rule.{Shows}
use Rattle.domain_table.specs.Plays.{loading, own_home, IsLeased, HasLeasedAs, HasLeasedAt, HasLoaded, HasRound, takes_home, with_step, read_cell_then, load_then, load_own_then}
use Rattle.domain_table.specs.declared.board.Acting.{Acting}
use Rattle.domain_table.specs.declared.board.Plan.{Plan}
use Rattle.domain_table.proofs.Telling.{tells_step}
use Rattle.domain_table.proofs.Taken as taken
use Rattle.domain_table.proofs.Taken.{and_true, or_left}
use Rattle.domain_table.proofs.Moves.{Moves, moved, own_load, reads_only, own_inside, idles}
use Rattle.domain_table.proofs.Crowds.{fewer_leased}
use Rattle.domain_table.proofs.Stirred.{stirred_none, grip_set, loads_others, leased}
use Rattle.domain_table.proofs.Looks.{has_last, has_more}

abbrev pub more : Loaded → Participant → Participant
more h x = record x { loaded = x.loaded ++ h ∷ [] }

-- the item i is loaded
abbrev after : steps.State → ℕ → ℕ → Participant → steps.State
after s p i x = record s { participants = set s.participants p (more (loaded_as s.items i) x) }

-- as what a cell names that stands by itself
loads_cell : (s : steps.State) (p c i : ℕ) (x : Participant) → At s.participants p x → is_inside x ≡ true → (o : Cell) → At s.cells c o → o.holder ≡ None → o.names ≡ Some i → LeadsTo s (LoadCell p c) (after s p i x)
loads_cell s p c i x at inside o at_c alone names = (
  and_true (participant_is is_inside s p) (cell_is (λ q. is_full q && (is_reachable s q || is_within s p q)) s c) (participant_passes is_inside s p x at inside)
      (cell_passes (λ q. is_full q && (is_reachable s q || is_within s p q)) s c o at_c
      (and_true (is_full o) (is_reachable s o || is_within s p o) (ap is_some names) (or_left (is_reachable s o) (is_within s p o) (or_left (stands_alone o) _ (ap (λ h. not (is_some h)) alone))))),
  λ j. record s { participants = set s.participants p (more (loaded_as s.items (named (sym (ap (λ (z : Cell). z.names) (cell_read s c o at_c) ∙ names) j))) (sym (participant_read s p x at) j)) },
)

-- as that of an owner in hand
loads_owned : (s : steps.State) (p i : ℕ) (x : Participant) → At s.participants p x → is_inside x ≡ true → (it : Item) → At s.items i it → 0 < it.hand → LeadsTo s (LoadInHand p i) (after s p i x)
loads_owned s p i x at inside it here loose = (
  and_true (participant_is is_inside s p) (item_is has_loose_owner s i) (participant_passes is_inside s p x at inside) (item_passes has_loose_owner s i it here (lt-ltb 0 it.hand loose)),
  λ j. record s { participants = set s.participants p (more (loaded_as s.items i) (sym (participant_read s p x at) j)) },
)

module _ (s : steps.State) (p i : ℕ) (x : Participant) (at : At s.participants p x) (inside : is_inside x ≡ true) where
  opened : x.phase ≡ Opened (count_of x.phase)
  opened = (inside_is x inside).0

  pub newly : Loads (after s p i x) p i
  newly = (more (loaded_as s.items i) x, count_of x.phase, loaded_as s.items i, set_here s.participants p (more (loaded_as s.items i) x) x at, opened, has_last x.loaded (loaded_as s.items i), refl)

  -- what was loaded before still is
  pub loads_more : (q k : ℕ) → Loads s q k → Loads (after s p i x) q k
  loads_more q k l = let h = loaded_as s.items i in dite (ℕ_discrete q p)
      (λ e. let same : l.0 ≡ x = same_at s.participants p l.0 x (subst (λ m. At s.participants m l.0) e l.3) at in (
        more h x,
        l.1,
        l.2,
        subst (λ m. At (set s.participants p (more h x)) m (more h x)) (sym e) (set_here s.participants p (more h x) x at),
        ap (λ (z : Participant). z.phase) (sym same) ∙ l.4,
        has_more x.loaded h l.2 (subst (λ (z : Participant). Has z.loaded l.2) same l.5),
        l.6,
      ))
      (λ ne. loads_others s (after s p i x) p (more h x) refl q k ne l)

module _ (S : Type 0) (IsIn : Content → S → Type 0) (plan : Plan) where
  abbrev n : ℕ
  n = plan.sizes.participants

  -- the item i is loaded by the participant of the seat, in a step that may do so
  module _ (s : State S Acting) (r : Shows IsIn plan s) (id i : ℕ) (d : Acting) (at : get_elem? s.views id ≡ some d) (kind : d.kind ≡ 1) (inside : is_inside d.known ≡ true)
      (there : At r.state.items i (item_at r.state i) × ((item_at r.state i).state ≡ Live)) (st : Step) (runs : LeadsTo r.state st (after r.state d.number i d.known)) where
    abbrev p : ℕ
    p = d.number

    abbrev a : Rattle.domain_table.specs.Rule.Acts r.state.participants r.state.count r.born s.words r.epochs.seat_of r.epochs.scanner id d
    a = r.epochs.seats id d at kind

    abbrev h : Loaded
    h = loaded_as r.state.items i

    abbrev core : steps.State
    core = after r.state p i d.known

    stand : (r.book.slot_of i < plan.sizes.slots) × (r.book.stage (r.book.slot_of i) ≡ full i)
    stand = r.items.standing i (item_at r.state i) there.0 (λ q e. let bad : Live ≡ Reclaimed q = sym there.1 ∙ e in absurd (cc))

    low : p < n
    low = let l = at_inside r.state.participants p d.known a.is in let many = r.epochs.many in omega arith

    abbrev goes : (ls : List Lease) → Moves r.state r.born d (loading h ls d)
    goes ls = record {
      core = core;
      runs = taken.one r.state st core runs;
      count = refl;
      changed = refl;
      inside = own_inside S IsIn plan s r id d at kind;
      again = λ e is. inr (is, a.begun e is);
      looks = λ q y e is has other at_q is_q. r.bounded.looks p d.known q y e a.is is has at_q is_q;
      still = λ idle. let bad : Idle ≡ Opened (count_of d.known.phase) = sym idle ∙ (inside_is d.known inside).0 in absurd (cc);
      number = refl;
      scan = λ z. z;
      present = a.present;
    }

    still_loaded : (q k : ℕ) → Loads r.state q k → Loads core q k
    still_loaded = loads_more r.state p i d.known a.is inside

    -- nothing comes out
    pub again_leased : (w : ℕ) → Shows IsIn plan record { words = set s.words w (get_or s.words w 0); homes = s.homes; views = set s.views id (loading h d.leases d) }
    again_leased w = own_load S IsIn plan s r w id d (loading h d.leases d) (goes d.leases) (record { cells = refl; stirred = stirred_none r.state.items; loads = inr (λ k l. still_loaded p k l); same = refl; distinct = λ h. h; waits_mine = λ _ w all h. all w h; links_mine = λ _ _ w all h. all w h; waits_others = λ _ _ _ _ h. h; lefts = λ _ _ h. h; notes = λ _ _ h. h }) at kind refl

    -- what is leased in its slot is it, of its round
    is_of : (l : Lease) → Has d.leases l → l.slot ≡ r.book.slot_of i → (l.item ≡ i) × (l.round ≡ h.value)
    is_of l has slot = let y = r.items.parts.leases p l (subst (λ (ls : List Lease). Has ls l) (sym (r.items.seats id d at kind).leases) has) in
        let e : full l.item ≡ full i = sym y.is ∙ (ap r.book.stage slot ∙ stand.1) in let same : l.item ≡ i = cc in
        (same, sym (y.round (item_at r.state i) (subst (λ z. At r.state.items z (item_at r.state i)) (sym same) there.0)))

    is_leased : Lends d.leases (r.book.slot_of i) → IsLeased d.leases (r.book.slot_of i) h
    is_leased has = let t = has_lends d.leases (r.book.slot_of i) has in let l : Lease = t.0 in let of_it = is_of l t.1 t.2 in (l, t.1, t.2, of_it.0, of_it.1)

    -- also what is leased then
    pub rounds : (carried : List (ℕ × S)) (m' : Me S Acting) (o : Owner) → HasLeasedAs IsIn (d, carried) (r.book.slot_of i) h m' → r.book.slot_of i ≡ o.slot → h.value ≡ o.round → HasRound m'.0.leases o
    rounds carried m' o leased slot round = let before : (l : Lease) → Has d.leases l → l.slot ≡ o.slot → l.round ≡ o.round = (λ l has e. (is_of l has (e ∙ sym slot)).1 ∙ round) in ⊎_elim
        (λ (t : IsLeased d.leases (r.book.slot_of i) h × (m' ≡ (loading h d.leases d, carried))). λ l has e. before l (subst (λ (z : Me S Acting). Has z.0.leases l) t.1 has) e)
        (λ (t : takes_home IsIn (d, carried) (r.book.slot_of i) h m'). λ l has e. let added : Lease = lease (r.book.slot_of i) h.item t.3.0 h.value in
        ⊎_elim (λ (old : Has d.leases l). before l old e) (λ (new : added ≡ l). ap (λ (z : Lease). z.round) (sym new) ∙ round) (has_end d.leases added l (subst (λ (z : Me S Acting). Has z.0.leases l) t.3.4 has)))
        leased

    -- the participant's home of the item comes out
    module _ (free : ¬ Lends d.leases (r.book.slot_of i)) where
      abbrev k : ℕ
      k = r.book.slot_of i

      abbrev count : ℕ
      count = r.book.share k p

      abbrev new : Lease
      new = lease k i count h.value

      abbrev d' : Acting
      d' = loading h (d.leases ++ new ∷ []) d

      unleased : ¬ Lends (r.book.out p) k
      unleased has = free (subst (λ ls. Lends ls k) (r.items.seats id d at kind).leases has)

      pub lies : r.book.what (home plan.sizes.slots k p) ≡ part h.value count
      lies = let f = r.items.parts.full_at k i stand.0 stand.1 in f.homes p low unleased ∙ ap (λ (z : Item). part z.value count) (same_at r.state.items i f.it (item_at r.state i) f.here there.0)

      pub found : (u : S) × (get_elem? s.homes (home plan.sizes.slots k p) ≡ some (some u)) × IsIn (part h.value count) u
      found = let f = r.items.lying.low (home plan.sizes.slots k p) (home_in n plan.sizes.slots k p stand.0 (omega (arith, low))) (λ e. let bad : part h.value count ≡ away = sym lies ∙ e in absurd (cc)) in (f.0, f.1, subst (λ z. IsIn z f.0) lies f.2)

      -- a participant has no more than all parts of an item
      pub few : count ≤ 2 ^ 63
      few = let f = r.items.parts.full_at k i stand.0 stand.1 in let all = f.sum in let part_of_all = total_put n (r.book.share k) p 0 low in omega arith

      -- the slots that it has leased are other ones
      pub fewer : length d.leases < plan.sizes.slots
      fewer = fewer_leased plan.sizes.slots d.leases k stand.0 free (λ l h. (r.items.parts.leases p l (subst (λ ls. Has ls l) (sym (r.items.seats id d at kind).leases) h)).inside) (subst Apart (r.items.seats id d at kind).leases (r.items.parts.once p))

      abbrev out' : ℕ → List Lease
      out' = put r.book.out p (r.book.out p ++ new ∷ [])

      abbrev what' : ℕ → Content
      what' = put r.book.what (home plan.sizes.slots k p) away

      reasons : (q : ℕ) (l : Lease) → Has (r.book.out q) l → Why r.state (Grip s.views) q l.item → Why core (Grip (set s.views id d')) q l.item
      reasons q l _ y = ⊎_elim (λ (t : Loads r.state q l.item). inl (still_loaded q l.item t)) (λ (g : Grip s.views q l.item). inr (grip_set s.views id d d' at (λ _ _ t. t) q l.item g)) y

      kept : Parts n plan.sizes.slots r.state.items (Why core (Grip (set s.views id d'))) (record r.book { out = out'; what = what' })
      kept = parts.loads (parts.stays r.items.parts r.state.items (Why core (Grip (set s.views id d'))) (λ m z at_z. (z, at_z, refl, refl)) reasons) p k i h.value low stand.0 stand.1 unleased
          (inl (newly r.state p i d.known a.is inside)) (λ z at_z. ap (λ (q : Item). q.value) (same_at r.state.items i z (item_at r.state i) at_z there.0))

      pub newly_leased : (w : ℕ) → Shows IsIn plan record { words = set s.words w (get_or s.words w 0); homes = set s.homes (home plan.sizes.slots k p) none; views = set s.views id d' }
      newly_leased w = let b = r.items.seats id d at kind in subst (λ ws. Shows IsIn plan record { words = ws; homes = set s.homes (home plan.sizes.slots k p) none; views = set s.views id d' }) (sym (set-get_or s.words w 0))
          (moved S IsIn plan s r id d d' s.words (set s.homes (home plan.sizes.slots k p) none) (record r.book { out = out'; what = what' }) (goes (d.leases ++ new ∷ [])) at kind (reads_only S IsIn plan s r id d d' at kind refl) r.lefts
          (leased r.items core.participants out' what' s.words (set s.homes (home plan.sizes.slots k p) none) id d d' at kind (record {
            parts = kept;
            lying = takes_low r.items.lying (home plan.sizes.slots k p) (home_in n plan.sizes.slots k p stand.0 (omega (arith, low)));
            mine = put_here r.book.out p (r.book.out p ++ new ∷ []) ∙ ap (λ ls. ls ++ new ∷ []) b.leases;
            others = λ q ne. put_else r.book.out p (r.book.out p ++ new ∷ []) q ne;
            same = refl;
            written = record { long = refl; high = λ _ _. refl; freed = λ _ _ _. inl refl };
            claimed = a.claimed;
            apart = λ j e other here kind_e same. other (sym (r.epochs.seats j e here kind_e).seated ∙ (ap r.epochs.seat_of same ∙ a.seated));
          })))

    -- what it tells the seat
    pub told : (w : ℕ) (carried : List (ℕ × S)) → (v : Acting) × (act : Act S) × table.Valid s.homes carried act × Shows IsIn plan (stepped s w (get_or s.words w 0) id carried v act) × HasLeasedAs IsIn (d, carried) (r.book.slot_of i) h (v, table.carried_after carried act)
    told w carried = let k : ℕ = r.book.slot_of i in ⊎_elim
        (λ (had : Lends d.leases k). (loading h d.leases d, keeps, tt, again_leased w, inl (is_leased had, refl)))
        (λ (free : ¬ Lends d.leases k). let f = found free in let b = r.items.seats id d at kind in let sizes = ap (λ (z : Sizes). home z.slots k d.number) b.sizes_are in (
          d' free,
          takes (own_home d k) f.0,
          ap (get_elem? s.homes) sizes ∙ f.1,
          subst (λ z. Shows IsIn plan record { words = set s.words w (get_or s.words w 0); homes = set s.homes z none; views = set s.views id (d' free) }) (sym sizes) (newly_leased free w),
          inr (free, subst (λ (z : Sizes). k < z.slots) (sym b.sizes_are) stand.0, subst (λ (z : Sizes). length d.leases < z.slots) (sym b.sizes_are) (fewer free), (count free, f.0, f.2, few free, refl)),
        ))
        (lends_or d.leases k)

  plainly : (slots id c : ℕ) (me : Me S Acting) → me.0.kind ≡ 1 → is_inside me.0.known ≡ true → c < plan.sizes.cells → plan.sizes.cells + n ≤ 2 ^ 31
      → Allows (Shows IsIn plan) slots id me (cell_word plan.sizes c) (λ w. w) (HasLoaded IsIn me)
  plainly slots id c me kind inside lc small s r _ at _ = let d = me.0 in let w : ℕ = cell_word plan.sizes c in let many = r.items.many in let o = find_at r.state.cells c (omega arith) in let y : ℕ = r.book.spare c in let ly = r.items.spares.range c (omega arith) in
      let named_at : (x : Option ℕ) → (o.0).names ≡ x → At (names_of r.state.cells) c x = (λ x e. subst (At (names_of r.state.cells) c) e (at_map (λ (z : Cell). z.names) r.state.cells c o.0 o.1)) in
      (elim (o.0).names as (λ x. (o.0).names ≡ x → (v : Acting) × (act : Act S) × table.Valid s.homes me.1 act × Shows IsIn plan (stepped s w (get_or s.words w 0) id me.1 v act) × HasLoaded IsIn me (get_or s.words w 0) (v, table.carried_after me.1 act)) [
        | None ↦ λ e. (d, keeps, tt, idles S IsIn plan s r w id d at, (y, omega arith, inl (r.items.cell_words c None (named_at None e), refl)))
        | Some i ↦ λ e. let word = r.items.cell_words c (Some i) (named_at (Some i) e) in let seat = (r.epochs.seats id d at kind).is in
            let t = told s r id i d at kind inside (named_there r.state r.kept.0 r.kept.1.0 r.kept.1.1 r.kept.1.2 c o.0 i o.1 e) (LoadCell d.number c) (loads_cell r.state d.number c i d.known seat inside o.0 o.1 (r.items.alone c o.0 o.1) e) w me.1 in
            (t.0, t.1, t.2, t.3, (y, omega arith, inr (r.book.slot_of i, word, (loaded_as r.state.items i, t.4))))
      ]) refl

  pub reads : (slots id c : ℕ) (me : Me S Acting) → me.0.kind ≡ 1 → c < plan.sizes.cells → plan.sizes.cells + n ≤ 2 ^ 31
      → Allows (Shows IsIn plan) slots id me (cell_word plan.sizes c) (λ w. w) (read_cell_then (step slots (cell_word plan.sizes c) 0 0 none) me)
  reads slots id c me kind lc small = let w : ℕ = cell_word plan.sizes c in tells_step S IsIn plan slots id w me (λ k. k) (λ k v m'. (y : ℕ) × (z : ℕ) × (y < 2 ^ 31) × Tells v y z × (m' ≡ with_step w k k me)) kind
      (λ k s r _ at _. let many = r.items.many in let o = find_at r.state.cells c (omega arith) in let y : ℕ = r.book.spare c in let ly = r.items.spares.range c (omega arith) in let named = (o.0).names in
      ((with_step w k k me).0, keeps, tt, idles S IsIn plan s r w id (with_step w k k me).0 at, (y, Rattle.domain_table.specs.Items.code r.book.slot_of named, omega arith, r.items.cell_words c named (at_map (λ (z : Cell). z.names) r.state.cells c o.0 o.1), refl)))

  pub loads : (slots id c : ℕ) (me : Me S Acting) → me.0.kind ≡ 1 → is_inside me.0.known ≡ true → c < plan.sizes.cells → plan.sizes.cells + n ≤ 2 ^ 31
      → Allows (Shows IsIn plan) slots id me (cell_word plan.sizes c) (λ w. w) (load_then IsIn (step slots (cell_word plan.sizes c) 0 0 none) me)
  loads slots id c me kind inside lc small = let w : ℕ = cell_word plan.sizes c in tells_step S IsIn plan slots id w me (λ k. k) (λ k. HasLoaded IsIn (with_step w k k me)) kind (λ k. plainly slots id c (with_step w k k me) kind inside lc small)

  pub loads_own : (slots id w : ℕ) (me : Me S Acting) (o : Owner) (os : List Owner) → me.0.kind ≡ 1 → is_inside me.0.known ≡ true → me.0.hand ≡ o ∷ os → Allows (Shows IsIn plan) slots id me w (λ k. k) (load_own_then IsIn (step slots w 0 0 none) me)
  loads_own slots id w me o os kind inside first s r _ at _ = let d = me.0 in let in_hand = subst (λ (ls : List Owner). Has ls o) (sym first) (inl refl) in let own = r.items.owners id d o at in_hand in let it : Item = own.0 in
      let g = r.items.hands o.item it own.1 in let some_ = owned_some owners_in_hand o.item s.views id d at in let mine = mine_some owners_in_hand o.item d o in_hand refl in let counted = (r.kept.0.owned o.item it own.1).counted in
      let alive = (r.kept.0.owned o.item it own.1).is_live (omega arith) in let read = item_read r.state o.item it own.1 in
      let there : At r.state.items o.item (item_at r.state o.item) × ((item_at r.state o.item).state ≡ Live) = (subst (At r.state.items o.item) (sym read) own.1, ap (λ (z : Item). z.state) read ∙ alive) in
      let t = told s r id o.item d at kind inside there (LoadInHand d.number o.item) (loads_owned r.state d.number o.item d.known (r.epochs.seats id d at kind).is inside it own.1 (omega arith)) w me.1 in
      let h : Loaded = loaded_as r.state.items o.item in let m' : Me S Acting = (t.0, table.carried_after me.1 t.1) in
      let of_round = rounds s r id o.item d at kind inside there (LoadInHand d.number o.item) (loads_owned r.state d.number o.item d.known (r.epochs.seats id d at kind).is inside it own.1 (omega arith)) me.1 m' o t.4 own.3 (ap (λ (z : Item). z.value) read ∙ own.2) in
      (t.0, t.1, t.2, t.3, λ o' os' first'. let lists : o ∷ os ≡ o' ∷ os' = sym first ∙ first' in let same : o ≡ o' = cc in (subst (λ k. HasLeasedAt IsIn me k m') (own.3 ∙ ap (λ (z : Owner). z.slot) same) (h, t.4), subst (HasRound m'.0.leases) same of_round))
