-- a release that began ends: the owner's part goes home with the participant's own ones, in the step that counts the owner no more
use Rattle.std.proofs.Common.{◌≡◌, ◌≢◌, ℕ, suc, ◌+◌, ◌-◌, ◌%◌, ◌<◌, List, [], ◌∷◌, ◌++◌, get_or, set, sym, refl, ap, ◌∙◌, subst, ⊎_elim, inl, inr, arith, true, Option}
use Rattle.std.proofs.lemmas.List.{append_cancel_right}
use mathlib.Core.Logic.{dite}
use mathlib.Core.Option as maybe
use mathlib.Core.Option.{some, none}
use native.Mathlib.Decide.{ℕ_discrete}
use lib.ListN.{get_elem?}
use Rattle.atomic_table.specs.Table as table
use Rattle.atomic_table.specs.Table.{State, Me, step, stepped, gives, Allows}
use Rattle.sdd_plain.specs.declared.sizes.Sizes.{Sizes}
use Rattle.sdd_steps.specs.declared.participant.Participant.{Participant}
use Rattle.sdd_steps.specs.declared.item.Item.{Item}
use Rattle.sdd_steps.specs.declared.item.ItemState.TheVariants.{Live}
use Rattle.sdd_steps.specs.State as steps
use Rattle.sdd_steps.specs.State.{At, Has, with_item}
use Rattle.sdd_steps.specs.Steps.{is_ready}
use Rattle.sdd_steps.proofs.CountLemmas.{points_self, points_other}
use Rattle.sdd_steps.proofs.ListLemmas.{put, put_here, put_else, set_here, set_else, same_at}
use Rattle.sdd_homes.specs.declared.Lease.{Lease}
use Rattle.sdd_homes.specs.declared.Owner.{Owner}
use Rattle.sdd_homes.specs.declared.Garbage.{Garbage}
use Rattle.sdd_homes.specs.Book.{Content, part, home, Apart, Lends, recounted}
use Rattle.sdd_homes.specs.Hands.{items_of}
use Rattle.sdd_homes.specs.Parts.{Parts, Full, Leased}
use Rattle.sdd_homes.specs.Reasons.{Loads, Why}
use Rattle.sdd_homes.specs.Lying.{Lying}
use Rattle.sdd_homes.proofs.Leases.{Returns, lends_has, same_lease, recounted_last, returns_last, end_apart, has_before, has_last}
use Rattle.sdd_homes.proofs.LyingLemmas.{gives_low}
use Rattle.sdd_homes.proofs.OwnerLemmas.{counts}
use Rattle.sdd_homes.proofs.PartLemmas as parts
use Rattle.sdd_homes.proofs.Totals.{home_in}
use Rattle.domain_table.specs.Layout.{slot_word, all_homes, all_spares}
use Rattle.domain_table.specs.Items.{Grasps, Grip, IsWaiting}
use Rattle.domain_table.specs.Rule.{Shows}
use Rattle.domain_table.specs.Plays.{own_home, retiring, collecting, MayNote, CanEnd, ended_release, end_release_then}
use Rattle.domain_table.specs.declared.board.Acting.{Acting}
use Rattle.domain_table.specs.declared.board.Plan.{Plan}
use Rattle.domain_table.proofs.Recounts.{Recounts, waits_else, recounted_shown}
use Rattle.domain_table.proofs.Releases as releases
use Rattle.domain_table.proofs.Releases.{lowered, lowers, never_due, less_one}

module _ (S : Type 0) (IsIn : Content → S → Type 0) (plan : Plan) where
  abbrev n : ℕ
  n = plan.sizes.participants

  module _ (s : State S Acting) (r : Shows IsIn plan s) (id : ℕ) (d : Acting) (l : Lease) (ls : List Lease) (o : Owner) (os : List Owner) (at : get_elem? s.views id ≡ some d) (kind : d.kind ≡ 1) (ready : is_ready d.known ≡ true) (last : d.leases ≡ ls ++ l ∷ []) (first : d.hand ≡ o ∷ os) (slot : o.slot ≡ l.slot) (began : d.releasing ≡ suc o.item) (to : Option ℕ) where
    abbrev p : ℕ
    p = d.number

    abbrev k : ℕ
    k = l.slot

    abbrev i : ℕ
    i = l.item

    pub has : Has d.leases l
    has = subst (λ (z : List Lease). Has z l) (sym last) (has_last ls l)

    abbrev y : Leased n plan.sizes.slots r.state.items (Why r.state (Grip s.views)) r.book.stage r.book.share p l
    y = releases.y S IsIn plan s r id d l o os at kind ready has first slot to

    abbrev f : Full n plan.sizes.slots r.state.items r.book.slot_of (r.book.share k) r.book.out r.book.what (r.book.held k) k i
    f = releases.f S IsIn plan s r id d l o os at kind ready has first slot to

    abbrev it : Item
    it = f.it

    abbrev it' : Item
    it' = lowered p to it

    held : 0 < it.hand
    held = releases.held S IsIn plan s r id d l o os at kind ready has first slot to

    owned : 0 < it.owners
    owned = releases.owned S IsIn plan s r id d l o os at kind ready has first slot to

    live_owned : it.state ≡ Live
    live_owned = releases.live_owned S IsIn plan s r id d l o os at kind ready has first slot to

    same_item : o.item ≡ i
    same_item = releases.same_item S IsIn plan s r id d l o os at kind ready has first slot to

    abbrev c : ℕ
    c = r.book.share k p + 1

    out_is : r.book.out p ≡ ls ++ l ∷ []
    out_is = (r.items.seats id d at kind).leases ∙ last

    apart : Apart ls × ¬ Lends ls k
    apart = end_apart ls l (subst Apart out_is (r.items.parts.once p))

    abbrev out1 : ℕ → List Lease
    out1 = put r.book.out p (recounted k c (r.book.out p))

    abbrev out2 : ℕ → List Lease
    out2 = put out1 p ls

    abbrev share' : ℕ → ℕ → ℕ
    share' = put r.book.share k (put (r.book.share k) p c)

    abbrev what' : ℕ → Content
    what' = put r.book.what (home plan.sizes.slots k p) (part it'.value c)

    abbrev items' : List Item
    items' = set r.state.items i it'

    counted : Parts n plan.sizes.slots items' (Why r.state (Grip s.views)) (record r.book { share = share'; out = out1 })
    counted = let some_owner = owned in let in_out = subst (λ (z : List Lease). Has z l) (sym out_is) (has_last ls l) in
        counts r.items.parts p k i it y.low y.inside y.is (lends_has (r.book.out p) l in_out) f.here it' c refl (omega arith)

    back : Returns (out1 p) (record l { count = c }) ls
    back = returns_last (out1 p) (record l { count = c }) ls (put_here r.book.out p (recounted k c (r.book.out p)) ∙ (ap (recounted k c) out_is ∙ recounted_last k c ls l refl apart.1)) (counted.once p)

    given : Parts n plan.sizes.slots items' (Why r.state (Grip s.views)) (record r.book { share = share'; out = out2; what = what' })
    given = parts.gives counted p (record l { count = c }) ls it' back (set_here r.state.items i it' it f.here)

    abbrev d' : Acting
    d' = ended_release to (2 + it.owners) l ls os d

    abbrev views' : List Acting
    views' = set s.views id d'

    -- no lease that is left is of the item whose owner goes
    other_slot : (e : Lease) → Has ls e → e.item ≢ o.item
    other_slot e h same = let in_out = subst (λ (z : List Lease). Has z e) (sym out_is) (has_before ls l e h) in let z = r.items.parts.leases p e in_out in let g = r.items.parts.full_at e.slot e.item z.inside z.is in
        let slots : e.slot ≡ k = sym g.slot ∙ (ap r.book.slot_of (same ∙ same_item) ∙ f.slot) in apart.1 (subst (Lends ls) slots (lends_has ls e h))

    grips : (q : ℕ) (e : Lease) → Has (out2 q) e → Grip s.views q e.item → Grip views' q e.item
    grips q e h g = dite (ℕ_discrete g.0 id)
        (λ same_id. let same : g.1 ≡ d = same_at s.views id g.1 d (subst (λ m. At s.views m g.1) same_id g.2) at in let grasp = subst (λ (v : Acting). Grasps v q e.item) same g.3 in
        let left : Has ls e = subst (λ (z : List Lease). Has z e) (ap out2 (sym grasp.1) ∙ put_here out1 p ls) h in let one = sym began ∙ grasp.2 in absurd (other_slot e left (omega (arith, one))))
        (λ ne. (g.0, g.1, set_else s.views id g.0 d' ne ∙ g.2, g.3))

    reasons : (q : ℕ) (e : Lease) → Has (out2 q) e → Why r.state (Grip s.views) q e.item → Why (with_item r.state i it') (Grip views') q e.item
    reasons q e h = ⊎_elim (λ (t : Loads r.state q e.item). inl t) (λ (g : Grip s.views q e.item). inr (grips q e h g))

    pub word_is : get_or s.words (slot_word plan.sizes k) 0 ≡ 2 + it.owners
    word_is = releases.word_is S IsIn plan s r id d l o os at kind ready has first slot to

    pub some_left : 2 < get_or s.words (slot_word plan.sizes k) 0
    some_left = releases.some_left S IsIn plan s r id d l o os at kind ready has first slot to

    module _ (may : MayNote to d.known) (u : S) (is_in : IsIn (part l.round (l.count + 1)) u) where
      abbrev homes' : List (maybe.Option S)
      homes' = set s.homes (home plan.sizes.slots k p) (some u)

      lies : Lying IsIn (all_homes plan.sizes) (all_spares plan.sizes) what' r.book.extra homes'
      lies = let low = y.low in let z = y.count in let one : l.count + 1 ≡ c = omega arith in gives_low r.items.lying (home plan.sizes.slots k p) (part it'.value c) u (home_in n plan.sizes.slots k p y.inside (omega arith))
          (subst (λ (w : ℕ × ℕ). IsIn (part w.0 w.1) u) (λ j. (sym (y.round it f.here) j, one j)) is_in)

      retires_now : (w : Garbage) → Has (retiring to (2 + it.owners) l d.waits) w → IsWaiting items' r.book.slot_of p w
      retires_now w h = ⊎_elim (λ (new : IsWaiting items' r.book.slot_of p w). new)
          (λ (t : Has d.waits w). waits_else S IsIn plan s r id k i d it it' at kind y.inside y.is f.here ls os 0 (retiring to (2 + it.owners) l d.waits) (collecting to (2 + it.owners) l d.collected) share' out2 what' homes' live_owned p w (r.items.waiting id d w at kind t)) (releases.retires S IsIn plan s r id d l o os at kind ready has first slot to w h)

      recounts : Recounts S IsIn plan s r id k i d it it' at kind y.inside y.is f.here ls os 0 (retiring to (2 + it.owners) l d.waits) (collecting to (2 + it.owners) l d.collected) share' out2 what' homes'
      recounts = record {
        parts = parts.stays given items' (Why (with_item r.state i it') (Grip views')) (λ j w at_j. (w, at_j, refl, refl)) reasons;
        lying = lies;
        mine = put_here out1 p ls;
        others = λ q ne. put_else out1 p ls q ne ∙ put_else r.book.out p (recounted k c (r.book.out p)) q ne;
        value = refl;
        settled = λ q. never_due to p q it live_owned;
        hand_here = let h = held in let one = points_self i in let split = ap (λ (z : List Owner). steps.times i (items_of z)) first in let mine = ap (steps.one_if_same i) same_item in omega arith;
        hand_else = λ j ne. let none_of = points_other j i (λ e. ne (sym e)) in let split = ap (λ (z : List Owner). steps.times j (items_of z)) first in let mine = ap (steps.one_if_same j) same_item in omega arith;
        alive = live_owned;
        holds = refl;
        distinct = releases.distinct_now S IsIn plan s r id d l o os at kind ready has first slot to;
        waits = retires_now;
        once = releases.once_now S IsIn plan s r id d l o os at kind ready has first slot to;
        noted = releases.collects S IsIn plan s r id d l o os at kind ready has first slot to;
        old_waits = λ w h. releases.new_waits to (2 + it.owners) l d.waits w h;
        old_notes = λ w h. releases.new_notes to (2 + it.owners) l d.collected w h;
        owns = λ w h. r.items.owners id d w at (subst (λ (z : List Owner). Has z w) (sym first) (inr h));
      }

      pub shown_end : Shows IsIn plan record { words = set s.words (slot_word plan.sizes k) (get_or s.words (slot_word plan.sizes k) 0 - 1); homes = homes'; views = views' }
      shown_end = subst (λ z. Shows IsIn plan record { words = set s.words (slot_word plan.sizes k) z; homes = homes'; views = views' }) (let w = word_is in let h = owned in let e : 2 + (it.owners - 1) ≡ get_or s.words (slot_word plan.sizes k) 0 - 1 = omega arith in e)
          (recounted_shown S IsIn plan s r id k i d it it' at kind y.inside y.is f.here ls os 0 (retiring to (2 + it.owners) l d.waits) (collecting to (2 + it.owners) l d.collected) share' out2 what' homes' recounts (lowers to r.state p i d.known it may (r.epochs.seats id d at kind).is ready f.here held))

  -- there is one way only to tell what the seat has
  one_end : (me : Me S Acting) (l l' : Lease) (ls ls' : List Lease) (o o' : Owner) (os os' : List Owner) (tail tail' : List (ℕ × S)) → Apart me.0.leases → CanEnd IsIn me l ls o os tail → CanEnd IsIn me l' ls' o' os' tail' → (l ≡ l') × (ls ≡ ls') × (os ≡ os') × (tail ≡ tail')
  one_end me l l' ls ls' o o' os os' tail tail' once a b = let heads : o ∷ os ≡ o' ∷ os' = sym a.1 ∙ b.1 in let owners : o ≡ o' = cc in let others : os ≡ os' = cc in
      let here = subst (λ (z : List Lease). Has z l) (sym a.0) (has_last ls l) in let there = subst (λ (z : List Lease). Has z l') (sym b.0) (has_last ls' l') in
      let same : l ≡ l' = same_lease me.0.leases l l' once here there (sym a.2 ∙ (ap (λ (z : Owner). z.slot) owners ∙ b.2)) in (
        same,
        append_cancel_right ls ls' (l' ∷ []) (ap (λ (z : Lease). ls ++ z ∷ []) (sym same) ∙ (sym a.0 ∙ b.0)),
        others,
        ap table.rest (sym a.4.2 ∙ b.4.2),
      )

  pub ends_one : (to : Participant → Option ℕ) (slots id : ℕ) (me : Me S Acting) (l : Lease) (ls : List Lease) (o : Owner) (os : List Owner) (tail : List (ℕ × S)) → MayNote (to me.0.known) me.0.known → me.0.kind ≡ 1 → is_ready me.0.known ≡ true → CanEnd IsIn me l ls o os tail
      → Allows (Shows IsIn plan) slots id me (slot_word plan.sizes l.slot) (λ k. (k + (18446744073709551616 - 1)) % 18446744073709551616) (end_release_then IsIn to (step slots (slot_word plan.sizes l.slot) 1 0 none) me)
  ends_one to slots id me l ls o os tail may kind ready can s r _ at fits = let d = me.0 in let i : ℕ = slot_word plan.sizes l.slot in let m : ℕ = get_or s.words i 0 in let more = some_left s r id d l ls o os at kind ready can.0 can.1 can.2 can.3 (to d.known) in
      let room = releases.room S IsIn plan s r id d l o os at kind ready (has s r id d l ls o os at kind ready can.0 can.1 can.2 can.3 (to d.known)) can.1 can.2 (to d.known) in
      let u = can.4.0 in let once = subst Apart (r.items.seats id d at kind).leases (r.items.parts.once d.number) in let d' = ended_release (to d.known) m l ls os d in
      let shown = subst (λ (z : Sizes). Shows IsIn plan record { words = set s.words i (m - 1); homes = set s.homes (home z.slots l.slot d.number) (some u); views = set s.views id d' }) (sym (r.items.seats id d at kind).sizes_are)
      (subst (λ z. Shows IsIn plan record { words = set s.words i (m - 1); homes = set s.homes (home plan.sizes.slots l.slot d.number) (some u); views = set s.views id (ended_release (to d.known) z l ls os d) }) (sym (word_is s r id d l ls o os at kind ready can.0 can.1 can.2 can.3 (to d.known))) (shown_end s r id d l ls o os at kind ready can.0 can.1 can.2 can.3 (to d.known) may u can.4.1)) in
      let kept = subst (λ z. Shows IsIn plan record { words = set s.words i z; homes = set s.homes (own_home d l.slot) (some u); views = set s.views id d' }) (sym (less_one m (omega arith) fits)) shown in (
        d',
        gives,
        tt,
        subst (λ (cs : List (ℕ × S)). Shows IsIn plan (stepped s i ((m + (18446744073709551616 - 1)) % 18446744073709551616) id cs d' gives)) (sym can.4.2) kept,
        λ l1 ls1 o1 os1 tail1 can1. let same = one_end me l l1 ls ls1 o o1 os os1 tail tail1 once can can1 in (more, room, λ j. (ended_release (to d.known) m (same.0 j) (same.1 j) (same.2 j) d, (ap table.rest can.4.2 ∙ same.3) j)),
      )
