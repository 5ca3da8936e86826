-- a participant retires what is in the private bag that is at its seat
use Rattle.std.proofs.Common.{◌≡◌, ◌≢◌, true, ℕ, zero, suc, List, length, [], ◌∷◌, ◌++◌, get_or, set, sym, refl, ap, ◌∙◌, subst, ⊎_elim, inl, inr}
use mathlib.Core.Option.{some, none}
use lib.ListN.{get_elem?}
use lib.Seq.{set-get_or}
use Rattle.atomic_table.specs.Table.{State, Me, step, keeps, Allows}
use Rattle.sdd_steps.specs.declared.item.Item.{Item}
use Rattle.sdd_steps.specs.declared.item.ItemState.{ItemState}
use Rattle.sdd_steps.specs.declared.item.ItemState.TheVariants.{Retired, Collected, Waiting, Reclaimed}
use Rattle.sdd_steps.specs.declared.step.Step.TheVariants.{TakeOver}
use Rattle.sdd_steps.specs.State as steps
use Rattle.sdd_steps.specs.State.{At, Has, item_is, participant_is}
use Rattle.sdd_steps.specs.Steps.{is_ready, is_left}
use Rattle.sdd_steps.proofs.Enabling.{participant_passes, item_passes, item_read}
use Rattle.sdd_steps.proofs.ListLemmas.{set_here, set_else, same_at}
use Rattle.sdd_homes.specs.declared.Garbage.{Garbage}
use Rattle.sdd_homes.specs.Book.{Content}
use Rattle.sdd_homes.specs.Reasons.{Loads}
use Rattle.domain_table.specs.Items.{Grip, HasState, IsWaiting, IsNoted, Private, IsLinked, Distinct, Items}
use Rattle.domain_table.specs.Rule.{Runs, Shows}
use Rattle.domain_table.specs.Plays.{handing_over, taken_all, hand_all_then}
use Rattle.domain_table.specs.declared.board.Acting.{Acting}
use Rattle.domain_table.specs.declared.board.Plan.{Plan}
use Rattle.atomic_table.proofs.Lists.{set_again}
use Rattle.domain_table.proofs.Taken as taken
use Rattle.domain_table.proofs.Taken.{and_true}
use Rattle.domain_table.proofs.Looks.{has_last, has_more}
use Rattle.domain_table.proofs.Moves.{items_change, reads_only}
use Rattle.domain_table.proofs.Privates.{private_new}
use Rattle.domain_table.proofs.Reclaims.{init_distinct}
use Rattle.domain_table.proofs.Stirred.{Stirred, still_left, grip_set, seated}
use Rattle.domain_table.proofs.Stirred as items
use Rattle.domain_table.proofs.Takeovers.{stirred_set, no_more, set_twice, taken_snoc, unsnoc}

module _ (S : Type 0) (IsIn : Content → S → Type 0) (plan : Plan) where
  module _ (s : State S Acting) (r : Shows IsIn plan s) (id : ℕ) (d : Acting) (w : Garbage) (ws : List Garbage) (at : get_elem? s.views id ≡ some d) (kind : d.kind ≡ 1) (ready : is_ready d.known ≡ true) (last : d.collected ≡ ws ++ w ∷ []) where
    abbrev p : ℕ
    p = d.number

    abbrev i : ℕ
    i = w.item

    there : Has d.collected w
    there = subst (λ (z : List Garbage). Has z w) (sym last) (has_last ws w)

    was_noted : IsNoted r.state.items r.book.slot_of w
    was_noted = r.items.private.noted id d w at there

    abbrev it : Item
    it = was_noted.0

    abbrev it' : Item
    it' = record it { state = Retired p 0 }

    abbrev core : steps.State
    core = record r.state { items = set r.state.items i it' }

    abbrev d' : Acting
    d' = handing_over w ws d

    abbrev views' : List Acting
    views' = set s.views id d'

    runs : Runs r.state core
    runs = let a = r.epochs.seats id d at kind in taken.one r.state (TakeOver p i) core (
      and_true (participant_is is_ready r.state p) (item_is (λ z. is_left z.state) r.state i) (participant_passes is_ready r.state p d.known a.is ready) (item_passes (λ z. is_left z.state) r.state i it was_noted.1 (ap is_left was_noted.2)),
      λ j. record r.state { items = set r.state.items i (record (sym (item_read r.state i it was_noted.1) j) { state = Retired p 0 }) },
    )

    stirred : Stirred r.state.items core.items
    stirred = stirred_set r.state.items i it it' was_noted.1 (record {
      value = refl;
      hand = refl;
      owners = refl;
      holds = refl;
      due = λ q e. absurd (cc);
      gone = λ q e. let bad : Collected w.age ≡ Reclaimed q = sym was_noted.2 ∙ e in absurd (cc);
    })

    here : At core.items i it'
    here = set_here r.state.items i it' it was_noted.1

    -- what is in another state is another item
    unlike : (st : ItemState) (v : Garbage) → st ≢ Collected w.age → HasState r.state.items r.book.slot_of st v → v.item ≢ i
    unlike st v other h e = let same : h.0 ≡ it = same_at r.state.items i h.0 it (subst (λ m. At r.state.items m h.0) e h.1) was_noted.1 in other (sym h.2 ∙ (ap (λ (z : Item). z.state) same ∙ was_noted.2))

    states_on : (st : ItemState) (v : Garbage) → v.item ≢ i → HasState r.state.items r.book.slot_of st v → HasState core.items r.book.slot_of st v
    states_on st v ne h = (h.0, set_else r.state.items i v.item it' ne ∙ h.1, h.2, h.3, h.4)

    waits_on : (q : ℕ) (v : Garbage) → IsWaiting r.state.items r.book.slot_of q v → IsWaiting core.items r.book.slot_of q v
    waits_on q v h = states_on (Retired q v.age) v (unlike (Retired q v.age) v (λ e. absurd (cc)) h) h

    once : ((v : Garbage) → Has ws v → v.item ≢ i) × Distinct ws
    once = init_distinct ws w (subst Distinct last (r.items.private.once id d at))

    was_there : (v : Garbage) → Has ws v → Has d.collected v
    was_there v h = subst (λ (z : List Garbage). Has z v) (sym last) (has_more ws w v h)

    private_now : Private core.items r.book.slot_of views'
    private_now = private_new r.items.private id d' (λ v h. states_on (Collected v.age) v (once.0 v h) (r.items.private.noted id d v at (was_there v h))) once.1
        (λ j e v other e_at h. states_on (Collected v.age) v (λ same. other (r.items.private.apart j id e d v w e_at at h there same)) (r.items.private.noted j e v e_at h))
        (λ j e v u other e_at has_v has_u same. other (r.items.private.apart j id e d u v e_at at has_u (was_there v has_v) (sym same)))

    items_now : Items IsIn plan.sizes core r.book s.words s.homes views'
    items_now = let c = r.items.seats id d at kind in items.stays r.items core s.words views' refl stirred
        (λ q l _. ⊎_elim (λ (t : Loads r.state q l.item). inl t) (λ (g : Grip s.views q l.item). inr (grip_set s.views id d d' at (λ _ _ h. h) q l.item g)))
        (record { long = refl; high = λ _ _. refl; freed = λ _ _ _. inl refl })
        (seated r.items id d d' at refl (λ _. record {
          sizes_are = c.sizes_are;
          leases = c.leases;
          spare = c.spare;
          fills = c.fills;
          distinct = ((λ v has. unlike (Retired p v.age) v (λ e. absurd (cc)) (r.items.waiting id d v at kind has)), c.distinct);
          left = c.left;
        }))
        (items.waits_set r.items core.items id d'
        (λ v _ has. ⊎_elim (λ (e : record w { age = 0 } ≡ v). subst (IsWaiting core.items r.book.slot_of p) e (it', here, refl, was_noted.3, was_noted.4)) (λ (t : Has d.waits v). waits_on p v (r.items.waiting id d v at kind t)) has)
        (λ j e v _ at_e k has. waits_on e.number v (r.items.waiting j e v at_e k has)))
        (still_left r.items.leftovers (λ v h. states_on Waiting v (unlike Waiting v (λ e. absurd (cc)) h) h))
        private_now
        (items.links_set r.items s.words r.book.left id d' (λ _ _. refl)
        (λ v _ has. ⊎_elim (λ (e : record w { age = 0 } ≡ v). subst (IsLinked plan.sizes s.words) e (r.items.links.notes id d w at there)) (λ (t : Has d.waits v). r.items.links.waits id d v at kind t) has)
        (λ v has. r.items.links.notes id d v at (was_there v has)) r.items.links.lefts)

    shown_hand : (m : ℕ) → Shows IsIn plan record { words = set s.words m (get_or s.words m 0); homes = s.homes; views = views' }
    shown_hand m = subst (λ xs. Shows IsIn plan record { words = xs; homes = s.homes; views = views' }) (sym (set-get_or s.words m 0))
        (items_change S IsIn plan s r id d d' core s.words s.homes r.book at kind refl refl refl refl runs refl refl (reads_only S IsIn plan s r id d d' at kind refl) r.lefts items_now)

  abbrev all_of : Acting → Acting
  all_of d = record d { collected = []; waits = taken_all d.collected d.waits }

  -- one step on one word hands over all that is in the private bag, by as many single steps
  shown_all : (n : ℕ) (s : State S Acting) (r : Shows IsIn plan s) (id : ℕ) (d : Acting) → get_elem? s.views id ≡ some d → d.kind ≡ 1 → is_ready d.known ≡ true → length d.collected ≡ n → Shows IsIn plan record { words = s.words; homes = s.homes; views = set s.views id (all_of d) }
  shown_all zero s r id d at kind ready none_ = let nil : d.collected ≡ [] = no_more d.collected none_ in let same : all_of d ≡ d = (λ j. record d { collected = sym nil j; waits = taken_all (nil j) d.waits }) in
      subst (λ (vs : List Acting). Shows IsIn plan record { words = s.words; homes = s.homes; views = vs }) (sym (ap (set s.views id) same ∙ set_again s.views id d at)) r
  shown_all (suc m) s r id d at kind ready more = let t = unsnoc d.collected m more in let w = t.1 in let ws = t.0 in let d1 = handing_over w ws d in let s1 : State S Acting = record { words = s.words; homes = s.homes; views = set s.views id d1 } in
      let r1 : Shows IsIn plan s1 = subst (λ xs. Shows IsIn plan record { words = xs; homes = s.homes; views = set s.views id d1 }) (set-get_or s.words 0 0) (shown_hand s r id d w ws at kind ready t.2 0) in
      let after = shown_all m s1 r1 id d1 (set_here s.views id d1 d at) kind ready t.3 in
      let same : all_of d1 ≡ all_of d = (λ j. record d { collected = []; waits = (sym (taken_snoc ws d.waits w) ∙ ap (λ zs. taken_all zs d.waits) (sym t.2)) j }) in
      subst (λ (vs : List Acting). Shows IsIn plan record { words = s.words; homes = s.homes; views = vs }) (set_twice s.views id d1 (all_of d1) ∙ ap (set s.views id) same) after

  pub hands_all : (slots id i : ℕ) (me : Me S Acting) → me.0.kind ≡ 1 → is_ready me.0.known ≡ true → Allows (Shows IsIn plan) slots id me i (λ m. m) (hand_all_then (step slots i 0 0 none) me)
  hands_all slots id i me kind ready s r _ at _ = (
    all_of me.0,
    keeps,
    tt,
    subst (λ xs. Shows IsIn plan record { words = xs; homes = s.homes; views = set s.views id (all_of me.0) }) (sym (set-get_or s.words i 0)) (shown_all (length me.0.collected) s r id me.0 at kind ready refl),
    refl,
  )
