-- one more owner of an item that the participant leases, with one of its parts
use Rattle.std.proofs.Common.{◌≡◌, ◌&&◌, true, ℕ, ◌+◌, ◌-◌, ◌^◌, ◌<◌, List, None, ◌∷◌, get_or, set, sym, refl, ap, ◌∙◌, subst, ⊎_elim, inl, inr, arith, eqb, eq-eqb, ne_eqb, lt-ltb, nat_lt}
use mathlib.Core.Logic.{dite}
use mathlib.Core.Option.{some, none}
use native.Mathlib.Decide.{ℕ_discrete}
use prog.Atomic.{either}
use lib.ListN.{get_elem?}
use Rattle.atomic_table.specs.Table.{State, Me, step, keeps, Allows}
use Rattle.sdd_plain.specs.declared.sizes.Sizes.{Sizes}
use Rattle.sdd_steps.specs.declared.item.Item.{Item}
use Rattle.sdd_steps.specs.declared.item.ItemState.TheVariants.{Live, Due}
use Rattle.sdd_steps.specs.declared.step.Step.TheVariants.{RaiseOwners}
use Rattle.sdd_steps.specs.State.{Has, with_item, participant_is, item_is}
use Rattle.sdd_steps.specs.Steps.{LeadsTo, is_ready, is_live}
use Rattle.sdd_steps.proofs.Enabling.{participant_passes, item_passes, item_read}
use Rattle.sdd_steps.proofs.CountLemmas.{points_self, points_other}
use Rattle.sdd_homes.specs.declared.Lease.{Lease}
use Rattle.sdd_homes.specs.Book.{Content, Apart, recounted}
use Rattle.sdd_homes.specs.Parts.{Leased, Full}
use Rattle.sdd_homes.specs.Reasons.{Loads, Why}
use Rattle.sdd_homes.proofs.Leases.{lends_has, same_lease}
use Rattle.sdd_homes.proofs.OwnerLemmas.{raised, clones}
use Rattle.sdd_homes.proofs.PartLemmas as parts
use Rattle.sdd_steps.proofs.ListLemmas.{put, put_here, put_else}
use Rattle.domain_table.specs.Layout.{slot_word}
use Rattle.domain_table.specs.Items.{Grip}
use Rattle.domain_table.specs.Rule.{Shows}
use Rattle.domain_table.specs.Plays.{owner_of, cloning, clone_then, IsAlike}
use Rattle.domain_table.specs.declared.board.Acting.{Acting}
use Rattle.domain_table.specs.declared.board.Plan.{Plan}
use Rattle.domain_table.proofs.Taken as taken
use Rattle.domain_table.proofs.Taken.{and_true}
use Rattle.domain_table.proofs.Moves.{idles}
use Rattle.domain_table.proofs.Releases.{same_item, same_round}
use Rattle.domain_table.proofs.Stirred.{grip_set}
use Rattle.domain_table.proofs.Recounts.{Recounts, waits_else, recounted_shown}

module _ (S : Type 0) (IsIn : Content → S → Type 0) (plan : Plan) where
  abbrev n : ℕ
  n = plan.sizes.participants

  -- the word tells that the item has `count` owners
  module _ (s : State S Acting) (r : Shows IsIn plan s) (id count : ℕ) (d : Acting) (l : Lease) (at : get_elem? s.views id ≡ some d) (kind : d.kind ≡ 1) (ready : is_ready d.known ≡ true) (has : Has d.leases l) (left : 0 < l.count) (some_owner : 0 < count) (below : count < 2 ^ 32 - 1)
      (found : get_or s.words (slot_word plan.sizes l.slot) 0 ≡ 2 + count) where
    abbrev p : ℕ
    p = d.number

    in_out : Has (r.book.out p) l
    in_out = subst (λ (ls : List Lease). Has ls l) (sym (r.items.seats id d at kind).leases) has

    y : Leased n plan.sizes.slots r.state.items (Why r.state (Grip s.views)) r.book.stage r.book.share p l
    y = r.items.parts.leases p l in_out

    f : Full n plan.sizes.slots r.state.items r.book.slot_of (r.book.share l.slot) r.book.out r.book.what (r.book.held l.slot) l.slot l.item
    f = r.items.parts.full_at l.slot l.item y.inside y.is

    abbrev it : Item
    it = f.it

    owners_are : it.owners ≡ count
    owners_are = let w = r.items.slot_words l.slot l.item it y.inside y.is f.here in omega arith

    alive : it.state ≡ Live
    alive = let o = owners_are in (r.kept.0.owned l.item it f.here).is_live (omega arith)

    raises : LeadsTo r.state (RaiseOwners p l.item) (with_item r.state l.item (raised it))
    raises = let o = owners_are in (
      and_true (participant_is is_ready r.state p) (item_is (λ q. is_live q.state && nat_lt q.owners (2 ^ 32 - 1)) r.state l.item) (participant_passes is_ready r.state p d.known (r.epochs.seats id d at kind).is ready)
          (item_passes (λ q. is_live q.state && nat_lt q.owners (2 ^ 32 - 1)) r.state l.item it f.here (and_true (is_live it.state) (nat_lt it.owners (2 ^ 32 - 1)) (ap is_live alive) (lt-ltb it.owners (2 ^ 32 - 1) (omega arith)))),
      λ j. with_item r.state l.item (raised (sym (item_read r.state l.item it f.here) j)),
    )

    abbrev c : ℕ
    c = r.book.share l.slot p - 1

    same_count : c ≡ l.count - 1
    same_count = let z = y.count in omega arith

    abbrev out' : ℕ → List Lease
    out' = put r.book.out p (recounted l.slot c (r.book.out p))

    abbrev share' : ℕ → ℕ → ℕ
    share' = put r.book.share l.slot (put (r.book.share l.slot) p c)

    abbrev views' : List Acting
    views' = set s.views id (cloning l d)

    reasons : (q : ℕ) (e : Lease) → Has (r.book.out q) e → Why r.state (Grip s.views) q e.item → Why (with_item r.state l.item (raised it)) (Grip views') q e.item
    reasons q e _ = ⊎_elim (λ (t : Loads r.state q e.item). inl t) (λ (g : Grip s.views q e.item). inr (grip_set s.views id d (cloning l d) at (λ _ _ h. (h.0, h.1, h.2, inr h.3)) q e.item g))

    counted : Recounts S IsIn plan s r id l.slot l.item d it (raised it) at kind y.inside y.is f.here (recounted l.slot (l.count - 1) d.leases) (owner_of l ∷ d.hand) d.releasing d.waits d.collected share' out' r.book.what s.homes
    counted = record {
      parts = let z = y.count in clones (parts.stays r.items.parts r.state.items (Why (with_item r.state l.item (raised it)) (Grip views')) (λ i w at_i. (w, at_i, refl, refl)) reasons) p l.slot l.item it y.low y.inside y.is (lends_has (r.book.out p) l in_out) f.here (omega arith);
      lying = r.items.lying;
      mine = put_here r.book.out p (recounted l.slot c (r.book.out p)) ∙ (λ j. recounted l.slot (same_count j) ((r.items.seats id d at kind).leases j));
      others = λ q ne. put_else r.book.out p (recounted l.slot c (r.book.out p)) q ne;
      value = refl;
      settled = λ q e. let bad : Live ≡ Due q = sym alive ∙ e in absurd (cc);
      hand_here = let one = points_self l.item in omega arith;
      hand_else = λ j ne. let none_of = points_other j l.item (λ e. ne (sym e)) in omega arith;
      alive = alive;
      holds = refl;
      distinct = (r.items.seats id d at kind).distinct;
      waits = λ w h. waits_else S IsIn plan s r id l.slot l.item d it (raised it) at kind y.inside y.is f.here (recounted l.slot (l.count - 1) d.leases) (owner_of l ∷ d.hand) d.releasing d.waits d.collected share' out' r.book.what s.homes alive p w (r.items.waiting id d w at kind h);
      once = r.items.private.once id d at;
      noted = λ w h. inl h;
      old_waits = λ w h. inl h;
      old_notes = λ w h. inl h;
      owns = λ o h. ⊎_elim (λ (e : owner_of l ≡ o). subst (Rattle.domain_table.specs.Items.Owns r.state.items r.book.slot_of) e (it, f.here, y.round it f.here, f.slot)) (λ (t : Has d.hand o). r.items.owners id d o at t) h;
    }

    pub shown_clone : Shows IsIn plan record { words = set s.words (slot_word plan.sizes l.slot) (3 + count); homes = s.homes; views = views' }
    shown_clone = subst (λ z. Shows IsIn plan record { words = set s.words (slot_word plan.sizes l.slot) z; homes = s.homes; views = views' }) (let o = owners_are in let e : 2 + (it.owners + 1) ≡ 3 + count = omega arith in e)
        (recounted_shown S IsIn plan s r id l.slot l.item d it (raised it) at kind y.inside y.is f.here (recounted l.slot (l.count - 1) d.leases) (owner_of l ∷ d.hand) d.releasing d.waits d.collected share' out' r.book.what s.homes counted
        (taken.one r.state (RaiseOwners p l.item) (with_item r.state l.item (raised it)) raises))

  -- an owner of the slot is one of the item that is leased
  is_alike : (s : State S Acting) (r : Shows IsIn plan s) (id : ℕ) (d : Acting) (l : Lease) → get_elem? s.views id ≡ some d → d.kind ≡ 1 → is_ready d.known ≡ true → Has d.leases l → IsAlike l d
  is_alike s r id d l at kind ready has o os first slot = λ j. record {
    item = sym (same_item S IsIn plan s r id d l o os at kind ready has first slot None) j;
    slot = sym slot j;
    round = sym (same_round S IsIn plan s r id d l o os at kind ready has first slot None) j;
  }

  pub makes_owner : (slots id count : ℕ) (me : Me S Acting) (l : Lease) → me.0.kind ≡ 1 → is_ready me.0.known ≡ true → Has me.0.leases l → 0 < l.count → 0 < count → count < 2 ^ 32 - 1
      → Allows (Shows IsIn plan) slots id me (slot_word plan.sizes l.slot) (λ k. either (eqb k (2 + count)) (3 + count) k) (clone_then (step slots (slot_word plan.sizes l.slot) (2 + count) (3 + count) none) me)
  makes_owner slots id count me l kind ready has left some_owner below s r _ at _ = let d = me.0 in let i : ℕ = slot_word plan.sizes l.slot in let k : ℕ = get_or s.words i 0 in let b = r.items.seats id d at kind in
      let once = subst Apart b.leases (r.items.parts.once d.number) in
      let told : (e : Lease) → Has d.leases e → i ≡ slot_word d.sizes e.slot → l ≡ e = (λ e has_e w. let z = ap (λ (q : Sizes). slot_word q e.slot) b.sizes_are in same_lease d.leases l e once has has_e (omega arith)) in dite (ℕ_discrete k (2 + count))
      (λ hit. (
        cloning l d,
        keeps,
        tt,
        subst (λ h. Shows IsIn plan record { words = set s.words i (either h (3 + count) k); homes = s.homes; views = set s.views id (cloning l d) }) (sym (eq-eqb k (2 + count) hit)) (shown_clone s r id count d l at kind ready has left some_owner below hit),
        λ e has_e w. ((λ _. ap (λ (z : Lease). (cloning z d, me.1)) (told e has_e w)), (λ miss. absurd (miss hit)), once, is_alike s r id d e at kind ready has_e),
      ))
      (λ miss. (
        d,
        keeps,
        tt,
        subst (λ h. Shows IsIn plan record { words = set s.words i (either h (3 + count) k); homes = s.homes; views = set s.views id d }) (sym (ne_eqb k (2 + count) miss)) (idles S IsIn plan s r i id d at),
        λ e has_e _. ((λ hit. absurd (miss hit)), (λ _. refl), once, is_alike s r id d e at kind ready has_e),
      ))
