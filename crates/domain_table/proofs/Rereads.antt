-- under an open guard the count is read again, and noted
use Rattle.std.proofs.Common.{◌≡◌, ◌==◌, ◌&&◌, ◌+◌, ◌≤◌, ℕ, Some, true, false, get_or, set, sym, refl, ap, ◌∙◌, inr, arith}
use mathlib.Core.Option.{some, none}
use lib.ListN.{get_elem?}
use Rattle.atomic_table.specs.Table.{State, Me, step, keeps, Allows}
use Rattle.sdd_steps.specs.declared.participant.Phase.{Phase}
use Rattle.sdd_steps.specs.declared.participant.Phase.TheVariants.{Idle, HasRead, Opened}
use Rattle.sdd_steps.specs.declared.participant.Participant.{Participant}
use Rattle.sdd_steps.specs.declared.step.Step.TheVariants.{Reread}
use Rattle.sdd_steps.specs.State.{with_participant}
use Rattle.sdd_steps.specs.Steps.{LeadsTo, is_inside, is_opened_phase, count_of}
use Rattle.sdd_steps.proofs.Enabling.{participant_read, participant_passes}
use Rattle.sdd_homes.specs.Book.{Content}
use Rattle.domain_table.specs.Layout.{count_word}
use Rattle.domain_table.specs.Plays.{reread_then}
use Rattle.domain_table.specs.Rule.{Shows}
use Rattle.domain_table.specs.Views.{rereading}
use Rattle.domain_table.specs.declared.board.Acting.{Acting}
use Rattle.domain_table.specs.declared.board.Plan.{Plan}
use Rattle.domain_table.proofs.Taken as taken
use Rattle.domain_table.proofs.Moves.{own_load, own_inside}
use Rattle.domain_table.proofs.Stirred.{stirred_none, loads_on}

module _ (S : Type 0) (IsIn : Content → S → Type 0) (plan : Plan) where
  -- the count stands beside that of the publication
  opened : (s : State S Acting) (r : Shows IsIn plan s) (id : ℕ) (d : Acting) → get_elem? s.views id ≡ some d → d.kind ≡ 1 → is_inside d.known ≡ true → (d.born ≤ r.state.count) × (r.state.count ≤ d.born + 1)
  opened s r id d at kind inside = (elim d.known.phase as (λ f. d.known.phase ≡ f → (d.born ≤ r.state.count) × (r.state.count ≤ d.born + 1)) [
    | Idle ↦ λ e. let bad : false ≡ true = sym (ap (λ (f : Phase). is_opened_phase f && (count_of f == d.known.found)) e) ∙ inside in absurd (cc)
    | HasRead n ↦ λ e. let bad : false ≡ true = sym (ap (λ (f : Phase). is_opened_phase f && (count_of f == d.known.found)) e) ∙ inside in absurd (cc)
    | Opened n ↦ λ e. let i = own_inside S IsIn plan s r id d at kind n e in (i.1, i.2)
  ]) refl

  pub rereads : (slots id : ℕ) (me : Me S Acting) → me.0.kind ≡ 1 → is_inside me.0.known ≡ true → Allows (Shows IsIn plan) slots id me count_word (λ k. k) (reread_then (step slots count_word 0 0 none) me)
  rereads slots id me kind inside s r _ at _ = let d = me.0 in let a = r.epochs.seats id d at kind in let x = d.known in let p = d.number in let k : ℕ = get_or s.words 0 0 in
      let x' : Participant = record x { reread = Some r.state.count } in let core = with_participant r.state p x' in let d' : Acting = record d { known = rereading k x } in
      let taken_now : LeadsTo r.state (Reread p) core = (participant_passes is_inside r.state p x a.is inside, λ j. with_participant r.state p (record (sym (participant_read r.state p x a.is) j) { reread = Some r.state.count })) in (
        d',
        keeps,
        tt,
        own_load S IsIn plan s r 0 id d d' (record {
          core = core;
          runs = taken.one r.state (Reread p) core taken_now;
          count = refl;
          changed = ap (λ (c : ℕ). set r.state.participants p (record x { reread = Some c })) (sym r.epochs.count_is);
          inside = λ e h. own_inside S IsIn plan s r id d at kind e h;
          again = λ e h. inr (h, a.begun e h);
          looks = λ q y e h has other at_q is_q. r.bounded.looks p x q y e a.is h has at_q is_q;
          still = λ h. let bad : false ≡ true = sym (ap (λ (f : Phase). is_opened_phase f && (count_of f == x.found)) h) ∙ inside in absurd (cc);
          number = refl;
          scan = λ z. z;
          present = a.present;
        }) (record {
          cells = refl;
          stirred = stirred_none r.state.items;
          loads = inr (loads_on r.state core p x x' a.is refl refl refl);
          same = refl;
          distinct = λ h. h;
          waits_mine = λ _ w all h. all w h;
          links_mine = λ _ _ w all h. all w h;
          waits_others = λ _ _ _ _ h. h;
          lefts = λ _ _ h. h;
          notes = λ _ _ h. h;
        }) at kind refl,
        (let i = opened s r id d at kind inside in let i1 = i.0 in let i2 = i.1 in let here = r.epochs.count_is in (refl, omega arith, omega arith, λ w has. let h = r.items.private.noted id d w at has in let f = r.kept.1.2.noted w.item h.0 w.age h.1 h.2 in let late = f.1 in omega arith)),
      )
