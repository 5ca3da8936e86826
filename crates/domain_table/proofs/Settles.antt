-- looking for open guards before one's own, and what is due where there is none, keep the rule of the table
use Rattle.std.proofs.Common.{◌≡◌, ◌≢◌, ℕ, ◌<◌, ◌≤◌, [], ◌∷◌, ◌++◌, map, get_or, set, sym, refl, ap, ◌∙◌, subst, inr, arith}
use mathlib.Core.Logic.{dite}
use native.Mathlib.Decide.{ℕ_discrete}
use Rattle.atomic_table.specs.Table.{Me, step, keeps, Allows}
use Rattle.domain_table.specs.declared.board.Plan.{Plan}
use Rattle.sdd_steps.specs.declared.participant.Phase.TheVariants.{Idle, HasRead, Opened}
use Rattle.sdd_steps.specs.declared.participant.Participant.{Participant}
use Rattle.sdd_steps.specs.declared.step.Step.TheVariants.{LookShut, Settle}
use Rattle.sdd_steps.specs.State.{Has, with_participant}
use Rattle.sdd_steps.specs.Steps.{settled_by}
use Rattle.sdd_steps.specs.State as steps
use Rattle.sdd_steps.proofs.ListLemmas.{find_at, has_map}
use Rattle.sdd_homes.specs.Book.{Content}
use Rattle.sdd_homes.specs.Reasons.{Loads}
use Rattle.sdd_homes.specs.declared.Garbage.{Garbage}
use Rattle.domain_table.specs.Views.{looking, settling}
use Rattle.domain_table.specs.Items.{IsLinked}
use Rattle.domain_table.specs.Layout.{state_word, count_word, shown}
use Rattle.domain_table.specs.Rule.{Shows}
use Rattle.domain_table.specs.Plays.{shut_then, settle_then}
use Rattle.domain_table.specs.declared.board.Acting.{Acting}
use Rattle.domain_table.proofs.Moves.{own_load, idles}
use Rattle.domain_table.proofs.Stirred.{stirred_none, stirred_settled, loads_none, waits_settled, waits_settled_else, distinct_settled, left_settled, notes_settled}
use Rattle.domain_table.proofs.Taken as taken

-- who has read the count has no guard open
not_open : (e : ℕ) (x : Participant) → x.phase ≡ HasRead e → (n : ℕ) → x.phase ≢ Opened n
not_open e x is n h = let bad : HasRead e ≡ Opened n = sym is ∙ h in cc

not_idle : (e : ℕ) (x : Participant) → x.phase ≡ HasRead e → x.phase ≢ Idle
not_idle e x is h = let bad : HasRead e ≡ Idle = sym is ∙ h in cc

module _ (S : Type 0) (IsIn : Content → S → Type 0) (plan : Plan) where
  pub looks_shut : (slots id : ℕ) (me : Me S Acting) (q e : ℕ) → me.0.kind ≡ 1 → me.0.known.phase ≡ HasRead e → q ≢ me.0.number → q < plan.sizes.participants
      → Allows (Shows IsIn plan) slots id me (state_word q) (λ k. k) (shut_then (step slots (state_word q) 0 0 mathlib.Core.Option.none) me)
  looks_shut slots id me q e kind is other small s r _ at _ = let d = me.0 in let a = r.epochs.seats id d at kind in let x = d.known in let p = d.number in let i : ℕ = state_word q in let w : ℕ = get_or s.words i 0 in
      let many = r.epochs.many in let y = find_at r.state.participants q (omega arith) in let word = r.epochs.states q y.0 y.1 in let d' : Acting = record d { known = looking q d.known } in
      let core = with_participant r.state p (record x { looked = x.looked ++ q ∷ [] }) in dite (ℕ_discrete w 0)
      (λ none. (
        d',
        keeps,
        tt,
        own_load S IsIn plan s r i id d d' (record {
          core = core;
          runs = taken.one r.state (LookShut p q) core (taken.looks_shut r.state p x a.is e q y.0 is other y.1 (λ n h. let bad : w ≡ shown (Opened n) = word ∙ ap shown h in omega arith));
          count = refl;
          changed = refl;
          inside = λ n h. absurd (not_open e x is n h);
          again = λ n h. absurd (not_open e x is n h);
          looks = λ q' y' n h. absurd (not_open e x is r.state.count h);
          still = λ h. absurd (not_idle e x is h);
          number = refl;
          scan = λ z. z;
          present = λ more. a.present more;
        }) (record {
          cells = refl;
          stirred = stirred_none r.state.items;
          loads = inr (λ j l. loads_none r.state p x a.is (not_open e x is) (Loads core p j) j l);
          same = refl;
          distinct = λ h. h;
          waits_mine = λ _ v all h. all v h;
          links_mine = λ _ _ v all h. all v h;
          waits_others = λ _ _ _ _ h. h;
          lefts = λ _ _ h. h;
          notes = λ _ _ h. h;
        }) at kind refl,
        λ q' iq. let k : q ≡ q' = omega arith in ((λ _. ap (λ (z : ℕ). (record d { known = looking z d.known }, me.1)) k), λ some_word. absurd (some_word none)),
      ))
      (λ some_word. (d, keeps, tt, idles S IsIn plan s r i id d at, λ q' iq. ((λ none. absurd (some_word none)), λ _. refl)))

  pub settles : (slots id : ℕ) (me : Me S Acting) (e : ℕ) → me.0.kind ≡ 1 → me.0.known.phase ≡ HasRead e → 3 ≤ e → ((q : ℕ) → q < plan.sizes.participants → q ≢ me.0.number → Has me.0.known.looked q)
      → Allows (Shows IsIn plan) slots id me count_word (λ k. k) (settle_then (step slots count_word 0 0 mathlib.Core.Option.none) me)
  settles slots id me e kind is three all s r _ at _ = let d = me.0 in let a = r.epochs.seats id d at kind in let x = d.known in let p = d.number in let many = r.epochs.many in let d' : Acting = settling e d in
      let core : steps.State = record r.state { participants = set r.state.participants p (record x { found = e }); items = map (settled_by p) r.state.items } in (
        d',
        keeps,
        tt,
        own_load S IsIn plan s r 0 id d d' (record {
          core = core;
          runs = taken.one r.state (Settle p) core (taken.settles r.state p x a.is e is three (λ q low other. all q (omega arith) other));
          count = refl;
          changed = refl;
          inside = λ n h. absurd (not_open e x is n h);
          again = λ n h. absurd (not_open e x is n h);
          looks = λ q' y' n h. absurd (not_open e x is r.state.count h);
          still = λ h. absurd (not_idle e x is h);
          number = refl;
          scan = λ z. z;
          present = λ more. a.present more;
        }) (record {
          cells = refl;
          stirred = stirred_settled p r.state.items;
          loads = inr (λ j l. loads_none r.state p x a.is (not_open e x is) (Loads core p j) j l);
          same = refl;
          distinct = λ h. distinct_settled d.waits h;
          waits_mine = λ slot_of w every h. waits_settled p r.state.items slot_of d.waits w every h;
          links_mine = λ sizes words w every h. let t = has_map (λ (v : Garbage). record v { age = 3 }) d.waits w h in subst (IsLinked sizes words) t.2 (every t.0 t.1);
          waits_others = λ slot_of q w ne h. waits_settled_else p q r.state.items slot_of w ne h;
          lefts = λ slot_of w h. left_settled p r.state.items slot_of w h;
          notes = λ slot_of w h. notes_settled p r.state.items slot_of w h;
        }) at kind refl,
        λ e' is'. let same : HasRead e ≡ HasRead e' = sym is ∙ is' in let k : e ≡ e' = cc in ap (λ (z : ℕ). (settling z d, me.1)) k,
      )
