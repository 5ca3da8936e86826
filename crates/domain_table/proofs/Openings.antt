-- opening a guard keeps the rule of the table
use Rattle.std.proofs.Common.{◌≡◌, ◌≢◌, ◌==◌, ◌+◌, true, false, ℕ, ◌≤◌, [], ◌∷◌, map, get_or, set, sym, refl, ap, ◌∙◌, subst, inl, inr, arith, None, List, cond, eq-eqb, ne_eqb}
use mathlib.Core.Logic.{dite}
use native.Mathlib.Decide.{ℕ_discrete}
use Rattle.atomic_table.specs.Table.{Me, step, keeps, Allows}
use Rattle.domain_table.specs.declared.board.Plan.{Plan}
use Rattle.sdd_steps.specs.declared.participant.Phase.TheVariants.{Idle, HasRead, Opened}
use Rattle.sdd_steps.specs.declared.participant.Participant.{Participant}
use Rattle.sdd_steps.specs.declared.step.Step.TheVariants.{ReadEpoch, Publish, Rotate}
use Rattle.sdd_steps.specs.State.{At, with_participant, Has}
use Rattle.sdd_steps.specs.Steps.{older}
use Rattle.sdd_steps.specs.State as steps
use Rattle.sdd_steps.proofs.ListLemmas.{set_here, has_map}
use Rattle.sdd_homes.specs.Reasons.{Loads}
use Rattle.sdd_homes.proofs.SwapLemmas.{set_twice}
use Rattle.domain_table.specs.Views.{reading, publishing, rotated, older_waits}
use Rattle.sdd_homes.specs.Book.{Content}
use Rattle.domain_table.specs.Layout.{state_word, count_word, shown}
use Rattle.domain_table.specs.Rule.{Runs, Shows}
use Rattle.domain_table.specs.Plays.{read_then, publish_then, count_then}
use Rattle.domain_table.specs.declared.board.Acting.{Acting}
use Rattle.domain_table.proofs.Moves.{own_load, own_store, own_inside, idles}
use Rattle.domain_table.proofs.Stirred.{Stirred, stirred_none, stirred_older, loads_none, waits_older, waits_older_else, distinct_older, left_older, notes_older}
use Rattle.domain_table.proofs.Taken as taken
use Rattle.domain_table.specs.Items.{IsWaiting, IsLeftover, IsNoted, IsLinked, Distinct}
use Rattle.sdd_homes.specs.declared.Garbage.{Garbage}
use Rattle.sdd_plain.specs.declared.sizes.Sizes.{Sizes}

-- p publishes the count that it read, and rotates if it found another one before
record Published (core : steps.State) (p e : ℕ) (x : Participant) : Type 0 where
  next : steps.State
  runs : Runs core next
  cells : next.cells ≡ core.cells
  stirred : Stirred core.items next.items
  count : next.count ≡ core.count
  changed : next.participants ≡ set core.participants p (publishing e x)
  distinct : (ws : List Garbage) → Distinct ws → Distinct (rotated e x.found ws)
  waits_mine : (slot_of : ℕ → ℕ) (ws : List Garbage) (w : Garbage) → ((v : Garbage) → Has ws v → IsWaiting core.items slot_of p v) → Has (rotated e x.found ws) w → IsWaiting next.items slot_of p w
  waits_others : (slot_of : ℕ → ℕ) (q : ℕ) (w : Garbage) → q ≢ p → IsWaiting core.items slot_of q w → IsWaiting next.items slot_of q w
  lefts : (slot_of : ℕ → ℕ) (w : Garbage) → IsLeftover core.items slot_of w → IsLeftover next.items slot_of w
  notes : (slot_of : ℕ → ℕ) (w : Garbage) → IsNoted core.items slot_of w → IsNoted next.items slot_of w

published : (core : steps.State) (p e : ℕ) (x : Participant) → At core.participants p x → x.phase ≡ HasRead e → Published core p e x
published core p e x at is = let x1 : Participant = record x { phase = Opened e; reread = None; looked = []; loaded = [] } in let t = with_participant core p x1 in
    let opens = taken.publishes core p x at e is in dite (ℕ_discrete e x.found)
    (λ same. record { next = t; runs = taken.one core (Publish p) t opens; cells = refl; stirred = stirred_none core.items; count = refl; changed = ap (λ (z : ℕ). set core.participants p (record x1 { found = z })) (sym same); distinct = λ ws h. subst (λ b. Distinct (cond b ws (older_waits ws))) (sym (eq-eqb e x.found same)) h; waits_mine = λ _ ws w all h. all w (subst (λ b. Has (cond b ws (older_waits ws)) w) (eq-eqb e x.found same) h); waits_others = λ _ _ _ _ h. h; lefts = λ _ _ h. h; notes = λ _ _ h. h })
    (λ differs. let x2 : Participant = record x1 { found = e } in let u : steps.State = record t { participants = set t.participants p x2; items = map (older p) t.items } in record {
      next = u;
      runs = (Publish p ∷ Rotate p ∷ [], (t, opens, (u, taken.rotates t p x1 (set_here core.participants p x1 x at) e refl differs, refl)));
      cells = refl;
      stirred = stirred_older p core.items;
      count = refl;
      changed = set_twice core.participants p x1 x2;
      distinct = λ ws h. subst (λ b. Distinct (cond b ws (older_waits ws))) (sym (ne_eqb e x.found differs)) (distinct_older ws h);
      waits_mine = λ slot_of ws w all h. waits_older p core.items slot_of ws w all (subst (λ b. Has (cond b ws (older_waits ws)) w) (ne_eqb e x.found differs) h);
      waits_others = λ slot_of q w ne h. waits_older_else p q core.items slot_of w ne h;
      lefts = λ slot_of w h. left_older p core.items slot_of w h;
      notes = λ slot_of w h. notes_older p core.items slot_of w h;
    })

-- what is older is linked as it was
links_rotated : (e found : ℕ) (sizes : Sizes) (words : List ℕ) (ws : List Garbage) (w : Garbage) → ((v : Garbage) → Has ws v → IsLinked sizes words v) → Has (rotated e found ws) w → IsLinked sizes words w
links_rotated e found sizes words ws w all = elim (e == found) as (λ b. Has (cond b ws (older_waits ws)) w → IsLinked sizes words w) [
  | true ↦ λ h. all w h
  | false ↦ λ h. let t = has_map (λ (v : Garbage). record v { age = v.age + 1 }) ws w h in subst (IsLinked sizes words) t.2 (all t.0 t.1)
]

module _ (S : Type 0) (IsIn : Content → S → Type 0) (plan : Plan) where
  pub reads : (slots id : ℕ) (me : Me S Acting) → me.0.kind ≡ 1 → me.0.known.phase ≡ Idle → me.0.scan ≡ 0
      → Allows (Shows IsIn plan) slots id me count_word (λ k. k) (read_then (step slots count_word 0 0 mathlib.Core.Option.none) me)
  reads slots id me kind is still s r _ at _ = let d = me.0 in let a = r.epochs.seats id d at kind in let x = d.known in let p = d.number in let k : ℕ = get_or s.words 0 0 in
      let core = with_participant r.state p (record x { phase = HasRead r.state.count }) in
      let d' : Acting = record d { known = reading k d.known } in (
        d',
        keeps,
        tt,
        own_load S IsIn plan s r 0 id d d' (record {
          core = core;
          runs = taken.one r.state (ReadEpoch p) core (taken.reads r.state p x a.is is);
          count = refl;
          changed = ap (λ (c : ℕ). set r.state.participants p (record x { phase = HasRead c })) (sym r.epochs.count_is);
          inside = λ e h. absurd (cc);
          again = λ e h. absurd (cc);
          looks = λ q y e h. absurd (cc);
          still = λ h. absurd (cc);
          number = refl;
          scan = λ z. z;
          present = λ z. absurd (omega arith);
        }) (record {
          cells = refl;
          stirred = stirred_none r.state.items;
          loads = inr (λ i l. loads_none r.state p x a.is (λ n h. let bad : Idle ≡ Opened n = sym is ∙ h in absurd (cc)) (Loads core p i) i l);
          same = refl;
          distinct = λ h. h;
          waits_mine = λ _ w all h. all w h;
          links_mine = λ _ _ w all h. all w h;
          waits_others = λ _ _ _ _ h. h;
          lefts = λ _ _ h. h;
          notes = λ _ _ h. h;
        }) at kind (ap shown (sym is)),
        refl,
      )

  publishes : (slots id : ℕ) (me : Me S Acting) (e v : ℕ) → me.0.kind ≡ 1 → me.0.known.phase ≡ HasRead e → me.0.scan ≡ 0 → v ≡ shown (Opened e)
      → Allows (Shows IsIn plan) slots id me (state_word me.0.number) (λ _. v) (λ _. publish_then (step slots (state_word me.0.number) v 0 mathlib.Core.Option.none) me v)
  publishes slots id me e v kind is still word s r _ at _ = let d = me.0 in let a = r.epochs.seats id d at kind in let t = published r.state d.number e d.known a.is is in let late = ((r.kept.1.2.guards d.number d.known a.is).reading e is).1 in
      let d' : Acting = record d { known = publishing e d.known; born = r.state.count; waits = rotated e d.known.found d.waits } in (
        d',
        keeps,
        tt,
        own_store S IsIn plan s r v id d d' (record {
          core = t.next;
          runs = t.runs;
          count = t.count;
          changed = t.changed;
          inside = λ n h. let k : e ≡ n = cc in (omega arith, omega arith, omega arith);
          again = λ n h. inl refl;
          looks = λ q y n h has. absurd has;
          still = λ h. absurd (cc);
          number = refl;
          scan = λ z. z;
          present = λ z. absurd (omega arith);
        }) (record {
          cells = t.cells;
          stirred = t.stirred;
          distinct = t.distinct d.waits;
          waits_mine = λ slot_of w all h. t.waits_mine slot_of d.waits w all h;
          links_mine = λ sizes words w all h. links_rotated e d.known.found sizes words d.waits w all h;
          waits_others = t.waits_others;
          lefts = t.lefts;
          notes = t.notes;
          loads = inr (λ i l. loads_none r.state d.number d.known a.is (λ n h. let bad : HasRead e ≡ Opened n = sym is ∙ h in absurd (cc)) (Loads t.next d.number i) i l);
          same = refl;
        }) at kind word,
        λ e' is'. let same : HasRead e ≡ HasRead e' = sym is ∙ is' in let k : e ≡ e' = cc in
            (r.state.count, subst (λ z. z ≤ r.state.count) k late, ap (λ (z : ℕ). (record d { known = publishing z d.known; born = r.state.count; waits = rotated z d.known.found d.waits }, me.1)) k),
      )

  pub publishes_at : (slots id : ℕ) (me : Me S Acting) (p e v : ℕ) → me.0.number ≡ p → me.0.kind ≡ 1 → me.0.known.phase ≡ HasRead e → me.0.scan ≡ 0 → v ≡ shown (Opened e)
      → Allows (Shows IsIn plan) slots id me (state_word p) (λ _. v) (λ _. publish_then (step slots (state_word p) v 0 mathlib.Core.Option.none) me v)
  publishes_at slots id me p e v here kind is still word = subst (λ q. Allows (Shows IsIn plan) slots id me (state_word q) (λ _. v) (λ _. publish_then (step slots (state_word q) v 0 mathlib.Core.Option.none) me v)) here
      (publishes slots id me e v kind is still word)

  pub counts : (slots id : ℕ) (me : Me S Acting) (e : ℕ) → me.0.kind ≡ 1 → me.0.known.phase ≡ Opened e
      → Allows (Shows IsIn plan) slots id me count_word (λ k. k) (count_then (step slots count_word 0 0 mathlib.Core.Option.none) me)
  counts slots id me e kind is s r _ at _ = let d = me.0 in let i = own_inside S IsIn plan s r id d at kind e is in let i1 = i.1 in let i2 = i.2 in
      let here = r.epochs.count_is in (d, keeps, tt, idles S IsIn plan s r 0 id d at, (refl, omega arith, omega arith))
