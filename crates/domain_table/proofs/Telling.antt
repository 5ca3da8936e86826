-- what a seat tells of its steps is no matter of the rule
use Rattle.std.proofs.Common.{◌≡◌, ℕ, List, [], get_or, set, sym, refl, subst, inr}
use mathlib.Core.Option.{some}
use lib.ListN.{get_elem?}
use lib.Seq.{set-get_or, set-set}
use Rattle.atomic_table.specs.Table as table
use Rattle.atomic_table.specs.Table.{State, Me, Allows}
use Rattle.atomic_table.proofs.Lists.{set_again}
use Rattle.sdd_steps.proofs.ListLemmas.{set_here}
use Rattle.sdd_homes.specs.Book.{Content}
use Rattle.domain_table.specs.Plays.{with_step}
use Rattle.domain_table.specs.Rule.{Shows}
use Rattle.domain_table.specs.declared.board.Acting.{Acting}
use Rattle.domain_table.specs.declared.board.CellStep.{CellStep}
use Rattle.domain_table.specs.declared.board.Plan.{Plan}
use Rattle.domain_table.proofs.Moves.{own_load, own_inside}
use Rattle.domain_table.proofs.Stirred.{stirred_none}

module _ (S : Type 0) (IsIn : Content → S → Type 0) (plan : Plan) where
  -- so it may be anything
  tells : (s : State S Acting) (r : Shows IsIn plan s) (id : ℕ) (d : Acting) (list : List CellStep) → get_elem? s.views id ≡ some d → d.kind ≡ 1 → Shows IsIn plan record { words = s.words; homes = s.homes; views = set s.views id (record d { cell_steps = list }) }
  tells s r id d list at kind = let a = r.epochs.seats id d at kind in subst (λ ws. Shows IsIn plan record { words = ws; homes = s.homes; views = set s.views id (record d { cell_steps = list }) }) (set-get_or s.words 0 0)
      (own_load S IsIn plan s r 0 id d (record d { cell_steps = list }) (record {
        core = r.state;
        runs = ([], refl);
        count = refl;
        changed = sym (set_again r.state.participants d.number d.known a.is);
        inside = own_inside S IsIn plan s r id d at kind;
        again = λ e is. inr (is, a.begun e is);
        number = refl;
        looks = λ q y e is has other at_q is_q. r.bounded.looks d.number d.known q y e a.is is has at_q is_q;
        still = a.still;
        scan = λ z. z;
        present = a.present;
      }) (record {
        cells = refl;
        stirred = stirred_none r.state.items;
        loads = inr (λ i l. l);
        same = refl;
        distinct = λ h. h;
        waits_mine = λ _ w all h. all w h;
        links_mine = λ _ _ w all h. all w h;
        waits_others = λ _ _ _ _ h. h;
        lefts = λ _ _ h. h;
        notes = λ _ _ h. h;
      }) at kind refl)

  -- A step that a seat may make however it tells of it, it may make and tell of it.
  pub tells_step : (slots id i : ℕ) (me : Me S Acting) (f : ℕ → ℕ) (then : ℕ → ℕ → Me S Acting → Type 0) → me.0.kind ≡ 1 → ((n : ℕ) → Allows (Shows IsIn plan) slots id (with_step i n (f n) me) i f (then n)) → Allows (Shows IsIn plan) slots id me i f (λ n. then n n)
  tells_step slots id i me f then kind each s r long at fits = let n : ℕ = get_or s.words i 0 in let d' : Acting = (with_step i n (f n) me).0 in
      let t = each n record { words = s.words; homes = s.homes; views = set s.views id d' } (tells s r id me.0 d'.cell_steps at kind) long (set_here s.views id d' me.0 at) fits in
      (t.0, t.1, t.2, subst (λ vs. Shows IsIn plan record { words = set s.words i (f n); homes = table.homes_after s.homes me.1 t.1; views = vs }) (set-set s.views id d' t.0) t.3, t.4)
