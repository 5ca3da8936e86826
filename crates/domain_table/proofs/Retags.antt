-- another tag in the word of a cell, which names what it named: the state that is shown stays
use Rattle.std.proofs.Common.{◌≡◌, ◌≢◌, ℕ, ◌+◌, ◌*◌, ◌^◌, ◌<◌, ◌≤◌, List, get_or, set, sym, refl, ◌∙◌, subst, arith, eqb, eq-eqb, ne_eqb, Option, length-set, get_or-set_other, get_or-set_same}
use mathlib.Core.Logic.{dite}
use native.Mathlib.Decide.{ℕ_discrete}
use prog.Atomic.{either}
use mathlib.Core.Option.{none}
use Rattle.atomic_table.specs.Table as table
use Rattle.atomic_table.specs.Table.{State, Me, step, keeps, stepped, Allows}
use Rattle.atomic_table.proofs.Lists.{set_again}
use Rattle.sdd_steps.specs.State.{At}
use Rattle.sdd_steps.specs.Invariant.{names_of}
use Rattle.sdd_steps.proofs.ListLemmas.{at_inside}
use Rattle.sdd_homes.specs.Book.{Content}
use Rattle.domain_table.specs.Layout.{cell_word, slot_word, link_word, claim_word, state_word, packed, Tells, AreAlike}
use Rattle.domain_table.specs.Items.{code, Items}
use Rattle.domain_table.specs.Rule.{Epochs, Shows}
use Rattle.domain_table.specs.Plays.{with_step, retag_then}
use Rattle.domain_table.specs.declared.board.Acting.{Acting}
use Rattle.domain_table.specs.declared.board.Plan.{Plan}
use Rattle.domain_table.proofs.Moves.{idles}
use Rattle.domain_table.proofs.Telling.{tells_step}
use Rattle.domain_table.proofs.Stirred.{rests_on, links_all}
use Rattle.domain_table.proofs.LeftWords.{lefts_behind}

module _ (S : Type 0) (IsIn : Content → S → Type 0) (plan : Plan) where
  module _ (s : State S Acting) (r : Shows IsIn plan s) (c value : ℕ) (lc : c < plan.sizes.cells) (small : plan.sizes.cells + plan.sizes.participants ≤ 2 ^ 31) (alike : AreAlike (get_or s.words (cell_word plan.sizes c) 0) value) where
    abbrev cw : ℕ
    cw = cell_word plan.sizes c

    abbrev words' : List ℕ
    words' = set s.words cw value

    other : (i : ℕ) → i ≢ cw → get_or words' i 0 ≡ get_or s.words i 0
    other i ne = get_or-set_other s.words cw i value 0 ne

    -- the cell names what it named
    here : (o : Option ℕ) → At (names_of r.state.cells) c o → Tells (get_or words' cw 0) (r.book.spare c) (code r.book.slot_of o)
    here o at_c = let long = r.items.long in let was = r.items.cell_words c o at_c in let few = was.1 in let word = was.2 in let range = r.items.spares.range c (omega arith) in
        let y : ℕ = alike.0 in let t : ℕ = alike.1 in let u : ℕ = alike.2 in let k : ℕ = alike.3 in let low = alike.4 in let few_t = alike.5 in let old = alike.7 in
        let spare : r.book.spare c ≡ y = omega arith in let same : code r.book.slot_of o ≡ k = omega arith in
        (u, alike.6, get_or-set_same s.words cw value 0 (omega arith) ∙ (alike.8 ∙ λ j. packed (sym spare j) u (sym same j)))

    cells_now : (e : ℕ) (o : Option ℕ) → At (names_of r.state.cells) e o → Tells (get_or words' (cell_word plan.sizes e) 0) (r.book.spare e) (code r.book.slot_of o)
    cells_now e o at_e = dite (ℕ_discrete e c)
        (λ is. subst (λ z. Tells (get_or words' (cell_word plan.sizes z) 0) (r.book.spare z) (code r.book.slot_of o)) (sym is) (here o (subst (λ z. At (names_of r.state.cells) z o) is at_e)))
        (λ ne. let was = r.items.cell_words e o at_e in (was.0, was.1, other (cell_word plan.sizes e) (λ z. ne (omega arith)) ∙ was.2))

    items_now : Items IsIn plan.sizes r.state r.book words' s.homes s.views
    items_now = record {
      parts = r.items.parts;
      spares = r.items.spares;
      lying = r.items.lying;
      standing = r.items.standing;
      settled = r.items.settled;
      many = r.items.many;
      long = length-set s.words cw value ∙ r.items.long;
      cell_words = cells_now;
      slot_words = λ k i it lk is at_i. other (slot_word plan.sizes k) (λ z. omega arith) ∙ r.items.slot_words k i it lk is at_i;
      vacancies = λ k lk none_. r.items.vacancies k lk (sym (other (slot_word plan.sizes k) (λ z. omega arith)) ∙ none_);
      alone = r.items.alone;
      free = λ p low some_. rests_on r.items words' p low (other (claim_word p) (λ z. omega arith)) some_;
      hands = r.items.hands;
      owners = r.items.owners;
      given = r.items.given;
      waiting = r.items.waiting;
      leftovers = r.items.leftovers;
      private = r.items.private;
      links = links_all r.items words' r.book.left s.views (λ m. other (link_word plan.sizes m) (λ z. omega arith)) r.items.links.waits r.items.links.notes r.items.links.lefts;
      seats = r.items.seats;
    }

    epochs_now : Epochs plan.sizes.participants r.state r.born words' s.views
    epochs_now = let e = r.epochs in let many = r.epochs.many in record {
      seat_of = e.seat_of;
      scanner = e.scanner;
      wide = subst (λ n. 8 * plan.sizes.participants + 16 ≤ n) (sym (length-set s.words cw value)) e.wide;
      many = e.many;
      count_is = other 0 (λ z. omega arith) ∙ e.count_is;
      states = λ p x at_p. let low = at_inside r.state.participants p x at_p in other (state_word p) (λ z. omega arith) ∙ e.states p x at_p;
      free = λ p x at_p some_. let low = at_inside r.state.participants p x at_p in e.free p x at_p (λ z. some_ (other (claim_word p) (λ z'. omega arith) ∙ z));
      seats = λ j d at_j kind. let a = e.seats j d at_j kind in let low = at_inside r.state.participants d.number d.known a.is in record {
        is = a.is;
        seated = a.seated;
        claimed = other (claim_word d.number) (λ z. omega arith) ∙ a.claimed;
        locked = λ more. let l = a.locked more in (other 8 (λ z. omega arith) ∙ l.0, l.1);
        present = a.present;
        begun = a.begun;
        still = a.still;
      };
    }

    pub retagged : Shows IsIn plan record { words = words'; homes = s.homes; views = s.views }
    retagged = record {
      state = r.state;
      run = r.run;
      kept = r.kept;
      born = r.born;
      lefts = lefts_behind r.lefts (cell_word plan.sizes c) value (omega arith);
      bounded = r.bounded;
      epochs = epochs_now;
      book = r.book;
      items = items_now;
    }

  -- a cell with the word given gets one that is like it; another one stays as it is
  plainly : (slots id c old value : ℕ) (me : Me S Acting) → c < plan.sizes.cells → plan.sizes.cells + plan.sizes.participants ≤ 2 ^ 31 → AreAlike old value
      → Allows (Shows IsIn plan) slots id me (cell_word plan.sizes c) (λ k. either (eqb k old) value k) (λ _ m'. m' ≡ me)
  plainly slots id c old value me lc small alike s r _ at _ = let w : ℕ = cell_word plan.sizes c in let k : ℕ = get_or s.words w 0 in let d = me.0 in dite (ℕ_discrete k old)
      (λ hit. (
        d,
        keeps,
        tt,
        subst (λ h. Shows IsIn plan (stepped s w (either h value k) id me.1 d keeps)) (sym (eq-eqb k old hit))
            (subst (λ vs. Shows IsIn plan record { words = set s.words w value; homes = s.homes; views = vs }) (sym (set_again s.views id d at)) (retagged s r c value lc small (subst (λ z. AreAlike z value) (sym hit) alike))),
        refl,
      ))
      (λ miss. (d, keeps, tt, subst (λ h. Shows IsIn plan (stepped s w (either h value k) id me.1 d keeps)) (sym (ne_eqb k old miss)) (idles S IsIn plan s r w id d at), refl))

  -- and the step is told
  pub retags : (slots id c old value : ℕ) (me : Me S Acting) → me.0.kind ≡ 1 → c < plan.sizes.cells → plan.sizes.cells + plan.sizes.participants ≤ 2 ^ 31 → AreAlike old value
      → Allows (Shows IsIn plan) slots id me (cell_word plan.sizes c) (λ k. either (eqb k old) value k) (retag_then (step slots (cell_word plan.sizes c) old value none) me)
  retags slots id c old value me kind lc small alike s r long at fits = let w : ℕ = cell_word plan.sizes c in let k : ℕ = get_or s.words w 0 in
      let t = tells_step S IsIn plan slots id w me (λ n. either (eqb n old) value n) (λ n _ m'. m' ≡ with_step w n (either (eqb n old) value n) me) kind
      (λ n. plainly slots id c old value (with_step w n (either (eqb n old) value n) me) lc small alike) s r long at fits in
      let after : Me S Acting = (t.0, table.carried_after me.1 t.1) in
      (t.0, t.1, t.2, t.3, (λ hit. subst (λ h. after ≡ with_step w k (either h value k) me) (eq-eqb k old hit) t.4, λ miss. subst (λ h. after ≡ with_step w k (either h value k) me) (ne_eqb k old miss) t.4))
