-- taking and giving back the scan lock keep the rule of the table
use Rattle.std.proofs.Common.{◌≡◌, ◌≢◌, ℕ, ◌+◌, ◌*◌, ◌<◌, ◌≤◌, eqb, eq-eqb, ne_eqb, get_or, set, sym, refl, ◌∙◌, subst, ⊎_elim, inl, inr, arith, length-set, get_or-set_other, get_or-set_same}
use mathlib.Core.Logic.{dite}
use mathlib.Core.Option.{some}
use native.Mathlib.Decide.{ℕ_discrete}
use lib.ListN.{get_elem?}
use prog.Atomic.{either}
use Rattle.atomic_table.specs.Table.{State, Me, step, keeps, Allows}
use Rattle.domain_table.specs.declared.board.Plan.{Plan}
use Rattle.sdd_steps.proofs.ListLemmas.{set_all, at_inside}
use Rattle.sdd_homes.specs.Book.{Content}
use Rattle.domain_table.specs.Layout.{state_word, claim_word, lock_word}
use Rattle.domain_table.specs.Rule.{Acts, Shows}
use Rattle.domain_table.specs.Plays.{lock_then, unlock_then}
use Rattle.domain_table.specs.declared.board.Acting.{Acting}
use Rattle.sdd_homes.specs.Reasons.{Loads}
use Rattle.domain_table.specs.Items.{Grip}
use Rattle.domain_table.proofs.Privates.{private_set}
use Rattle.domain_table.proofs.Stirred.{stirred_none, grip_set, seated}
use Rattle.domain_table.proofs.Stirred as items
use Rattle.domain_table.proofs.Moves.{idles}
use Rattle.domain_table.proofs.LeftWords.{lefts_else}

module _ (S : Type 0) (IsIn : Content → S → Type 0) (plan : Plan) where
  -- the lock changes hands: nobody else has it
  turns : (s : State S Acting) (r : Shows IsIn plan s) (v id st : ℕ) (d : Acting) → get_elem? s.views id ≡ some d → d.kind ≡ 1 → st < 2 → (0 < st → v ≡ 1)
      → ((j : ℕ) (e : Acting) → j ≢ id → get_elem? s.views j ≡ some e → e.kind ≡ 1 → e.scan ≡ 0)
      → Shows IsIn plan record { words = set s.words lock_word v; homes = s.homes; views = set s.views id (record d { scan = st }) }
  turns s r v id st d at kind small one alone = let o = r.epochs in let a = o.seats id d at kind in let wide = o.wide in let many = o.many in let inside = at_inside r.state.participants d.number d.known a.is in record {
    state = r.state;
    run = r.run;
    kept = r.kept;
    book = r.book;
    items = let c = r.items.seats id d at kind in let d' : Acting = record d { scan = st } in items.stays r.items r.state (set s.words lock_word v) (set s.views id d') refl (stirred_none r.state.items)
        (λ q l _ y. ⊎_elim (λ (t : Loads r.state q l.item). inl t) (λ (g : Grip s.views q l.item). inr (grip_set s.views id d d' at (λ _ _ h. h) q l.item g)) y)
        (record { long = length-set s.words 8 v; high = λ i le. get_or-set_other s.words 8 i v 0 (λ e. omega arith); freed = λ q _ _. inl (get_or-set_other s.words 8 (claim_word q) v 0 (λ e. omega arith)) })
        (seated r.items id d d' at refl (λ _. record { sizes_are = c.sizes_are; leases = c.leases; spare = c.spare; fills = c.fills; distinct = c.distinct; left = c.left })) (items.waits_stay r.items id d' (λ w _ has. r.items.waiting id d w at kind has)) r.items.leftovers (private_set r.items.private (λ _ h. h) id d d' at refl)
        (items.links_set r.items (set s.words lock_word v) r.book.left id d' (λ i le. get_or-set_other s.words 8 i v 0 (λ e. omega arith)) (λ w _ has. r.items.links.waits id d w at kind has) (λ w has. r.items.links.notes id d w at has) r.items.links.lefts);
    born = r.born;
    lefts = lefts_else r.lefts 8 v (λ q _ e. omega arith);
    bounded = r.bounded;
    epochs = record {
      seat_of = o.seat_of;
      scanner = id;
      wide = subst (λ n. 8 * plan.sizes.participants + 16 ≤ n) (sym (length-set s.words 8 v)) wide;
      many = many;
      count_is = get_or-set_other s.words 8 0 v 0 (λ e. omega arith) ∙ o.count_is;
      states = λ q y at_q. get_or-set_other s.words 8 (state_word q) v 0 (λ e. omega arith) ∙ o.states q y at_q;
      free = λ q y at_q some_. o.free q y at_q (λ z. some_ (get_or-set_other s.words 8 (claim_word q) v 0 (λ e. omega arith) ∙ z));
      seats = λ j z at_j k. set_all (λ j' z'. z'.kind ≡ 1 → Acts r.state.participants r.state.count r.born (set s.words 8 v) o.seat_of id j' z') s.views id (record d { scan = st })
          (λ _. record {
            is = a.is;
            seated = a.seated;
            claimed = get_or-set_other s.words 8 (claim_word d.number) v 0 (λ e. omega arith) ∙ a.claimed;
            locked = λ more. (get_or-set_same s.words 8 v 0 (omega arith) ∙ one more, refl);
            present = λ more. absurd (omega arith);
            begun = a.begun;
            still = a.still;
          })
          (λ j' z' apart here kind'. let b = o.seats j' z' here kind' in let none = alone j' z' apart here kind' in record {
            is = b.is;
            seated = b.seated;
            claimed = get_or-set_other s.words 8 (claim_word z'.number) v 0 (λ e. omega arith) ∙ b.claimed;
            locked = λ more. absurd (omega arith);
            present = λ more. absurd (omega arith);
            begun = b.begun;
            still = b.still;
          }) j z at_j k;
    };
  }

  pub locks : (slots id : ℕ) (me : Me S Acting) → me.0.kind ≡ 1 → me.0.scan ≡ 0
      → Allows (Shows IsIn plan) slots id me lock_word (λ k. either (eqb k 0) 1 k) (lock_then (step slots lock_word 0 1 mathlib.Core.Option.none) me)
  locks slots id me kind still s r _ at _ = let d = me.0 in let k : ℕ = get_or s.words 8 0 in dite (ℕ_discrete k 0)
      (λ none. (
        record d { scan = 1 },
        keeps,
        tt,
        subst (λ b. Shows IsIn plan record { words = set s.words 8 (either b 1 k); homes = s.homes; views = set s.views id (record d { scan = 1 }) }) (sym (eq-eqb k 0 none))
            (turns s r 1 id 1 d at kind (omega arith) (λ _. refl) (λ j e apart here kind'. let b = r.epochs.seats j e here kind' in dite (ℕ_discrete e.scan 0) (λ z. z) (λ z. let l = (b.locked (omega arith)).0 in absurd (omega arith)))),
        ((λ _. refl), λ h. absurd (h none)),
      ))
      (λ taken. (d, keeps, tt, subst (λ b. Shows IsIn plan record { words = set s.words 8 (either b 1 k); homes = s.homes; views = set s.views id d }) (sym (ne_eqb k 0 taken)) (idles S IsIn plan s r 8 id d at), ((λ h. absurd (taken h)), λ _. refl)))

  pub unlocks : (slots id : ℕ) (me : Me S Acting) → me.0.kind ≡ 1 → 0 < me.0.scan
      → Allows (Shows IsIn plan) slots id me lock_word (λ _. 0) (λ _. unlock_then (step slots lock_word 0 0 mathlib.Core.Option.none) me 0)
  unlocks slots id me kind mine s r _ at _ = let d = me.0 in let a = r.epochs.seats id d at kind in let l = a.locked mine in (
    record d { scan = 0 },
    keeps,
    tt,
    turns s r 0 id 0 d at kind (omega arith) (λ more. absurd (omega arith))
        (λ j e apart here kind'. let b = r.epochs.seats j e here kind' in dite (ℕ_discrete e.scan 0) (λ z. z) (λ z. absurd (apart (sym (b.locked (omega arith)).1 ∙ l.1)))),
    refl,
  )
