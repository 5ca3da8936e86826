-- a seat that comes to act for a participant keeps the rule of the table
use Rattle.std.proofs.Common.{◌≡◌, ◌≢◌, ℕ, ◌+◌, ◌^◌, ◌<◌, ◌≤◌, List, [], get_or, set, sym, refl, ap, ◌∙◌, subst, ⊎_elim, inl, inr, arith, length-set, get_or-set_other, get_or-set_same}
use mathlib.Core.Logic.{dite}
use mathlib.Core.Option as maybe
use mathlib.Core.Option.{some, none}
use native.Mathlib.Decide.{ℕ_discrete}
use lib.ListN.{get_elem?}
use Rattle.atomic_table.specs.Table.{State, Me, step, keeps, takes, Allows}
use Rattle.domain_table.specs.declared.board.Plan.{Plan}
use Rattle.sdd_steps.specs.State.{At}
use Rattle.sdd_steps.proofs.ListLemmas.{put, put_here, put_else, set_all, find_at}
use Rattle.sdd_homes.specs.Reasons.{Loads}
use Rattle.domain_table.specs.Views.{registered}
use Rattle.domain_table.specs.Items.{Grip, Rests, Items}
use Rattle.domain_table.proofs.Stirred.{stirred_none, grip_set, seated}
use Rattle.domain_table.proofs.LeftWords.{lefts_else}
use Rattle.domain_table.proofs.Stirred as items
use Rattle.domain_table.proofs.Privates.{Keeps, private_on}
use Rattle.sdd_homes.specs.Book.{Content, away, blank, Book}
use Rattle.sdd_homes.proofs.LyingLemmas.{takes_high}
use Rattle.domain_table.specs.Layout.{state_word, claim_word, epoch_words, all_homes, all_spares}
use Rattle.domain_table.specs.Rule.{Acts, Shows}
use Rattle.domain_table.specs.Plays.{claim_then}
use Rattle.domain_table.specs.declared.board.Acting.{Acting}
use Rattle.domain_table.proofs.Moves.{idles}

module _ (S : Type 0) (IsIn : Content → S → Type 0) (plan : Plan) where
  -- a free participant is claimed by a seat that acts for nobody, and its spare slot comes out
  module _ (s : State S Acting) (r : Shows IsIn plan s) (id q : ℕ) (d : Acting) (at : get_elem? s.views id ≡ some d) (bare : d.hand ≡ []) (kind : d.kind ≡ 0) (small : q < plan.sizes.participants) (unclaimed : get_or s.words (claim_word q) 0 ≢ 0) where
    abbrev i : ℕ
    i = claim_word q

    abbrev v : ℕ
    v = plan.sizes.cells + q

    abbrev y : ℕ
    y = r.book.spare v

    rests : Rests plan.sizes r.book s.words q
    rests = r.items.free q small unclaimed

    low : y < plan.sizes.cells + plan.sizes.participants
    low = r.items.spares.range v (omega arith)

    range : y < all_spares plan.sizes
    range = let l = low in omega arith

    pub found : (u : S) × (get_elem? s.homes (all_homes plan.sizes + y) ≡ some (some u)) × IsIn blank u
    found = let f = r.items.lying.high y range (λ e. let bad : blank ≡ away = sym rests.2 ∙ e in absurd (cc)) in (f.0, f.1, subst (λ z. IsIn z f.0) rests.2 f.2)

    abbrev d' : Acting
    d' = registered plan.sizes y q

    abbrev words' : List ℕ
    words' = set s.words i 0

    abbrev views' : List Acting
    views' = set s.views id d'

    abbrev homes' : List (maybe.Option S)
    homes' = set s.homes (all_homes plan.sizes + y) none

    abbrev book' : Book
    book' = record r.book { extra = put r.book.extra y away }

    now : get_or words' i 0 ≡ 0
    now = let wide = r.epochs.wide in get_or-set_same s.words i 0 0 (omega arith)

    -- who is free in the end is another one, whose word is as it was
    another : (p : ℕ) → get_or words' (claim_word p) 0 ≢ 0 → p ≢ q
    another p some_ e = some_ (ap (λ z. get_or words' (claim_word z) 0) e ∙ now)

    else_same : (p : ℕ) → p ≢ q → get_or words' (claim_word p) 0 ≡ get_or s.words (claim_word p) 0
    else_same p ne = get_or-set_other s.words i (claim_word p) 0 0 (λ e. ne (omega arith))

    seated_now : Items IsIn plan.sizes r.state r.book words' s.homes views'
    seated_now = items.stays r.items r.state words' views' refl (stirred_none r.state.items)
        (λ q' l _ w. ⊎_elim (λ (t : Loads r.state q' l.item). inl t) (λ (g : Grip s.views q' l.item). inr (grip_set s.views id d d' at (λ _ _ h. let one = h.0 in absurd (omega arith)) q' l.item g)) w)
        (record {
          long = length-set s.words i 0;
          high = λ j le. get_or-set_other s.words i j 0 0 (λ e. omega arith);
          freed = λ p _ some_. inl (else_same p (another p some_));
        })
        (seated r.items id d d' at (sym bare) (λ _. record { sizes_are = refl; leases = rests.0; spare = refl; fills = λ f e. absurd (cc); distinct = tt; left = λ e. absurd (omega arith) })) (items.waits_stay r.items id d' (λ w _ has. absurd has)) r.items.leftovers
        (private_on r.items.private (λ _ h. h) (set_all (λ j e. Keeps s.views j e) s.views id d' (inl refl) (λ j e _ here. inr (e, here, refl))))
        (items.links_set r.items words' r.book.left id d' (λ j le. get_or-set_other s.words i j 0 0 (λ e. omega arith)) (λ w _ has. absurd has) (λ w has. absurd has) r.items.links.lefts)

    items_now : Items IsIn plan.sizes r.state book' words' homes' views'
    items_now = items.respared seated_now q away homes' small now (takes_high r.items.lying y range)

    acts_now : (j : ℕ) (z : Acting) → At views' j z → z.kind ≡ 1 → Acts r.state.participants r.state.count r.born words' (put r.epochs.seat_of q id) r.epochs.scanner j z
    acts_now j z at_j k = let o = r.epochs in let wide = o.wide in let many = o.many in let x = find_at r.state.participants q (omega arith) in
        set_all (λ j' z'. z'.kind ≡ 1 → Acts r.state.participants r.state.count r.born words' (put o.seat_of q id) o.scanner j' z') s.views id d'
        (λ _. record {
          is = subst (At r.state.participants q) (o.free q x.0 x.1 unclaimed) x.1;
          seated = put_here o.seat_of q id;
          claimed = now;
          locked = λ more. absurd (omega arith);
          present = λ more. absurd (omega arith);
          begun = λ e h. absurd (cc);
          still = λ _. refl;
        })
        (λ j' z' apart here kind'. let b = o.seats j' z' here kind' in let other : z'.number ≢ q = (λ e. unclaimed (ap (λ (m : ℕ). get_or s.words (claim_word m) 0) (sym e) ∙ b.claimed)) in record {
          is = b.is;
          seated = put_else o.seat_of q id z'.number other ∙ b.seated;
          claimed = else_same z'.number other ∙ b.claimed;
          locked = λ more. let l = b.locked more in (get_or-set_other s.words i 8 0 0 (λ e. omega arith) ∙ l.0, l.1);
          present = b.present;
          begun = b.begun;
          still = b.still;
        }) j z at_j k

    pub shown_claim : Shows IsIn plan record { words = words'; homes = homes'; views = views' }
    shown_claim = let o = r.epochs in record {
      state = r.state;
      run = r.run;
      kept = r.kept;
      book = book';
      items = items_now;
      born = r.born;
      bounded = r.bounded;
      lefts = lefts_else r.lefts i 0 (λ p low_p e. omega arith);
      epochs = record {
        seat_of = put o.seat_of q id;
        scanner = o.scanner;
        wide = subst (λ m. epoch_words plan.sizes.participants ≤ m) (sym (length-set s.words i 0)) o.wide;
        many = o.many;
        count_is = get_or-set_other s.words i 0 0 0 (λ e. omega arith) ∙ o.count_is;
        states = λ p x at_p. get_or-set_other s.words i (state_word p) 0 0 (λ e. omega arith) ∙ o.states p x at_p;
        free = λ p x at_p some_. o.free p x at_p (λ e. some_ (else_same p (another p some_) ∙ e));
        seats = acts_now;
      };
    }

  pub claims : (slots id : ℕ) (me : Me S Acting) (q : ℕ) → me.0.kind ≡ 0 → me.0.hand ≡ [] → q < plan.sizes.participants → plan.sizes.cells + plan.sizes.participants ≤ 2 ^ 31
      → Allows (Shows IsIn plan) slots id me (claim_word q) (λ _. 0) (claim_then IsIn (step slots (claim_word q) 0 0 none) me)
  claims slots id me q kind bare small few s r _ at _ = let d = me.0 in let i : ℕ = claim_word q in let k : ℕ = get_or s.words i 0 in dite (ℕ_discrete k 0)
      (λ taken. (d, keeps, tt, subst (λ z. Shows IsIn plan record { words = set s.words i z; homes = s.homes; views = set s.views id d }) taken (idles S IsIn plan s r i id d at), λ _ _. ((λ _. refl), λ y e. absurd (omega arith))))
      (λ unclaimed. let f = found s r id q d at bare kind small unclaimed in let y' : ℕ = r.book.spare (plan.sizes.cells + q) in let told = r.items.free q small unclaimed in let low = r.items.spares.range (plan.sizes.cells + q) (omega arith) in (
        registered plan.sizes y' q,
        takes (all_homes plan.sizes + y') f.0,
        f.1,
        shown_claim s r id q d at bare kind small unclaimed,
        λ q' iq. (
          (λ e. absurd (unclaimed e)),
          λ y e. let same : q ≡ q' = omega arith in let spare : y' ≡ y = (let t = told.1 in omega arith) in (omega arith, (plan.sizes, (λ j. registered plan.sizes (spare j) (same j)), (f.0, f.2, refl))),
        ),
      ))
