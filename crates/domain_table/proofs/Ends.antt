-- the end of a participant keeps the rule of the table
use Rattle.std.proofs.Common.{◌≡◌, ◌≢◌, ℕ, suc, ◌+◌, ◌<◌, ◌≤◌, List, [], get_or, set, sym, refl, ap, ◌∙◌, subst, ⊎_elim, inl, inr, arith, length-set, get_or-set_other, get_or-set_same}
use mathlib.Core.Logic.{dite}
use mathlib.Core.Option as maybe
use mathlib.Core.Option.{some, none}
use native.Mathlib.Decide.{ℕ_discrete}
use lib.ListN.{get_elem?}
use Rattle.atomic_table.specs.Table.{State, Me, step, stepped, gives, Allows}
use Rattle.domain_table.specs.declared.board.Plan.{Plan}
use Rattle.sdd_steps.specs.declared.participant.Phase.TheVariants.{Idle}
use Rattle.sdd_steps.specs.declared.participant.Participant.{Participant}
use Rattle.sdd_steps.specs.State.{At, Has, newcomer}
use Rattle.sdd_steps.proofs.ListLemmas.{put, put_here, set_all, same_at, at_inside}
use Rattle.sdd_homes.specs.declared.Owner.{Owner}
use Rattle.sdd_homes.specs.Reasons.{Loads}
use Rattle.sdd_homes.specs.Hands.{items_of}
use Rattle.sdd_homes.specs.Book.{Content, blank, Book}
use Rattle.sdd_homes.specs.Lying.{Lying}
use Rattle.sdd_homes.proofs.LyingLemmas.{gives_high}
use Rattle.sdd_plain.specs.declared.sizes.Sizes.{Sizes}
use Rattle.domain_table.specs.Views.{IsBare, spent, rested}
use Rattle.domain_table.specs.Items.{Grip, Rests, Carries, Items}
use Rattle.domain_table.specs.Layout.{state_word, claim_word, epoch_words, all_homes, all_spares}
use Rattle.domain_table.specs.Rule.{Acts, Shows}
use Rattle.domain_table.specs.Plays.{HasSpare, end_then}
use Rattle.domain_table.specs.declared.board.Acting.{Acting}
use Rattle.domain_table.proofs.LeftWords.{lefts_else}
use Rattle.domain_table.proofs.Privates.{Keeps, private_on}
use Rattle.domain_table.proofs.Stirred.{stirred_none, grip_set, seated}
use Rattle.domain_table.proofs.Stirred as items

module _ (S : Type 0) (IsIn : Content → S → Type 0) (plan : Plan) where
  -- the participant has left what it retired, and ends: its spare slot goes back, and the next one that acts for it is a newcomer
  module _ (s : State S Acting) (r : Shows IsIn plan s) (id : ℕ) (d : Acting) (at : get_elem? s.views id ≡ some d) (kind : d.kind ≡ 1) (is : d.known.phase ≡ Idle) (unfound : d.known.found ≡ 0) (bare : IsBare d) (u : S) (is_blank : IsIn blank u) where
    abbrev p : ℕ
    p = d.number

    abbrev i : ℕ
    i = claim_word p

    abbrev v : ℕ
    v = plan.sizes.cells + p

    abbrev y : ℕ
    y = r.book.spare v

    abbrev ps : List Participant
    ps = r.state.participants

    abbrev words' : List ℕ
    words' = set s.words i (suc d.spare)

    abbrev views' : List Acting
    views' = set s.views id spent

    abbrev homes' : List (maybe.Option S)
    homes' = set s.homes (all_homes plan.sizes + d.spare) (some u)

    abbrev book' : Book
    book' = record r.book { extra = put r.book.extra y blank }

    acts : Acts ps r.state.count r.born s.words r.epochs.seat_of r.epochs.scanner id d
    acts = r.epochs.seats id d at kind

    carries : Carries plan.sizes r.book d
    carries = r.items.seats id d at kind

    low : p < plan.sizes.participants
    low = let inside = at_inside ps p d.known acts.is in let many = r.epochs.many in omega arith

    new : d.known ≡ newcomer
    new = acts.still is ∙ ap rested unfound

    now : get_or words' i 0 ≡ suc d.spare
    now = let wide = r.epochs.wide in let l = low in get_or-set_same s.words i (suc d.spare) 0 (omega arith)

    else_same : (q : ℕ) → q ≢ p → get_or words' (claim_word q) 0 ≡ get_or s.words (claim_word q) 0
    else_same q ne = get_or-set_other s.words i (claim_word q) (suc d.spare) 0 (λ e. ne (omega arith))

    out : r.book.out p ≡ []
    out = carries.leases ∙ bare.1

    in_range : y < plan.sizes.cells + plan.sizes.participants
    in_range = r.items.spares.range v (let l = low in omega arith)

    -- the spare slot is back while the participant is still claimed
    back : Items IsIn plan.sizes r.state book' s.words homes' s.views
    back = items.respared r.items p blank homes' low acts.claimed
        (subst (λ z. Lying IsIn (all_homes plan.sizes) (all_spares plan.sizes) r.book.what book'.extra (set s.homes (all_homes plan.sizes + z) (some u))) carries.spare (gives_high r.items.lying y blank u (let i = in_range in omega arith) is_blank))

    rests_now : (q : ℕ) → q < plan.sizes.participants → get_or words' (claim_word q) 0 ≢ 0 → Rests plan.sizes book' words' q
    rests_now q low_q some_ = dite (ℕ_discrete q p) (λ e. subst (Rests plan.sizes book' words') (sym e) (out, now ∙ ap suc (sym carries.spare), put_here r.book.extra y blank)) (λ ne. items.rests_on back words' q low_q (else_same q ne) some_)

    -- words behind those of epochs stay
    high : (j : ℕ) → epoch_words plan.sizes.participants ≤ j → get_or words' j 0 ≡ get_or s.words j 0
    high j le = let l = low in get_or-set_other s.words i j (suc d.spare) 0 (λ e. omega arith)

    items_now : Items IsIn plan.sizes r.state book' words' homes' views'
    items_now = items.stays back r.state words' views' refl (stirred_none r.state.items)
        (λ q l has z. ⊎_elim (λ (t : Loads r.state q l.item). inl t) (λ (g : Grip s.views q l.item). inr (grip_set s.views id d spent at (λ q' i' h. absurd (subst (λ (os : List Owner). Has (items_of os) i') bare.0 h.3)) q l.item g)) z)
        (record { long = length-set s.words i (suc d.spare); high = high; freed = λ q low_q some_. inr (rests_now q low_q some_) }) (seated back id d spent at (sym bare.0) (λ k. absurd (omega arith))) (items.waits_stay back id spent (λ w k _. absurd (omega arith))) r.items.leftovers
        (private_on r.items.private (λ w h. h) (set_all (λ j e. Keeps s.views j e) s.views id spent (inl refl) (λ j e _ here. inr (e, here, refl))))
        (items.links_set back words' r.book.left id spent high (λ w k _. absurd (omega arith)) (λ w has. absurd has) r.items.links.lefts)

    acts_now : (j : ℕ) (z : Acting) → At views' j z → z.kind ≡ 1 → Acts ps r.state.count r.born words' r.epochs.seat_of r.epochs.scanner j z
    acts_now j z at_j k = let o = r.epochs in set_all (λ j' z'. z'.kind ≡ 1 → Acts ps r.state.count r.born words' o.seat_of o.scanner j' z') s.views id spent
        (λ k'. absurd (omega arith))
        (λ j' z' other here kind'. let b = o.seats j' z' here kind' in let apart : z'.number ≢ p = (λ same. other (sym b.seated ∙ (ap o.seat_of same ∙ acts.seated))) in record {
          is = b.is;
          seated = b.seated;
          claimed = else_same z'.number apart ∙ b.claimed;
          locked = λ more. let l = b.locked more in (get_or-set_other s.words i 8 (suc d.spare) 0 (λ e. omega arith) ∙ l.0, l.1);
          present = b.present;
          begun = b.begun;
          still = b.still;
        }) j z at_j k

    pub shown_end : Shows IsIn plan record { words = words'; homes = homes'; views = views' }
    shown_end = let o = r.epochs in record {
      state = r.state;
      run = r.run;
      kept = r.kept;
      book = book';
      items = items_now;
      born = r.born;
      bounded = r.bounded;
      lefts = lefts_else r.lefts i (suc d.spare) (λ q low_q e. omega arith);
      epochs = record {
        seat_of = o.seat_of;
        scanner = o.scanner;
        wide = subst (λ m. epoch_words plan.sizes.participants ≤ m) (sym (length-set s.words i (suc d.spare))) o.wide;
        many = o.many;
        count_is = get_or-set_other s.words i 0 (suc d.spare) 0 (λ e. omega arith) ∙ o.count_is;
        states = λ q z here. get_or-set_other s.words i (state_word q) (suc d.spare) 0 (λ e. omega arith) ∙ o.states q z here;
        free = λ q z here some_. dite (ℕ_discrete q p) (λ e. same_at ps p z d.known (subst (λ m. At ps m z) e here) acts.is ∙ new) (λ ne. o.free q z here (λ e. some_ (else_same q ne ∙ e)));
        seats = acts_now;
      };
    }

  pub ends_at : (slots id : ℕ) (me : Me S Acting) (p w : ℕ) (tail : List (ℕ × S)) → me.0.number ≡ p → me.0.kind ≡ 1 → me.0.known.phase ≡ Idle → me.0.known.found ≡ 0 → IsBare me.0 → w ≡ suc me.0.spare → HasSpare IsIn me tail
      → Allows (Shows IsIn plan) slots id me (claim_word p) (λ _. w) (λ _. end_then (step slots (claim_word p) w 0 none) me w)
  ends_at slots id me p w tail here kind is unfound bare word has s r _ at _ = let d = me.0 in let u = has.0 in let sizes_are = (r.items.seats id d at kind).sizes_are in (
    spent,
    gives,
    tt,
    subst (λ (cs : List (ℕ × S)). Shows IsIn plan (stepped s (claim_word p) w id cs spent gives)) (sym has.2)
        (subst (λ (z : ℕ × ℕ × Sizes). Shows IsIn plan record { words = set s.words (claim_word z.0) z.1; homes = set s.homes (all_homes z.2 + d.spare) (some u); views = set s.views id spent }) (λ j. (here j, sym word j, sym sizes_are j)) (shown_end s r id d at kind is unfound bare u has.1)),
    refl,
  )
