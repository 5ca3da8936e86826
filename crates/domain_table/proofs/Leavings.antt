-- a participant leaves what it retired, by one word that tells where the chain of it begins and ends
use Rattle.std.proofs.Common.{◌≡◌, ◌≢◌, ◌⊎◌, true, ℕ, ◌<◌, List, map, get_or, set, sym, refl, ap, ◌∙◌, subst, ⊎_elim, inl, inr, arith, length, length-set, get_or-set_other, get_or-set_same}
use mathlib.Core.Logic.{dite}
use mathlib.Core.Option.{some, none}
use native.Mathlib.Decide.{ℕ_discrete}
use lib.ListN.{get_elem?}
use Rattle.atomic_table.specs.Table.{State, Me, step, keeps, Allows}
use Rattle.sdd_steps.specs.declared.participant.Phase.TheVariants.{Idle, Opened}
use Rattle.sdd_steps.specs.declared.participant.Participant.{Participant}
use Rattle.sdd_steps.specs.declared.item.Item.{Item}
use Rattle.sdd_steps.specs.declared.item.ItemState.TheVariants.{Retired, Waiting}
use Rattle.sdd_steps.specs.declared.step.Step.TheVariants.{End}
use Rattle.sdd_steps.specs.State.{At, Has}
use Rattle.sdd_steps.specs.Steps.{left_by}
use Rattle.sdd_steps.specs.State as steps
use Rattle.sdd_steps.proofs.ListLemmas.{put, put_here, put_else, put_all, set_all, same_at, at_inside}
use Rattle.sdd_homes.specs.declared.Lease.{Lease}
use Rattle.sdd_homes.specs.declared.Garbage.{Garbage}
use Rattle.sdd_homes.specs.Reasons.{Loads}
use Rattle.sdd_homes.specs.Book.{Content, Book}
use Rattle.domain_table.specs.Chains.{is_threaded, left_code}
use Rattle.domain_table.specs.Layout.{state_word, claim_word, left_word, shown}
use Rattle.domain_table.specs.Views.{IsBare}
use Rattle.domain_table.specs.Items.{Grip, IsWaiting, IsLeftover, Distinct, Leftovers, IsLinked, Carries, Items}
use Rattle.domain_table.specs.Rule.{Acts, Runs, Shows, Lefts}
use Rattle.domain_table.specs.Plays.{leaving, leave_then}
use Rattle.domain_table.specs.declared.board.Acting.{Acting}
use Rattle.domain_table.specs.declared.board.Plan.{Plan}
use Rattle.domain_table.proofs.Moves.{Moves, Writes, moved}
use Rattle.domain_table.proofs.Stirred.{stirred_left, grip_set, loads_others, seated}
use Rattle.domain_table.proofs.Stirred as items
use Rattle.domain_table.proofs.Privates.{Keeps, private_on}
use Rattle.domain_table.proofs.Taken as taken

module _ (S : Type 0) (IsIn : Content → S → Type 0) (plan : Plan) where
  -- what it retired is left, and its word tells it; nothing of it was left before
  module _ (s : State S Acting) (r : Shows IsIn plan s) (id : ℕ) (d : Acting) (at : get_elem? s.views id ≡ some d) (kind : d.kind ≡ 1) (is : d.known.phase ≡ Idle) (still : d.scan ≡ 0) (bare : IsBare d) (cleared : d.left ≡ 1) (threads : is_threaded d.waits ≡ true) where
    abbrev p : ℕ
    p = d.number

    abbrev i : ℕ
    i = left_word p

    abbrev v : ℕ
    v = left_code d.waits

    abbrev ps : List Participant
    ps = r.state.participants

    abbrev x' : Participant
    x' = record d.known { found = 0 }

    abbrev core : steps.State
    core = record r.state { participants = set ps p x'; items = map (left_by p) r.state.items }

    abbrev d' : Acting
    d' = leaving d

    abbrev words' : List ℕ
    words' = set s.words i v

    abbrev views' : List Acting
    views' = set s.views id d'

    abbrev left' : ℕ → List Garbage
    left' = put r.book.left p d.waits

    abbrev book' : Book
    book' = record r.book { left = left' }

    acts : Acts ps r.state.count r.born s.words r.epochs.seat_of r.epochs.scanner id d
    acts = r.epochs.seats id d at kind

    carries : Carries plan.sizes r.book d
    carries = r.items.seats id d at kind

    low : p < plan.sizes.participants
    low = let inside = at_inside ps p d.known acts.is in let many = r.epochs.many in omega arith

    runs : Runs r.state core
    runs = taken.one r.state (End p) core (taken.ends r.state p d.known acts.is is (λ j it at_j. r.items.settled j it p at_j))

    never : (e : ℕ) (G : Type 0) → d.known.phase ≡ Opened e → G
    never e G h = let bad : Idle ≡ Opened e = sym is ∙ h in absurd (cc)

    moves : Moves r.state r.born d d'
    moves = record {
      core = core;
      runs = runs;
      count = refl;
      changed = refl;
      inside = λ e h. never e _ h;
      again = λ e h. never e _ h;
      looks = λ q y e h. never r.state.count _ h;
      still = λ _. ap (λ (z : Participant). record z { found = 0 }) (acts.still is);
      number = refl;
      scan = λ h. h;
      present = λ more. absurd (omega arith);
    }

    -- what is left was left before, or the participant had retired it
    origin : (q : ℕ) (w : Garbage) → Has (left' q) w → Has (r.book.left q) w ⊎ ((q ≡ p) × IsWaiting r.state.items r.book.slot_of p w)
    origin q w = put_all (λ q' l. Has l w → Has (r.book.left q') w ⊎ ((q' ≡ p) × IsWaiting r.state.items r.book.slot_of p w)) r.book.left p d.waits q (λ h. inr (refl, r.items.waiting id d w at kind h)) (λ _ h. inl h)

    -- what was left is nothing that a participant has retired
    unlike : (v w : Garbage) → IsLeftover r.state.items r.book.slot_of v → IsWaiting r.state.items r.book.slot_of p w → v.item ≢ w.item
    unlike v w a h e = let same : a.0 ≡ h.0 = same_at r.state.items w.item a.0 h.0 (subst (λ m. At r.state.items m a.0) e a.1) h.1 in let bad : Waiting ≡ Retired p w.age = sym a.2 ∙ (ap (λ (z : Item). z.state) same ∙ h.2) in absurd (cc)

    leaves : Leftovers core.items r.book.slot_of left'
    leaves = let old = r.items.leftovers in record {
      waits = λ q w h. ⊎_elim (λ (t : Has (r.book.left q) w). items.left_on p r.state.items r.book.slot_of w (old.waits q w t)) (λ (t : (q ≡ p) × IsWaiting r.state.items r.book.slot_of p w). items.waits_no_more p r.state.items r.book.slot_of w t.1) (origin q w h);
      once = λ q. put_all (λ _ l. Distinct l) r.book.left p d.waits q carries.distinct (λ _. old.once q);
      apart = λ q q' v' w' hv hw e. ⊎_elim
          (λ (a : Has (r.book.left q) v'). ⊎_elim (λ (h : Has (r.book.left q') w'). old.apart q q' v' w' a h e) (λ (h : (q' ≡ p) × IsWaiting r.state.items r.book.slot_of p w'). absurd (unlike v' w' (old.waits q v' a) h.1 e)) (origin q' w' hw))
          (λ (a : (q ≡ p) × IsWaiting r.state.items r.book.slot_of p v'). ⊎_elim (λ (h : Has (r.book.left q') w'). absurd (unlike w' v' (old.waits q' w' h) a.1 (sym e))) (λ (h : (q' ≡ p) × IsWaiting r.state.items r.book.slot_of p w'). a.0 ∙ sym h.0) (origin q' w' hw)) (origin q v' hv);
    }

    -- who acts is another one
    other_number : (j : ℕ) (z : Acting) → j ≢ id → At s.views j z → z.kind ≡ 1 → z.number ≢ p
    other_number j z other here k same = let x = r.epochs.seats j z here k in other (sym x.seated ∙ (ap r.epochs.seat_of same ∙ acts.seated))

    -- words but this one stay
    else_same : (j : ℕ) → j ≢ i → get_or words' j 0 ≡ get_or s.words j 0
    else_same j ne = get_or-set_other s.words i j v 0 (λ e. ne (omega arith))

    items_now : Items IsIn plan.sizes core book' words' s.homes views'
    items_now = let hands = seated r.items id d d' at refl (λ _. record { sizes_are = carries.sizes_are; leases = carries.leases; spare = carries.spare; fills = carries.fills; distinct = tt; left = λ e. absurd (omega arith) }) in items.renewed r.items core left' words' views' (record {
      cells = refl;
      stirred = stirred_left p r.state.items;
      why = λ q l has z. dite (ℕ_discrete q p)
          (λ e. absurd (subst (λ (ls : List Lease). Has ls l) (ap r.book.out e ∙ (carries.leases ∙ bare.1)) has))
          (λ ne. ⊎_elim (λ (t : Loads r.state q l.item). inl (loads_others r.state core p x' refl q l.item ne t)) (λ (g : Grip s.views q l.item). inr (grip_set s.views id d d' at (λ _ _ h. h) q l.item g)) z);
      long = length-set s.words i v;
      high = λ j le. let l = low in else_same j (λ e. omega arith);
      free = λ q low_q some_. let same = else_same (claim_word q) (λ e. omega arith) in items.rests_on r.items words' q low_q same some_;
      same = hands.same;
      owners = hands.owners;
      waiting = items.waits_set r.items core.items id d' (λ w k has. absurd has) (λ j e w other here k has. items.waits_left p e.number r.state.items r.book.slot_of w (other_number j e other here k) (r.items.waiting j e w here k has));
      leftovers = leaves;
      links = items.links_set r.items words' left' id d' (λ j le. let l = low in else_same j (λ e. omega arith)) (λ w k has. absurd has) (λ w has. r.items.links.notes id d w at has)
          (λ q w. put_all (λ _ ls. Has ls w → IsLinked plan.sizes s.words w) r.book.left p d.waits q (λ h. r.items.links.waits id d w at kind h) (λ _ h. r.items.links.lefts q w h));
      private = private_on r.items.private (λ w h. items.notes_on p r.state.items r.book.slot_of w h) (set_all (λ j e. Keeps s.views j e) s.views id d' (inr (d, at, refl)) (λ j e _ here. inr (e, here, refl)));
      seats = set_all (λ _ e. e.kind ≡ 1 → Carries plan.sizes book' e) s.views id d'
          (λ _. record { sizes_are = carries.sizes_are; leases = carries.leases; spare = carries.spare; fills = carries.fills; distinct = tt; left = λ e. absurd (omega arith) })
          (λ j e other here k. let g = r.items.seats j e here k in record { sizes_are = g.sizes_are; leases = g.leases; spare = g.spare; fills = g.fills; distinct = g.distinct; left = λ one. put_else r.book.left p d.waits e.number (other_number j e other here k) ∙ g.left one });
    })

    written : Writes (length ps) p s.words words' (shown d'.known.phase)
    written = record {
      long = length-set s.words i v;
      count = else_same 0 (λ e. omega arith);
      lock = else_same 8 (λ e. omega arith);
      claims = λ q _. else_same (claim_word q) (λ e. omega arith);
      others = λ q _ _. else_same (state_word q) (λ e. omega arith);
      mine = else_same (state_word p) (λ e. omega arith) ∙ r.epochs.states p d.known acts.is;
    }

    lefts_now : Lefts plan.sizes.participants words' left'
    lefts_now = record {
      told = λ q low_q. dite (ℕ_discrete q p)
          (λ e. ap (λ z. get_or words' (left_word z) 0) e ∙ (get_or-set_same s.words i v 0 (let wide = r.epochs.wide in let l = low in omega arith) ∙ ap left_code (sym (ap left' e ∙ put_here r.book.left p d.waits))))
          (λ ne. else_same (left_word q) (λ e. ne (omega arith)) ∙ (r.lefts.told q low_q ∙ ap left_code (sym (put_else r.book.left p d.waits q ne))));
      chained = λ q. put_all (λ _ ls. is_threaded ls ≡ true) r.book.left p d.waits q threads (λ _. r.lefts.chained q);
    }

    pub shown_leave : Shows IsIn plan record { words = words'; homes = s.homes; views = views' }
    unfolding moves
    shown_leave = moved S IsIn plan s r id d d' words' s.homes book' moves at kind written lefts_now items_now

  pub leaves_at : (slots id p v : ℕ) (me : Me S Acting) → me.0.number ≡ p → me.0.kind ≡ 1 → me.0.known.phase ≡ Idle → me.0.scan ≡ 0 → IsBare me.0 → me.0.left ≡ 1 → is_threaded me.0.waits ≡ true → v ≡ left_code me.0.waits
      → Allows (Shows IsIn plan) slots id me (left_word p) (λ _. v) (λ _. leave_then (step slots (left_word p) v 0 none) me v)
  leaves_at slots id p v me here kind is still bare cleared threads word s r _ at _ = (
    leaving me.0,
    keeps,
    tt,
    subst (λ (z : ℕ × ℕ). Shows IsIn plan record { words = set s.words (left_word z.0) z.1; homes = s.homes; views = set s.views id (leaving me.0) }) (λ j. (here j, sym word j)) (shown_leave s r id me.0 at kind is still bare cleared threads),
    refl,
  )
