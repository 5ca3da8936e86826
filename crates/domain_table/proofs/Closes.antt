-- a closing gives all leases back in its one step, and keeps the rule of the table
use Rattle.std.proofs.Common.{◌≡◌, ◌≢◌, ℕ, suc, ◌+◌, ◌*◌, ◌<◌, List, [], ◌∷◌, length, drop, set, sym, refl, ap, ◌∙◌, subst, ⊎_elim, inl, inr, arith, length-set, get_or-set_other, get_or-set_same}
use mathlib.Core.Logic.{dite}
use mathlib.Core.Option as maybe
use mathlib.Core.Option.{some, none}
use native.Mathlib.Decide.{ℕ_discrete}
use Rattle.atomic_table.specs.Table as table
use Rattle.atomic_table.specs.Table.{Me, step, Act, keeps, gives, chain, Allows}
use Rattle.sdd_plain.specs.declared.sizes.Sizes.{Sizes}
use Rattle.sdd_steps.specs.declared.participant.Phase.TheVariants.{Opened}
use Rattle.sdd_steps.specs.declared.step.Step.TheVariants.{Close}
use Rattle.sdd_steps.specs.declared.item.Item.{Item}
use Rattle.sdd_steps.specs.State.{Has, with_participant}
use Rattle.sdd_steps.proofs.ListLemmas.{put, put_here, put_else, at_inside}
use Rattle.sdd_homes.specs.declared.Lease.{Lease}
use Rattle.sdd_homes.specs.Book.{Content, part, Book, home}
use Rattle.sdd_homes.specs.Parts.{Parts}
use Rattle.sdd_homes.specs.Reasons.{Loads, Why}
use Rattle.sdd_homes.specs.Lying.{Lying}
use Rattle.sdd_homes.proofs.Totals.{home_in}
use Rattle.sdd_homes.proofs.Leases.{returns_first}
use Rattle.sdd_homes.proofs.LyingLemmas.{gives_low}
use Rattle.sdd_homes.proofs.PartLemmas as parts
use Rattle.domain_table.specs.Views.{closing}
use Rattle.domain_table.specs.Layout.{state_word, claim_word, shown}
use Rattle.domain_table.specs.Items.{Grip}
use Rattle.domain_table.specs.Rule.{Shows}
use Rattle.domain_table.specs.Plays.{own_home, Steady, Refilled, CanClose, ending, end_all_then}
use Rattle.domain_table.specs.declared.board.Acting.{Acting}
use Rattle.domain_table.specs.declared.board.Plan.{Plan}
use Rattle.domain_table.proofs.Taken as taken
use Rattle.domain_table.proofs.LeftWords.{lefts_else}
use Rattle.domain_table.proofs.Moves.{Moves, Writes, moved}
use Rattle.domain_table.proofs.Stirred.{grip_set, loads_others, leased}

module _ {S : Type 0} (IsIn : Content → S → Type 0) (d : Acting) where
  -- one give for each lease
  abbrev pub give_all : List Lease → Act S
  give_all [] = keeps
  give_all (l ∷ ls) = chain gives (give_all ls)

  pub given : (ls : List Lease) (carried tail : List (ℕ × S)) → Refilled IsIn d ls carried tail → (table.carried_after carried (give_all ls) ≡ tail) × (drop (length ls) carried ≡ tail)
  given [] carried tail is = (is, is)
  given (l ∷ ls) carried tail r = let g = given ls r.1 tail r.4 in (ap (λ (cs : List (ℕ × S)). table.carried_after (table.rest cs) (give_all ls)) r.3 ∙ g.0, ap (λ (cs : List (ℕ × S)). drop (suc (length ls)) cs) r.3 ∙ g.1)

  pub valid : (ls : List Lease) (carried : List (ℕ × S)) (homes : List (maybe.Option S)) → table.Valid homes carried (give_all ls)
  valid [] carried homes = tt
  valid (l ∷ ls) carried homes = (tt, valid ls (table.rest carried) (table.put_back homes carried))

  -- a view with the same homes has the same ones
  refilled_on : (d' : Acting) → d'.sizes ≡ d.sizes → d'.number ≡ d.number → (ls : List Lease) (carried tail : List (ℕ × S)) → Refilled IsIn d ls carried tail → Refilled IsIn d' ls carried tail
  refilled_on d' sizes number [] carried tail is = is
  refilled_on d' sizes number (l ∷ ls) carried tail r = (r.0, r.1, r.2, r.3 ∙ ap (λ (z : Sizes × ℕ). (home z.0.slots l.slot z.1, r.0) ∷ r.1) (λ j. (sym sizes j, sym number j)), refilled_on d' sizes number ls r.1 tail r.4)

  module _ (n slots spares p : ℕ) (items : List Item) (reason : ℕ → ℕ → Type 0) (low : p < n) (own : (k : ℕ) → own_home d k ≡ home slots k p) where
    pub record Given (book : Book) (homes' : List (maybe.Option S)) : Type 0 where
      pub out : ℕ → List Lease
      pub what : ℕ → Content
      pub none_left : out p ≡ []
      pub others : (q : ℕ) → q ≢ p → out q ≡ book.out q
      pub counted : Parts n slots items reason (record book { out = out; what = what })
      pub lying : Lying IsIn (slots * suc n) spares what book.extra homes'

    pub gives_all : (ls : List Lease) (book : Book) (homes : List (maybe.Option S)) (carried tail : List (ℕ × S)) → Parts n slots items reason book → Lying IsIn (slots * suc n) spares book.what book.extra homes → book.out p ≡ ls → Refilled IsIn d ls carried tail
        → Given book (table.homes_after homes carried (give_all ls))
    gives_all [] book homes carried tail r lies is filled = record { out = book.out; what = book.what; none_left = is; others = λ q _. refl; counted = r; lying = lies }
    gives_all (l ∷ ls) book homes carried tail r lies is filled = let back = returns_first (book.out p) l ls is (r.once p) in let y = r.leases p l back.had in let f = r.full_at l.slot l.item y.inside y.is in
        let i : ℕ = home slots l.slot p in let x : Content = part f.it.value l.count in let u : S = filled.0 in
        let book1 : Book = record book { out = put book.out p ls; what = put book.what i x } in let homes1 = table.put_back homes carried in
        let lies1 : Lying IsIn (slots * suc n) spares book1.what book1.extra homes1 = subst (λ (cs : List (ℕ × S)). Lying IsIn (slots * suc n) spares book1.what book1.extra (table.put_back homes cs)) (sym filled.3)
        (subst (λ z. Lying IsIn (slots * suc n) spares book1.what book1.extra (set homes z (some u))) (sym (own l.slot))
        (gives_low lies i x u (home_in n slots l.slot p y.inside (omega arith)) (subst (λ v. IsIn (part v l.count) u) (sym (y.round f.it f.here)) filled.2))) in
        let g = gives_all ls book1 homes1 (table.rest carried) tail (parts.gives r p l ls f.it back f.here) lies1 (put_here book.out p ls) (subst (λ (cs : List (ℕ × S)). Refilled IsIn d ls (table.rest cs) tail) (sym filled.3) filled.4) in record {
          out = g.out;
          what = g.what;
          none_left = g.none_left;
          others = λ q ne. g.others q ne ∙ put_else book.out p ls q ne;
          counted = g.counted;
          lying = g.lying;
        }

-- a scan leaves the leases and their slots as they are
pub closes_still : {S : Type 0} (IsIn : Content → S → Type 0) (m m' : Me S Acting) → Steady m m' → CanClose IsIn m → CanClose IsIn m'
closes_still {S} IsIn m m' s r = (r.0, subst (λ (z : List Lease × List (ℕ × S)). Refilled IsIn m'.0 z.0 z.1 r.0) (λ j. (sym s.6 j, sym s.12 j)) (refilled_on IsIn m.0 m'.0 s.3 s.1 m.0.leases m.1 r.0 r.1))

module _ (S : Type 0) (IsIn : Content → S → Type 0) (plan : Plan) where
  pub ends_all : (slots id p e : ℕ) (me : Me S Acting) (tail : List (ℕ × S)) → me.0.number ≡ p → me.0.kind ≡ 1 → me.0.known.phase ≡ Opened e → me.0.known.found ≡ e → me.0.scan ≡ 0 → Refilled IsIn me.0 me.0.leases me.1 tail
      → Allows (Shows IsIn plan) slots id me (state_word p) (λ _. 0) (λ _. end_all_then (step slots (state_word p) 0 0 none) me 0)
  ends_all slots id p e me tail here kind is found still filled = subst (λ q. Allows (Shows IsIn plan) slots id me (state_word q) (λ _. 0) (λ _. end_all_then (step slots (state_word q) 0 0 none) me 0)) here
      (λ s r _ at _. let d = me.0 in let q : ℕ = d.number in let n : ℕ = plan.sizes.participants in let a = r.epochs.seats id d at kind in let b = r.items.seats id d at kind in let x = d.known in let d' = ending d in let i : ℕ = state_word q in
      let core = with_participant r.state q (closing x) in let words' = set s.words i 0 in let wide = r.epochs.wide in let many = r.epochs.many in let inside = at_inside r.state.participants q x a.is in
      let homes' = table.homes_after s.homes me.1 (give_all IsIn d d.leases) in let carried = given IsIn d d.leases me.1 tail filled in
      let g = gives_all IsIn d n plan.sizes.slots (plan.sizes.cells + n) q r.state.items (Why r.state (Grip s.views)) (omega arith) (λ k. ap (λ (z : Sizes). home z.slots k q) b.sizes_are) d.leases r.book s.homes me.1 tail r.items.parts r.items.lying b.leases filled in
      let m : Moves r.state r.born d d' = (record {
        core = core;
        runs = taken.one r.state (Close q) core (taken.closes r.state q x a.is e is (sym found));
        count = refl;
        changed = refl;
        inside = λ n' h. absurd (cc);
        again = λ n' h. absurd (cc);
        looks = λ q' y n' h. absurd (cc);
        still = λ h. refl;
        number = refl;
        scan = λ z. z;
        present = λ z. absurd (omega arith);
      }) in let w : Writes (length r.state.participants) q s.words words' (shown d'.known.phase) = (record {
        long = length-set s.words i 0;
        count = get_or-set_other s.words i 0 0 0 (λ z. omega arith);
        lock = get_or-set_other s.words i 8 0 0 (λ z. omega arith);
        claims = λ q' _. get_or-set_other s.words i (claim_word q') 0 0 (λ z. omega arith);
        others = λ q' _ other. get_or-set_other s.words i (state_word q') 0 0 (λ z. other (omega arith));
        mine = get_or-set_same s.words i 0 0 (omega arith);
      }) in let reasons : (q' : ℕ) (l : Lease) → Has (g.out q') l → Why r.state (Grip s.views) q' l.item → Why core (Grip (set s.views id d')) q' l.item = (λ q' l has y. dite (ℕ_discrete q' q)
      (λ z. absurd (subst (λ (ls : List Lease). Has ls l) (ap g.out z ∙ g.none_left) has))
      (λ ne. ⊎_elim (λ (t : Loads r.state q' l.item). inl (loads_others r.state core q (closing x) refl q' l.item ne t)) (λ (t : Grip s.views q' l.item). inr (grip_set s.views id d d' at (λ _ _ h. h) q' l.item t)) y)) in (
        d',
        give_all IsIn d d.leases,
        valid IsIn d d.leases me.1 s.homes,
        moved S IsIn plan s r id d d' words' homes' (record r.book { out = g.out; what = g.what }) m at kind w (lefts_else r.lefts i 0 (λ q' _ z. omega arith)) (leased r.items core.participants g.out g.what words' homes' id d d' at kind (record {
          parts = parts.stays g.counted r.state.items (Why core (Grip (set s.views id d'))) (λ k it at_k. (it, at_k, refl, refl)) reasons;
          lying = g.lying;
          mine = g.none_left;
          others = g.others;
          same = refl;
          written = record { long = w.long; high = λ j le. get_or-set_other s.words i j 0 0 (λ z. omega arith); freed = λ q' small _. inl (w.claims q' (omega arith)) };
          claimed = w.claims q inside ∙ a.claimed;
          apart = λ j v other at_v kind_v same. other (sym (r.epochs.seats j v at_v kind_v).seated ∙ (ap r.epochs.seat_of same ∙ a.seated));
        })),
        ap (λ (cs : List (ℕ × S)). (ending d, cs)) (carried.0 ∙ sym carried.1),
      ))
