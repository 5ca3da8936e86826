-- a slot is claimed, and its homes are filled one after the other
use Rattle.std.proofs.Common.{◌≡◌, ◌≢◌, ◌⊎◌, ℕ, suc, ◌-◌, ◌*◌, ◌^◌, ◌<◌, ◌≤◌, List, [], ◌∷◌, Some, get_or, set, sym, refl, ap, ◌∙◌, subst, arith, eqb, eq-eqb, ne_eqb}
use mathlib.Core.Logic.{dite}
use mathlib.Core.Option as maybe
use mathlib.Core.Option.{some, none}
use native.Mathlib.Decide.{ℕ_discrete}
use lib.ListN.{get_elem?}
use lib.Seq.{set-get_or}
use prog.Atomic.{either}
use Rattle.atomic_table.specs.Table as table
use Rattle.atomic_table.specs.Table.{State, Me, step, stepped, keeps, takes, gives, Allows}
use Rattle.sdd_plain.specs.declared.sizes.Sizes.{Sizes}
use Rattle.sdd_steps.proofs.ListLemmas.{put}
use Rattle.sdd_homes.specs.declared.Filling.{Filling}
use Rattle.sdd_homes.specs.Book.{Content, away, blank, room, part, vacant, partly, full, home}
use Rattle.sdd_homes.specs.Parts.{Partly}
use Rattle.sdd_homes.proofs.Totals.{home_in}
use Rattle.sdd_homes.proofs.LyingLemmas.{takes_low, gives_low}
use Rattle.sdd_homes.proofs.Fillings as fillings
use Rattle.domain_table.specs.Layout.{slot_word}
use Rattle.domain_table.specs.Rule.{Shows}
use Rattle.domain_table.specs.Plays.{deed_home, filling_at, claimed_by, next_out, next_filled, claim_slot_then, fill_takes_then, CanFill, AreTold, fill_gives_then}
use Rattle.domain_table.specs.declared.board.Acting.{Acting}
use Rattle.domain_table.specs.declared.board.Plan.{Plan}
use Rattle.domain_table.proofs.Moves.{idles}
use Rattle.domain_table.proofs.Fills.{Fills, stayed, fills_shown}

module _ (S : Type 0) (IsIn : Content → S → Type 0) (plan : Plan) where
  abbrev n : ℕ
  n = plan.sizes.participants

  -- a vacant slot is claimed by the participant of the seat
  module _ (s : State S Acting) (r : Shows IsIn plan s) (id k : ℕ) (d : Acting) (at : get_elem? s.views id ≡ some d) (kind : d.kind ≡ 1) (inside : k < plan.sizes.slots) (free : get_or s.words (slot_word plan.sizes k) 0 ≡ 0) where
    is : r.book.stage k ≡ vacant
    is = r.items.vacancies k inside free

    lies : r.book.what (home plan.sizes.slots k n) ≡ room
    lies = r.items.parts.vacant_at k n inside is (omega arith) ∙ fillings.resting_own n n refl

    low : home plan.sizes.slots k n < plan.sizes.slots * suc n
    low = home_in n plan.sizes.slots k n inside (omega arith)

    pub found : (u : S) × (get_elem? s.homes (home plan.sizes.slots k n) ≡ some (some u)) × IsIn room u
    found = let f = r.items.lying.low (home plan.sizes.slots k n) low (λ e. let bad : room ≡ away = sym lies ∙ e in absurd (cc)) in (f.0, f.1, subst (λ z. IsIn z f.0) lies f.2)

    abbrev f : Filling
    f = record { by = d.number; filled = 0; round = 0; left = 2 ^ 63; out = n }

    abbrev homes' : List (maybe.Option S)
    homes' = set s.homes (home plan.sizes.slots k n) none

    claims : Fills S IsIn plan s r id k 1 d at kind inside (partly f) (Some f) (put r.book.share k (r.book.share k)) (put r.book.what (home plan.sizes.slots k n) away) homes'
    claims = record {
      parts = fillings.claims (stayed S IsIn plan s r id k 1 d at kind inside (partly f) (Some f) (put r.book.share k (r.book.share k)) (put r.book.what (home plan.sizes.slots k n) away) homes') k d.number 0 inside is;
      lying = takes_low r.items.lying (home plan.sizes.slots k n) low;
      unused = λ i e. let bad : vacant ≡ full i = sym is ∙ e in absurd (cc);
      unplaced = λ i e. absurd (cc);
      room = λ e. absurd (omega arith);
      mine = λ g e. let same : f ≡ g = cc in (ap (λ (z : Filling). z.by) (sym same), ap partly same);
      alone = λ g e. let bad : vacant ≡ partly g = sym is ∙ e in absurd (cc);
    }

    pub shown_claim : Shows IsIn plan record { words = set s.words (slot_word plan.sizes k) 1; homes = homes'; views = set s.views id (filling_at k f d) }
    shown_claim = fills_shown S IsIn plan s r id k 1 d at kind inside (partly f) (Some f) (put r.book.share k (r.book.share k)) (put r.book.what (home plan.sizes.slots k n) away) homes' claims

  pub claims_slot : (slots id k : ℕ) (me : Me S Acting) → me.0.kind ≡ 1 → k < plan.sizes.slots
      → Allows (Shows IsIn plan) slots id me (slot_word plan.sizes k) (λ m. either (eqb m 0) 1 m) (claim_slot_then IsIn (step slots (slot_word plan.sizes k) 0 1 none) me)
  claims_slot slots id k me kind inside s r _ at _ = let d = me.0 in let i : ℕ = slot_word plan.sizes k in let m : ℕ = get_or s.words i 0 in let b = r.items.seats id d at kind in
      let told : (k' : ℕ) → i ≡ slot_word d.sizes k' → k ≡ k' = (λ k' w. let z = ap (λ (q : Sizes). slot_word q k') b.sizes_are in omega arith) in dite (ℕ_discrete m 0)
      (λ hit. let f = found s r id k d at kind inside hit in let d' = filling_at k (claimed_by d) d in
      let shown = subst (λ (z : Sizes). Shows IsIn plan record { words = set s.words i 1; homes = set s.homes (home z.slots k z.participants) none; views = set s.views id (filling_at k (record { by = d.number; filled = 0; round = 0; left = 2 ^ 63; out = z.participants }) d) }) (sym b.sizes_are) (shown_claim s r id k d at kind inside hit) in (
        d',
        takes (deed_home d k) f.0,
        ap (λ (z : Sizes). get_elem? s.homes (home z.slots k z.participants)) b.sizes_are ∙ f.1,
        subst (λ h. Shows IsIn plan record { words = set s.words i (either h 1 m); homes = set s.homes (deed_home d k) none; views = set s.views id d' }) (sym (eq-eqb m 0 hit)) shown,
        λ k' w. ((λ _. (f.0, f.2, ap (λ z. (filling_at z (claimed_by d) d, (deed_home d z, f.0) ∷ me.1)) (told k' w))), λ miss. absurd (miss hit)),
      ))
      (λ miss. (
        d,
        keeps,
        tt,
        subst (λ h. Shows IsIn plan record { words = set s.words i (either h 1 m); homes = s.homes; views = set s.views id d }) (sym (ne_eqb m 0 miss)) (idles S IsIn plan s r i id d at),
        λ k' _. ((λ hit. absurd (miss hit)), λ _. refl),
      ))

  -- the participant of the seat fills the slot that it claimed
  module _ (s : State S Acting) (r : Shows IsIn plan s) (id : ℕ) (d : Acting) (at : get_elem? s.views id ≡ some d) (kind : d.kind ≡ 1) (f : Filling) (fills : d.filling ≡ Some f) where
    abbrev k : ℕ
    k = d.slot

    abbrev q : ℕ
    q = f.filled

    has : (k < plan.sizes.slots) × (f.by ≡ d.number) × (r.book.stage k ≡ partly f)
    has = (r.items.seats id d at kind).fills f fills

    now : Partly n plan.sizes.slots (r.book.share k) r.book.what k f
    now = r.items.parts.partly_at k f has.0 has.2

    -- the word of the slot stays as it is
    abbrev v : ℕ
    v = get_or s.words (slot_word plan.sizes k) 0

    some_word : v ≢ 0
    some_word e = let bad : vacant ≡ partly f = sym (r.items.vacancies k has.0 e) ∙ has.2 in absurd (cc)

    module _ (lt : q < n) where
      inside : home plan.sizes.slots k q < plan.sizes.slots * suc n
      inside = home_in n plan.sizes.slots k q has.0 (omega arith)

      module _ (none_out : f.out ≡ n) where
        empty : r.book.what (home plan.sizes.slots k q) ≡ blank
        empty = now.rest q (omega arith) lt (λ e. omega arith)

        pub found_next : (u : S) × (get_elem? s.homes (home plan.sizes.slots k q) ≡ some (some u)) × IsIn blank u
        found_next = let g = r.items.lying.low (home plan.sizes.slots k q) inside (λ e. let bad : blank ≡ away = sym empty ∙ e in absurd (cc)) in (g.0, g.1, subst (λ z. IsIn z g.0) empty g.2)

        abbrev f1 : Filling
        f1 = next_out f

        abbrev homes1 : List (maybe.Option S)
        homes1 = set s.homes (home plan.sizes.slots k q) none

        next : Fills S IsIn plan s r id k v d at kind has.0 (partly f1) (Some f1) (put r.book.share k (r.book.share k)) (put r.book.what (home plan.sizes.slots k q) away) homes1
        next = record {
          parts = fillings.fill_takes (stayed S IsIn plan s r id k v d at kind has.0 (partly f1) (Some f1) (put r.book.share k (r.book.share k)) (put r.book.what (home plan.sizes.slots k q) away) homes1) k f has.0 has.2 lt none_out;
          lying = takes_low r.items.lying (home plan.sizes.slots k q) inside;
          unused = λ i e. let bad : partly f ≡ full i = sym has.2 ∙ e in absurd (cc);
          unplaced = λ i e. absurd (cc);
          room = λ e. absurd (some_word e);
          mine = λ g e. let same : f1 ≡ g = cc in (ap (λ (z : Filling). z.by) (sym same) ∙ has.1, ap partly same);
          alone = λ g e. let both : partly f ≡ partly g = sym has.2 ∙ e in let same : f ≡ g = cc in ap (λ (z : Filling). z.by) (sym same) ∙ has.1;
        }

        pub shown_take : (i : ℕ) → Shows IsIn plan record { words = set s.words i (get_or s.words i 0); homes = homes1; views = set s.views id (filling_at k f1 d) }
        shown_take i = subst (λ ws. Shows IsIn plan record { words = ws; homes = homes1; views = set s.views id (filling_at k f1 d) }) (set-get_or s.words (slot_word plan.sizes k) 0 ∙ sym (set-get_or s.words i 0))
            (fills_shown S IsIn plan s r id k v d at kind has.0 (partly f1) (Some f1) (put r.book.share k (r.book.share k)) (put r.book.what (home plan.sizes.slots k q) away) homes1 next)

      module _ (is_out : f.out ≡ q) (c a : ℕ) (le : a ≤ f.left) (same_round : (q ≡ 0) ⊎ (c ≡ f.round)) (u : S) (is_in : IsIn (part c a) u) where
        abbrev f2 : Filling
        f2 = record f { filled = suc f.filled; round = c; left = f.left - a; out = n }

        abbrev share2 : ℕ → ℕ → ℕ
        share2 = put r.book.share k (put (r.book.share k) q a)

        abbrev what2 : ℕ → Content
        what2 = put r.book.what (home plan.sizes.slots k q) (part c a)

        abbrev homes2 : List (maybe.Option S)
        homes2 = set s.homes (home plan.sizes.slots k q) (some u)

        back : Fills S IsIn plan s r id k v d at kind has.0 (partly f2) (Some f2) share2 what2 homes2
        back = record {
          parts = fillings.fill_gives (stayed S IsIn plan s r id k v d at kind has.0 (partly f2) (Some f2) share2 what2 homes2) k f has.0 has.2 c a lt is_out le same_round;
          lying = gives_low r.items.lying (home plan.sizes.slots k q) (part c a) u inside is_in;
          unused = λ i e. let bad : partly f ≡ full i = sym has.2 ∙ e in absurd (cc);
          unplaced = λ i e. absurd (cc);
          room = λ e. absurd (some_word e);
          mine = λ g e. let same : f2 ≡ g = cc in (ap (λ (z : Filling). z.by) (sym same) ∙ has.1, ap partly same);
          alone = λ g e. let both : partly f ≡ partly g = sym has.2 ∙ e in let same : f ≡ g = cc in ap (λ (z : Filling). z.by) (sym same) ∙ has.1;
        }

        pub shown_give : (i : ℕ) → Shows IsIn plan record { words = set s.words i (get_or s.words i 0); homes = homes2; views = set s.views id (filling_at k f2 d) }
        shown_give i = subst (λ ws. Shows IsIn plan record { words = ws; homes = homes2; views = set s.views id (filling_at k f2 d) }) (set-get_or s.words (slot_word plan.sizes k) 0 ∙ sym (set-get_or s.words i 0))
            (fills_shown S IsIn plan s r id k v d at kind has.0 (partly f2) (Some f2) share2 what2 homes2 back)

  pub fill_takes : (slots id i : ℕ) (me : Me S Acting) (f : Filling) → me.0.kind ≡ 1 → me.0.filling ≡ Some f → f.filled < me.0.sizes.participants → f.out ≡ me.0.sizes.participants → Allows (Shows IsIn plan) slots id me i (λ m. m) (fill_takes_then IsIn (step slots i 0 0 none) me)
  fill_takes slots id i me f kind fills lt is_out s r _ at _ = let d = me.0 in let b = r.items.seats id d at kind in let wide = ap (λ (z : Sizes). z.participants) b.sizes_are in let lt' : f.filled < n = omega arith in let out' : f.out ≡ n = is_out ∙ wide in
      let g = found_next s r id d at kind f fills lt' out' in let d' = filling_at d.slot (next_out f) d in (
        d',
        takes (home d.sizes.slots d.slot f.filled) g.0,
        ap (λ (z : Sizes). get_elem? s.homes (home z.slots d.slot f.filled)) b.sizes_are ∙ g.1,
        subst (λ (z : Sizes). Shows IsIn plan record { words = set s.words i (get_or s.words i 0); homes = set s.homes (home z.slots d.slot f.filled) none; views = set s.views id d' }) (sym b.sizes_are) (shown_take s r id d at kind f fills lt' out' i),
        λ f' e. let heads : Some f ≡ Some f' = sym fills ∙ e in let same : f ≡ f' = cc in (g.0, g.2, ap (λ (z : Filling). (filling_at d.slot (next_out z) d, (home d.sizes.slots d.slot z.filled, g.0) ∷ me.1)) same),
      )

  abbrev front : S → List (ℕ × S) → S
  front z [] = z
  front z (x ∷ xs) = x.1

  same_value : (h h' : ℕ) (u u' : S) (tail tail' : List (ℕ × S)) → (h, u) ∷ tail ≡ (h', u') ∷ tail' → u ≡ u'
  same_value h h' u u' tail tail' e = ap (front u) e

  pub fill_gives : (slots id i : ℕ) (me : Me S Acting) (f : Filling) (c a : ℕ) (tail : List (ℕ × S)) → AreTold IsIn → me.0.kind ≡ 1 → CanFill IsIn me f c a tail → Allows (Shows IsIn plan) slots id me i (λ m. m) (fill_gives_then IsIn (step slots i 0 0 none) me)
  fill_gives slots id i me f c a tail told kind can s r _ at _ = let d = me.0 in let b = r.items.seats id d at kind in let wide = ap (λ (z : Sizes). z.participants) b.sizes_are in let lt = can.2 in let lt' : f.filled < n = omega arith in let u = can.5.0 in let d' = filling_at d.slot (next_filled d c a f) d in
      let shown = subst (λ (z : Sizes). Shows IsIn plan record { words = set s.words i (get_or s.words i 0); homes = set s.homes (home z.slots d.slot f.filled) (some u); views = set s.views id (filling_at d.slot (record f { filled = suc f.filled; round = c; left = f.left - a; out = z.participants }) d) }) (sym b.sizes_are)
      (shown_give s r id d at kind f can.0 lt' can.1 c a can.3 can.4 u can.5.1 i) in (
        d',
        gives,
        tt,
        subst (λ (cs : List (ℕ × S)). Shows IsIn plan (stepped s i (get_or s.words i 0) id cs d' gives)) (sym can.5.2) shown,
        λ f' c' a' tail' can'. let heads : Some f ≡ Some f' = sym can.0 ∙ can'.0 in let same : f ≡ f' = cc in let u' = can'.5.0 in
            let fronts : (home d.sizes.slots d.slot f.filled, u) ∷ tail ≡ (home d.sizes.slots d.slot f'.filled, u') ∷ tail' = sym can.5.2 ∙ can'.5.2 in let values : u ≡ u' = same_value (home d.sizes.slots d.slot f.filled) (home d.sizes.slots d.slot f'.filled) u u' tail tail' fronts in
            let both = told c a c' a' u' (subst (IsIn (part c a)) values can.5.1) can'.5.1 in λ j. (filling_at d.slot (next_filled d (both.0 j) (both.1 j) (same j)) d, (ap table.rest can'.5.2) j),
      )
