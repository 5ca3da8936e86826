-- the homes of a reclaimed item are emptied one after the other, and its slot is vacant again
use Rattle.std.proofs.Common.{◌≡◌, ◌≢◌, ℕ, suc, ◌+◌, ◌-◌, ◌*◌, ◌^◌, ◌<◌, ◌≤◌, List, ◌∷◌, Some, None, get_or, set, sym, refl, ap, ◌∙◌, subst, arith}
use mathlib.Core.Option as maybe
use mathlib.Core.Option.{some, none}
use lib.ListN.{get_elem?}
use lib.Seq.{set-get_or}
use Rattle.atomic_table.specs.Table as table
use Rattle.atomic_table.specs.Table.{State, Me, step, stepped, takes, gives, Allows}
use Rattle.sdd_plain.specs.declared.sizes.Sizes.{Sizes}
use Rattle.sdd_steps.proofs.ListLemmas.{put}
use Rattle.sdd_homes.specs.declared.Filling.{Filling}
use Rattle.sdd_homes.specs.Book.{Content, away, blank, room, part, vacant, partly, full, home, total}
use Rattle.sdd_homes.specs.Parts.{Partly}
use Rattle.sdd_homes.proofs.Totals.{home_in}
use Rattle.sdd_homes.proofs.LyingLemmas.{takes_low, gives_low}
use Rattle.sdd_homes.proofs.Fillings as fillings
use Rattle.domain_table.specs.Layout.{slot_word}
use Rattle.domain_table.specs.Rule.{Shows}
use Rattle.domain_table.specs.Plays.{filling_at, gathered, gathers_then, CanEmpty, empties_then, CanVacate, vacates_then}
use Rattle.domain_table.specs.declared.board.Acting.{Acting}
use Rattle.domain_table.specs.declared.board.Plan.{Plan}
use Rattle.domain_table.proofs.Fills.{Fills, stayed, fills_shown}

module _ (S : Type 0) (IsIn : Content → S → Type 0) (plan : Plan) where
  abbrev n : ℕ
  n = plan.sizes.participants

  module _ (s : State S Acting) (r : Shows IsIn plan s) (id : ℕ) (d : Acting) (at : get_elem? s.views id ≡ some d) (kind : d.kind ≡ 1) (f : Filling) (fills : d.filling ≡ Some f) where
    abbrev k : ℕ
    k = d.slot

    has : (k < plan.sizes.slots) × (f.by ≡ d.number) × (r.book.stage k ≡ partly f)
    has = (r.items.seats id d at kind).fills f fills

    now : Partly n plan.sizes.slots (r.book.share k) r.book.what k f
    now = r.items.parts.partly_at k f has.0 has.2

    abbrev v : ℕ
    v = get_or s.words (slot_word plan.sizes k) 0

    some_word : v ≢ 0
    some_word e = let bad : vacant ≡ partly f = sym (r.items.vacancies k has.0 e) ∙ has.2 in absurd (cc)

    own : (g : Filling) → r.book.stage k ≡ partly g → g.by ≡ d.number
    own g e = let both : partly f ≡ partly g = sym has.2 ∙ e in let same : f ≡ g = cc in ap (λ (z : Filling). z.by) (sym same) ∙ has.1

    unplaced : (i : ℕ) → r.book.stage k ≢ full i
    unplaced i e = let bad : partly f ≡ full i = sym has.2 ∙ e in absurd (cc)

    -- the last home that has parts
    module _ (more : 0 < f.filled) (none_out : f.out ≡ n) where
      abbrev b : ℕ
      b = f.filled - 1

      abbrev pub a : ℕ
      a = r.book.share k b

      abbrev f1 : Filling
      f1 = gathered a f

      abbrev share1 : ℕ → ℕ → ℕ
      share1 = put r.book.share k (r.book.share k)

      abbrev what1 : ℕ → Content
      what1 = put r.book.what (home plan.sizes.slots k b) away

      abbrev homes1 : List (maybe.Option S)
      homes1 = set s.homes (home plan.sizes.slots k b) none

      low : home plan.sizes.slots k b < plan.sizes.slots * suc n
      low = let w = now.within in home_in n plan.sizes.slots k b has.0 (omega arith)

      next : (r.book.what (home plan.sizes.slots k b) ≡ part f.round a) × Fills S IsIn plan s r id k v d at kind has.0 (partly f1) (Some f1) share1 what1 homes1
      next = let g = fillings.gather_takes (stayed S IsIn plan s r id k v d at kind has.0 (partly f1) (Some f1) share1 what1 homes1) k f has.0 has.2 b (omega arith) none_out in (
        g.0,
        record {
          parts = g.1;
          lying = takes_low r.items.lying (home plan.sizes.slots k b) low;
          unused = unplaced;
          unplaced = λ i e. absurd (cc);
          room = λ e. absurd (some_word e);
          mine = λ g e. let same : f1 ≡ g = cc in (ap (λ (z : Filling). z.by) (sym same) ∙ has.1, ap partly same);
          alone = own;
        },
      )

      pub found_last : (u : S) × (get_elem? s.homes (home plan.sizes.slots k b) ≡ some (some u)) × IsIn (part f.round a) u
      found_last = let g = r.items.lying.low (home plan.sizes.slots k b) low (λ e. let bad : part f.round a ≡ away = sym next.0 ∙ e in absurd (cc)) in (g.0, g.1, subst (λ z. IsIn z g.0) next.0 g.2)

      pub all_gathered : f.filled ≡ 1 → f.left + a ≡ 2 ^ 63
      all_gathered one = let s1 : total 1 (r.book.share k) + f.left ≡ 2 ^ 63 = subst (λ z. total z (r.book.share k) + f.left ≡ 2 ^ 63) one now.sum in let first : a ≡ r.book.share k 0 = ap (λ z. r.book.share k (z - 1)) one in omega arith

      pub never_more : f.left + a ≤ 2 ^ 63
      never_more = let last : f.filled ≡ suc b = omega arith in let s : total (suc b) (r.book.share k) + f.left ≡ 2 ^ 63 = subst (λ z. total z (r.book.share k) + f.left ≡ 2 ^ 63) last now.sum in omega arith

      pub shown_gather : (i : ℕ) → Shows IsIn plan record { words = set s.words i (get_or s.words i 0); homes = homes1; views = set s.views id (filling_at k f1 d) }
      shown_gather i = subst (λ ws. Shows IsIn plan record { words = ws; homes = homes1; views = set s.views id (filling_at k f1 d) }) (set-get_or s.words (slot_word plan.sizes k) 0 ∙ sym (set-get_or s.words i 0))
          (fills_shown S IsIn plan s r id k v d at kind has.0 (partly f1) (Some f1) share1 what1 homes1 next.1)

    -- it goes back empty
    module _ (is_out : f.out ≡ f.filled) (lt : f.filled < n) (u : S) (is_in : IsIn blank u) where
      abbrev f2 : Filling
      f2 = record f { out = n }

      abbrev share2 : ℕ → ℕ → ℕ
      share2 = put r.book.share k (r.book.share k)

      abbrev what2 : ℕ → Content
      what2 = put r.book.what (home plan.sizes.slots k f.filled) blank

      abbrev homes2 : List (maybe.Option S)
      homes2 = set s.homes (home plan.sizes.slots k f.filled) (some u)

      back : Fills S IsIn plan s r id k v d at kind has.0 (partly f2) (Some f2) share2 what2 homes2
      back = record {
        parts = fillings.gather_gives (stayed S IsIn plan s r id k v d at kind has.0 (partly f2) (Some f2) share2 what2 homes2) k f has.0 has.2 is_out lt;
        lying = gives_low r.items.lying (home plan.sizes.slots k f.filled) blank u (home_in n plan.sizes.slots k f.filled has.0 (omega arith)) is_in;
        unused = unplaced;
        unplaced = λ i e. absurd (cc);
        room = λ e. absurd (some_word e);
        mine = λ g e. let same : f2 ≡ g = cc in (ap (λ (z : Filling). z.by) (sym same) ∙ has.1, ap partly same);
        alone = own;
      }

      pub shown_empty : (i : ℕ) → Shows IsIn plan record { words = set s.words i (get_or s.words i 0); homes = homes2; views = set s.views id (filling_at k f2 d) }
      shown_empty i = subst (λ ws. Shows IsIn plan record { words = ws; homes = homes2; views = set s.views id (filling_at k f2 d) }) (set-get_or s.words (slot_word plan.sizes k) 0 ∙ sym (set-get_or s.words i 0))
          (fills_shown S IsIn plan s r id k v d at kind has.0 (partly f2) (Some f2) share2 what2 homes2 back)

    -- and the slot is given back
    module _ (done : f.filled ≡ 0) (only : f.out ≡ n) (u : S) (is_in : IsIn room u) where
      abbrev share3 : ℕ → ℕ → ℕ
      share3 = put r.book.share k (r.book.share k)

      abbrev what3 : ℕ → Content
      what3 = put r.book.what (home plan.sizes.slots k n) room

      abbrev homes3 : List (maybe.Option S)
      homes3 = set s.homes (home plan.sizes.slots k n) (some u)

      vacated : Fills S IsIn plan s r id k 0 d at kind has.0 vacant None share3 what3 homes3
      vacated = record {
        parts = (fillings.vacates (stayed S IsIn plan s r id k 0 d at kind has.0 vacant None share3 what3 homes3) k f has.0 has.2 done only).1;
        lying = gives_low r.items.lying (home plan.sizes.slots k n) room u (home_in n plan.sizes.slots k n has.0 (omega arith)) is_in;
        unused = unplaced;
        unplaced = λ i e. absurd (cc);
        room = λ _. refl;
        mine = λ g e. absurd (cc);
        alone = own;
      }

      pub shown_vacate : Shows IsIn plan record { words = set s.words (slot_word plan.sizes k) 0; homes = homes3; views = set s.views id (record d { filling = None }) }
      shown_vacate = fills_shown S IsIn plan s r id k 0 d at kind has.0 vacant None share3 what3 homes3 vacated

  pub gathers : (slots id i : ℕ) (me : Me S Acting) (f : Filling) → me.0.kind ≡ 1 → me.0.filling ≡ Some f → 0 < f.filled → f.out ≡ me.0.sizes.participants → Allows (Shows IsIn plan) slots id me i (λ m. m) (gathers_then IsIn (step slots i 0 0 none) me)
  gathers slots id i me f kind fills more is_out s r _ at _ = let d = me.0 in let b = r.items.seats id d at kind in let wide = ap (λ (z : Sizes). z.participants) b.sizes_are in let out' : f.out ≡ n = is_out ∙ wide in
      let g = found_last s r id d at kind f fills more out' in let c : ℕ = r.book.share d.slot (f.filled - 1) in let d' = filling_at d.slot (gathered c f) d in (
        d',
        takes (home d.sizes.slots d.slot (f.filled - 1)) g.0,
        ap (λ (z : Sizes). get_elem? s.homes (home z.slots d.slot (f.filled - 1))) b.sizes_are ∙ g.1,
        subst (λ (z : Sizes). Shows IsIn plan record { words = set s.words i (get_or s.words i 0); homes = set s.homes (home z.slots d.slot (f.filled - 1)) none; views = set s.views id d' }) (sym b.sizes_are) (shown_gather s r id d at kind f fills more out' i),
        λ f' e. let heads : Some f ≡ Some f' = sym fills ∙ e in let same : f ≡ f' = cc in (
          c,
          g.0,
          subst (λ (z : Filling). IsIn (part z.round c) g.0) same g.2,
          subst (λ (z : Filling). z.left + c ≤ 2 ^ 63) same (never_more s r id d at kind f fills more out'),
          subst (λ (z : Filling). z.filled ≡ 1 → z.left + c ≡ 2 ^ 63) same (all_gathered s r id d at kind f fills more out'),
          ap (λ (z : Filling). (filling_at d.slot (gathered c z) d, (home d.sizes.slots d.slot (z.filled - 1), g.0) ∷ me.1)) same,
        ),
      )

  pub empties : (slots id i : ℕ) (me : Me S Acting) (f : Filling) (tail : List (ℕ × S)) → me.0.kind ≡ 1 → CanEmpty IsIn me f tail → Allows (Shows IsIn plan) slots id me i (λ m. m) (empties_then IsIn (step slots i 0 0 none) me)
  empties slots id i me f tail kind can s r _ at _ = let d = me.0 in let b = r.items.seats id d at kind in let wide = ap (λ (z : Sizes). z.participants) b.sizes_are in let lt = can.2 in let lt' : f.filled < n = omega arith in let u = can.3.0 in let d' = filling_at d.slot (record f { out = d.sizes.participants }) d in
      let shown = subst (λ (z : Sizes). Shows IsIn plan record { words = set s.words i (get_or s.words i 0); homes = set s.homes (home z.slots d.slot f.filled) (some u); views = set s.views id (filling_at d.slot (record f { out = z.participants }) d) }) (sym b.sizes_are) (shown_empty s r id d at kind f can.0 can.1 lt' u can.3.1 i) in (
        d',
        gives,
        tt,
        subst (λ (cs : List (ℕ × S)). Shows IsIn plan (stepped s i (get_or s.words i 0) id cs d' gives)) (sym can.3.2) shown,
        λ f' tail' can'. let heads : Some f ≡ Some f' = sym can.0 ∙ can'.0 in let same : f ≡ f' = cc in λ j. (filling_at d.slot (record (same j) { out = d.sizes.participants }) d, (ap table.rest can'.3.2) j),
      )

  pub vacates : (slots id : ℕ) (me : Me S Acting) (f : Filling) (tail : List (ℕ × S)) → me.0.kind ≡ 1 → me.0.sizes ≡ plan.sizes → CanVacate IsIn me f tail
      → Allows (Shows IsIn plan) slots id me (slot_word plan.sizes me.0.slot) (λ _. 0) (vacates_then IsIn (step slots (slot_word plan.sizes me.0.slot) 0 0 none) me)
  vacates slots id me f tail kind sizes can s r _ at _ = let d = me.0 in let wide = ap (λ (z : Sizes). z.participants) sizes in let u = can.3.0 in let i : ℕ = slot_word plan.sizes d.slot in let d' : Acting = record d { filling = None } in
      let shown = subst (λ (z : Sizes). Shows IsIn plan record { words = set s.words i 0; homes = set s.homes (home z.slots d.slot z.participants) (some u); views = set s.views id d' }) (sym sizes) (shown_vacate s r id d at kind f can.0 can.1 (can.2 ∙ wide) u can.3.1) in (
        d',
        gives,
        tt,
        subst (λ (cs : List (ℕ × S)). Shows IsIn plan (stepped s i 0 id cs d' gives)) (sym can.3.2) shown,
        λ f' tail' can'. λ j. (d', (ap table.rest can'.3.2) j),
      )
