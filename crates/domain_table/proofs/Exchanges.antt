-- a swap of a cell as a step of the table: what the seat brings goes to the cell, and what the cell had comes out
use Rattle.std.proofs.Common.{◌≡◌, ◌≢◌, true, ℕ, ◌+◌, ◌^◌, ◌<◌, ◌≤◌, List, ◌∷◌, get_or, set, sym, refl, ap, ◌∙◌, subst, arith, eqb, eq-eqb, ne_eqb, Option, None, Some}
use mathlib.Core.Logic.{dite}
use native.Mathlib.Decide.{ℕ_discrete}
use prog.Atomic.{either}
use mathlib.Core.Option.{some, none}
use lib.ListN.{get_elem?}
use Rattle.atomic_table.specs.Table as table
use Rattle.atomic_table.specs.Table.{State, Me, step, Act, gives, takes, chain, stepped, Allows}
use Rattle.atomic_table.proofs.Lists.{set_else}
use Rattle.sdd_plain.specs.declared.sizes.Sizes.{Sizes}
use Rattle.sdd_steps.specs.declared.item.Cell.{Cell}
use Rattle.sdd_steps.specs.State.{At, item_at}
use Rattle.sdd_steps.specs.Steps.{is_inside, is_ready}
use Rattle.sdd_steps.specs.Invariant.{names_of}
use Rattle.sdd_steps.proofs.ListLemmas.{at_inside, at_map, find_at}
use Rattle.sdd_steps.proofs.StepLemmas.{named_there}
use Rattle.sdd_homes.specs.declared.Owner.{Owner}
use Rattle.sdd_homes.specs.Book.{Content}
use Rattle.domain_table.specs.Layout.{cell_word, all_homes, packed}
use Rattle.domain_table.specs.Items.{code, Owns}
use Rattle.domain_table.specs.Owners.{item_of, slot_code, part_of, besides}
use Rattle.domain_table.specs.Rule.{Shows}
use Rattle.domain_table.specs.Plays.{own_spare, with_step, Brings, GetsBack, swap_then, exchange_then}
use Rattle.domain_table.specs.declared.board.Acting.{Acting}
use Rattle.domain_table.specs.declared.board.Plan.{Plan}
use Rattle.domain_table.proofs.Loads.{loads}
use Rattle.domain_table.proofs.Telling.{tells_step}
use Rattle.domain_table.proofs.Swaps.{part_there, shown_swap}

-- the word tells whether an owner is brought, so it is told which are left in the hand
same_others : (a b : Option Owner) (os ps : List Owner) → slot_code a ≡ slot_code b → besides a os ≡ besides b ps → os ≡ ps
same_others None None os ps e h = h
same_others None (Some b) os ps e h = absurd (omega arith)
same_others (Some a) None os ps e h = absurd (omega arith)
same_others (Some a) (Some b) os ps e h = cc

module _ (S : Type 0) (IsIn : Content → S → Type 0) (plan : Plan) where
  -- what is brought can be told in one way only
  one_way : (m m' : Me S Acting) (new new' : Option Owner) (os os' : List Owner) (value word : ℕ) (tail tail' : List (ℕ × S)) → Brings IsIn m new os value tail → Brings IsIn m new' os' value tail' → GetsBack IsIn m os word tail m' → GetsBack IsIn m os' word tail' m'
  one_way m m' new new' os os' value word tail tail' b b' g =
      let codes : slot_code new ≡ slot_code new' = let few = b.1.1 in let few' = b'.1.1 in omega (arith, b.1.2, b'.1.2) in
      let others : os ≡ os' = same_others new new' os os' codes (sym b.0 ∙ b'.0) in
      let e = b.2.1 in let e' = b'.2.1 in let tails : tail ≡ tail' = ap table.rest (sym b.2.2 ∙ b'.2.2) in
      subst (λ (z : List Owner × List (ℕ × S)). GetsBack IsIn m z.0 word z.1 m') (λ j. (others j, tails j)) g

  module _ (s : State S Acting) (r : Shows IsIn plan s) (id c : ℕ) (d : Acting) (at : get_elem? s.views id ≡ some d) (kind : d.kind ≡ 1) (o : Cell) (at_c : At r.state.cells c o) where
    -- the owner in the cell, if there is one
    abbrev Had : Option Owner → Type 0
    Had old = (o.names ≡ item_of old) × ((w : Owner) → old ≡ Some w → Owns r.state.items r.book.slot_of w) × (r.book.extra (r.book.spare c) ≡ part_of old) × (code r.book.slot_of (item_of old) ≡ slot_code old)

    had : c < plan.sizes.cells → (old : Option Owner) × Had old
    had lc = (elim o.names as (λ x. o.names ≡ x → (old : Option Owner) × Had old) [
      | None ↦ λ e. (None, (e, (λ w h. absurd (cc)), r.items.spares.kept c None lc (named None e), refl))
      | Some i ↦ λ e. let there = named_there r.state r.kept.0 r.kept.1.0 r.kept.1.1 r.kept.1.2 c o i at_c e in let it = item_at r.state i in let w : Owner = record { item = i; slot = r.book.slot_of i; round = it.value } in
          (Some w, (e, (λ w' h. subst (Owns r.state.items r.book.slot_of) (some_same w w' h) (it, there.0, refl, refl)), r.items.spares.kept c (Some i) lc (named (Some i) e) it there.0, refl))
    ]) refl
      where
        named : (x : Option ℕ) → o.names ≡ x → At (names_of r.state.cells) c x
        named x e = subst (At (names_of r.state.cells) c) e (at_map (λ (z : Cell). z.names) r.state.cells c o at_c)

        some_same : (a b : Owner) → Some a ≡ Some b → a ≡ b
        some_same a b h = cc

    module _ (ready : is_ready d.known ≡ true) (idle : d.releasing ≡ 0) (lc : c < plan.sizes.cells) (small : plan.sizes.cells + plan.sizes.participants ≤ 2 ^ 31) (tag : ℕ) (few : tag < 4) (new : Option Owner) (os : List Owner) (brings : d.hand ≡ besides new os) (u : S) (is_in : IsIn (part_of new) u) (tail : List (ℕ × S)) where
      abbrev y : ℕ
      y = r.book.spare c

      abbrev w : ℕ
      w = cell_word plan.sizes c

      abbrev value : ℕ
      value = packed d.spare tag (slot_code new)

      abbrev carried : List (ℕ × S)
      carried = (own_spare d d.spare, u) ∷ tail

      low : d.number < plan.sizes.participants
      low = let l = at_inside r.state.participants d.number d.known (r.epochs.seats id d at kind).is in let many = r.epochs.many in omega arith

      apart : y ≢ d.spare
      apart e = let l = low in let b = r.items.seats id d at kind in let same : c ≡ plan.sizes.cells + d.number = sym (r.items.spares.users c (omega arith)) ∙ (ap r.book.user (e ∙ sym b.spare) ∙ r.items.spares.users (plan.sizes.cells + d.number) (omega arith)) in omega arith

      range : y < plan.sizes.cells + plan.sizes.participants
      range = r.items.spares.range c (omega arith)

      -- what lies in the cell's spare slot
      found : (old : Option Owner) → Had old → (v : S) × (get_elem? s.homes (own_spare d y) ≡ some (some v)) × IsIn (part_of old) v
      found old h = let f = r.items.lying.high y (let l = range in omega arith) (λ e. part_there old (sym h.2 ∙ e)) in (f.0, ap (λ (z : Sizes). get_elem? s.homes (all_homes z + y)) (r.items.seats id d at kind).sizes_are ∙ f.1, subst (λ z. IsIn z f.0) h.2 f.2)

      pub swapped : (v : Acting) × (act : Act S) × table.Valid s.homes carried act × Shows IsIn plan (stepped s w value id carried v act) × GetsBack IsIn (d, carried) os (get_or s.words w 0) tail (v, table.carried_after carried act)
      swapped = let h = had lc in let old = h.0 in let f = found old h.1 in let in_range = range in let d' : Acting = record d { spare = y; hand = besides old os } in (
        d',
        chain gives (takes (own_spare d y) f.0),
        (tt, set_else s.homes (own_spare d d.spare) (own_spare d y) (some u) (λ e. apart (omega arith)) ∙ f.1),
        subst (λ (z : Sizes). Shows IsIn plan record { words = set s.words w value; homes = set (set s.homes (all_homes z + d.spare) (some u)) (all_homes z + y) none; views = set s.views id d' }) (sym (r.items.seats id d at kind).sizes_are)
            (shown_swap S IsIn plan s r id c d at kind ready idle lc new old os brings o at_c h.1.0 h.1.1 u is_in tag few),
        (y, omega arith, (old, (let was = r.items.cell_words c (item_of old) (subst (At (names_of r.state.cells) c) h.1.0 (at_map (λ (z : Cell). z.names) r.state.cells c o at_c)) in (was.0, was.1, was.2 ∙ ap (packed y was.0) h.1.3)), (f.0, f.2, refl))),
      )

  abbrev Swaps : Me S Acting → ℕ → ℕ → Me S Acting → Type 0
  Swaps m value k m' = (new : Option Owner) (os : List Owner) (tail : List (ℕ × S)) → Brings IsIn m new os value tail → GetsBack IsIn m os k tail m'

  plainly : (slots id c value : ℕ) (me : Me S Acting) (new : Option Owner) (os : List Owner) (tail : List (ℕ × S)) → me.0.kind ≡ 1 → is_ready me.0.known ≡ true → me.0.releasing ≡ 0 → c < plan.sizes.cells → plan.sizes.cells + plan.sizes.participants ≤ 2 ^ 31 → Brings IsIn me new os value tail
      → Allows (Shows IsIn plan) slots id me (cell_word plan.sizes c) (λ _. value) (Swaps me value)
  plainly slots id c value me new os tail kind ready idle lc small brings s r _ at _ = let d = me.0 in let w : ℕ = cell_word plan.sizes c in let u = brings.2.0 in let many = r.items.many in let o = find_at r.state.cells c (omega arith) in
      let t = subst (λ (z : ℕ × List (ℕ × S)). (v : Acting) × (act : Act S) × table.Valid s.homes z.1 act × Shows IsIn plan (stepped s w z.0 id z.1 v act) × GetsBack IsIn (d, z.1) os (get_or s.words w 0) tail (v, table.carried_after z.1 act)) (λ j. (sym brings.1.2 j, sym brings.2.2 j))
      (swapped s r id c d at kind o.0 o.1 ready idle lc small brings.1.0 brings.1.1 new os brings.0 u brings.2.1 tail) in
      (t.0, t.1, t.2, t.3, λ new' os' tail' brings'. one_way me (t.0, table.carried_after me.1 t.1) new new' os os' value (get_or s.words w 0) tail tail' brings brings' t.4)

  pub swaps : (slots id c value : ℕ) (me : Me S Acting) (new : Option Owner) (os : List Owner) (tail : List (ℕ × S)) → me.0.kind ≡ 1 → is_ready me.0.known ≡ true → me.0.releasing ≡ 0 → c < plan.sizes.cells → plan.sizes.cells + plan.sizes.participants ≤ 2 ^ 31 → Brings IsIn me new os value tail
      → Allows (Shows IsIn plan) slots id me (cell_word plan.sizes c) (λ _. value) (swap_then IsIn (step slots (cell_word plan.sizes c) value 0 none) me)
  swaps slots id c value me new os tail kind ready idle lc small brings = let w : ℕ = cell_word plan.sizes c in tells_step S IsIn plan slots id w me (λ _. value) (λ k. Swaps (with_step w k value me) value) kind (λ k. plainly slots id c value (with_step w k value me) new os tail kind ready idle lc small brings)

  -- a compare and exchange is a swap where it hits, and a load where it misses
  pub exchanges : (slots id c old value : ℕ) (me : Me S Acting) (new : Option Owner) (os : List Owner) (tail : List (ℕ × S)) → me.0.kind ≡ 1 → is_ready me.0.known ≡ true → is_inside me.0.known ≡ true → me.0.releasing ≡ 0 → c < plan.sizes.cells → plan.sizes.cells + plan.sizes.participants ≤ 2 ^ 31 → Brings IsIn me new os value tail
      → Allows (Shows IsIn plan) slots id me (cell_word plan.sizes c) (λ k. either (eqb k old) value k) (exchange_then IsIn (step slots (cell_word plan.sizes c) old value none) me)
  exchanges slots id c old value me new os tail kind ready inside idle lc small brings s r long at fits = let w : ℕ = cell_word plan.sizes c in let k : ℕ = get_or s.words w 0 in dite (ℕ_discrete k old)
      (λ hit. let t = swaps slots id c value me new os tail kind ready idle lc small brings s r long at fits in (
        t.0,
        t.1,
        t.2,
        subst (λ h. Shows IsIn plan (stepped s w (either h value k) id me.1 t.0 t.1)) (sym (eq-eqb k old hit)) t.3,
        ((λ _. t.4), λ miss. absurd (miss hit)),
      ))
      (λ miss. let t = loads S IsIn plan slots id c me kind inside lc small s r long at fits in (
        t.0,
        t.1,
        t.2,
        subst (λ h. Shows IsIn plan (stepped s w (either h value k) id me.1 t.0 t.1)) (sym (ne_eqb k old miss)) t.3,
        ((λ hit. absurd (miss hit)), λ _. t.4),
      ))
