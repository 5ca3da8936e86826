-- Each pair that a cursor gives leaves fewer between its ends.
use Rattle.std.proofs.Common.{◌≡◌, ◌<◌, ◌≤◌, ℕ, ◌+◌, ◌-◌, Bool, true, false, cond, List, length, refl, sym, ap, subst, arith}
use Rattle.std.proofs.lemmas.Bool.{ltb-true}
use Rattle.std.specs.Prelude.{nat_lt, Option, Some, None}
use Rattle.std.specs.Borrow.{Bor}
use Rattle.std.specs.Iterator.{MakesProgress, at_most}
use Rattle.std.specs.declared.cmp.Ordering.{Ordering}
use Rattle.std.specs.declared.ops.Bound.{Bound}
use Rattle.std.proofs.lemmas.Option.{slice_get_within}
use Rattle.tree_index.specs.declared.cursor.End.{End}
use Rattle.tree_index.specs.declared.cursor.End.TheVariants.{Unopened, At, Done}
use Rattle.tree_index.specs.Cursor.{Cursor, GoesBack, GoesForth, back, count_between, forth, kept_above, kept_below, lies_before, moved_back, moved_forth, next_back_of, next_of, pair_at, start_of, stop_of}

module _ {K V : Type 0} (cmp : K → K → Ordering) (b : Bound K) where
  kept_above_some : (o : Option (K × V)) (y : K × V) → Some y ≡ kept_above cmp b o → (x : K × V) × (o ≡ Some x)
  kept_above_some None y e = absurd (cc)
  kept_above_some (Some x) y e = (x, refl)

  kept_below_some : (o : Option (K × V)) (y : K × V) → Some y ≡ kept_below cmp b o → (x : K × V) × (o ≡ Some x)
  kept_below_some None y e = absurd (cc)
  kept_below_some (Some x) y e = (x, refl)

if_so : {X : Type 0} (t : Bool) (o : Option X) (y : X) → Some y ≡ cond t o None → (t ≡ true) × (Some y ≡ o)
if_so true o y e = (refl, e)
if_so false o y e = absurd (cc)

-- the end stands at a pair
at_pair : {K V : Type 0} (pairs : List (K × V)) (e : End ℕ) (x : K × V) → pair_at pairs e ≡ Some x → (p : ℕ) × (e ≡ At p) × (p < length pairs)
at_pair pairs Unopened x h = absurd (cc)
at_pair pairs (At p) x h = (p, refl, slice_get_within pairs p x h)
at_pair pairs Done x h = absurd (cc)

module _ {K V : Type 0} (c : Cursor K V) where
  behind_start : (f : End ℕ) (p : ℕ) → lies_before f (At p) ≡ true → start_of c f ≤ p
  behind_start Unopened p h = omega arith
  behind_start (At q) p h = let r = ltb-true q p h in omega (arith, r)
  behind_start Done p h = absurd (cc)

  before_stop : (f : End ℕ) (p : ℕ) → p < length c.pairs → lies_before (At p) f ≡ true → p < stop_of c f
  before_stop Unopened p l h = l
  before_stop (At q) p l h = ltb-true p q h
  before_stop Done p l h = absurd (cc)

  back_less : (cmp : K → K → Ordering) (e : End ℕ) (p : ℕ) → p < length c.pairs → back cmp c.upper c.pairs e ≡ At p → p < stop_of c e
  back_less cmp Unopened p l h = l
  back_less cmp (At q) p l h = told (nat_lt 0 q) refl h
    where
      told : (t : Bool) → nat_lt 0 q ≡ t → ◌≡◌ {A = End ℕ} (cond t (At (q - 1)) Done) (At p) → p < q
      told true some e = let same : q - 1 ≡ p = cc in let some' = ltb-true 0 q some in omega (arith, same, some')
      told false none e = absurd (cc)
  back_less cmp Done p l h = absurd (cc)

  forth_more : (cmp : K → K → Ordering) (e : End ℕ) (p : ℕ) → forth cmp c.lower c.pairs e ≡ At p → start_of c e ≤ p
  forth_more cmp Unopened p h = omega arith
  forth_more cmp (At q) p h = told (nat_lt (q + 1) (length c.pairs)) h
    where
      told : (t : Bool) → ◌≡◌ {A = End ℕ} (cond t (At (q + 1)) Done) (At p) → q + 1 ≤ p
      told true e = let same : q + 1 ≡ p = cc in omega (arith, same)
      told false e = absurd (cc)
  forth_more cmp Done p h = absurd (cc)

module _ {K V : Type 0} (cmp : K → K → Ordering) where
  back_given : (s : Cursor K V) (y : K × V) → Some y ≡ next_back_of cmp s → count_between (moved_back cmp s) < count_between s
  back_given s y given =
      let e = back cmp s.upper s.pairs s.backward in
      let told = if_so (lies_before s.forward e) (kept_above cmp s.lower (pair_at s.pairs e)) y given in
      let there = kept_above_some cmp s.lower (pair_at s.pairs e) y told.1 in
      let at = at_pair s.pairs e there.0 there.1 in
      let more = behind_start s s.forward at.0 (subst (λ (f : End ℕ). lies_before s.forward f ≡ true) at.1 told.0) in
      let less = back_less s cmp s.backward at.0 at.2 at.1 in
      let stops : stop_of (moved_back cmp s) e ≡ at.0 = ap (stop_of (moved_back cmp s)) at.1 in
      let starts : start_of (moved_back cmp s) s.forward ≡ start_of s s.forward = same_start s.forward in
      omega (arith, more, less, stops, starts)
    where
      same_start : (f : End ℕ) → start_of (moved_back cmp s) f ≡ start_of s f
      same_start Unopened = refl
      same_start (At p) = refl
      same_start Done = refl

  forth_given : (s : Cursor K V) (y : K × V) → Some y ≡ next_of cmp s → count_between (moved_forth cmp s) < count_between s
  forth_given s y given =
      let e = forth cmp s.lower s.pairs s.forward in
      let told = if_so (lies_before e s.backward) (kept_below cmp s.upper (pair_at s.pairs e)) y given in
      let there = kept_below_some cmp s.upper (pair_at s.pairs e) y told.1 in
      let at = at_pair s.pairs e there.0 there.1 in
      let less = before_stop s s.backward at.0 at.2 (subst (λ (f : End ℕ). lies_before f s.backward ≡ true) at.1 told.0) in
      let more = forth_more s cmp s.forward at.0 at.1 in
      let starts : start_of (moved_forth cmp s) e ≡ at.0 + 1 = ap (start_of (moved_forth cmp s)) at.1 in
      let stops : stop_of (moved_forth cmp s) s.backward ≡ stop_of s s.backward = same_stop s.backward in
      omega (arith, more, less, stops, starts)
    where
      same_stop : (f : End ℕ) → stop_of (moved_forth cmp s) f ≡ stop_of s f
      same_stop Unopened = refl
      same_stop (At p) = refl
      same_stop Done = refl

  pub back_progress : (s : Cursor K V) (r : Option (Bor K × Bor V)) (t : Cursor K V) → GoesBack cmp s r t → MakesProgress (λ _. Unit {0}) (λ c. at_most (count_between c)) s r t
  back_progress s None t h = record { on = λ _. tt; keeps = tt; rests = λ _. tt }
  back_progress s (Some p) t h = record { on = λ _. (tt, tt, subst (λ c. count_between c < count_between s) (sym h.1) (back_given s (p.0.now, p.1.now) h.0)); keeps = tt; rests = λ _. tt }

  pub forth_progress : (s : Cursor K V) (r : Option (Bor K × Bor V)) (t : Cursor K V) → GoesForth cmp s r t → MakesProgress (λ _. Unit {0}) (λ c. at_most (count_between c)) s r t
  forth_progress s None t h = record { on = λ _. tt; keeps = tt; rests = λ _. tt }
  forth_progress s (Some p) t h = record { on = λ _. (tt, tt, subst (λ c. count_between c < count_between s) (sym h.1) (forth_given s (p.0.now, p.1.now) h.0)); keeps = tt; rests = λ _. tt }
