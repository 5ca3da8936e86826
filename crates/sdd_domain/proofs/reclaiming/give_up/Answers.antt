use Rattle.std.proofs.Common.{◌≡◌, ℕ, List, [], ◌∷◌, ◌++◌, map, ap, sym, ◌∙◌, refl}
use Rattle.atomic_table.specs.Table.{Me}
use Rattle.sdd_homes.specs.declared.Garbage.{Garbage}
use Rattle.sdd_homes.specs.declared.Owner.{Owner}
use Rattle.domain_table.specs.Owners.{told}
use Rattle.domain_table.specs.declared.board.Acting.{Acting}
use Rattle.domain_table.specs.declared.board.Home.{Home}
use Rattle.sdd_domain.proofs.Hands.{first_held, none_held}
use Rattle.sdd_domain.proofs.reclaiming.give_up.Goals as goal

-- what the item still holds is first in hand, with the others behind it
abbrev Holding : {T : Type 0} → Me (Home T) Acting → Me (Home T) Acting → List (ℕ × ℕ) → List Owner → Type 0
Holding m m' ts os = (ks : List Owner) × (ws : List Garbage) × (ts ≡ map told ks) × (m' ≡ (record m.0 { hand = ks ++ os; waits = ws }, m.1))

module _ {T : Type 0} (m m' : Me (Home T) Acting) (os : List Owner) where
  -- the first of it is first in hand
  first : (ts ts' : List (ℕ × ℕ)) (t : ℕ × ℕ) → Holding m m' ts os → ts ≡ t ∷ ts' → (o : Owner) × (rest : List Owner) × (m'.0.hand ≡ o ∷ (rest ++ os)) × (told o ≡ t) × (ts' ≡ map told rest)
  first ts ts' t h e = let f = first_held h.0 t ts' (sym h.2 ∙ e) in (f.0, f.1, ap (λ (z : Me (Home T) Acting). z.0.hand) h.3 ∙ ap (λ (xs : List Owner). xs ++ os) f.2, f.3, sym f.4)

  none : (ts : List (ℕ × ℕ)) → Holding m m' ts os → ts ≡ [] → (ws : List Garbage) × (m' ≡ (record m.0 { hand = os; waits = ws }, m.1))
  none ts h e = (h.1, h.3 ∙ ap (λ (xs : List Owner). (record m.0 { hand = xs ++ os; waits = h.1 }, m.1)) (none_held h.0 (sym h.2 ∙ e)))

pub loop-held-init : goal.loop-held-init
loop-held-init g c = let m = c.args.seat.now.me in record { seat = (refl, refl); owners = λ hs os h e. (hs, m.0.waits, h, λ j. (record m.0 { hand = e j }, m.1)); waits = c.requires.waits; due = (refl, refl) }

pub release_held-requires-clause-owner : goal.release_held-requires-clause-owner
release_held-requires-clause-owner g c = let q = c.requires.owners in let f = first c.args.seat.now.me c.loop-held.seat.me q.1 _ _ _ (c.loop-held.invariant.owners q.0 q.1 q.2 q.3) c.in-Some.ensures in
    (f.0, f.1 ++ q.1, f.2, ap (λ (t : ℕ × ℕ). t.0) f.3, ap (λ (t : ℕ × ℕ). t.1) f.3)

pub loop-held-preserved : goal.loop-held-preserved
loop-held-preserved g c = let m = c.args.seat.now.me in let m1 = c.loop-held.seat.me in let inv = c.loop-held.invariant in let r = c.release_held.ensures in record {
  seat = (r.seat.0 ∙ inv.seat.0, r.seat.1 ∙ inv.seat.1);
  owners = λ hs os h e. let i = inv.owners hs os h e in let f = first m m1 os _ _ _ i c.in-Some.ensures in let t = r.released f.0 (f.1 ++ os) f.2 in (
    f.1,
    t.0,
    f.4,
    t.1 ∙ ap (λ (z : Me _ Acting). (record z.0 { hand = f.1 ++ os; waits = t.0 }, z.1)) i.3,
  );
  waits = r.waits;
  due = (r.bags.1 ∙ inv.due.0, r.bags.0 ∙ inv.due.1);
}

pub returns-clause-released : goal.returns-clause-released
returns-clause-released g c = λ hs os h e. none c.args.seat.now.me c.loop-held.seat.me os _ (c.loop-held.invariant.owners hs os h e) c.in_default.ensures.0
