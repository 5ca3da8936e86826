use Rattle.std.proofs.Common.{◌≡◌, ℕ, List, [], ◌∷◌, ◌++◌, map, ap, sym, ◌∙◌, refl}
use Rattle.atomic_table.specs.Table.{Me}
use Rattle.sdd_homes.specs.declared.Garbage.{Garbage}
use Rattle.sdd_homes.specs.declared.Lease.{Lease}
use Rattle.sdd_homes.specs.declared.Owner.{Owner}
use Rattle.domain_table.specs.Leases.{all_below}
use Rattle.domain_table.specs.Owners.{told}
use Rattle.domain_table.specs.declared.board.Acting.{Acting}
use Rattle.domain_table.specs.declared.board.Home.{Home}
use Rattle.domain_table.specs.Leases.{AreAt}
use Rattle.sdd_domain.proofs.Hands.{first_held, none_held}
use Rattle.sdd_domain.proofs.reclaiming.give_up_under.Goals as goal

-- what the item still holds is first in hand, with the others behind it
abbrev Holding : {T : Type 0} → Me (Home T) Acting → Me (Home T) Acting → List (ℕ × ℕ) → List Owner → Type 0
Holding m m' ts os = (ks : List Owner) × (ws : List Garbage) × (ls : List Lease) × (ts ≡ map told ks) × AreAt m.0.leases ls × (m' ≡ (record m.0 { hand = ks ++ os; leases = ls; waits = ws }, m.1))

module _ {T : Type 0} (m m' : Me (Home T) Acting) (os : List Owner) where
  -- the first of it is first in hand
  first : (ts ts' : List (ℕ × ℕ)) (t : ℕ × ℕ) → Holding m m' ts os → ts ≡ t ∷ ts' → (o : Owner) × (rest : List Owner) × (m'.0.hand ≡ o ∷ (rest ++ os)) × (told o ≡ t) × (ts' ≡ map told rest)
  first ts ts' t h e = let f = first_held h.0 t ts' (sym h.3 ∙ e) in (f.0, f.1, ap (λ (z : Me (Home T) Acting). z.0.hand) h.5 ∙ ap (λ (xs : List Owner). xs ++ os) f.2, f.3, sym f.4)

  none : (ts : List (ℕ × ℕ)) → Holding m m' ts os → ts ≡ [] → (ws : List Garbage) × (ls : List Lease) × AreAt m.0.leases ls × (m' ≡ (record m.0 { hand = os; leases = ls; waits = ws }, m.1))
  none ts h e = (h.1, h.2, h.4, h.5 ∙ ap (λ (xs : List Owner). (record m.0 { hand = xs ++ os; leases = h.2; waits = h.1 }, m.1)) (none_held h.0 (sym h.3 ∙ e)))

pub loop-held-init : goal.loop-held-init
loop-held-init g c = let m = c.args.seat.now.me in record { seat = (refl, refl); owners = λ hs os h e. (hs, m.0.waits, m.0.leases, h, refl, λ j. (record m.0 { hand = e j }, m.1)); rows = λ life told. told; same = (refl, refl); waits = c.requires.waits; due = refl }

pub give_back-requires-clause-owner : goal.give_back-requires-clause-owner
give_back-requires-clause-owner g c = let q = c.requires.owners in let f = first c.args.seat.now.me c.loop-held.seat.me q.1 _ _ _ (c.loop-held.invariant.owners q.0 q.1 q.2 q.3) c.in-Some.ensures in
    ((f.0, f.1 ++ q.1, f.2, ap (λ (t : ℕ × ℕ). t.0) f.3, ap (λ (t : ℕ × ℕ). t.1) f.3), c.in-Some.held.there)

pub give_back-requires-clause-rows : goal.give_back-requires-clause-rows
give_back-requires-clause-rows g c = let r = c.requires.rows in let inv = c.loop-held.invariant in ((r.0.0, inv.rows r.0.0 r.0.1), ap (all_below c.args.place.sizes.now.slots) inv.same.1 ∙ r.1)

pub loop-held-preserved : goal.loop-held-preserved
loop-held-preserved g c = let m = c.args.seat.now.me in let m1 = c.loop-held.seat.me in let inv = c.loop-held.invariant in let r = c.give_back.ensures in record {
  seat = (r.seat.0 ∙ inv.seat.0, r.seat.1 ∙ inv.seat.1);
  owners = λ hs os h e. let i = inv.owners hs os h e in let f = first m m1 os _ _ _ i c.in-Some.ensures in let t = r.given f.0 (f.1 ++ os) f.2 in (
    f.1,
    t.0,
    t.1,
    f.4,
    t.2 ∙ (ap (λ (z : Me _ Acting). map (λ (l : Lease). l.slot) z.0.leases) i.5 ∙ i.4),
    t.3 ∙ ap (λ (z : Me _ Acting). (record z.0 { hand = f.1 ++ os; leases = t.1; waits = t.0 }, z.1)) i.5,
  );
  rows = λ life told. r.rows life (inv.rows life told);
  same = (r.same.0 ∙ inv.same.0, r.same.1 ∙ inv.same.1);
  waits = r.waits;
  due = r.bags ∙ inv.due;
}

pub returns-clause-released : goal.returns-clause-released
returns-clause-released g c = λ hs os h e. none c.args.seat.now.me c.loop-held.seat.me os _ (c.loop-held.invariant.owners hs os h e) c.in_default.ensures.0
