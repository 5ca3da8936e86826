-- the participant's home of the item of the first owner in hand, which came out, and what goes back
use Rattle.std.proofs.Common.{◌≡◌, ℕ, suc, ◌-◌, List, [], ◌∷◌, ◌++◌, ap, sym, ◌∙◌, subst, refl}
use Rattle.atomic_table.specs.Table.{Me, rest}
use Rattle.sdd_steps.specs.State.{Has}
use Rattle.sdd_homes.specs.declared.Owner.{Owner}
use Rattle.sdd_homes.specs.declared.Lease.{Lease}
use Rattle.sdd_homes.specs.Book.{part, lease, Lends}
use Rattle.sdd_homes.proofs.Leases.{has_last, recounted_last}
use Rattle.domain_table.specs.Contents.{IsIn}
use Rattle.domain_table.specs.Leases.{HasEmptied}
use Rattle.domain_table.specs.Plays.{own_home, cloning, HasBegun}
use Rattle.domain_table.specs.declared.board.Acting.{Acting}
use Rattle.domain_table.specs.declared.board.Home.{Home}
use Rattle.domain_table.specs.declared.board.Home.TheVariants.{Blank}
use Rattle.domain_table.proofs.Fronts.{came_out, came_from, put_in}

module _ {T : Type 0} (holds : T → List (ℕ × ℕ)) (m0 m1 : Me (Home T) Acting) (o : Owner) (begun : HasBegun (IsIn holds) m0 o m1) (i : ℕ) (r : Home T) (front : m1.1 ≡ (i, r) ∷ rest m1.1) where
  abbrev pub n : ℕ
  n = begun.0

  abbrev pub at : ℕ
  at = own_home m0.0 o.slot

  abbrev pub l : Lease
  l = lease o.slot o.item n o.round

  abbrev pub begun' : Acting
  begun' = record m0.0 { leases = m0.0.leases ++ l ∷ []; releasing = suc o.item }

  out : m1.1 ≡ (at, begun.1) ∷ m0.1
  out = ap (λ (t : Me (Home T) Acting). t.1) begun.5

  pub had : IsIn holds (part o.round n) r
  had = subst (IsIn holds (part o.round n)) (sym (came_out m1 at i begun.1 r m0.1 out front)) begun.2

  pub emptied : (m2 : Me (Home T) Acting) (b : Home T) → m2 ≡ (m1.0, (i, b) ∷ rest m1.1) → m2 ≡ (begun', (at, b) ∷ m0.1)
  emptied m2 b first = put_in m1 m2 at i begun.1 r b m0.1 out front first ∙ ap (λ (t : Me (Home T) Acting). (t.0, (at, b) ∷ m0.1)) begun.5

  -- the lease is there
  pub has_lease : (m2 : Me (Home T) Acting) → m2 ≡ (m1.0, (i, Blank) ∷ rest m1.1) → Has m2.0.leases l
  has_lease m2 first = subst (λ (t : Me (Home T) Acting). Has t.0.leases l) (sym (emptied m2 Blank first)) (has_last m0.0.leases l)

  -- the lease has c parts now, and these owners are in hand
  abbrev pub IsNow : ℕ → List Owner → Me (Home T) Acting → Type 0
  IsNow c hs m3 = m3 ≡ (record m0.0 { leases = m0.0.leases ++ lease o.slot o.item c o.round ∷ []; releasing = suc o.item; hand = hs }, (at, Blank) ∷ m0.1)

  pub one_more : (m2 m3 : Me (Home T) Acting) → m2 ≡ (m1.0, (i, Blank) ∷ rest m1.1) → m3 ≡ (cloning l m2.0, m2.1) → ¬ Lends m0.0.leases o.slot → IsNow (n - 1) (o ∷ m0.0.hand) m3
  one_more m2 m3 first cloned free = cloned ∙ (ap (λ (t : Me (Home T) Acting). (cloning l t.0, t.1)) (emptied m2 Blank first)
      ∙ λ j. (record m0.0 { leases = recounted_last o.slot (n - 1) m0.0.leases l refl free j; releasing = suc o.item; hand = o ∷ m0.0.hand }, (at, Blank) ∷ m0.1))

  pub no_more : (m2 m3 : Me (Home T) Acting) → m2 ≡ (m1.0, (i, Blank) ∷ rest m1.1) → m3 ≡ m2 → IsNow n m0.0.hand m3
  no_more m2 m3 first same = same ∙ emptied m2 Blank first

  -- the home goes back
  module _ (c : ℕ) (hs : List Owner) (m3 : Me (Home T) Acting) (now : IsNow c hs m3) where
    pub can_return : HasEmptied m3 i (lease o.slot o.item c o.round) m0.0.leases m0.1
    can_return = let same = came_from m1 at i begun.1 r m0.1 out front in subst (λ (t : Me (Home T) Acting). HasEmptied t i (lease o.slot o.item c o.round) m0.0.leases m0.1) (sym now) (refl, refl, same, λ j. (sym same j, Blank) ∷ m0.1)

    pub returned : (m4 : Me (Home T) Acting) → m0.0.releasing ≡ 0 → m4 ≡ (record m3.0 { leases = m0.0.leases; releasing = 0 }, m0.1) → m4 ≡ (record m0.0 { hand = hs }, m0.1)
    returned m4 idle is = is ∙ (ap (λ (t : Me (Home T) Acting). (record t.0 { leases = m0.0.leases; releasing = 0 }, m0.1)) now ∙ λ j. (record m0.0 { hand = hs; releasing = sym idle j }, m0.1))
