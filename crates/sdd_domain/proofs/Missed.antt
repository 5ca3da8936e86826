-- a cell that had another word than the one given: what was brought to it comes back
use Rattle.std.proofs.Common.{◌≡◌, ◌<◌, ℕ, List, ◌∷◌, ◌++◌, Option, None, Some, IfSome, sym, ap, ◌∙◌, subst, arith}
use Rattle.atomic_table.specs.Seated.{TableId}
use Rattle.atomic_table.specs.Table.{Me}
use Rattle.sdd_homes.specs.declared.Owner.{Owner}
use Rattle.sdd_domain.specs.Comparing.{owner_code, IsBack, IsInFront}
use Rattle.domain_table.specs.Contents.{IsIn, blanks}
use Rattle.domain_table.specs.Layout.{packed}
use Rattle.domain_table.specs.Leases.{leased_homes, HasNoted}
use Rattle.domain_table.specs.Owners.{besides, slot_code}
use Rattle.domain_table.specs.Plays.{own_spare, Brings, GetsBack}
use Rattle.sdd_domain.specs.Sharing.{kept_in}
use Rattle.domain_table.specs.declared.board.Acting.{Acting}
use Rattle.domain_table.specs.declared.board.Home.{Home}
use Rattle.sdd_domain.specs.declared.shared.Shared.{Shared}

-- an owner was brought, and then a load was noted
module _ {T : Type 0} (holds : T → List (ℕ × ℕ)) (m m2 m4 : Me (Home T) Acting) (spare w : ℕ) (tail : List (ℕ × Home T)) (owner : Option Owner) (low : spare < 2147483648) (at : m.0.spare ≡ spare)
    (b : Brings (IsIn holds) m2 owner m.0.hand w tail) (is : m2.0 ≡ record m.0 { hand = besides owner m.0.hand }) (n : HasNoted m2 m4) where
  abbrev d : Acting
  d = record m.0 { known = record m.0.known { loaded = n.0 }; leases = m.0.leases ++ n.1 }

  abbrev pub start : Me (Home T) Acting
  start = (d, m.1)

  abbrev pub more : List (ℕ × Home T)
  more = tail ++ blanks (leased_homes m.0 n.1)

  abbrev now : Acting → Acting
  now a = record a { known = record a.known { loaded = n.0 }; leases = a.leases ++ n.1 }

  lies : m4 ≡ (record d { spare = spare; hand = besides owner m.0.hand }, (own_spare m.0 spare, b.2.0) ∷ more)
  lies = n.2 ∙ (ap (λ xs. (now m2.0, xs ++ blanks (leased_homes m2.0 n.1))) b.2.2
      ∙ ((λ j. (now (is j), (own_spare (is j) (is j).spare, b.2.0) ∷ (tail ++ blanks (leased_homes (is j) n.1))))
      ∙ (λ j. (record d { spare = at j; hand = besides owner m.0.hand }, (own_spare m.0 (at j), b.2.0) ∷ more))))

  pub gets : GetsBack (IsIn holds) start m.0.hand w more m4
  gets = (spare, low, (owner, (b.1.0, b.1.1, b.1.2 ∙ ap (λ (z : Acting). packed z.spare b.1.0 (slot_code owner)) is ∙ ap (λ k. packed k b.1.0 (slot_code owner)) at), (b.2.0, b.2.1, lies)))

-- what was in front of what is out is there still
pub front_still : {T : Type 0} (s : Shared T) (m2 m4 : Me (Home T) Acting) → HasNoted m2 m4 → IsInFront s m2.1 → IsInFront s m4.1
front_still s m2 m4 n f = (f.0, f.1 ++ blanks (leased_homes m2.0 n.1), ap (λ (z : Me _ Acting). z.1) n.2 ∙ ap (λ xs. xs ++ blanks (leased_homes m2.0 n.1)) f.2)

-- the owner that comes back is the one that was brought
pub is_back : {T : Type 0} (table : TableId) (new back : Option (Shared T)) (xs : List (ℕ × Home T)) → owner_code new ≡ owner_code back → IfSome new (λ s. kept_in s ≡ table) → IfSome back (λ s. kept_in s ≡ table)
    → IfSome new (λ s. IsInFront s xs) → ((s : Shared T) → IsInFront s xs → IfSome back (λ b. b.part.part ≡ s.part.part)) → IsBack new back
is_back table None None xs code mine yours lies whose = tt
is_back table None (Some back) xs code mine yours lies whose = absurd (omega arith)
is_back table (Some new) None xs code mine yours lies whose = absurd (omega arith)
is_back table (Some new) (Some back) xs code mine yours lies whose = let same : back.part.part ≡ new.part.part = whose new lies in
    (yours ∙ sym mine, omega arith, λ x is. subst (λ p. Rattle.std.specs.Prelude.IsSomeAnd p.seen.value (λ m. Rattle.std.specs.Mem.manually_drop_value m ≡ x)) (sym same) is)

-- the fronts of all owners that were brought
pub fronts_still : {T : Type 0} (new : Option (Shared T)) (m2 m4 : Me (Home T) Acting) → HasNoted m2 m4 → IfSome new (λ s. IsInFront s m2.1) → IfSome new (λ s. IsInFront s m4.1)
fronts_still None m2 m4 n f = tt
fronts_still (Some s) m2 m4 n f = front_still s m2 m4 n f
