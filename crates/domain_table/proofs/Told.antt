-- what the value of a slot tells
use Rattle.std.proofs.Common.{◌≡◌, ◌==◌, ◌&&◌, ◌∷◌, [], List, ℕ, true, refl, eq-eqb, eqb-true, ◌∙◌, sym, ap}
use Rattle.sdd_steps.proofs.ListLemmas.{both}
use Rattle.domain_table.specs.Contents.{IsIn, is_blank, blanks}
use Rattle.domain_table.specs.Plays.{AreTold}
use Rattle.domain_table.specs.Leases.{has_all}
use Rattle.domain_table.specs.declared.board.Home.{Home}
use Rattle.domain_table.specs.declared.board.Home.TheVariants.{Blank, Room, Deed, Part, Announced}

-- what lies in a slot is of one round, and so many parts
pub are_told : {T : Type 0} (holds : T → List (ℕ × ℕ)) → AreTold (IsIn holds)
are_told holds c a c' a' u h h' = let both : Part h.0 a ≡ Part h'.0 a' = sym h.1 ∙ h'.1 in let same : h.0 ≡ h'.0 = cc in (sym h.2 ∙ (ap (λ p. p.life.id) same ∙ h'.2), cc)

-- a value that passes the test is of that kind
blank_there : {T : Type 0} (y : Home T) → is_blank y ≡ true → y ≡ Blank
blank_there Blank e = refl
blank_there (Room b) e = absurd (cc)
blank_there (Deed d) e = absurd (cc)
blank_there (Part p c) e = absurd (cc)
blank_there (Announced z) e = absurd (cc)

-- just these slots are out with a seat, and empty
pub all_there : {T : Type 0} (ks : List ℕ) (cs : List (ℕ × Home T)) → has_all is_blank ks cs ≡ true → cs ≡ blanks ks
all_there [] [] e = refl
all_there [] (x ∷ xs) e = absurd (cc)
all_there (k ∷ ks) [] e = absurd (cc)
all_there (k ∷ ks) (x ∷ xs) e = let t = both ((x.0 == k) && is_blank x.1) (has_all is_blank ks xs) e in let f = both (x.0 == k) (is_blank x.1) t.0 in λ j. (eqb-true x.0 k f.0 j, blank_there x.1 f.1 j) ∷ all_there ks xs t.1 j

pub are_there : (T : Type 0) (ks : List ℕ) → has_all is_blank ks (blanks {T = T} ks) ≡ true
are_there T [] = refl
are_there T (k ∷ ks) = λ j. (eq-eqb k k refl j && true) && are_there T ks j
