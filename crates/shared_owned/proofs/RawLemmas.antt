-- what a cell of a raw item is found to own
use Rattle.std.proofs.Common.{◌≡◌, ◌≢◌, ◌+◌, ℕ, Option, None, Some, IfSome, ap, sym, subst, arith}
use Rattle.sdd_domain.specs.Comparing.{owner_code, code_of}
use Rattle.sdd_domain.specs.declared.shared.Shared.{Shared}

-- what is told of a slot that there is
pub told : (P : ℕ → Type 0) (o : Option ℕ) (k : ℕ) → o ≡ Some k → P k → IfSome o P
told P None k e p = absurd (cc)
told P (Some j) k e p = let same : j ≡ k = cc in subst P (sym same) p

module _ {T : Type 0} where
  pub none_code : (o : Option (Shared T)) (k : ℕ) → o ≡ None → owner_code o ≢ k + 1
  none_code o k e h = let none : owner_code o ≡ 0 = ap owner_code e in omega (arith, none, h)

  pub some_code : (o : Option (Shared T)) (s : Shared T) (k : ℕ) → o ≡ Some s → s.slot ≡ k → owner_code o ≡ k + 1
  some_code o s k e is = let code : owner_code o ≡ s.slot + 1 = ap owner_code e in omega (arith, code, is)

  pub other_code : (o : Option (Shared T)) (s : Shared T) (k : ℕ) → o ≡ Some s → s.slot ≢ k → owner_code o ≢ k + 1
  other_code o s k e ne h = let code : owner_code o ≡ s.slot + 1 = ap owner_code e in ne (omega (arith, code, h))

-- the same of a pointer's slot
pub slot_code : (o : Option ℕ) (k : ℕ) → o ≡ Some k → code_of o ≡ k + 1
slot_code o k e = ap code_of e

pub other_slot : (o : Option ℕ) (k : ℕ) → o ≢ Some k → code_of o ≢ k + 1
other_slot None k ne h = omega arith
other_slot (Some j) k ne h = let same : j ≡ k = omega arith in ne (ap Some same)
