-- an item that was loaded has one value
use Rattle.std.proofs.Common.{◌≡◌, Option, None, Some, IfSome, refl, sym, ap, ◌∙◌}
use denote.Bor.{Bor}
use Rattle.std.proofs.lemmas.Bool.{false≢true}
use Rattle.std.specs.Prelude.{IsSome, IsSomeAnd, option_copied}
use Rattle.std.specs.Option.{ForSome}
use Rattle.std.specs.Mem.{manually_drop_value}
use Rattle.core.specs.declared.mem.manually_drop.ManuallyDrop.{ManuallyDrop}
use Rattle.parted.specs.declared.raw.Seen.{Seen}

module _ {T : Type 0} where
  in_item : (v : Option (ManuallyDrop T)) (x y : T) → IsSomeAnd v (λ m. manually_drop_value m ≡ x) → IsSomeAnd v (λ m. manually_drop_value m ≡ y) → y ≡ x
  in_item None x y a b = absurd a
  in_item (Some m) x y a b = sym b ∙ a

  pub one_value : (o : Option (Seen (Option (ManuallyDrop T)))) (x y : T) → IsSomeAnd o (λ s. IsSomeAnd s.value (λ m. manually_drop_value m ≡ x)) → ForSome o (λ s. IsSomeAnd s.value (λ m. manually_drop_value m ≡ y)) → y ≡ x
  one_value None x y a b = absurd a
  one_value (Some s) x y a b = in_item s.value x y a (b s refl)

  pub is_there : (o : Option (Seen (Option (ManuallyDrop T)))) (x : T) → IsSomeAnd o (λ s. IsSomeAnd s.value (λ m. manually_drop_value m ≡ x)) → IsSome o
  is_there None x a = absurd a
  is_there (Some s) x a = refl

  -- what is read of it, if anything must be, is this value
  pub is_lent : (o : Option (Seen (Option (ManuallyDrop T)))) (r : Option (Bor T)) (x : T) → IsSomeAnd o (λ s. IsSomeAnd s.value (λ m. manually_drop_value m ≡ x)) → IfSome r (λ y. ForSome o (λ s. IsSomeAnd s.value (λ m. manually_drop_value m ≡ y.now))) → (IsSome o → IsSome r) → option_copied r ≡ Some x
  is_lent o None x a b c = absurd (false≢true (c (is_there o x a)))
  is_lent o (Some y) x a b c = ap Some (one_value o x y.now a b)
