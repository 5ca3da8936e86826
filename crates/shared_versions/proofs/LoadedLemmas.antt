-- what was loaded, and the item of it
use Rattle.std.proofs.Common.{◌≡◌, Option, None, Some, Bor, refl, ◌↔◌}
use Rattle.std.specs.Prelude.{IsSome, IfSome, IsSomeAnd, option_copied}
use Rattle.std.specs.Mem.{manually_drop_value}
use Rattle.std.specs.Option.{ForSome, option_map}
use Rattle.std.specs.declared.mem.ManuallyDrop.{ManuallyDrop}
use Rattle.std.proofs.lemmas.Bool.{false≢true}
use Rattle.parted.specs.declared.raw.Seen.{Seen}
use Rattle.shared_versions.specs.Readers.{item_seen}

module _ {T : Type 0} where
  pub value_is : (o : Option (ManuallyDrop T)) (x : T) → IsSomeAnd o (λ m. manually_drop_value m ≡ x) → Some x ≡ option_map manually_drop_value o
  value_is None x h = absurd h
  value_is (Some m) x h = cc

  pub item_is : (r : Option (Bor T)) (o : Option (Seen (Option (ManuallyDrop T)))) → IfSome r (λ b. ForSome o (λ s. IsSomeAnd s.value (λ m. manually_drop_value m ≡ b.now))) → (IsSome r ↔ IsSome o) → option_copied r ≡ item_seen o
  item_is None None h same = refl
  item_is None (Some s) h same = absurd (false≢true (same.1 refl))
  item_is (Some b) None h same = absurd (false≢true (same.0 refl))
  item_is (Some b) (Some s) h same = value_is s.value b.now (h s refl)
