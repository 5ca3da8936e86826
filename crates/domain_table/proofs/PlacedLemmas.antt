-- an item that was placed in a slot that was claimed
use Rattle.std.proofs.Common.{◌≡◌, ℕ, ◌<◌, List, [], ◌∷◌, Option, None, IsSomeAnd, ap, sym, ◌∙◌, refl}
use Rattle.std.specs.Mem.{manually_drop_value}
use Rattle.core.specs.declared.mem.manually_drop.ManuallyDrop.{ManuallyDrop}
use Rattle.atomic_table.specs.Table.{Me, rest}
use Rattle.sdd_homes.specs.declared.Filling.{Filling}
use Rattle.domain_table.specs.Contents.{IsIn}
use Rattle.domain_table.specs.Outcomes.{HasPlacedItem}
use Rattle.domain_table.specs.Plays.{HasClaimed, owning, placing}
use Rattle.domain_table.specs.declared.board.Acting.{Acting}
use Rattle.domain_table.specs.declared.board.Home.{Home}

module _ {T : Type 0} (holds : T → List (ℕ × ℕ)) (i k : ℕ) (f : Filling) (m0 m1 m2 : Me (Home T) Acting)
    (free : m0.0.filling ≡ None) (claimed : HasClaimed (IsIn holds) m0 k m1) (is : m2 ≡ (placing i f m1.0, rest m1.1)) where
  -- what is left of the claim
  owned : m2 ≡ (owning (record { item = i; slot = k; round = f.round }) m0.0, m0.1)
  owned = is ∙ (ap (λ (z : Me _ Acting). (placing i f z.0, rest z.1)) claimed.2 ∙ λ j. (record m0.0 { slot = k; filling = sym free j; hand = record { item = i; slot = k; round = f.round } ∷ [] }, m0.1))

  pub has_placed : (item : T) (slots round : ℕ) (seen : Option (ManuallyDrop T)) → k < slots → f.round ≡ round → IsSomeAnd seen (λ x. manually_drop_value x ≡ item) → HasPlacedItem item slots k round seen m0 m2
  has_placed item slots round seen less same value = (record { item = i; slot = k; round = f.round }, refl, same, less, owned, value)
