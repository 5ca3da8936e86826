-- a left word tells the ends of a bag
use Rattle.std.proofs.Common.{◌≡◌, ◌≢◌, ◌+◌, ◌*◌, ◌^◌, ◌<◌, ◌≤◌, ℕ, List, [], ◌∷◌, Option, None, Some, IfSome, refl, ap, inl, arith}
use Rattle.sdd_homes.specs.declared.Garbage.{Garbage}
use Rattle.domain_table.specs.Chains.{oldest_slot, left_code, AllBelow}
use Rattle.domain_table.specs.Bags.{ends_of}
use Rattle.domain_table.specs.declared.bags.Ends.{Ends}
use Rattle.domain_table.proofs.BagLemmas.{has_oldest}

-- nothing is told by 0
pub none_told : (ws : List Garbage) (n : ℕ) → n ≡ 0 → n ≡ left_code ws → None ≡ ends_of ws
none_told [] n none is = refl
none_told (w ∷ ws) n none is = absurd (omega arith)

-- what another word tells
pub record Told (n : ℕ) (ws : List Garbage) : Type 0 where
  pub first : ℕ
  pub last : ℕ
  pub ends : ends_of ws ≡ Some (record { first = first; last = last })
  pub code : n ≡ last + 2 ^ 31 * (first + 1)
  pub low : first < 2 ^ 30
  pub few : last < 2 ^ 30

pub told_by : (ws : List Garbage) (n : ℕ) → n ≢ 0 → n ≡ left_code ws → AllBelow (2 ^ 30) ws → Told n ws
told_by [] n some_ is below = absurd (some_ is)
told_by (w ∷ ws) n some_ is below = let o = has_oldest w ws in let a = o.2 in let b = below o.0 o.1 in record { first = oldest_slot (w ∷ ws); last = w.slot; ends = refl; code = omega arith; low = omega arith; few = below w (inl refl) }

-- the ends of a bag are slots of the place
pub ends_low : (n : ℕ) (ws : List Garbage) (o : Option Ends) → n ≤ 2 ^ 30 → o ≡ ends_of ws → AllBelow n ws → IfSome o (λ e. (e.first < 2 ^ 30) × (e.last < 2 ^ 30))
ends_low n ws None few is below = tt
ends_low n [] (Some e) few is below = absurd (cc)
ends_low n (w ∷ ws) (Some e) few is below = let ends : e ≡ record { first = oldest_slot (w ∷ ws); last = w.slot } = cc in let o = has_oldest w ws in let a = o.2 in let b = below o.0 o.1 in let c = below w (inl refl) in let f = ap (λ (x : Ends). x.first) ends in let l = ap (λ (x : Ends). x.last) ends in (omega arith, omega arith)
