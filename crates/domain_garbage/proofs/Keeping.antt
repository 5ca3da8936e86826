-- what is kept of a private bag
use Rattle.std.proofs.Common.{◌≡◌, ◌+◌, ℕ, List, [], ◌∷◌, map, length, Option, None, Some, refl, ap, IfSome, arith}
use Rattle.sdd_homes.specs.declared.Garbage.{Garbage}
use Rattle.domain_table.specs.Bags.{AreAlike, without_next}
use Rattle.domain_table.specs.Plays.{taken_all}
use Rattle.domain_garbage.specs.Bag.{garbage_told}

pub long_taken : (ts ws : List Garbage) → length (taken_all ts ws) ≡ length ws + length ts
long_taken [] ws = omega arith
long_taken (t ∷ ts) ws = omega (arith, long_taken ts ws)

-- items that are linked otherwise have the same notes, in the same slots
pub alike_ages : (ws vs : List Garbage) → AreAlike ws vs → map (λ (w : Garbage). w.age) vs ≡ map (λ (w : Garbage). w.age) ws
alike_ages [] [] a = refl
alike_ages [] (v ∷ vs) a = absurd (cc)
alike_ages (w ∷ ws) [] a = absurd (cc)
alike_ages (w ∷ ws) (v ∷ vs) a = let heads : without_next v ≡ without_next w = cc in let tails : map without_next vs ≡ map without_next ws = cc in let t = alike_ages ws vs tails in λ j. (heads j).3 ∷ t j

pub alike_told : (ws vs : List Garbage) → AreAlike ws vs → map garbage_told vs ≡ map garbage_told ws
alike_told [] [] a = refl
alike_told [] (v ∷ vs) a = absurd (cc)
alike_told (w ∷ ws) [] a = absurd (cc)
alike_told (w ∷ ws) (v ∷ vs) a = let heads : without_next v ≡ without_next w = cc in let tails : map without_next vs ≡ map without_next ws = cc in let t = alike_told ws vs tails in λ j. ((heads j).1, (heads j).3) ∷ t j

pub some_on : (o : Option ℕ) (P Q : ℕ → Type 0) → ((k : ℕ) → P k → Q k) → IfSome o P → IfSome o Q
some_on None P Q f h = tt
some_on (Some k) P Q f h = f k h
