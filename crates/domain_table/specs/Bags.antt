-- a bag as its first and its last place, and what waits in the bags of a participant, the newest in front
use Rattle.std.specs.Prelude.{◌≡◌, ◌==◌, ◌+◌, true, ℕ, cond, List, [], ◌∷◌, ◌++◌, map, Option, None, Some}
use Rattle.sdd_homes.specs.declared.Garbage.{Garbage}
use Rattle.domain_table.specs.Chains.{oldest_slot, is_threaded}
use Rattle.domain_table.specs.declared.bags.Ends.{Ends}

abbrev pub ends_of : List Garbage → Option Ends
ends_of [] = None
ends_of (w ∷ ws) = Some (record { first = oldest_slot (w ∷ ws); last = w.slot })

-- the bag has these
abbrev pub IsBag : List Garbage → Option Ends → Type 0
IsBag ws bag = (bag ≡ ends_of ws) × (is_threaded ws ≡ true)

-- two bags lie one behind the other in front of these
abbrev pub LieInFront : List Garbage → Option Ends → Option Ends → Type 0
LieInFront all newer older = (fs : List Garbage) × (bs : List Garbage) × (rest : List Garbage) × (all ≡ fs ++ (bs ++ rest)) × IsBag fs newer × IsBag bs older

-- a bag lies behind these
abbrev pub LiesBehind : List Garbage → Option Ends → Type 0
LiesBehind all bag = (ps : List Garbage) × (cs : List Garbage) × (all ≡ ps ++ cs) × IsBag cs bag

-- the oldest item of the bag that lies behind these is in slot k, and this bag has the others
abbrev pub LosesOldest : List Garbage → Option Ends → ℕ → Option Ends → Type 0
LosesOldest all bag k others = (ps cs : List Garbage) → all ≡ ps ++ cs → IsBag cs bag → (ds : List Garbage) × (w : Garbage) × (cs ≡ ds ++ w ∷ []) × (w.slot ≡ k) × IsBag ds others

-- an item in slot n lies right in front of one in slot k
abbrev pub LieTogether : List Garbage → ℕ → ℕ → Type 0
LieTogether all n k = (xs : List Garbage) × (w : Garbage) × (v : Garbage) × (ys : List Garbage) × (all ≡ xs ++ (w ∷ v ∷ ys)) × (w.slot ≡ n) × (v.slot ≡ k)

-- where they lie so, this is true of all items once the one in slot k is linked to the other
abbrev pub IsFollowed : List Garbage → ℕ → ℕ → (List Garbage → Type 0) → Type 0
IsFollowed all n k Is = (xs : List Garbage) (w v : Garbage) (ys : List Garbage) → all ≡ xs ++ (w ∷ v ∷ ys) → w.slot ≡ n → v.slot ≡ k → Is (xs ++ (w ∷ record v { next = w.slot + 1 } ∷ ys))

-- of these what was retired this many rotations ago
abbrev pub aged : ℕ → List Garbage → List Garbage
aged a [] = []
aged a (w ∷ ws) = cond (w.age == a) (w ∷ aged a ws) (aged a ws)

abbrev pub by_age : List Garbage → List Garbage
by_age ws = aged 0 ws ++ (aged 1 ws ++ (aged 2 ws ++ aged 3 ws))

-- an item that waits, whatever came into its bag next
abbrev pub without_next : Garbage → ℕ × ℕ × ℕ × ℕ
without_next w = (w.item, w.slot, w.round, w.age)

-- these are the same items, and may be linked otherwise
abbrev pub AreAlike : List Garbage → List Garbage → Type 0
AreAlike ws vs = map without_next vs ≡ map without_next ws

-- where two bags lie in front of these, this one has the items of both, and this is true of all items then
abbrev pub IsJoined : List Garbage → Option Ends → Option Ends → Option Ends → (List Garbage → Type 0) → Type 0
IsJoined all newer older bag Is = (fs bs rest : List Garbage) → all ≡ fs ++ (bs ++ rest) → IsBag fs newer → IsBag bs older
    → (cs : List Garbage) × AreAlike bs cs × IsBag (fs ++ cs) bag × Is (fs ++ (cs ++ rest))
