-- Leaves in a row, each naming the one before it and the one behind it.
use Rattle.std.specs.Prelude.{◌≡◌, ℕ, ◌+◌, ◌==◌, Bool, false, cond, List, [], ◌∷◌, Option, Some, None}
use Rattle.std.specs.Option.{option_map}
use Rattle.slab.specs.Slab.{Slab, get}
use Rattle.tree_nodes.specs.declared.leaf.Leaf.{Leaf}

-- the numbers before and behind one, if something has that number
abbrev pub Links : Type 0
Links = ℕ → Option (Option ℕ × Option ℕ)

-- what the leaves of an arena name
abbrev pub leaf_links : {K V : Type 0} → Slab (Leaf K V) → Links
leaf_links leaves n = option_map (λ l. (l.prev, l.next)) (get leaves n)

-- the first of a list, or the other where it is empty
abbrev pub first_or : Option ℕ → List ℕ → Option ℕ
first_or other [] = other
first_or other (n ∷ ns) = Some n

-- each number of the list names the one before it and the one behind it
abbrev pub IsLinked : Links → Option ℕ → List ℕ → Option ℕ → Type 0
IsLinked f before [] behind = Unit {0}
IsLinked f before (n ∷ ns) behind = (f n ≡ Some (before, first_or behind ns)) × IsLinked f (Some n) ns behind

-- how often a number is in a list
abbrev pub times : ℕ → List ℕ → ℕ
times n [] = 0
times n (m ∷ ms) = cond (m == n) 1 0 + times n ms

abbrev pub is_named : Option ℕ → ℕ → Bool
is_named None n = false
is_named (Some m) n = m == n

-- the links once a number has come in between two
abbrev pub linked_in : ℕ → Option ℕ → ℕ → Links → Links
linked_in fresh before behind f n = option_map (λ l. (cond (n == behind) (Some fresh) l.0, cond (is_named before n) (Some fresh) l.1)) (f n)

-- the links once what was between two has left
abbrev pub linked_out : Option ℕ → Option ℕ → Links → Links
linked_out before behind f n = option_map (λ l. (cond (is_named behind n) before l.0, cond (is_named before n) behind l.1)) (f n)
