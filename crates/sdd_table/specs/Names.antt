-- names of what is free, in a stack
use Rattle.std.specs.Prelude.{◌≡◌, ℕ, ◌≤◌, List, length, map, get_or, sum_by, vec_capacity}
use Rattle.std.specs.Global.{Vec}
use Rattle.sdd_table.specs.Steps.{times}

-- a list names each place once whose use weighs 1, and no other
pub record Lists {X : Type 0} (f : X → ℕ) (all : List X) (names : List ℕ) : Type 0 where
  pub each : (j : ℕ) → times j names ≡ get_or (map f all) j 0
  pub count : length names ≡ sum_by f all

-- a stack of these names, with room for n
pub record IsFreeList {X : Type 0} (f : X → ℕ) (all : List X) (n : ℕ) (stack : Vec ℕ) : Type 0 where
  pub lists : Lists f all stack.items
  pub room : n ≤ vec_capacity stack
