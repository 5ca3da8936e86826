-- the places of a store that have no reader
use Rattle.std.proofs.Common.{◌≡◌, ℕ, ◌<◌, ◌≤◌, List, [], ◌∷◌, ◌++◌, Option, None, Some, IsSome, get_or, length, map, set, refl, ap, arith, subst, length-set}
use Rattle.std.specs.Global.{Vec}
use Rattle.std.specs.List.{All, sum_by}
use Rattle.std.specs.Option.{option_map}
use Rattle.std.proofs.lemmas.List.Sums.{sum_by-cons}
use Rattle.std.specs.Vec.{vec_capacity}
use Rattle.sdd_world.specs.View.{IsFreeList, Lists}
use Rattle.sdd_world.proofs.ListLemmas.{lists_names, lists_none, lists_pop, lists_push}
use Rattle.local_versions.specs.Store.{gap}

pub gap-one : {X : Type 0} (x : Option X) → gap x ≤ 1
gap-one None = omega arith
gap-one (Some x) = omega arith

gap_none : {X : Type 0} (x : Option X) → 1 ≤ gap x → x ≡ None
gap_none None h = refl
gap_none (Some x) h = absurd (omega (arith, h))

no_gap : {X : Type 0} (x : Option X) → gap x ≡ 0 → IsSome x
no_gap None e = absurd (omega (arith, e))
no_gap (Some x) e = refl

-- as many places have no reader, whatever the others show
pub gaps_mapped : {X Y : Type 0} (f : X → Y) (places : List (Option X)) → sum_by gap (map (option_map f) places) ≡ sum_by gap places
gaps_mapped f [] = refl
gaps_mapped f (place ∷ places) =
    let rest = gaps_mapped f places in
    let shown = sum_by-cons gap (option_map f place) (map (option_map f) places) in
    let all = sum_by-cons gap place places in
    let same = gap_mapped place in
    omega (arith, rest, shown, all, same)
  where
    gap_mapped : (place : Option _) → gap (option_map f place) ≡ gap place
    gap_mapped None = refl
    gap_mapped (Some x) = refl

module _ {X : Type 0} (places : List (Option X)) (free : Vec ℕ) (stack : IsFreeList gap places (length places) free) where
  -- the place that is taken has no reader
  pub taken_free : (place : ℕ) (rest : List ℕ) → free.items ≡ rest ++ place ∷ [] → (place < length places) × (get_or places place None ≡ None)
  taken_free place rest e = let r = lists_names gap places place None free.items rest e stack.lists in (r.0, gap_none (get_or places place None) r.1)

  pub stack_taken : (place : ℕ) (rest : Vec ℕ) (x : X) → free.items ≡ rest.items ++ place ∷ [] → vec_capacity free ≤ vec_capacity rest → IsFreeList gap (set places place (Some x)) (length (set places place (Some x))) rest
  stack_taken place rest x e cap =
      let t = taken_free place rest.items e in
      let room = stack.room in
      let one : gap (get_or places place None) ≡ 1 = ap gap t.1 in
      record { lists = lists_pop gap places place (Some x) None free.items rest.items e t.0 one refl stack.lists; room = (let long = length-set places place (Some x) in omega (arith, room, cap, long)) }

  -- a place whose reader goes is free
  pub stack_given : (place : ℕ) (more : Vec ℕ) (x : X) → place < length places → get_or places place None ≡ Some x → more.items ≡ free.items ++ place ∷ [] → vec_capacity free ≤ vec_capacity more → IsFreeList gap (set places place None) (length (set places place None)) more
  stack_given place more x inside there e cap =
      let room = stack.room in
      record { lists = lists_push gap places place None None free.items more.items e inside (ap gap there) refl stack.lists; room = (let long = length-set places place None in omega (arith, room, cap, long)) }

  -- where no place is left, each has a reader
  pub all_taken : free.items ≡ [] → All IsSome places
  all_taken e k d h = no_gap (get_or places k d) (lists_none gap places k d (subst (λ names. Lists gap places names) e stack.lists) h)
