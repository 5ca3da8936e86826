-- The two ends of a cursor in the leaves of a tree.
use Rattle.std.specs.Prelude.{ℕ, List, cond, slice_get, Option, None}
use Rattle.std.specs.declared.cmp.Ordering.{Ordering}
use Rattle.std.specs.Borrow.{Bor}
use Rattle.std.specs.declared.ops.Bound.{Bound}
use Rattle.leaf_array.specs.Lookups.{deref_bound}
use Rattle.tree_nodes.specs.declared.arenas.Arenas.{Arenas}
use Rattle.tree_nodes.specs.declared.walk.Position.{Position}
use Rattle.tree_index.specs.declared.cursor.End.{End}
use Rattle.tree_index.specs.declared.cursor.End.TheVariants.{Unopened, At, Done}
use Rattle.tree_index.specs.declared.cursor.Ends.{Ends}
use Rattle.tree_nodes.specs.Content.{pairs_of, IsSound}
use Rattle.tree_nodes.specs.Walk.{position, IsPosition}
use Rattle.tree_index.specs.Cursor.{Cursor, forth, back, lies_before, kept_below, pair_at, pairs_from}

module _ {K V : Type 0} where
  -- an end that is at a place is at a pair
  abbrev pub IsEnd : Arenas K V → End (Position K V) → Type 0
  IsEnd a Unopened = Unit {0}
  IsEnd a (At s) = IsPosition a s
  IsEnd a Done = Unit {0}

  abbrev pub end_position : Arenas K V → End (Position K V) → End ℕ
  end_position a Unopened = Unopened
  end_position a (At s) = At (position a s)
  end_position a Done = Done

  pub record IsReady (cmp : K → K → Ordering) (e : Ends K V) : Type 0 where
    pub sound : IsSound cmp e.arenas.now
    pub forward : IsEnd e.arenas.now e.forward
    pub backward : IsEnd e.arenas.now e.backward

  -- where the forward end moves, from a lower bound if it isn't set yet; and the backward one, from an upper bound
  abbrev pub forth_of : (K → K → Ordering) → Bound K → Ends K V → End ℕ
  forth_of cmp lower e = forth cmp lower (pairs_of e.arenas.now) (end_position e.arenas.now e.forward)

  abbrev pub back_of : (K → K → Ordering) → Bound K → Ends K V → End ℕ
  back_of cmp upper e = back cmp upper (pairs_of e.arenas.now) (end_position e.arenas.now e.backward)

  -- the pair of a place, if that lies before a backward end, and the pair within an upper bound
  abbrev pub given_pair : (K → K → Ordering) → Bound K → Arenas K V → Position K V → End (Position K V) → Option (K × V)
  given_pair cmp upper a s backward = cond (lies_before (At (position a s)) (end_position a backward)) (kept_below cmp upper (slice_get (pairs_of a) (position a s))) None

  -- the cursor that two ends and two bounds make
  abbrev pub cursor_of : Ends K V → Bound K → Bound K → Cursor K V
  cursor_of e lower upper = record { pairs = pairs_of e.arenas.now; lower = lower; upper = upper; forward = end_position e.arenas.now e.forward; backward = end_position e.arenas.now e.backward }

  -- the same, by bounds on lent keys
  abbrev pub cursor_between : Bound (Bor K) → Bound (Bor K) → Ends K V → Cursor K V
  cursor_between lower upper e = cursor_of e (deref_bound lower) (deref_bound upper)

  -- the pair at the forward end, and at the backward one
  abbrev pub front_pair : Ends K V → Option (K × V)
  front_pair e = pair_at (pairs_of e.arenas.now) (end_position e.arenas.now e.forward)

  abbrev pub back_pair : Ends K V → Option (K × V)
  back_pair e = pair_at (pairs_of e.arenas.now) (end_position e.arenas.now e.backward)

  -- the pairs from the forward end on
  abbrev pub ahead : Ends K V → List (K × V)
  ahead e = pairs_from (pairs_of e.arenas.now) (end_position e.arenas.now e.forward)
