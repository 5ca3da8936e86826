-- The ends of a walk over blocks.
use Rattle.std.specs.Prelude.{◌≡◌, ℕ, suc, ◌+◌, ◌-◌, ◌<◌, ◌≤◌, cond, false, nat_lt, List, length, drop, take, slice_get, Some}
use Rattle.std.specs.Borrow.{Bor}
use Rattle.std.specs.declared.cmp.Ordering.{Ordering}
use Rattle.std.specs.declared.cmp.Ordering.TheVariants.{Less}
use Rattle.std.specs.declared.ops.Bound.{Bound}
use Rattle.std.specs.List.{All}
use Rattle.std.specs.Range.Bound.{bound_map}
use Rattle.leaf_array.specs.Cells.{lesser}
use Rattle.leaf_array.specs.Pairs.{IsAscending, has_key}
use Rattle.tree_index.specs.Cursor.{whole, turned, before_start, up_to_end}
use Rattle.tree_index.specs.Proximity.{IsLocated}
use Rattle.tree_index.specs.Shape.{AllKeys}
use Rattle.tree_index.specs.declared.cursor.End.{End}
use Rattle.tree_index.specs.declared.cursor.End.TheVariants.{Unopened, At, Done}
use Rattle.tree_index.specs.declared.proximity.Proximity.{Proximity}
use Rattle.version_views.specs.Cuts.{pairs_in}
use Rattle.version_views.specs.declared.position.CursorEnd.{CursorEnd}
use Rattle.version_views.specs.declared.position.CursorEnd.TheVariants as cursor_ends
use Rattle.version_views.specs.declared.position.Position.{Position}

-- the keys before a block are lesser than this one, and those behind it greater
pub record IsBlockAround {K V : Type 0} (cmp : K → K → Ordering) (key : K) (blocks : List (List (K × V))) (place : ℕ) : Type 0 where
  pub within : place < length blocks
  pub before : AllKeys (λ k. cmp k key ≡ Less) (pairs_in (take place blocks))
  pub behind : AllKeys (λ k. cmp key k ≡ Less) (pairs_in (drop (suc place) blocks))

-- blocks of pairs by rising keys
pub record AreRising {K V : Type 0} (cmp : K → K → Ordering) (blocks : List (List (K × V))) : Type 0 where
  pub some : All (λ b. 1 ≤ length b) blocks
  pub rising : IsAscending cmp (pairs_in blocks)

-- this many places further
abbrev pub further : ℕ → End ℕ → End ℕ
further n Unopened = Unopened
further n (At p) = At (n + p)
further n Done = Done

module _ {K V : Type 0} where
  -- how many pairs are in the blocks before one
  abbrev pub pairs_before_block : List (List (K × V)) → ℕ → ℕ
  pairs_before_block blocks n = length (pairs_in (take n blocks))

  -- the forward end of a cursor over a block is at one of its pairs; so is the backward end
  pub record IsFore (blocks : List (List (K × V))) (s : Position K V) : Type 0 where
    pub place : ℕ
    pub here : slice_get blocks s.segment ≡ Some s.cursor.pairs
    pub within : place < length s.cursor.pairs
    pub is : s.cursor ≡ whole s.cursor.pairs (At place) s.cursor.backward

  pub record IsRear (blocks : List (List (K × V))) (s : Position K V) : Type 0 where
    pub place : ℕ
    pub here : slice_get blocks s.segment ≡ Some s.cursor.pairs
    pub within : place < length s.cursor.pairs
    pub is : s.cursor ≡ whole s.cursor.pairs s.cursor.forward (At place)

  -- an end of a walk that is at a position is at a pair
  abbrev pub StandsFore : List (List (K × V)) → CursorEnd K V → Type 0
  StandsFore blocks cursor_ends.Unopened = Unit {0}
  StandsFore blocks (cursor_ends.At s) = IsFore blocks s
  StandsFore blocks cursor_ends.Done = Unit {0}

  abbrev pub StandsRear : List (List (K × V)) → CursorEnd K V → Type 0
  StandsRear blocks cursor_ends.Unopened = Unit {0}
  StandsRear blocks (cursor_ends.At s) = IsRear blocks s
  StandsRear blocks cursor_ends.Done = Unit {0}

  -- the other end of its cursor isn't open
  abbrev pub IsForeAlone : CursorEnd K V → Type 0
  IsForeAlone cursor_ends.Unopened = Unit {0}
  IsForeAlone (cursor_ends.At s) = s.cursor.backward ≡ Unopened
  IsForeAlone cursor_ends.Done = Unit {0}

  abbrev pub IsRearAlone : CursorEnd K V → Type 0
  IsRearAlone cursor_ends.Unopened = Unit {0}
  IsRearAlone (cursor_ends.At s) = s.cursor.forward ≡ Unopened
  IsRearAlone cursor_ends.Done = Unit {0}

  -- its position among the pairs of all blocks
  abbrev pub fore_place : List (List (K × V)) → CursorEnd K V → End ℕ
  fore_place blocks cursor_ends.Unopened = Unopened
  fore_place blocks (cursor_ends.At s) = further (pairs_before_block blocks s.segment) s.cursor.forward
  fore_place blocks cursor_ends.Done = Done

  abbrev pub rear_place : List (List (K × V)) → CursorEnd K V → End ℕ
  rear_place blocks cursor_ends.Unopened = Unopened
  rear_place blocks (cursor_ends.At s) = further (pairs_before_block blocks s.segment) s.cursor.backward
  rear_place blocks cursor_ends.Done = Done

  -- its forward end is behind n pairs, alone; its backward end is at the last of n pairs, alone
  pub record IsForeAt (blocks : List (List (K × V))) (n : ℕ) (s : Position K V) : Type 0 where
    pub stands : IsFore blocks s
    pub alone : s.cursor.backward ≡ Unopened
    pub place : further (pairs_before_block blocks s.segment) s.cursor.forward ≡ At n

  pub record IsRearAt (blocks : List (List (K × V))) (n : ℕ) (s : Position K V) : Type 0 where
    pub stands : IsRear blocks s
    pub alone : s.cursor.forward ≡ Unopened
    pub some : 0 < n
    pub place : further (pairs_before_block blocks s.segment) s.cursor.backward ≡ At (n - 1)

  -- the pair is at this place of the blocks
  abbrev pub IsPairAt : List (List (K × V)) → ℕ → Bor K × Bor V → Type 0
  IsPairAt blocks n pair = slice_get (pairs_in blocks) n ≡ Some (pair.0.now, pair.1.now)

  -- a count of pairs at the front reaches into the block at a place
  abbrev pub CountsInto : List (List (K × V)) → ℕ → (List (K × V) → ℕ) → Type 0
  CountsInto blocks place count = (b : List (K × V)) → slice_get blocks place ≡ Some b → count (pairs_in blocks) ≡ pairs_before_block blocks place + count b

  -- a position whose forward end is behind n pairs, with the pair there; whose backward end is at the last of n
  -- pairs, with that one
  abbrev pub FoundFore : List (List (K × V)) → ℕ → Position K V × (Bor K × Bor V) → Type 0
  FoundFore blocks n found = IsForeAt blocks n found.0 × IsPairAt blocks n found.1

  abbrev pub FoundRear : List (List (K × V)) → ℕ → Position K V × (Bor K × Bor V) → Type 0
  FoundRear blocks n found = IsRearAt blocks n found.0 × IsPairAt blocks (n - 1) found.1

  -- how many pairs of a list lie before a lower bound, and how many up to an upper one
  abbrev pub count_before : (K → K → Ordering) → Bound (Bor K) → List (K × V) → ℕ
  count_before cmp lower pairs = before_start cmp (bound_map (λ k. k.now) lower) pairs

  abbrev pub count_upto : (K → K → Ordering) → Bound (Bor K) → List (K × V) → ℕ
  count_upto cmp upper pairs = up_to_end cmp (bound_map (λ k. k.now) upper) pairs

  -- the end at a place, if there is a pair, and past all of them else
  abbrev pub at_or_done : List (List (K × V)) → ℕ → End ℕ
  at_or_done blocks n = cond (nat_lt n (length (pairs_in blocks))) (At n) Done

  -- whatever key no pair has, and n pairs have lesser ones
  abbrev pub OfAbsent : (K → K → Ordering) → List (List (K × V)) → ℕ → (K → Type 0) → Type 0
  OfAbsent cmp blocks n P = (key : K) → lesser cmp key (pairs_in blocks) ≡ n → has_key cmp key (pairs_in blocks) ≡ false → P key

  -- such a key is located so
  abbrev pub LocatesAbsent : (K → K → Ordering) → List (List (K × V)) → ℕ → Proximity K V → Type 0
  LocatesAbsent cmp blocks n found = OfAbsent cmp blocks n (λ key. IsLocated cmp key (pairs_in blocks) found)

  -- the ends of its cursor change places
  abbrev pub swapped : (K → K → Ordering) → CursorEnd K V → CursorEnd K V
  swapped cmp cursor_ends.Unopened = cursor_ends.Unopened
  swapped cmp (cursor_ends.At s) = cursor_ends.At (record s { cursor = turned cmp s.cursor })
  swapped cmp cursor_ends.Done = cursor_ends.Done

  -- both ends of a walk; where one alone is open it is so in its cursor too, which can be turned
  pub record IsWalking (cmp : K → K → Ordering) (blocks : List (List (K × V))) (forward backward : CursorEnd K V) : Type 0 where
    pub blocks_rise : AreRising cmp blocks
    pub forward_stands : StandsFore blocks forward
    pub backward_stands : StandsRear blocks backward
    pub forward_alone : backward ≡ cursor_ends.Unopened → IsForeAlone forward
    pub backward_alone : forward ≡ cursor_ends.Unopened → IsRearAlone backward
