-- A cursor over the pairs of one leaf.
use Rattle.std.specs.Prelude.{◌≡◌, refl, ℕ, ◌+◌, ◌-◌, ◌==◌, ◌++◌, cond, nat_lt, List, length, slice_get, Option, Some, None, MatchOption}
use Rattle.std.specs.Borrow.{Bor}
use Rattle.std.specs.Option.{option_or}
use Rattle.std.specs.Coded.{Coded, code_by, coded×, coded_ℕ, coded_list, coded_option}
use Rattle.leaf_array.specs.Cells.{Cells, newest}
use Rattle.std.specs.declared.cmp.Ordering.{Ordering}
use Rattle.std.specs.declared.ops.Bound.{Bound}
use Rattle.std.specs.declared.ops.Bound.TheVariants.{Excluded}
use Rattle.tree_nodes.specs.declared.arenas.Arenas.{Arenas}
use Rattle.tree_nodes.specs.declared.walk.Position.{Position}
use Rattle.tree_nodes.specs.Content.{pairs_of}
use Rattle.tree_nodes.specs.Walk.{IsFirstPosition, IsLastPosition}
use Rattle.tree_index.specs.Cursor.{deref_pair, before_start, up_to_end}
use Rattle.tree_nodes.specs.SplitPoints.{key_at}
use Rattle.tree_index.specs.declared.leaf.leaf_position.LeafPosition.{LeafPosition}

-- a list is a contiguous part of another one
pub record IsPart {X : Type 0} (part whole : List X) : Type 0 where
  pub fore : List X
  pub rear : List X
  pub all : whole ≡ fore ++ (part ++ rear)

-- the pairs in ascending order; the key of the pair that the leaf lost last; and the cursor's rank: the first pair has the rank 1, and 0 is the start
pub record LeafCursor (K V : Type 0) : Type 0 where
  pub pairs : List (K × V)
  pub gone : Option K
  pub rank : ℕ

abbrev pub leaf_cursor_code : {K V : Type 0} → Coded K → Coded V → Coded (LeafCursor K V)
leaf_cursor_code {K} {V} k v =
    code_by (List (K × V) × (Option K × ℕ)) (coded× (coded_list (coded× k v)) (coded× (coded_option k) coded_ℕ)) (λ c. (c.pairs, (c.gone, c.rank))) (λ p. record { pairs = p.0; gone = p.1.0; rank = p.1.1 }) (λ _. refl)

module _ {K V : Type 0} where
  -- a cursor at the start
  abbrev pub at_start : Cells K V → LeafCursor K V
  at_start a = record { pairs = a.pairs; gone = newest a.tombstones; rank = 0 }

  -- the cursor that a leaf and a rank make
  abbrev pub cursor_at : LeafPosition K V → LeafCursor K V
  cursor_at s = record (at_start s.leaf.now.array) { rank = s.rank }

  -- the keys from which the leaves behind, and those before, are sought: of the last pair, and of the first; of the one that was lost last where there are no pairs
  abbrev pub key_behind : LeafCursor K V → Option K
  key_behind c = option_or (key_at c.pairs (length c.pairs - 1)) c.gone

  abbrev pub key_before : LeafCursor K V → Option K
  key_before c = option_or (key_at c.pairs 0) c.gone

  -- the pair at a rank
  abbrev pub ranked : ℕ → List (K × V) → Option (K × V)
  ranked rank pairs = cond (rank == 0) None (slice_get pairs (rank - 1))

  -- how many pairs are above, and how many below, where all are below the start
  abbrev pub pairs_above : LeafCursor K V → ℕ
  pairs_above c = length c.pairs - c.rank

  abbrev pub pairs_below : LeafCursor K V → ℕ
  pairs_below c = cond (c.rank == 0) (length c.pairs) (c.rank - 1)

  -- the pair with the next greater key, and the one with the next lesser key
  abbrev pub next_greater : (K → K → Ordering) → K → List (K × V) → Option (K × V)
  next_greater cmp key pairs = slice_get pairs (before_start cmp (Excluded key) pairs)

  abbrev pub next_lesser : (K → K → Ordering) → K → List (K × V) → Option (K × V)
  next_lesser cmp key pairs = ranked (up_to_end cmp (Excluded key) pairs) pairs

  -- the pair of a cursor that may be there
  abbrev pub stood : Option (LeafPosition K V) → Option (K × V)
  stood None = None
  stood (Some s) = ranked s.rank s.leaf.now.array.pairs

  -- the rank above, and the rank below
  abbrev pub rank_above : LeafCursor K V → Option ℕ
  rank_above c = cond (nat_lt 0 (pairs_above c)) (Some (c.rank + 1)) None

  abbrev pub rank_below : LeafCursor K V → Option ℕ
  rank_below c = cond (nat_lt 0 (pairs_below c)) (Some (pairs_below c)) None

  -- a cursor moves to the rank that it seeks and gives its pair, or stays if there is none
  abbrev pub MovesTo : (LeafCursor K V → Option ℕ) → LeafCursor K V → Option (Bor K × Bor V) → LeafCursor K V → Type 0
  MovesTo seek c answer d = MatchOption (seek c) ((answer ≡ None) × (d ≡ c)) (λ n. (deref_pair answer ≡ ranked n c.pairs) × (d ≡ record c { rank = n }))

  -- a cursor is at the first pair of its leaf above a key; at the last one below it
  abbrev pub IsFirstAbove : (K → K → Ordering) → K → LeafCursor K V → Type 0
  IsFirstAbove cmp key c = c.rank ≡ before_start cmp (Excluded key) c.pairs + 1

  abbrev pub IsLastBelow : (K → K → Ordering) → K → LeafCursor K V → Type 0
  IsLastBelow cmp key c = c.rank ≡ up_to_end cmp (Excluded key) c.pairs

-- how a place in a tree and a rank in its leaf tell of each other
module _ {K V : Type 0} (cmp : K → K → Ordering) (a : Arenas K V) where
  -- where the place is the first within a lower bound, the rank is that of the leaf's first pair within it
  abbrev pub IsRankOfFirst : ℕ → LeafPosition K V → Type 0
  IsRankOfFirst at s = (b : Bound K) → at ≡ before_start cmp b (pairs_of a) → s.rank ≡ before_start cmp b s.leaf.now.array.pairs + 1

  -- where it is the last within an upper bound, the rank is that of the leaf's last pair within it
  abbrev pub IsRankOfLast : ℕ → LeafPosition K V → Type 0
  IsRankOfLast at s = (b : Bound K) → at + 1 ≡ up_to_end cmp b (pairs_of a) → s.rank ≡ up_to_end cmp b s.leaf.now.array.pairs

  -- the first place behind the pairs of a leaf, and the last one before them
  abbrev pub IsFirstBehind : Cells K V → Option (Position K V) → Type 0
  IsFirstBehind leaf spot = MatchOption (key_behind (at_start leaf)) (spot ≡ None) (λ k. IsFirstPosition a (before_start cmp (Excluded k) (pairs_of a)) spot)

  abbrev pub IsLastBefore : Cells K V → Option (Position K V) → Type 0
  IsLastBefore leaf spot = MatchOption (key_before (at_start leaf)) (spot ≡ None) (λ k. IsLastPosition a (up_to_end cmp (Excluded k) (pairs_of a)) spot)
