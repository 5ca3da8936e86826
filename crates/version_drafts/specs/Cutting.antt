-- A list that is being cut.
use Rattle.std.specs.Prelude.{◌≡◌, ◌≢◌, ◌⊎◌, Bool, true, false, ℕ, ◌+◌, ◌-◌, ◌*◌, ◌≤◌, ◌<◌, List, [], ◌∷◌, ◌++◌, drop, length, slice_get, IfSome, Option, Some, None}
use Rattle.std.specs.Borrow.{Bor}
use Rattle.std.specs.declared.cmp.Ordering.{Ordering}
use Rattle.std.specs.declared.cmp.Ordering.TheVariants.{Less, Greater}
use Rattle.std.specs.List.{All}
use Rattle.leaf_array.specs.Pairs.{IsAscending}
use Rattle.tree_index.specs.Shape.{AllKeys}
use Rattle.version_drafts.specs.Changes.{ahead, apply_delta}
use Rattle.version_views.specs.Cuts.{IsTight, pairs_in}
use Rattle.version_drafts.specs.Gone.{is_gone, without_gone}
use Rattle.version_drafts.specs.Parts.{LiesWithin, blocks_of_parts, made_in}
use Rattle.version_drafts.specs.declared.gone.Gone.{Gone}
use Rattle.version_drafts.specs.declared.segments.Part.{Part}
use Rattle.version_drafts.specs.declared.segments.Part.TheVariants as parts
use Rattle.version_drafts.specs.declared.segments.Row.{Row}
use Rattle.version_drafts.specs.declared.segments.SegmentBuilder.{SegmentBuilder}

-- whatever block is at a place
abbrev pub OfBlock : {X : Type 0} → List (List X) → ℕ → (List X → Type 0) → Type 0
OfBlock blocks place P = (b : List _) → Some b ≡ slice_get blocks place → P b

-- a block of 1 to s pairs
abbrev pub IsSegmentSized : {X : Type 0} → ℕ → List X → Type 0
IsSegmentSized s b = (1 ≤ length b) × (length b ≤ s)

-- how many pairs the last block has, 0 where there is none
abbrev pub last_size : {X : Type 0} → List (List X) → ℕ
last_size [] = 0
last_size (b ∷ []) = length b
last_size (b ∷ (c ∷ bs)) = last_size (c ∷ bs)

-- 1 where there is a pair
abbrev pub one_open : {X : Type 0} → List X → ℕ
one_open [] = 0
one_open (x ∷ xs) = 1

-- how often the answers of a test turn along the keys of pairs, where this one came last
abbrev pub differ : Bool → Bool → ℕ
differ true true = 0
differ true false = 1
differ false true = 1
differ false false = 0

abbrev pub turn_count : {K V : Type 0} → (K → Bool) → Bool → List (K × V) → ℕ
turn_count test last [] = 0
turn_count test last (p ∷ ps) = differ last (test p.0) + turn_count test (test p.0) ps

module _ {K V : Type 0} where
  -- how many trees were made
  abbrev pub trees : SegmentBuilder K V → ℕ
  trees c = made_in c.row.parts.items + one_open c.tail.pairs

  -- the pairs for which there is room up to the last one, in trees of s pairs
  abbrev pub room_spent : ℕ → SegmentBuilder K V → ℕ
  room_spent s c = s * made_in c.row.parts.items + length c.tail.pairs

  module _ (blocks : List (List (K × V))) where
    -- the pairs that were given
    abbrev pub given_pairs : SegmentBuilder K V → List (K × V)
    given_pairs c = pairs_in (blocks_of_parts blocks c.row.parts.items) ++ c.tail.pairs

    -- segments of 1 to s pairs, none of which two neighbours could do without
    pub record IsSegmentRow (s : ℕ) (row : Row K V) : Type 0 where
      pub sizes : All (IsSegmentSized s) (blocks_of_parts blocks row.parts.items)
      pub tight : IsTight s (blocks_of_parts blocks row.parts.items)
      pub last : row.last ≡ last_size (blocks_of_parts blocks row.parts.items)
      pub within : All (LiesWithin (length blocks)) row.parts.items

    -- the last segment is the older one at this place, which is the last one of a stretch
    pub record IsHeldAt (items : List (Part K V)) (place : ℕ) : Type 0 where
      pub front : List (Part K V)
      pub from : ℕ
      pub some : from ≤ place
      pub is : items ≡ front ++ parts.Taken from (place + 1) ∷ []
      pub block : List (K × V)
      pub there : slice_get blocks place ≡ Some block

    abbrev pub IsHeld : List (Part K V) → Option ℕ → Type 0
    IsHeld items None = Unit {0}
    IsHeld items (Some place) = IsHeldAt items place

    -- the length counts the pairs that were given, and those of the older segments from a place on
    abbrev pub CountsFrom : ℕ → SegmentBuilder K V → Type 0
    CountsFrom place c = c.length ≡ length (given_pairs c) + length (pairs_in (drop place blocks))

    -- the length grew by as many pairs as were given
    abbrev pub CountsGiven : SegmentBuilder K V → SegmentBuilder K V → Type 0
    CountsGiven c c' = c'.length + length (given_pairs c) ≡ c.length + length (given_pairs c')

    -- the open tree can end behind the segments that are done
    pub record IsClosing (s : ℕ) (c : SegmentBuilder K V) : Type 0 where
      pub sizes : All (IsSegmentSized s) (blocks_of_parts blocks c.row.parts.items ++ c.tail.pairs ∷ [])
      pub tight : IsTight s (blocks_of_parts blocks c.row.parts.items ++ c.tail.pairs ∷ [])
      pub within : All (LiesWithin (length blocks)) c.row.parts.items

  module _ (cmp : K → K → Ordering) (s : ℕ) (blocks : List (List (K × V))) where
    -- segments that are done, of which the last one is full where it isn't an older one, and an open tree
    pub record IsCutting (c : SegmentBuilder K V) : Type 0 where
      pub least : 1 ≤ s
      pub most : s ≤ 225
      pub row : IsSegmentRow blocks s c.row
      pub room : length c.tail.pairs ≤ s
      pub rising : IsAscending cmp (given_pairs blocks c)
      pub held : IsHeld blocks c.row.parts.items c.held
      pub fresh : c.held ≡ None → (c.row.last ≡ 0) ⊎ (c.row.last ≡ s)

    -- the older segment at a place comes behind all that was given, and doesn't fit into one with what is last there
    pub record StaysApart (place : ℕ) (c : SegmentBuilder K V) : Type 0 where
      pub block : List (K × V)
      pub there : slice_get blocks place ≡ Some block
      pub sized : IsSegmentSized s block
      pub rising : IsAscending cmp (given_pairs blocks c ++ block)
      pub closed : length c.tail.pairs ≡ 0 → 0 < c.row.last → s < c.row.last + length block
      pub opened : 0 < length c.tail.pairs → s < length c.tail.pairs + length block

  -- a segment of this many pairs fits into one with what is last
  abbrev pub Joins : ℕ → ℕ → SegmentBuilder K V → Type 0
  Joins s n c = ((length c.tail.pairs ≡ 0) × (0 < c.row.last) × (c.row.last + n ≤ s)) ⊎ ((0 < length c.tail.pairs) × (length c.tail.pairs + n ≤ s))

  -- no more than was read was given, from one number of pairs and changes that were left to another
  pub record GivesNoMoreThanRead (s left left' : ℕ) (c c' : SegmentBuilder K V) : Type 0 where
    pub spent : room_spent s c' + left' ≤ room_spent s c + left
    pub some : 0 < length c.tail.pairs → 0 < length c'.tail.pairs
    pub none : length c'.tail.pairs ≡ 0 → made_in c'.row.parts.items ≡ made_in c.row.parts.items

  -- with this many edits left, no more trees were made than two for each that was passed, and one for each turn between pairs
  -- that are gone and others: one less, where the next segment fits into one with the last one, or pairs before it are gone
  pub record IsThrifty (s budget : ℕ) (test : K → Bool) (last : Bool) (rest : List (List (K × V))) (left : ℕ) (c : SegmentBuilder K V) : Type 0 where
    pub all : trees c + 2 * left + turn_count test last (pairs_in rest) ≤ budget
    pub spare : length c.tail.pairs ≡ 0 → 0 < c.row.last → (b : List (K × V)) → slice_get rest 0 ≡ Some b → c.row.last + length b ≤ s → trees c + 1 + 2 * left + turn_count test last (pairs_in rest) ≤ budget
    pub behind : last ≡ true → length c.tail.pairs ≡ 0 → trees c + 1 + 2 * left + turn_count test last (pairs_in rest) ≤ budget

  -- whatever the budget is, it is kept to, from one place of the blocks with this many edits left to another
  abbrev pub StaysThrifty : ℕ → (K → Bool) → List (List (K × V)) → ℕ → ℕ → SegmentBuilder K V → ℕ → ℕ → SegmentBuilder K V → Type 0
  StaysThrifty s test blocks place left c place' left' c' = (budget : ℕ) (last : Bool) → IsThrifty s budget test last (drop place blocks) left c → (last' : Bool) × IsThrifty s budget test last' (drop place' blocks) left' c'

-- the same of the block at a place less what is gone, from one number of changes to another
abbrev pub GivesNoMoreOfBlock : {K V : Type 0} → (K → K → Ordering) → (s : ℕ) → List (Gone K) → List (List (K × V)) → ℕ → ℕ → SegmentBuilder K V → ℕ → SegmentBuilder K V → Type 0
GivesNoMoreOfBlock cmp s gone blocks place changes c changes' c' = OfBlock blocks place (λ b. GivesNoMoreThanRead s (length (without_gone cmp gone b) + changes) changes' c c')

-- what is left of the block at a place, and of those behind it less what is gone
abbrev pub rest_behind : {K V : Type 0} → (K → K → Ordering) → List (Gone K) → List (List (K × V)) → ℕ → List (K × V) → List (K × V)
rest_behind cmp gone blocks place pairs = pairs ++ without_gone cmp gone (pairs_in (drop (place + 1) blocks))

-- the list that comes of the pairs that were given, of the edits that are left, and of the blocks from a place on, less
-- what is gone, stays the same; or of what is left of the block at a place, and of those behind it
module _ {K V : Type 0} (cmp : K → K → Ordering) (gone : List (Gone K)) (blocks : List (List (K × V))) where
  abbrev pub KeepsListFrom : ℕ → List (K × Option V) → SegmentBuilder K V → ℕ → List (K × Option V) → SegmentBuilder K V → Type 0
  KeepsListFrom place edits c place' edits' c' = given_pairs blocks c' ++ ahead cmp edits' gone place' blocks ≡ given_pairs blocks c ++ ahead cmp edits gone place blocks

  abbrev pub KeepsListWithin : ℕ → List (K × V) → List (K × Option V) → SegmentBuilder K V → List (K × V) → List (K × Option V) → SegmentBuilder K V → Type 0
  KeepsListWithin place pairs edits c pairs' edits' c' = given_pairs blocks c' ++ apply_delta cmp edits' (rest_behind cmp gone blocks place pairs') ≡ given_pairs blocks c ++ apply_delta cmp edits (rest_behind cmp gone blocks place pairs)

-- no key is named, or the pairs have keys below it
abbrev pub LiesBelow : {K V : Type 0} → (K → K → Ordering) → Option (Bor K) → List (K × V) → Type 0
LiesBelow cmp upto pairs = IfSome upto (λ key. AllKeys (λ k. cmp k key.now ≡ Less) pairs)

module _ {K V X : Type 0} (cmp : K → K → Ordering) where
  -- the first change is at or below the last key of a segment; or all keys are below it
  pub record IsReachedBy (changes : List (K × X)) (pairs : List (K × V)) : Type 0 where
    pub change : K × X
    pub pair : K × V
    pub first : slice_get changes 0 ≡ Some change
    pub last : slice_get pairs (length pairs - 1) ≡ Some pair
    pub upto : cmp change.0 pair.0 ≢ Greater

  abbrev pub IsPassedBy : List (K × X) → List (K × V) → Type 0
  IsPassedBy changes pairs = (change : K × X) → slice_get changes 0 ≡ Some change → AllKeys (λ k. cmp k change.0 ≡ Less) pairs

  -- neither the first change nor a range that is gone touches a block; or one of them does
  abbrev pub IsUntouched : List (K × X) → List (Gone K) → List (K × V) → Type 0
  IsUntouched changes gone b = IsPassedBy changes b × AllKeys (λ k. is_gone cmp gone k ≡ false) b

  abbrev pub IsTouched : List (K × X) → List (Gone K) → List (K × V) → Type 0
  IsTouched changes gone b = IsReachedBy changes b ⊎ (AllKeys (λ k. is_gone cmp gone k ≡ false) b → ⊥)

  -- where the first change reaches what is left of the block at a place, fewer changes are left then
  abbrev pub PassesWhatReaches : List (Gone K) → List (List (K × V)) → ℕ → (changes changes' : List (K × X)) → Type 0
  PassesWhatReaches gone blocks place changes changes' = OfBlock blocks place (λ b. IsReachedBy changes (without_gone cmp gone b) → length changes' < length changes)
