-- What a contract sees of an array: its reachable pairs in ascending order of keys, and their places.
use Rattle.std.specs.Prelude.{◌≡◌, refl, ℕ, zero, suc, ◌+◌, ◌==◌, ◌<◌, ◌||◌, ◌&&◌, not, Bool, true, false, cond, nat_lt, List, [], ◌∷◌, ◌++◌, Option, Some, None, MatchOption, length}
use Rattle.std.specs.declared.cmp.Ordering.{Ordering}
use Rattle.std.specs.Option.{is_some, option_or}
use Rattle.std.specs.Map.{lookup, remove_entry}
use Rattle.std.specs.BTreeMap.{insert_entry, is_at}
use Rattle.std.specs.List.{remove, filter}
pub use Rattle.leaf_slots.specs.Labels.{slot_of, rank_in, first_above, last_below, entered, handed_on, fallen, newest, lesser}
use Rattle.std.specs.Coded.{Coded, code_by, coded×, coded_ℕ, coded_bool, coded_list}

-- labels are the slot and the rank of each pair, buried are slot and pair of what was removed or replaced, the newest first
pub record Cells (K V : Type 0) : Type 0 where
  pub pairs : List (K × V)
  pub used : ℕ
  pub frozen : Bool
  pub retired : Bool
  pub labels : List (ℕ × ℕ)
  pub tombstones : List (ℕ × (K × V))

abbrev pub cells_code : {K V : Type 0} → Coded K → Coded V → Coded (Cells K V)
cells_code {K} {V} k v =
    code_by
    (List (K × V) × (ℕ × (Bool × (Bool × (List (ℕ × ℕ) × List (ℕ × (K × V)))))))
    (coded× (coded_list (coded× k v)) (coded× coded_ℕ (coded× coded_bool (coded× coded_bool (coded× (coded_list (coded× coded_ℕ coded_ℕ)) (coded_list (coded× coded_ℕ (coded× k v))))))))
    (λ a. (a.pairs, (a.used, (a.frozen, (a.retired, (a.labels, a.tombstones))))))
    (λ p. record { pairs = p.0; used = p.1.0; frozen = p.1.1.0; retired = p.1.1.1.0; labels = p.1.1.1.1.0; tombstones = p.1.1.1.1.1 })
    (λ _. refl)

-- what a contract sees of an iterator: the labels that it visits, the word taken at its start, and the rank that it is at
pub record Tour : Type 0 where
  pub labels : List (ℕ × ℕ)
  pub word : ℕ
  pub rank : ℕ

abbrev pub tour_code : Coded Tour
tour_code =
    code_by (List (ℕ × ℕ) × (ℕ × ℕ)) (coded× (coded_list (coded× coded_ℕ coded_ℕ)) (coded× coded_ℕ coded_ℕ)) (λ t. (t.labels, (t.word, t.rank))) (λ p. record { labels = p.0; word = p.1.0; rank = p.1.1 }) (λ _. refl)

-- how many labels have a rank above this one
abbrev pub higher : ℕ → List (ℕ × ℕ) → ℕ
higher rank labels = length (filter (λ l. nat_lt rank l.1) labels)

-- how many labels have a rank below this one, where all are below 0
abbrev pub lower : ℕ → List (ℕ × ℕ) → ℕ
lower rank labels = cond (rank == 0) (length labels) (length (filter (λ l. nat_lt l.1 rank) labels))

-- an iterator moves to the label that it seeks and gives its slot, or stays if there is none
abbrev pub StepsTo : (Tour → Option (ℕ × ℕ)) → Tour → Option ℕ → Tour → Type 0
StepsTo seek s slot t = MatchOption (seek s) ((slot ≡ None) × (t ≡ s)) (λ l. (slot ≡ Some l.0) × (t ≡ record s { rank = l.1 }))

-- the pair behind a slot among those that can be reached
abbrev pub reachable_in : {K V : Type 0} → ℕ → List (ℕ × ℕ) → List (K × V) → Option (K × V)
reachable_in slot [] ps = None
reachable_in slot (l ∷ ls) [] = None
reachable_in slot (l ∷ ls) (p ∷ ps) = cond (l.0 == slot) (Some p) (reachable_in slot ls ps)

-- the pair that was buried in a slot
abbrev pub tombstones_in : {K V : Type 0} → ℕ → List (ℕ × (K × V)) → Option (K × V)
tombstones_in slot [] = None
tombstones_in slot (b ∷ bs) = cond (b.0 == slot) (Some b.1) (tombstones_in slot bs)

-- the labels of n pairs in the slots of the bitmap places from this one on, without gaps
abbrev pub fresh_labels : ℕ → ℕ → List (ℕ × ℕ)
fresh_labels place zero = []
fresh_labels place (suc n) = (slot_of place, place + 1) ∷ fresh_labels (place + 1) n

-- how many labels come before the one of a slot
abbrev pub standing : ℕ → List (ℕ × ℕ) → ℕ
standing slot [] = 0
standing slot (l ∷ ls) = cond (l.0 == slot) 0 (suc (standing slot ls))

-- the labels of the pairs whose keys fail a test
abbrev pub labels_left : {K V : Type 0} → (K → Bool) → List (K × V) → List (ℕ × ℕ) → List (ℕ × ℕ)
labels_left test [] ls = []
labels_left test (p ∷ ps) [] = []
labels_left test (p ∷ ps) (l ∷ ls) = cond (test p.0) (labels_left test ps ls) (l ∷ labels_left test ps ls)

-- slot and pair of each pair whose key passes a test, the greatest first
abbrev pub taken_out : {K V : Type 0} → (K → Bool) → List (K × V) → List (ℕ × ℕ) → List (ℕ × (K × V))
taken_out test [] ls = []
taken_out test (p ∷ ps) [] = []
taken_out test (p ∷ ps) (l ∷ ls) = taken_out test ps ls ++ cond (test p.0) ((l.0, p) ∷ []) []

abbrev pub is_nil : {X : Type 0} → List X → Bool
is_nil [] = true
is_nil (x ∷ xs) = false

module _ {K V : Type 0} where
  -- the pair in a slot, reachable or buried
  abbrev pub in_slot : ℕ → Cells K V → Option (K × V)
  in_slot slot a = option_or (reachable_in slot a.labels a.pairs) (tombstones_in slot a.tombstones)

  -- the bit of a slot is set
  abbrev pub IsUsed : ℕ → Cells K V → Type 0
  IsUsed slot a = (place : ℕ) × (place < a.used) × (slot_of place ≡ slot)

  -- an array without pairs
  abbrev pub no_cells : Bool → Cells K V
  no_cells frozen = record { pairs = []; used = 0; frozen = frozen; retired = false; labels = []; tombstones = [] }

  -- an array with these pairs in the lowest places, and nothing else
  abbrev pub filled_array : Bool → List (K × V) → Cells K V
  filled_array frozen pairs = record { pairs = pairs; used = length pairs; frozen = frozen; retired = false; labels = fresh_labels 0 (length pairs); tombstones = [] }

  -- without the pair behind n others; an array that loses its last pair retires, unless it is frozen
  abbrev pub removed_at : ℕ → Cells K V → Cells K V
  removed_at n a =
      record a {
        pairs = remove a.pairs n;
        retired = a.retired || is_nil (remove a.pairs n) && not a.frozen;
        labels = remove a.labels n;
        tombstones = fallen n a.labels a.pairs ++ a.tombstones;
      }

  -- with a new pair behind all others, in the lowest clear bitmap place; its rank is one above that, and the array isn't retired
  abbrev pub appended : K → V → Cells K V → Cells K V
  appended key val a = record a { pairs = a.pairs ++ (key, val) ∷ []; used = a.used + 1; retired = false; labels = a.labels ++ (slot_of a.used, a.used + 1) ∷ [] }

  module _ (cmp : K → K → Ordering) (key : K) where
    -- whether a pair has the key
    abbrev pub array_has_key : Cells K V → Bool
    array_has_key a = is_some (lookup (is_at (cmp key)) a.pairs)

    -- with a new pair, which takes the lowest clear bitmap place; the array isn't retired
    abbrev pub array_inserted : V → Cells K V → Cells K V
    array_inserted val a = record a { pairs = insert_entry cmp a.pairs key val; used = a.used + 1; retired = false; labels = entered 0 (lesser cmp key a.pairs) (slot_of a.used) a.labels }

    -- with a new pair for the one that has the key, whose rank it takes over
    abbrev pub array_replaced : V → Cells K V → Cells K V
    array_replaced val a =
        record a {
          pairs = insert_entry cmp (remove_entry (is_at (cmp key)) a.pairs) key val;
          used = a.used + 1;
          labels = handed_on (lesser cmp key a.pairs) (slot_of a.used) a.labels;
          tombstones = fallen (lesser cmp key a.pairs) a.labels a.pairs ++ a.tombstones;
        }

    -- with a new pair for the one that has the key, in its slot
    abbrev pub array_overwritten : V → Cells K V → Cells K V
    array_overwritten val a = record a { pairs = insert_entry cmp (remove_entry (is_at (cmp key)) a.pairs) key val }

    -- without the pair that has the key
    abbrev pub array_removed : Cells K V → Cells K V
    array_removed a = record (removed_at (lesser cmp key a.pairs) a) { pairs = remove_entry (is_at (cmp key)) a.pairs }

  module _ (cmp : K → K → Ordering) where
    -- with these pairs behind all others, each as an insertion leaves it
    abbrev pub array_extended : List (K × V) → Cells K V → Cells K V
    array_extended [] a = a
    array_extended (p ∷ ps) a = array_extended ps (array_inserted cmp p.0 p.1 a)
