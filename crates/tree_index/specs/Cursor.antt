-- A cursor over a list: bounds, and two ends, of which one moves forward and the other backward.
use Rattle.std.specs.Prelude.{◌≡◌, ℕ, ◌+◌, ◌-◌, Bool, true, false, cond, nat_lt, List, [], drop, length, slice_get, Option, Some, None, refl}
use Rattle.std.specs.Option.{is_some, option_map}
use Rattle.std.specs.Coded.{Coded, code_by, coded×, coded_bool, coded_ℕ, coded_list, coded_option}
use Rattle.std.specs.Borrow.{Bor}
use Rattle.std.specs.declared.cmp.Ordering.{Ordering}
use Rattle.std.specs.declared.ops.Bound.{Bound}
use Rattle.std.specs.declared.ops.Bound.TheVariants.{Included, Excluded, Unbounded}
pub use Rattle.tree_nodes.specs.Bounds.{before_start, up_to_end}
use Rattle.leaf_array.specs.Lookups.{deref_bound}
use Rattle.tree_index.specs.declared.cursor.End.{End}
use Rattle.tree_index.specs.declared.cursor.End.TheVariants.{Unopened, At, Done}
use Rattle.std.specs.BTreeMap.Range.{is_from_start, is_past_end}

pub record Cursor (K V : Type 0) : Type 0 where
  pub pairs : List (K × V)
  pub lower : Bound K
  pub upper : Bound K
  pub forward : End ℕ
  pub backward : End ℕ

-- a cursor over a whole list
abbrev pub whole : {K V : Type 0} → List (K × V) → End ℕ → End ℕ → Cursor K V
whole pairs forward backward = record { pairs = pairs; lower = Unbounded; upper = Unbounded; forward = forward; backward = backward }

-- a cursor over a list that hasn't been asked, within bounds on lent keys
abbrev pub cursor_within : {K V : Type 0} → List (K × V) → Bound (Bor K) → Bound (Bor K) → Cursor K V
cursor_within pairs lower upper = record { pairs = pairs; lower = deref_bound lower; upper = deref_bound upper; forward = Unopened; backward = Unopened }

-- a lies before b, provided that both are at places
abbrev pub lies_before : End ℕ → End ℕ → Bool
lies_before a Unopened = true
lies_before Unopened b = true
lies_before (At p) (At q) = nat_lt p q
lies_before a b = false

abbrev pub pair_at : {K V : Type 0} → List (K × V) → End ℕ → Option (K × V)
pair_at pairs Unopened = None
pair_at pairs (At p) = slice_get pairs p
pair_at pairs Done = None

module _ {K V : Type 0} (cmp : K → K → Ordering) where
  -- where the forward end moves: first to the first place within the lower bound, then to the next place, and past the last one it is done
  abbrev pub forth : Bound K → List (K × V) → End ℕ → End ℕ
  forth lower pairs Unopened = cond (nat_lt (before_start cmp lower pairs) (length pairs)) (At (before_start cmp lower pairs)) Unopened
  forth lower pairs (At p) = cond (nat_lt (p + 1) (length pairs)) (At (p + 1)) Done
  forth lower pairs Done = Done

  -- where the backward end moves: the mirror of it
  abbrev pub back : Bound K → List (K × V) → End ℕ → End ℕ
  back upper pairs Unopened = cond (nat_lt 0 (up_to_end cmp upper pairs)) (At (up_to_end cmp upper pairs - 1)) Unopened
  back upper pairs (At p) = cond (nat_lt 0 p) (At (p - 1)) Done
  back upper pairs Done = Done

  -- a pair, if it lies within the upper bound; if it lies within the lower one
  abbrev pub kept_below : Bound K → Option (K × V) → Option (K × V)
  kept_below upper None = None
  kept_below upper (Some p) = cond (is_past_end cmp upper p.0) None (Some p)

  abbrev pub kept_above : Bound K → Option (K × V) → Option (K × V)
  kept_above lower None = None
  kept_above lower (Some p) = cond (is_from_start cmp lower p.0) (Some p) None

  -- the pair of the forward end, if it lies within the upper bound; of the backward end, if it lies within the lower one
  abbrev pub shown_forth : Cursor K V → Option (K × V)
  shown_forth c = kept_below c.upper (pair_at c.pairs c.forward)

  abbrev pub shown_back : Cursor K V → Option (K × V)
  shown_back c = kept_above c.lower (pair_at c.pairs c.backward)

  abbrev pub moved_forth : Cursor K V → Cursor K V
  moved_forth c = record c { forward = forth c.lower c.pairs c.forward }

  abbrev pub moved_back : Cursor K V → Cursor K V
  moved_back c = record c { backward = back c.upper c.pairs c.backward }

  -- an end that has moved answers its pair, as long as the two ends haven't met
  abbrev pub next_of : Cursor K V → Option (K × V)
  next_of c = cond (lies_before (moved_forth c).forward c.backward) (shown_forth (moved_forth c)) None

  abbrev pub next_back_of : Cursor K V → Option (K × V)
  next_back_of c = cond (lies_before c.forward (moved_back c).backward) (shown_back (moved_back c)) None

  -- a cursor turns where one end alone is open and shows a pair, or none is
  abbrev pub turns : Cursor K V → End ℕ → End ℕ → Bool
  turns c Unopened Unopened = true
  turns c forward Unopened = is_some (shown_forth c)
  turns c Unopened backward = is_some (shown_back c)
  turns c forward backward = false

  abbrev pub can_turn : Cursor K V → Bool
  can_turn c = turns c c.forward c.backward

  -- its ends change places
  abbrev pub turned : Cursor K V → Cursor K V
  turned c = cond (can_turn c) (record c { forward = c.backward; backward = c.forward }) c

module _ {K V : Type 0} where
  -- the pairs from an end on
  abbrev pub pairs_from : List (K × V) → End ℕ → List (K × V)
  pairs_from pairs Unopened = []
  pairs_from pairs (At place) = drop place pairs
  pairs_from pairs Done = []

  -- the pair of a cursor's forward end and those behind it
  abbrev pub unread : Cursor K V → List (K × V)
  unread c = pairs_from c.pairs c.forward

  -- where an end is after it passed this many pairs, and the cursor whose forward end did
  abbrev pub passed_by : ℕ → List (K × V) → End ℕ → End ℕ
  passed_by count pairs Unopened = Unopened
  passed_by count pairs (At p) = cond (nat_lt (p + count) (length pairs)) (At (p + count)) Done
  passed_by count pairs Done = Done

  abbrev pub passed : ℕ → Cursor K V → Cursor K V
  passed count c = record c { forward = passed_by count c.pairs c.forward }

-- the pair behind two references
abbrev pub deref_pair : {K V : Type 0} → Option (Bor K × Bor V) → Option (K × V)
deref_pair r = option_map (λ p. (p.0.now, p.1.now)) r

-- what a call of `next`, and of `next_back`, answers and leaves
module _ {K V : Type 0} (cmp : K → K → Ordering) where
  abbrev pub GoesForth : Cursor K V → Option (Bor K × Bor V) → Cursor K V → Type 0
  GoesForth c r d = (deref_pair r ≡ next_of cmp c) × (d ≡ moved_forth cmp c)

  abbrev pub GoesBack : Cursor K V → Option (Bor K × Bor V) → Cursor K V → Type 0
  GoesBack c r d = (deref_pair r ≡ next_back_of cmp c) × (d ≡ moved_back cmp c)

-- how many pairs lie behind the forward end, and before the backward one
abbrev pub start_of : {K V : Type 0} → Cursor K V → End ℕ → ℕ
start_of c Unopened = 0
start_of c (At p) = p + 1
start_of c Done = length c.pairs

abbrev pub stop_of : {K V : Type 0} → Cursor K V → End ℕ → ℕ
stop_of c Unopened = length c.pairs
stop_of c (At p) = p
stop_of c Done = 0

-- how many pairs lie between the two ends
abbrev pub count_between : {K V : Type 0} → Cursor K V → ℕ
count_between c = stop_of c c.backward - start_of c c.forward

-- ---- cursors as stored values

module _ {K : Type 0} where
  abbrev bound_cases : Bound K → Option (Bool × K)
  bound_cases (Included k) = Some (true, k)
  bound_cases (Excluded k) = Some (false, k)
  bound_cases Unbounded = None

  abbrev bound_of : Option (Bool × K) → Bound K
  bound_of None = Unbounded
  bound_of (Some (true, k)) = Included k
  bound_of (Some (false, k)) = Excluded k

  pub bound_same : (b : Bound K) → bound_of (bound_cases b) ≡ b
  bound_same (Included k) = refl
  bound_same (Excluded k) = refl
  bound_same Unbounded = refl

  abbrev pub bound_code : Coded K → Coded (Bound K)
  bound_code k = code_by (Option (Bool × K)) (coded_option (coded× coded_bool k)) bound_cases bound_of bound_same

abbrev end_cases : End ℕ → Option (Option ℕ)
end_cases Unopened = None
end_cases (At p) = Some (Some p)
end_cases Done = Some None

abbrev end_of : Option (Option ℕ) → End ℕ
end_of None = Unopened
end_of (Some None) = Done
end_of (Some (Some p)) = At p

pub end_same : (e : End ℕ) → end_of (end_cases e) ≡ e
end_same Unopened = refl
end_same (At p) = refl
end_same Done = refl

abbrev pub end_code : Coded (End ℕ)
end_code = code_by (Option (Option ℕ)) (coded_option (coded_option coded_ℕ)) end_cases end_of end_same

abbrev pub cursor_code : {K V : Type 0} → Coded K → Coded V → Coded (Cursor K V)
cursor_code {K} {V} k v =
    code_by
    (List (K × V) × ((Bound K × Bound K) × (End ℕ × End ℕ)))
    (coded× (coded_list (coded× k v)) (coded× (coded× (bound_code k) (bound_code k)) (coded× end_code end_code)))
    (λ c. (c.pairs, ((c.lower, c.upper), (c.forward, c.backward))))
    (λ p. record { pairs = p.0; lower = p.1.0.0; upper = p.1.0.1; forward = p.1.1.0; backward = p.1.1.1 })
    (λ _. refl)
