-- the slots of a directory's segments, by the rows of its groups
use Rattle.std.proofs.Common.{◌≡◌, ℕ, ◌+◌, ◌≤◌, Option, None, Some, List, [], ◌∷◌, ◌++◌, length, map, get_or, reverse, refl, sym, ap, ◌∙◌, arith, subst, inl, inr}
use Rattle.std.proofs.lemmas.Bool.Decides.{eqb_tells}
use Rattle.std.proofs.lemmas.List.{reverse-append}
use Rattle.std.proofs.lemmas.List.Folds.{flat_map-map}
use Rattle.std.proofs.lemmas.List.Elements.{All-append, All-cons, All-head, All-tail}
use Rattle.std.proofs.lemmas.List.Sums.{sum_by-append, sum_by-cons}
use Rattle.std.specs.List.{All, flat_map, sum_by}
use Rattle.sdd_world.specs.Counting.{Counted, same_hold, tally}
use Rattle.sdd_world.specs.Groups.{GroupState, GroupsGrow, IsOut, SameRows, name_of, row_at}
use Rattle.sdd_world.specs.Holding.{Hold, OwnedIn, OwnedItem, OwnerGroup, SharedIn, SharedItem}
use Rattle.sdd_world.specs.Place.{IsShared}
use Rattle.sdd_world.specs.State.{State, value_at}
use Rattle.sdd_world.specs.Steps.{held_in, hit, times}
use Rattle.sdd_world.specs.declared.groups.Group.{Group}
use Rattle.sdd_world.proofs.HeldGroupLemmas.{held_out, row_shared, row_stays}
use Rattle.sdd_world.proofs.ListLemmas.{hit-same, hit-other, named_times}
use Rattle.sdd_world.proofs.OwnerBoundLemmas.{names}
use Rattle.version_views.specs.Items.{held_by, names_of, row_owners, slots_in, slots_of}
use Rattle.version_views.specs.declared.directory.Directory.{Directory}
use Rattle.version_views.specs.declared.item.Item.{Item}
use Rattle.version_views.specs.declared.item.Item.TheVariants as items
use Rattle.version_views.specs.declared.row.Row.{Row}

-- what is named in a list has what all of it have
pub all_named : (P : ℕ → Type 0) (xs : List ℕ) (i : ℕ) → All P xs → 1 ≤ times i xs → P i
all_named P [] i all h = absurd (omega (arith, h))
all_named P (x ∷ xs) i all h = elim (eqb_tells x i) [
  | inl e ↦ subst P e.1 (All-head P x xs all)
  | inr e ↦ let sum = sum_by-cons (λ k. hit k i) x xs in let other = hit-other x i (λ g. e.1 (sym g)) in all_named P xs i (All-tail P x xs all) (omega (arith, h, sum, other))
]

-- and all of it have what each does that is named
pub all_by_name : (P : ℕ → Type 0) (xs : List ℕ) → ((i : ℕ) → 1 ≤ times i xs → P i) → All P xs
all_by_name P xs each k d h = each (get_or xs k d) (named_times xs k d h)

-- of two lists, one behind the other
pub all_front : {X : Type 0} (P : X → Type 0) (xs ys : List X) → All P (xs ++ ys) → All P xs
all_front P [] ys all = λ k d h. absurd (omega (arith, h))
all_front P (x ∷ xs) ys all = All-cons P x xs (All-head P x (xs ++ ys) all) (all_front P xs ys (All-tail P x (xs ++ ys) all))

pub all_rear : {X : Type 0} (P : X → Type 0) (xs ys : List X) → All P (xs ++ ys) → All P ys
all_rear P [] ys all = all
all_rear P (x ∷ xs) ys all = all_rear P xs ys (All-tail P x (xs ++ ys) all)

pub sum_reverse : {X : Type 0} (f : X → ℕ) (xs : List X) → sum_by f (reverse xs) ≡ sum_by f xs
sum_reverse f [] = refl
sum_reverse f (x ∷ xs) =
    let turned = ap (sum_by f) (reverse-append (x ∷ []) xs) in
    omega (arith, turned, sum_by-append f (reverse xs) (x ∷ []), sum_reverse f xs, sum_by-cons f x xs)

hit-small : (i j : ℕ) → hit i j ≤ 1
hit-small i j = elim (eqb_tells j i) [
  | inl t ↦ subst (λ k. hit i k ≤ 1) (sym t.1) (let one = hit-same i in omega (arith, one))
  | inr t ↦ let none = hit-other i j t.1 in omega (arith, none)
]

-- ---- groups that are named

-- owners of groups are owners of their names, and of nothing else
pub tally_groups : (g : ℕ) (xs : List ℕ) → tally (OwnerGroup g) (map OwnerGroup xs) ≡ times g xs
tally_groups g [] = refl
tally_groups g (x ∷ xs) = omega (arith, tally_groups g xs, sum_by-cons (λ k. same_hold (OwnerGroup g) k) (OwnerGroup x) (map OwnerGroup xs), sum_by-cons (λ i. hit i g) x xs)

tally_none : (h : Hold) → ((g : ℕ) → same_hold h (OwnerGroup g) ≡ 0) → (xs : List ℕ) → tally h (map OwnerGroup xs) ≡ 0
tally_none h none [] = refl
tally_none h none (x ∷ xs) = omega (arith, none x, tally_none h none xs, sum_by-cons (λ k. same_hold h k) (OwnerGroup x) (map OwnerGroup xs))

names_groups : (gs : List GroupState) (j : ℕ) (xs : List ℕ) → sum_by (λ h. names gs j h) (map OwnerGroup xs) ≡ sum_by (λ g. times j (row_at gs g)) xs
names_groups gs j [] = refl
names_groups gs j (x ∷ xs) = omega (arith, names_groups gs j xs, sum_by-cons (λ h. names gs j h) (OwnerGroup x) (map OwnerGroup xs), sum_by-cons (λ g. times j (row_at gs g)) x xs)

-- a slot is named as often as the group whose row has it
pub often_named : (gs : List GroupState) (g j : ℕ) (ks : List ℕ) → 1 ≤ times j (row_at gs g) → times g ks ≤ times j (flat_map (λ k. row_at gs k) ks)
often_named gs g j [] h = omega arith
often_named gs g j (k ∷ ks) h =
    let sum = sum_by-append (λ x. hit x j) (row_at gs k) (flat_map (λ x. row_at gs x) ks) in
    let more = sum_by-cons (λ i. hit i g) k ks in
    let rest = often_named gs g j ks h in
    elim (eqb_tells k g) [
      | inl e ↦ let here = ap (λ x. times j (row_at gs x)) e.1 in let one = hit-small k g in omega (arith, sum, more, rest, here, h, one)
      | inr e ↦ let other = hit-other k g (λ f. e.1 (sym f)) in omega (arith, sum, more, rest, other)
    ]

-- owners of groups name what their rows do
pub names_joined : (gs : List GroupState) (j : ℕ) (ks : List ℕ) → sum_by (λ h. names gs j h) (map OwnerGroup ks) ≡ times j (flat_map (λ k. row_at gs k) ks)
names_joined gs j [] = refl
names_joined gs j (k ∷ ks) = omega (arith, names_joined gs j ks, sum_by-cons (λ h. names gs j h) (OwnerGroup k) (map OwnerGroup ks), sum_by-append (λ x. hit x j) (row_at gs k) (flat_map (λ x. row_at gs x) ks))

-- owners of other kinds name an item once at most
pub names_few : (gs : List GroupState) (j : ℕ) (hs : List Hold) → ((g : ℕ) → tally (OwnerGroup g) hs ≡ 0) → sum_by (λ h. names gs j h) hs ≤ length hs
names_few gs j [] none = omega arith
names_few gs j (h ∷ hs) none =
    let rest = names_few gs j hs (λ g. let n = none g in omega (arith, n, sum_by-cons (λ k. same_hold (OwnerGroup g) k) h hs)) in
    omega (arith, rest, one h (λ g. let n = none g in omega (arith, n, sum_by-cons (λ k. same_hold (OwnerGroup g) k) h hs)), sum_by-cons (λ k. names gs j k) h hs)
  where
    one : (k : Hold) → ((g : ℕ) → same_hold (OwnerGroup g) k ≡ 0) → names gs j k ≤ 1
    one (OwnedItem i) h = omega arith
    one (SharedItem i) h = hit-small i j
    one (OwnedIn c) h = omega arith
    one (SharedIn c) h = omega arith
    one (OwnerGroup g) h = absurd (let n = h g in omega (arith, n, hit-same g))

module _ {K : Type 0} where
  -- the slots of rows, where groups have these
  abbrev pub named_slots : List GroupState → List (Row K Group) → List ℕ
  named_slots gs rows = flat_map (row_owners (slots_in gs)) rows

  -- how often they name one
  pub times_slots : (gs : List GroupState) (j : ℕ) (rows : List (Row K Group)) → times j (named_slots gs rows) ≡ sum_by (λ g. times j (row_at gs g)) (names_of rows)
  times_slots gs j [] = refl
  times_slots gs j (r ∷ rows) = omega (arith, times_slots gs j rows, sum_by-append (λ k. hit k j) (slots_in gs r.segments) (named_slots gs rows), sum_by-cons (λ g. times j (row_at gs g)) (name_of r.segments) (names_of rows))

  -- a row that is named names its slots
  pub named_in : (gs : List GroupState) (g j : ℕ) (rows : List (Row K Group)) → 1 ≤ times g (names_of rows) → 1 ≤ times j (row_at gs g) → 1 ≤ times j (named_slots gs rows)
  named_in gs g j [] named h = absurd (omega (arith, named))
  named_in gs g j (r ∷ rows) named h =
      let sum = sum_by-append (λ k. hit k j) (slots_in gs r.segments) (named_slots gs rows) in
      elim (eqb_tells (name_of r.segments) g) [
        | inl e ↦ let here = ap (λ x. times j (row_at gs x)) e.1 in omega (arith, sum, here, h)
        | inr e ↦
            let other = hit-other (name_of r.segments) g (λ f. e.1 (sym f)) in
            let rest = named_in gs g j rows (omega (arith, named, other, sum_by-cons (λ i. hit i g) (name_of r.segments) (names_of rows))) h in
            omega (arith, sum, rest)
      ]

  -- and a slot is named by a row
  pub named_by : (gs : List GroupState) (j : ℕ) (rows : List (Row K Group)) → 1 ≤ times j (named_slots gs rows) → (g : ℕ) × (1 ≤ times g (names_of rows)) × (1 ≤ times j (row_at gs g))
  named_by gs j [] h = absurd (omega (arith, h))
  named_by gs j (r ∷ rows) h =
      let name = name_of r.segments in
      let sum = sum_by-append (λ k. hit k j) (slots_in gs r.segments) (named_slots gs rows) in
      let more : (g : ℕ) → times g (names_of (r ∷ rows)) ≡ hit name g + times g (names_of rows) = λ g. sum_by-cons (λ i. hit i g) name (names_of rows) in
      elim (eqb_tells (times j (row_at gs name)) 0) [
        | inl z ↦
            let none = z.1 in
            let rest = named_by gs j rows (omega (arith, h, sum, none)) in
            let there = rest.1 in
            (rest.0, omega (arith, there, more rest.0), rest.2)
        | inr z ↦ let some = z.1 in (name, omega (arith, more name, hit-same name), omega (arith, some))
      ]

  pub some_named : (P : ℕ → Type 0) (g : ℕ) (rows : List (Row K Group)) → All (λ r. P (name_of r.segments)) rows → 1 ≤ times g (names_of rows) → P g
  some_named P g [] all h = absurd (omega (arith, h))
  some_named P g (r ∷ rows) all h = elim (eqb_tells (name_of r.segments) g) [
    | inl e ↦ subst P e.1 (All-head (λ x. P (name_of x.segments)) r rows all)
    | inr e ↦ let other = hit-other (name_of r.segments) g (λ f. e.1 (sym f)) in some_named P g rows (All-tail (λ x. P (name_of x.segments)) r rows all) (omega (arith, h, other, sum_by-cons (λ i. hit i g) (name_of r.segments) (names_of rows)))
  ]

  -- so no row stands twice where no slot does
  pub rows_once : (gs : List GroupState) (rows : List (Row K Group)) → All (λ r. 1 ≤ length (row_at gs (name_of r.segments))) rows → ((j : ℕ) → times j (named_slots gs rows) ≤ 1) → (g : ℕ) → times g (names_of rows) ≤ 1
  rows_once gs rows some once g = elim (eqb_tells (times g (names_of rows)) 0) [
    | inl z ↦ let none = z.1 in omega (arith, none)
    | inr z ↦
        let more = z.1 in
        let inside = some_named (λ k. 1 ≤ length (row_at gs k)) g rows some (omega (arith, more)) in
        let j = get_or (row_at gs g) 0 0 in
        let few = often_named gs g j (names_of rows) (named_times (row_at gs g) 0 0 (omega (arith, inside))) in
        let same = ap (times j) (flat_map-map (λ k. row_at gs k) (λ (r : Row K Group). name_of r.segments) rows) in
        let one = once j in
        omega (arith, few, one, same)
  ]

  -- what all rows have, their slots have
  pub all_slots : (P : ℕ → Type 0) (gs : List GroupState) (rows : List (Row K Group)) → All (λ g. All P (row_at gs g)) (names_of rows) → All P (named_slots gs rows)
  all_slots P gs [] all = λ k d h. absurd (omega (arith, h))
  all_slots P gs (r ∷ rows) all = All-append P (slots_in gs r.segments) (named_slots gs rows) (All-head (λ g. All P (row_at gs g)) (name_of r.segments) (names_of rows) all) (all_slots P gs rows (All-tail (λ g. All P (row_at gs g)) (name_of r.segments) (names_of rows) all))

  -- where groups have the same rows, so has the directory
  pub same_slots : (gs hs : List GroupState) (rows : List (Row K Group)) → All (λ g. row_at hs g ≡ row_at gs g) (names_of rows) → named_slots hs rows ≡ named_slots gs rows
  same_slots gs hs [] same = refl
  same_slots gs hs (r ∷ rows) same =
      let rest = same_slots gs hs rows (All-tail (λ g. row_at hs g ≡ row_at gs g) (name_of r.segments) (names_of rows) same) in
      let here = All-head (λ g. row_at hs g ≡ row_at gs g) (name_of r.segments) (names_of rows) same in
      ap (λ xs. xs ++ named_slots hs rows) here ∙ ap (λ xs. row_at gs (name_of r.segments) ++ xs) rest

  -- owners of the groups of rows
  abbrev pub held_rows : List (Row K Group) → List Hold
  held_rows rows = reverse (map OwnerGroup (names_of rows))

  pub held_groups : (g : ℕ) (rows : List (Row K Group)) → tally (OwnerGroup g) (held_rows rows) ≡ times g (names_of rows)
  held_groups g rows = omega (arith, sum_reverse (λ k. same_hold (OwnerGroup g) k) (map OwnerGroup (names_of rows)), tally_groups g (names_of rows))

  pub held_none : (h : Hold) → ((g : ℕ) → same_hold h (OwnerGroup g) ≡ 0) → (rows : List (Row K Group)) → tally h (held_rows rows) ≡ 0
  held_none h none rows = omega (arith, sum_reverse (λ k. same_hold h k) (map OwnerGroup (names_of rows)), tally_none h none (names_of rows))

  -- what is named by them are the slots of the rows
  pub names_held : (gs : List GroupState) (j : ℕ) (rows : List (Row K Group)) → sum_by (λ h. names gs j h) (held_rows rows) ≡ times j (named_slots gs rows)
  names_held gs j rows = omega (arith, sum_reverse (λ h. names gs j h) (map OwnerGroup (names_of rows)), names_groups gs j (names_of rows), times_slots gs j rows)

module _ {K V : Type 0} {s : ℕ} where
  -- an item holds owners of groups alone
  pub holds_none : (h : Hold) → ((g : ℕ) → same_hold h (OwnerGroup g) ≡ 0) → (o : Option (Item K V s)) → tally h (held_in held_by o) ≡ 0
  holds_none h none None = refl
  holds_none h none (Some (items.Directory d)) = held_none h none d.rows.items
  holds_none h none (Some (items.Segment t)) = refl

  -- a directory that is there keeps its groups out
  module _ (hand : List Hold) (w : State (Item K V s)) (counted : Counted held_by hand w) (i : ℕ) (d : Directory K Group) (is : value_at w i ≡ Some (items.Directory d)) where
    holding : (g : ℕ) → 1 ≤ times g (names_of d.rows.items) → 1 ≤ tally (OwnerGroup g) (held_rows d.rows.items)
    holding g named = omega (arith, named, held_groups g d.rows.items)

    pub groups_out : (g : ℕ) → 1 ≤ times g (names_of d.rows.items) → IsOut w.groups g
    groups_out g named = held_out held_by hand w counted i (items.Directory d) is g (holding g named)

    -- and owns its segments
    pub owns_slots : All (λ j. IsShared w j) (slots_of w.groups d)
    owns_slots = all_by_name (λ j. IsShared w j) (slots_of w.groups d) (λ j named. let r = named_by w.groups j d.rows.items named in all_named (λ k. IsShared w k) (row_at w.groups r.0) j (row_shared held_by hand w counted i (items.Directory d) is r.0 (holding r.0 r.1)) r.2)

    -- while groups only come, its rows stay
    pub rows_grown : (w' : State (Item K V s)) → GroupsGrow w.groups w'.groups → All (λ g. row_at w'.groups g ≡ row_at w.groups g) (names_of d.rows.items)
    rows_grown w' grow = all_by_name (λ g. row_at w'.groups g ≡ row_at w.groups g) (names_of d.rows.items) (λ g named. (grow g (groups_out g named)).1)

    -- where it is there before and afterwards, they stay
    pub rows_same : (hand' : List Hold) (w' : State (Item K V s)) → Counted held_by hand' w' → value_at w' i ≡ Some (items.Directory d) → SameRows w.groups w'.groups → All (λ g. row_at w'.groups g ≡ row_at w.groups g) (names_of d.rows.items)
    rows_same hand' w' counted' is' same = all_by_name (λ g. row_at w'.groups g ≡ row_at w.groups g) (names_of d.rows.items) (λ g named. row_stays held_by hand w counted i (items.Directory d) is g (holding g named) hand' w' counted' is' same)
