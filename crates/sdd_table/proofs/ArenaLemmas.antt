-- the fields of groups, as one entry changes
use Rattle.std.proofs.Common.{◌≡◌, ◌≢◌, ◌⊎◌, ℕ, zero, suc, ◌<◌, ◌≤◌, List, [], ◌∷◌, ◌++◌, length, map, get_or, set, vec_capacity, leb, cond, true, false, ◌-◌, refl, sym, ap, ◌∙◌, arith, subst, inl, inr, length-set, get_or-set_same, get_or-set_other}
use Rattle.std.proofs.lemmas.List.{map-set, length-map, get_or-map}
use Rattle.std.proofs.lemmas.List.Sums.{sum_by-set, sum_by-cons}
use Rattle.std.proofs.lemmas.Bool.Decides.{eqb_tells, nat_tests}
use Rattle.std.specs.Global.{Vec}
use Rattle.std.specs.List.{sum_by}
use Rattle.std.specs.Vec.{with_item}
use Rattle.sdd_table.specs.Names.{Lists}
use Rattle.sdd_table.proofs.ListLemmas.{lists_names, lists_pop, lists_push, lists_same, lists_some}
use Rattle.sdd_table.specs.Arena.{IsArena, group_of, groups_of}
use Rattle.sdd_table.specs.Groups.{GroupState, IsFreeName, IsOut, count_at, group_at, is_vacant, less_owned, no_group, row_at, row_ended, with_count, without}
use Rattle.sdd_table.specs.Tokens.{kept_slot}
use Rattle.sdd_table.specs.declared.groups.Entry.{Entry}
use Rattle.sdd_table.specs.declared.groups.Groups.TheInside.{Inside}

pub out_inside : (gs : List GroupState) (g : ℕ) → IsOut gs g → g < length gs
out_inside [] g h = absurd (omega (arith, h))
out_inside (x ∷ xs) zero h = omega arith
out_inside (x ∷ xs) (suc g) h = let r = out_inside xs g h in omega (arith, r)

at_most_one : (n : ℕ) → is_vacant (record { count = n; row = [] }) ≤ 1
at_most_one zero = omega arith
at_most_one (suc n) = omega arith

-- at most all names are free
pub few_free : (gs : List GroupState) → sum_by is_vacant gs ≤ length gs
few_free [] = omega arith
few_free (x ∷ xs) = omega (arith, sum_by-cons is_vacant x xs, few_free xs, at_most_one x.count)

pub not_free : (n : ℕ) (row : List ℕ) → 0 < n → is_vacant (record { count = n; row = row }) ≡ 0
not_free zero row h = absurd (omega (arith, h))
not_free (suc n) row h = refl

pub is_free : (n : ℕ) (row : List ℕ) → 1 ≤ is_vacant (record { count = n; row = row }) → n ≡ 0
is_free zero row h = refl
is_free (suc n) row h = absurd (omega (arith, h))

pub free_again : (n : ℕ) (row : List ℕ) → n ≡ 0 → is_vacant (record { count = n; row = row }) ≡ 1
free_again zero row h = refl
free_again (suc n) row h = absurd (omega (arith, h))

-- what has no count has no row, after a change of one group
abbrev Emptied : List GroupState → Type 0
Emptied gs = (g : ℕ) → count_at gs g ≡ 0 → row_at gs g ≡ []

still_empty : (gs : List GroupState) (g : ℕ) (s : GroupState) → g < length gs → (s.count ≡ 0 → s.row ≡ []) → Emptied gs → Emptied (set gs g s)
still_empty gs g s lt here h j none =
    elim (eqb_tells j g) [
      | inl t ↦
          let P : ℕ → Type 0 = λ k. count_at (set gs g s) k ≡ 0 → row_at (set gs g s) k ≡ [] in
          let same = get_or-set_same gs g s no_group lt in
          subst P (sym t.1) (λ z. ap (λ (x : GroupState). x.row) same ∙ here (sym (ap (λ (x : GroupState). x.count) same) ∙ z)) none
      | inr t ↦
          let other = get_or-set_other gs g j s no_group t.1 in
          ap (λ (x : GroupState). x.row) other ∙ h j (sym (ap (λ (x : GroupState). x.count) other) ∙ none)
    ]

module _ (a : Inside) where
  -- an entry as its group
  pub known : (g : ℕ) (e : Entry) → g < length a.entries.items → e ≡ get_or a.entries.items g e → group_at (groups_of a) g ≡ group_of e
  known g e lt is = get_or-map (λ x. group_of x) a.entries.items g e no_group lt ∙ ap (λ x. group_of x) (sym is)

  pub row_known : (g : ℕ) (e : Entry) → g < length a.entries.items → e ≡ get_or a.entries.items g e → row_at (groups_of a) g ≡ map kept_slot e.row.items
  row_known g e lt is = ap (λ (s : GroupState). s.row) (known g e lt is)

  pub within : (g : ℕ) → g < length (groups_of a) → g < length a.entries.items
  within g h = omega (arith, h, length-map a.entries.items (λ x. group_of x))

  -- another entry in the place of one
  pub entry_set : (g : ℕ) (e : Entry) (free : Vec ℕ) → groups_of (record a { entries = with_item a.entries g e; free = free }) ≡ set (groups_of a) g (group_of e)
  entry_set g e free = map-set (λ x. group_of x) a.entries.items g e

  -- the invariant, with another entry
  pub arena_with : (g : ℕ) (e : Entry) (free : Vec ℕ) → IsArena a → g < length a.entries.items → Lists is_vacant (set (groups_of a) g (group_of e)) free.items → length a.entries.items ≤ vec_capacity free → (e.count ≡ 0 → map kept_slot e.row.items ≡ []) → IsArena (record a { entries = with_item a.entries g e; free = free })
  arena_with g e free h lt names room none =
      let same = sym (entry_set g e free) in
      let inside : g < length (groups_of a) = omega (arith, lt, length-map a.entries.items (λ x. group_of x)) in
      record {
        names = subst (λ (xs : List GroupState). Lists is_vacant xs free.items) same names;
        room = omega (arith, room, length-set a.entries.items g e);
        empty = subst (λ (xs : List GroupState). Emptied xs) same (still_empty (groups_of a) g (group_of e) inside none h.empty);
      }

  -- a count that isn't 0 becomes another one
  pub arena_counted : (g : ℕ) (e : Entry) → IsArena a → g < length a.entries.items → 0 < count_at (groups_of a) g → 0 < e.count → IsArena (record a { entries = with_item a.entries g e; free = a.free })
  arena_counted g e h lt was is =
      let inside : g < length (groups_of a) = omega (arith, lt, length-map a.entries.items (λ x. group_of x)) in
      let was' : is_vacant (group_at (groups_of a) g) ≡ 0 = not_free (count_at (groups_of a) g) (row_at (groups_of a) g) was in
      let is' : is_vacant (group_of e) ≡ 0 = not_free e.count (map kept_slot e.row.items) is in
      arena_with g e a.free h lt (lists_same is_vacant (groups_of a) g (group_of e) no_group a.free.items inside (is' ∙ sym was') h.names) h.room (λ z. absurd (omega (arith, is, z)))

  -- a group ends
  pub arena_ended : (g : ℕ) (e : Entry) (free : Vec ℕ) → IsArena a → g < length a.entries.items → 0 < count_at (groups_of a) g → e.count ≡ 0 → map kept_slot e.row.items ≡ [] → free.items ≡ a.free.items ++ g ∷ [] → vec_capacity a.free ≤ vec_capacity free → IsArena (record a { entries = with_item a.entries g e; free = free })
  arena_ended g e free h lt was none row items room =
      let inside : g < length (groups_of a) = omega (arith, lt, length-map a.entries.items (λ x. group_of x)) in
      let was' : is_vacant (group_at (groups_of a) g) ≡ 0 = not_free (count_at (groups_of a) g) (row_at (groups_of a) g) was in
      let is' : is_vacant (group_of e) ≡ 1 = free_again e.count (map kept_slot e.row.items) none in
      arena_with g e free h lt (lists_push is_vacant (groups_of a) g (group_of e) no_group a.free.items free.items items inside was' is' h.names) (omega (arith, h.room, room)) (λ z. row)

  -- a name of the stack is free
  pub named_free : (g : ℕ) (rest : List ℕ) → IsArena a → a.free.items ≡ rest ++ g ∷ [] → (g < length (groups_of a)) × (count_at (groups_of a) g ≡ 0)
  named_free g rest h e =
      let r = lists_names is_vacant (groups_of a) g no_group a.free.items rest e h.names in
      (r.0, is_free (count_at (groups_of a) g) (row_at (groups_of a) g) r.1)

  -- a group begins
  pub arena_made : (g : ℕ) (e : Entry) (free : Vec ℕ) → IsArena a → e.count ≡ 1 → a.free.items ≡ free.items ++ g ∷ [] → vec_capacity a.free ≤ vec_capacity free → IsArena (record a { entries = with_item a.entries g e; free = free })
  arena_made g e free h one items room =
      let r = named_free g free.items h items in
      let was' : is_vacant (group_at (groups_of a) g) ≡ 1 = free_again (count_at (groups_of a) g) (row_at (groups_of a) g) r.1 in
      let is' : is_vacant (group_of e) ≡ 0 = not_free e.count (map kept_slot e.row.items) (omega (arith, one)) in
      arena_with g e free h (within g r.0) (lists_pop is_vacant (groups_of a) g (group_of e) no_group a.free.items free.items items r.0 was' is' h.names) (omega (arith, h.room, room)) (λ z. absurd (omega (arith, one, z)))

  -- there is room for one more free name
  pub room_again : (g : ℕ) → IsArena a → 0 < count_at (groups_of a) g → length a.free.items < vec_capacity a.free
  room_again g h was =
      let inside = out_inside (groups_of a) g was in
      let was' : is_vacant (group_at (groups_of a) g) ≡ 0 = not_free (count_at (groups_of a) g) (row_at (groups_of a) g) was in
      let c = sum_by-set is_vacant (groups_of a) g no_group no_group inside in
      let f = few_free (set (groups_of a) g no_group) in
      let l = length-set (groups_of a) g no_group in
      let m = length-map a.entries.items (λ x. group_of x) in
      omega (arith, h.names.count, h.room, c, f, l, m, was')

  pub few_names : IsArena a → length a.free.items ≤ length a.entries.items
  few_names h = omega (arith, h.names.count, few_free (groups_of a), length-map a.entries.items (λ x. group_of x))

  -- a name is free where the stack has one
  pub some_free : IsArena a → length a.free.items ≢ 0 → (g : ℕ) × IsFreeName (groups_of a) g
  some_free h some =
      let r = lists_some is_vacant (groups_of a) no_group a.free.items h.names some in
      (r.0, (r.1, is_free (count_at (groups_of a) r.0) (row_at (groups_of a) r.0) r.2))

-- no group is out where each name is free
pub all_free : (gs : List GroupState) → length gs ≤ sum_by is_vacant gs → (g : ℕ) → count_at gs g ≡ 0
all_free [] h g = refl
all_free (x ∷ xs) h zero =
    let sum = sum_by-cons is_vacant x xs in
    is_free x.count x.row (omega (arith, h, sum, few_free xs))
all_free (x ∷ xs) h (suc g) =
    let sum = sum_by-cons is_vacant x xs in
    all_free xs (omega (arith, h, sum, at_most_one x.count)) g

-- what becomes of a group that has one owner, or more
one_at_most : (n : ℕ) → n ≤ 1 → leb n 1 ≡ true
one_at_most n h = grind (arith, nat_tests)

more_than_one : (n : ℕ) → 1 < n → leb n 1 ≡ false
more_than_one n h = grind (arith, nat_tests)

pub one_or_more : (n : ℕ) → (n ≤ 1) ⊎ (1 < n)
one_or_more zero = inl (omega arith)
one_or_more (suc zero) = inl (omega arith)
one_or_more (suc (suc n)) = inr (omega arith)

module _ (gs : List GroupState) (g : ℕ) where
  pub ends_last : count_at gs g ≤ 1 → less_owned g gs ≡ without g gs
  ends_last h = ap (λ b. cond b (without g gs) (with_count g (count_at gs g - 1) gs)) (one_at_most (count_at gs g) h)

  pub gives_row : count_at gs g ≤ 1 → row_ended g gs ≡ row_at gs g
  gives_row h = ap (λ b. cond b (row_at gs g) []) (one_at_most (count_at gs g) h)

  pub stays_out : 1 < count_at gs g → less_owned g gs ≡ with_count g (count_at gs g - 1) gs
  stays_out h = ap (λ b. cond b (without g gs) (with_count g (count_at gs g - 1) gs)) (more_than_one (count_at gs g) h)

  pub gives_none : 1 < count_at gs g → row_ended g gs ≡ []
  gives_none h = ap (λ b. cond b (row_at gs g) []) (more_than_one (count_at gs g) h)

-- each name is free where no group is out
pub none_out_free : (gs : List GroupState) → ((g : ℕ) → count_at gs g ≡ 0) → sum_by is_vacant gs ≡ length gs
none_out_free [] h = refl
none_out_free (x ∷ xs) h =
    let rest = none_out_free xs (λ g. h (suc g)) in
    omega (arith, rest, sum_by-cons is_vacant x xs, free_again x.count x.row (h 0))

-- rows without members, all but the last of them, and the last
module _ {X : Type 0} (f : X → GroupState) where
  pub front_empty : (ys : List X) (y : X) → ((k : ℕ) → row_at (map f (ys ++ y ∷ [])) k ≡ []) → (k : ℕ) → row_at (map f ys) k ≡ []
  front_empty [] y h k = refl
  front_empty (x ∷ ys) y h zero = h 0
  front_empty (x ∷ ys) y h (suc k) = front_empty ys y (λ j. h (suc j)) k

  pub last_empty : (ys : List X) (y : X) → ((k : ℕ) → row_at (map f (ys ++ y ∷ [])) k ≡ []) → (f y).row ≡ []
  last_empty [] y h = h 0
  last_empty (x ∷ ys) y h = last_empty ys y (λ j. h (suc j))
