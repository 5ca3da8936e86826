-- what is in use where nothing waits
use Rattle.std.proofs.Common.{◌≡◌, ℕ, zero, suc, ◌+◌, ◌<◌, ◌≤◌, ◌&&◌, ◌⊎◌, Bool, true, false, Option, None, Some, List, [], ◌∷◌, length, get_or, set, refl, sym, ap, ◌∙◌, arith, subst, cond, inl, inr, is_some, sum_by, get_or-set_same, get_or-set_other}
use Rattle.std.proofs.lemmas.Bool.{false≢true}
use Rattle.std.proofs.lemmas.Bool.Decides.{eqb_tells, nat_tests}
use Rattle.std.proofs.lemmas.List.Sums.{sum_by-append, sum_by-set, sum_by-cons}
use Rattle.sdd_world.specs.Counting.{Counted, tally, same_hold, rows_held, kept_by, shared_owners, keeps_shared}
use Rattle.sdd_world.specs.Groups.{GroupState, IsOut, NoneOut, count_at, row_at, row_if, rows_of}
use Rattle.sdd_world.specs.Holding.{Hold, OwnedItem, SharedItem, OwnedIn, SharedIn, OwnerGroup}
use Rattle.sdd_world.specs.Passing.{IsPlain, is_plain}
use Rattle.sdd_world.specs.Place.{IsPlace, held_times}
use Rattle.sdd_world.specs.State.{State, ParticipantState, cell_at, emptiness, in_use, is_used, participant_at, nobody, status_at, usage, value_at, weight}
use Rattle.sdd_world.specs.Steps.{bags_empty, hit, held_in, is_nil, times}
use Rattle.sdd_world.specs.declared.status.Cell.{Cell}
use Rattle.sdd_world.specs.declared.status.Cell.TheVariants as cell
use Rattle.sdd_world.specs.declared.tag.Tag.{Tag}
use Rattle.sdd_world.specs.declared.status.Status.{Status}
use Rattle.sdd_world.specs.declared.status.Status.TheVariants as status
use Rattle.sdd_world.proofs.ListLemmas.{hit-same, hit-other}
use Rattle.sdd_world.proofs.OwnerBoundLemmas.{cells_ungrouped, rows_ungrouped}
use Rattle.sdd_world.proofs.RowLemmas.{tally-often}
use Rattle.version_views.specs.Items.{held_by, names_of, slots_of}
use Rattle.local_versions.specs.Placing.{IsFlat, IsNoDirectory}
use Rattle.sdd_world.specs.declared.groups.Group.{Group}
use Rattle.version_views.specs.declared.directory.Directory.{Directory}
use Rattle.version_views.specs.declared.item.Item.{Item}
use Rattle.version_views.specs.declared.item.Item.TheVariants as items
use Rattle.local_versions.proofs.RowSlotLemmas.{all_named, held_groups, held_none, holds_none, named_in}

-- a sum that isn't zero has a term that isn't
sum_some : {X : Type 0} (f : X → ℕ) (d : X) (xs : List X) → 1 ≤ sum_by f xs → (k : ℕ) × (k < length xs) × (1 ≤ f (get_or xs k d))
sum_some f d [] h = absurd (omega (arith, h))
sum_some f d (x ∷ xs) h =
    elim (eqb_tells (f x) 0) [
      | inl t ↦
          let sum = sum_by-cons f x xs in
          let none = t.1 in
          let r = sum_some f d xs (omega (arith, h, sum, none)) in
          let inside = r.1 in
          (suc r.0, omega (arith, inside), r.2)
      | inr t ↦ let some = t.1 in (0, omega arith, omega (arith, some))
    ]

-- as many weigh as are named, where each that weighs is named
named_all : {X : Type 0} (f : X → ℕ) (d : X) (xs : List X) (names : List ℕ) → f d ≡ 0 → ((x : X) → f x ≤ 1) → ((j : ℕ) → 1 ≤ f (get_or xs j d) → 1 ≤ times j names) → sum_by f xs ≤ length names
named_all f d xs [] zero' one named =
    elim (eqb_tells (sum_by f xs) 0) [
      | inl t ↦ let none = t.1 in omega (arith, none)
      | inr t ↦ let some = t.1 in let k = sum_some f d xs (omega (arith, some)) in let n = named k.0 k.2 in absurd (omega (arith, n))
    ]
named_all f d xs (i ∷ names) zero' one named =
    elim (eqb_tells (f (get_or xs i d)) 0) [
      | inl t ↦
          let rest = named_all f d xs names zero' one (λ j some. elim (eqb_tells j i) [
            | inl e ↦ let none = t.1 in let same = ap (λ k. f (get_or xs k d)) e.1 in absurd (omega (arith, some, none, same))
            | inr e ↦ let n = named j some in let sum = sum_by-cons (λ k. hit k j) i names in let other = hit-other i j e.1 in omega (arith, n, sum, other)
          ]) in
          omega (arith, rest)
      | inr t ↦
          let some = t.1 in
          let inside : i < length xs = weighs_inside xs i (omega (arith, some)) in
          let less = sum_by-set f xs i d d inside in
          let top = one (get_or xs i d) in
          let rest = named_all f d (set xs i d) names zero' one (λ j some'. elim (eqb_tells j i) [
            | inl e ↦ let here = ap (λ k. f (get_or (set xs i d) k d)) e.1 ∙ ap f (get_or-set_same xs i d d inside) in absurd (omega (arith, some', here, zero'))
            | inr e ↦
                let same = ap f (get_or-set_other xs i j d d e.1) in
                let n = named j (omega (arith, some', same)) in
                let sum = sum_by-cons (λ k. hit k j) i names in
                let other = hit-other i j e.1 in
                omega (arith, n, sum, other)
          ]) in
          omega (arith, rest, less, top, zero')
    ]
  where
    weighs_inside : (xs : List _) (i : ℕ) → 1 ≤ f (get_or xs i d) → i < length xs
    weighs_inside [] i h = absurd (omega (arith, h, zero'))
    weighs_inside (x ∷ xs) zero h = omega arith
    weighs_inside (x ∷ xs) (suc i) h = let r = weighs_inside xs i h in omega (arith, r)

-- a sum of nothings is nothing
all_none : {X : Type 0} (f : X → ℕ) (d : X) (xs : List X) → ((k : ℕ) → f (get_or xs k d) ≡ 0) → sum_by f xs ≡ 0
all_none f d xs none = elim (eqb_tells (sum_by f xs) 0) [
  | inl z ↦ z.1
  | inr z ↦ let some = z.1 in let k = sum_some f d xs (omega (arith, some)) in let no = none k.0 in let more = k.2 in absurd (omega (arith, no, more))
]

-- where a participant's bags are empty, it has nothing waiting
nil_of : (xs : List ℕ) → is_nil xs ≡ true → xs ≡ []
nil_of [] e = refl
nil_of (x ∷ xs) e = absurd (false≢true e)

both : (a b : Bool) → (a && b) ≡ true → (a ≡ true) × (b ≡ true)
both true b e = (refl, e)
both false b e = absurd (false≢true e)

nothing_held : (j : ℕ) (m : ParticipantState) → bags_empty m ≡ true → m.due ≡ [] → held_times j m ≡ 0
nothing_held j m e due =
    let one = both (is_nil m.current) (is_nil m.prior && is_nil m.oldest) e in
    let two = both (is_nil m.prior) (is_nil m.oldest) one.1 in
    let a = ap (times j) (nil_of m.current one.0) in
    let b = ap (times j) (nil_of m.prior two.0) in
    let c = ap (times j) (nil_of m.oldest two.1) in
    let d = ap (times j) due in
    omega (arith, a, b, c, d)

-- a plain slot that is used, and doesn't wait, has owners
used_shared : (x : Status) → is_plain x ≡ true → weight x ≡ 0 → 1 ≤ usage x → 1 ≤ shared_owners x
used_shared status.Free p z u = absurd (omega (arith, u))
used_shared status.Owned p z u = absurd (false≢true p)
used_shared (status.Shared n) p z u = grind (arith, nat_tests)
used_shared status.Raw p z u = absurd (false≢true p)
used_shared (status.Collected n b) p z u = absurd (false≢true p)
used_shared status.Retired p z u = absurd (omega (arith, z))
used_shared status.Idle p z u = absurd (omega (arith, u))
used_shared status.Deferred p z u = absurd (omega (arith, u))

usage_one : (x : Status) → usage x ≤ 1
usage_one x = elim (is_used x) as (λ b. cond b 1 0 ≤ 1) [ true ↦ omega arith | false ↦ omega arith ]

-- a cell that keeps an owner of the item in slot j names that slot
kept_names : (j : ℕ) (k : Cell) → 1 ≤ tally (SharedItem j) (kept_by k) → (t : Tag) × (k ≡ cell.OfShared (Some j) t)
kept_names j cell.Free some = absurd (omega (arith, some))
kept_names j (cell.OfOwned None t) some = absurd (omega (arith, some))
kept_names j (cell.OfOwned (Some x) t) some = let sum = sum_by-cons (λ y. same_hold (SharedItem j) y) (OwnedItem x) [] in absurd (omega (arith, some, sum))
kept_names j (cell.OfShared None t) some = absurd (omega (arith, some))
kept_names j (cell.OfShared (Some x) t) some =
    let sum = sum_by-cons (λ y. same_hold (SharedItem j) y) (SharedItem x) [] in
    elim (eqb_tells x j) [
      | inl e ↦ (t, ap (λ y. cell.OfShared (Some y) t) e.1)
      | inr e ↦ let other = hit-other x j (λ f. e.1 (sym f)) in absurd (omega (arith, some, sum, other))
    ]
kept_names j (cell.OfRaw o t) some = absurd (omega (arith, some))

-- no cell keeps a cell
no_cell_in_cells : (c : ℕ) (k : Cell) → tally (SharedIn c) (kept_by k) ≡ 0
no_cell_in_cells c cell.Free = refl
no_cell_in_cells c (cell.OfOwned None t) = refl
no_cell_in_cells c (cell.OfOwned (Some x) t) = sum_by-cons (λ y. same_hold (SharedIn c) y) (OwnedItem x) []
no_cell_in_cells c (cell.OfShared None t) = refl
no_cell_in_cells c (cell.OfShared (Some x) t) = sum_by-cons (λ y. same_hold (SharedIn c) y) (SharedItem x) []
no_cell_in_cells c (cell.OfRaw o t) = refl

pub free_cells : (cs : List Cell) → ((c : ℕ) → get_or cs c cell.Free ≡ cell.Free) → sum_by emptiness cs ≡ length cs
free_cells [] free = refl
free_cells (k ∷ cs) free =
    let here = ap emptiness (free 0) in
    let rest = free_cells cs (λ c. free (suc c)) in
    let sum = sum_by-cons emptiness k cs in
    omega (arith, here, rest, sum)

-- where rows name an item, the row of a group that is out does
module _ (j : ℕ) where
  abbrev NamedByRow : List GroupState → Type 0
  NamedByRow gs = (g : ℕ) × IsOut gs g × (1 ≤ times j (row_at gs g))

  first_or : (x : GroupState) (gs : List GroupState) (n : ℕ) → n ≡ x.count → (1 ≤ times j (rows_of gs) → NamedByRow gs) → 1 ≤ times j (row_if n x.row) + times j (rows_of gs) → NamedByRow (x ∷ gs)
  first_or x gs zero e rest some = let r = rest (omega (arith, some)) in (suc r.0, r.1, r.2)
  first_or x gs (suc n) e rest some = elim (eqb_tells (times j x.row) 0) [
    | inl z ↦ let none = z.1 in let r = rest (omega (arith, some, none)) in (suc r.0, r.1, r.2)
    | inr z ↦ let more = z.1 in (0, omega (arith, e), omega (arith, more))
  ]

  in_some_row : (gs : List GroupState) → 1 ≤ times j (rows_of gs) → NamedByRow gs
  in_some_row [] h = absurd (omega (arith, h))
  in_some_row (x ∷ gs) h = first_or x gs x.count refl (in_some_row gs) (omega (arith, h, sum_by-append (λ k. hit k j) (row_if x.count x.row) (rows_of gs)))

  pub row_names : (gs : List GroupState) → 1 ≤ tally (SharedItem j) (rows_held gs) → NamedByRow gs
  row_names gs some = in_some_row gs (omega (arith, some, tally-often (SharedItem j) (rows_of gs)))

module _ {K V : Type 0} {s : ℕ} where
  -- what an item holds are a directory's groups
  pub holds_groups : (v : Item K V s) (h : Hold) → 1 ≤ tally h (held_by v) → (d : Directory K Group) × (v ≡ items.Directory d) × (g : ℕ) × (h ≡ OwnerGroup g) × (1 ≤ times g (names_of d.rows.items))
  holds_groups (items.Segment t) h some = absurd (omega (arith, some))
  holds_groups (items.Directory d) (OwnedItem i) some = absurd (omega (arith, some, held_none (OwnedItem i) (λ g. refl) d.rows.items))
  holds_groups (items.Directory d) (SharedItem i) some = absurd (omega (arith, some, held_none (SharedItem i) (λ g. refl) d.rows.items))
  holds_groups (items.Directory d) (OwnedIn c) some = absurd (omega (arith, some, held_none (OwnedIn c) (λ g. refl) d.rows.items))
  holds_groups (items.Directory d) (SharedIn c) some = absurd (omega (arith, some, held_none (SharedIn c) (λ g. refl) d.rows.items))
  holds_groups (items.Directory d) (OwnerGroup g) some = (d, refl, g, refl, omega (arith, some, held_groups g d.rows.items))

  -- where no owner of a group is in hand, each group that is out is one of a directory
  pub above_group : (w : State (Item K V s)) (hand : List Hold) → Counted held_by hand w → (g : ℕ) → tally (OwnerGroup g) hand ≡ 0 → IsOut w.groups g → (i : ℕ) × (d : Directory K Group) × (value_at w i ≡ Some (items.Directory d)) × (1 ≤ times g (names_of d.rows.items))
  above_group w hand counted g none out =
      let each = counted.each (OwnerGroup g) in
      let k = sum_some (λ o. tally (OwnerGroup g) (held_in held_by o)) None w.values (omega (arith, each, none, out, cells_ungrouped g w.cells, rows_ungrouped g w.groups)) in
      let h = above (value_at w k.0) k.2 in
      (k.0, h.0, h.1, h.2)
    where
      name_same : (x y : ℕ) → OwnerGroup x ≡ OwnerGroup y → x ≡ y
      name_same x y e = cc

      above : (o : Option (Item K V s)) → 1 ≤ tally (OwnerGroup g) (held_in held_by o) → (d : Directory K Group) × (o ≡ Some (items.Directory d)) × (1 ≤ times g (names_of d.rows.items))
      above None some = absurd (omega (arith, some))
      above (Some v) some =
          let r = holds_groups v (OwnerGroup g) some in
          (r.0, ap (λ (y : Item K V s). Some y) r.1, subst (λ n. 1 ≤ times n (names_of r.0.rows.items)) (sym (name_same g r.2 r.3)) r.4)

  -- where nothing is in use, no group has an owner
  pub none_out : (w : State (Item K V s)) (hand : List Hold) → Counted held_by hand w → ((g : ℕ) → tally (OwnerGroup g) hand ≡ 0) → ((j : ℕ) → value_at w j ≡ None) → NoneOut w.groups
  none_out w hand counted none empty g = elim (eqb_tells (count_at w.groups g) 0) [
    | inl z ↦ z.1
    | inr z ↦ let some = z.1 in let a = above_group w hand counted g (none g) (omega (arith, some)) in absurd (none_some (sym (empty a.0) ∙ a.2))
  ]
    where
      none_some : {y : Item K V s} → None ≡ Some y → ⊥
      none_some e = cc

  -- how many owners of the item in slot j cells keep
  abbrev kept_times : State (Item K V s) → ℕ → ℕ
  kept_times w j = sum_by (λ k. tally (SharedItem j) (kept_by k)) w.cells

  -- the item in slot j is a segment of a directory, which stands in slot `above`
  record IsBelow (w : State (Item K V s)) (j : ℕ) : Type 0 where
    above : ℕ
    directory : Directory K Group
    is : value_at w above ≡ Some (items.Directory directory)
    named : 1 ≤ times j (slots_of w.groups directory)

  -- nothing waits, and no owner of an item is in hand
  module _ (w : State (Item K V s)) (hand : List Hold) (place : IsPlace w) (counted : Counted held_by hand w) (outside : (j : ℕ) → tally (SharedItem j) hand ≡ 0) (ungrouped : (g : ℕ) → tally (OwnerGroup g) hand ≡ 0) (plain : IsPlain w) (flat : IsFlat w) (empty : (q : ℕ) → bags_empty (participant_at w q) ≡ true) where
    not_waiting : (j : ℕ) → weight (status_at w j) ≡ 0
    not_waiting j = sym (place.sound.once j) ∙ all_none (held_times j) nobody w.participants (λ q. nothing_held j (participant_at w q) (empty q) (place.idle q))

    value_used : (j : ℕ) (v : Item K V s) → value_at w j ≡ Some v → 1 ≤ usage (status_at w j)
    value_used j v e = let used = ap {B = ℕ} (λ (b : Bool). cond b 1 0) (sym (ap is_some e) ∙ place.sound.filled j) in omega (arith, used)

    -- an item in use has an owner in a cell, or in a directory
    owner_of_used : (j : ℕ) → 1 ≤ usage (status_at w j) → (1 ≤ kept_times w j) ⊎ IsBelow w j
    owner_of_used j used =
        let owners = used_shared (status_at w j) (plain j) (not_waiting j) used in
        let each = counted.each (SharedItem j) in
        let none = outside j in
        let in_items = all_none (λ v. tally (SharedItem j) (held_in held_by v)) None w.values (λ x. holds_none (SharedItem j) (λ g. refl) (value_at w x)) in
        elim (eqb_tells (kept_times w j) 0) [
          | inr z ↦ let some = z.1 in inl (omega (arith, some))
          | inl z ↦
              let unkept = z.1 in
              let r = row_names j w.groups (omega (arith, owners, each, none, unkept, in_items)) in
              let a = above_group w hand counted r.0 (ungrouped r.0) r.1 in
              inr (record { above = a.0; directory = a.1; is = a.2; named = named_in w.groups r.0 j a.1.rows.items a.3 r.2 })
        ]

    -- no directory holds a directory, so a cell keeps it, or its directory
    kept_or_below : (j : ℕ) → 1 ≤ usage (status_at w j) → (1 ≤ kept_times w j) ⊎ ((b : IsBelow w j) × (1 ≤ kept_times w b.above))
    kept_or_below j used =
        elim (owner_of_used j used) [
          | inl e ↦ inl e
          | inr b ↦ elim (owner_of_used b.above (value_used b.above (items.Directory b.directory) b.is)) [
            | inl e ↦ inr (b, e)
            | inr a ↦ absurd (subst (λ (o : Option (Item K V s)). IsNoDirectory o) b.is (all_named (λ x. IsNoDirectory (value_at w x)) (slots_of w.groups a.directory) b.above (flat a.above a.directory a.is) a.named))
          ]
        ]

    -- where no cell is in use, nothing is
    pub none_left : ((c : ℕ) → cell_at w c ≡ cell.Free) → in_use w ≡ 0
    none_left free =
        let unkept : (j : ℕ) → kept_times w j ≡ 0 = λ j. all_none (λ k. tally (SharedItem j) (kept_by k)) cell.Free w.cells (λ c. ap (λ (k : Cell). tally (SharedItem j) (kept_by k)) (free c)) in
        all_none usage status.Free w.states (λ j. elim (eqb_tells (usage (status_at w j)) 0) [
          | inl z ↦ z.1
          | inr z ↦ let some = z.1 in elim (kept_or_below j (omega (arith, some))) [
            | inl e ↦ let none = unkept j in absurd (omega (arith, e, none))
            | inr b ↦ let none = unkept b.0.above in let e = b.1 in absurd (omega (arith, e, none))
          ]
        ])

  -- nothing waits, and the one owner outside is a root
  module _ (w : State (Item K V s)) (c i : ℕ) (d : Directory K Group) (t : Tag) (place : IsPlace w) (counted : Counted held_by (SharedIn c ∷ []) w) (plain : IsPlain w) (flat : IsFlat w) (root : cell_at w c ≡ cell.OfShared (Some i) t) (is : value_at w i ≡ Some (items.Directory d)) (empty : (q : ℕ) → bags_empty (participant_at w q) ≡ true) where
    -- only the root keeps an owner
    kept_by_root : (j : ℕ) → 1 ≤ kept_times w j → j ≡ i
    kept_by_root j some =
        let k = sum_some (λ k. tally (SharedItem j) (kept_by k)) cell.Free w.cells some in
        let n = kept_names j (cell_at w k.0) k.2 in
        let each = counted.each (SharedIn k.0) in
        let rows = tally-often (SharedIn k.0) (rows_of w.groups) in
        let one = ap keeps_shared n.1 in
        let in_items = all_none (λ v. tally (SharedIn k.0) (held_in held_by v)) None w.values (λ x. holds_none (SharedIn k.0) (λ g. refl) (value_at w x)) in
        let in_cells = all_none (λ x. tally (SharedIn k.0) (kept_by x)) cell.Free w.cells (λ x. no_cell_in_cells k.0 (cell_at w x)) in
        let hand = sum_by-cons (λ y. same_hold (SharedIn k.0) y) (SharedIn c) [] in
        elim (eqb_tells c k.0) [
          | inl e ↦ slot_same j i n.0 t (sym n.1 ∙ ap (cell_at w) (sym e.1) ∙ root)
          | inr e ↦ let other = hit-other c k.0 (λ f. e.1 (sym f)) in absurd (omega (arith, each, rows, one, in_items, in_cells, hand, other))
        ]
      where
        slot_same : (x y : ℕ) (a b : Tag) → cell.OfShared (Some x) a ≡ cell.OfShared (Some y) b → x ≡ y
        slot_same x y a b e = cc

    used_named : (j : ℕ) → 1 ≤ usage (status_at w j) → 1 ≤ times j (i ∷ slots_of w.groups d)
    used_named j used =
        let front = sum_by-cons (λ k. hit k j) i (slots_of w.groups d) in
        elim (kept_or_below w (SharedIn c ∷ []) place counted (λ k. sum_by-cons (λ y. same_hold (SharedItem k) y) (SharedIn c) []) (λ g. sum_by-cons (λ y. same_hold (OwnerGroup g) y) (SharedIn c) []) plain flat empty j used) [
          | inl e ↦ let here = ap (λ k. hit k j) (sym (kept_by_root j e)) in let one = hit-same j in omega (arith, front, here, one)
          | inr r ↦
              let b = r.0 in
              let same : slots_of w.groups b.directory ≡ slots_of w.groups d = slots_same (value_at w b.above) b.directory d b.is (ap (value_at w) (kept_by_root b.above r.1) ∙ is) in
              let named = ap (λ xs. times j xs) same in
              let there = b.named in
              omega (arith, front, named, there)
        ]
      where
        slots_same : (o : Option (Item K V s)) (e f : Directory K Group) → o ≡ Some (items.Directory e) → o ≡ Some (items.Directory f) → slots_of w.groups e ≡ slots_of w.groups f
        slots_same o e f h g = cc

    -- its directory and its segments are all that is in use
    pub one_left : in_use w ≤ length (slots_of w.groups d) + 1
    one_left = let all = named_all usage status.Free w.states (i ∷ slots_of w.groups d) refl usage_one used_named in omega (arith, all)
