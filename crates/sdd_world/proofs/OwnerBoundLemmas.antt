-- how many owners an item or a group can have, where each item holds it at most once
use Rattle.std.proofs.Common.{◌≡◌, ◌==◌, ◌≢◌, ℕ, zero, suc, ◌+◌, ◌-◌, ◌<◌, ◌≤◌, true, false, cond, Option, None, Some, List, [], ◌∷◌, ◌++◌, length, get_or, map, set, refl, sym, ap, ◌∙◌, arith, subst, inl, inr, get_or-set_same, get_or-set_other}
use Rattle.std.proofs.lemmas.Bool.Decides.{eqb_tells}
use Rattle.std.proofs.lemmas.List.Sums.{sum_by-append, sum_by-cons}
use Rattle.std.specs.List.{sum_by}
use Rattle.sdd_table.specs.Groups.{GroupState, IsOut, count_at, group_at, no_group, row_at, rows_of, with_count}
use Rattle.sdd_table.specs.Holding.{Hold, OwnedIn, OwnedItem, OwnerGroup, SharedIn, SharedItem}
use Rattle.sdd_table.specs.State.{State, cell_at, status_at, value_at}
use Rattle.sdd_table.specs.Steps.{held_in, hit, times}
use Rattle.sdd_table.specs.declared.status.Cell.{Cell}
use Rattle.sdd_table.specs.declared.status.Cell.TheVariants as cell
use Rattle.sdd_table.proofs.ArenaLemmas.{out_inside}
use Rattle.sdd_table.proofs.ListLemmas.{hit-other, hit-same}
use Rattle.sdd_world.specs.Counting.{Counted, kept_by, rows_held, same_hold, shared_owners, tally}
use Rattle.sdd_world.proofs.CountLemmas.{weigh_less}
use Rattle.sdd_world.proofs.RowLemmas.{row_lowered, rows_none, tally-often}

hit_small : (i j : ℕ) → hit i j ≤ 1
hit_small i j = elim (i == j) as (λ b. cond b 1 0 ≤ 1) [ true ↦ omega arith | false ↦ omega arith ]

same_small : (h k : Hold) → same_hold h k ≤ 1
same_small (OwnedItem i) (OwnedItem j) = hit_small j i
same_small (OwnedItem i) (SharedItem j) = omega arith
same_small (OwnedItem i) (OwnedIn j) = omega arith
same_small (OwnedItem i) (SharedIn j) = omega arith
same_small (OwnedItem i) (OwnerGroup j) = omega arith
same_small (SharedItem i) (OwnedItem j) = omega arith
same_small (SharedItem i) (SharedItem j) = hit_small j i
same_small (SharedItem i) (OwnedIn j) = omega arith
same_small (SharedItem i) (SharedIn j) = omega arith
same_small (SharedItem i) (OwnerGroup j) = omega arith
same_small (OwnedIn i) (OwnedItem j) = omega arith
same_small (OwnedIn i) (SharedItem j) = omega arith
same_small (OwnedIn i) (OwnedIn j) = hit_small j i
same_small (OwnedIn i) (SharedIn j) = omega arith
same_small (OwnedIn i) (OwnerGroup j) = omega arith
same_small (SharedIn i) (OwnedItem j) = omega arith
same_small (SharedIn i) (SharedItem j) = omega arith
same_small (SharedIn i) (OwnedIn j) = omega arith
same_small (SharedIn i) (SharedIn j) = hit_small j i
same_small (SharedIn i) (OwnerGroup j) = omega arith
same_small (OwnerGroup i) (OwnedItem j) = omega arith
same_small (OwnerGroup i) (SharedItem j) = omega arith
same_small (OwnerGroup i) (OwnedIn j) = omega arith
same_small (OwnerGroup i) (SharedIn j) = omega arith
same_small (OwnerGroup i) (OwnerGroup j) = hit_small j i

pub tally_within : (h : Hold) (ks : List Hold) → tally h ks ≤ length ks
tally_within h [] = omega arith
tally_within h (k ∷ ks) =
    let small = same_small h k in
    let rest = tally_within h ks in
    let sum = sum_by-cons (λ x. same_hold h x) k ks in
    omega (arith, small, rest, sum)

-- a cell holds an item at most once, and no group
kept_once : (j : ℕ) (k : Cell) → tally (SharedItem j) (kept_by k) ≤ 1
kept_once j cell.Free = omega arith
kept_once j (cell.OfOwned None t) = omega arith
kept_once j (cell.OfOwned (Some i) t) = tally_within (SharedItem j) (OwnedItem i ∷ [])
kept_once j (cell.OfShared None t) = omega arith
kept_once j (cell.OfShared (Some i) t) = tally_within (SharedItem j) (SharedItem i ∷ [])
kept_once j (cell.OfRaw o t) = omega arith

kept_ungrouped : (g : ℕ) (k : Cell) → tally (OwnerGroup g) (kept_by k) ≡ 0
kept_ungrouped g cell.Free = refl
kept_ungrouped g (cell.OfOwned None t) = refl
kept_ungrouped g (cell.OfOwned (Some i) t) = sum_by-cons (λ x. same_hold (OwnerGroup g) x) (OwnedItem i) []
kept_ungrouped g (cell.OfShared None t) = refl
kept_ungrouped g (cell.OfShared (Some i) t) = sum_by-cons (λ x. same_hold (OwnerGroup g) x) (SharedItem i) []
kept_ungrouped g (cell.OfRaw o t) = refl

pub cells_ungrouped : (g : ℕ) (cs : List Cell) → sum_by (λ c. tally (OwnerGroup g) (kept_by c)) cs ≡ 0
cells_ungrouped g [] = refl
cells_ungrouped g (c ∷ cs) = omega (arith, cells_ungrouped g cs, kept_ungrouped g c, sum_by-cons (λ x. tally (OwnerGroup g) (kept_by x)) c cs)

-- nor does a row
pub rows_ungrouped : (g : ℕ) (gs : List GroupState) → tally (OwnerGroup g) (rows_held gs) ≡ 0
rows_ungrouped g gs = tally-often (OwnerGroup g) (rows_of gs)

-- what weighs at most one each weighs at most as much as there is
sum_within : {X : Type 0} (f : X → ℕ) (d : X) (xs : List X) → ((i : ℕ) → f (get_or xs i d) ≤ 1) → sum_by f xs ≤ length xs
sum_within f d [] small = omega arith
sum_within f d (x ∷ xs) small =
    let here = small 0 in
    let rest = sum_within f d xs (λ i. small (suc i)) in
    let sum = sum_by-cons f x xs in
    omega (arith, here, rest, sum)

-- how often a hold names item j: as its owner, or by the row of the group
abbrev pub names : List GroupState → ℕ → Hold → ℕ
names gs j (OwnedItem i) = 0
names gs j (SharedItem i) = hit i j
names gs j (OwnedIn c) = 0
names gs j (SharedIn c) = 0
names gs j (OwnerGroup g) = times j (row_at gs g)

-- so by rows alone, where these say how often a row has it
abbrev in_rows : (ℕ → ℕ) → Hold → ℕ
in_rows r (OwnedItem i) = 0
in_rows r (SharedItem i) = 0
in_rows r (OwnedIn c) = 0
in_rows r (SharedIn c) = 0
in_rows r (OwnerGroup g) = r g

names_parts : (gs : List GroupState) (j : ℕ) (h : Hold) → names gs j h ≡ same_hold (SharedItem j) h + in_rows (λ g. times j (row_at gs g)) h
names_parts gs j (OwnedItem i) = refl
names_parts gs j (SharedItem i) = omega arith
names_parts gs j (OwnedIn c) = refl
names_parts gs j (SharedIn c) = refl
names_parts gs j (OwnerGroup g) = omega arith

names_sum : (gs : List GroupState) (j : ℕ) (hs : List Hold) → sum_by (λ h. names gs j h) hs ≡ tally (SharedItem j) hs + sum_by (λ h. in_rows (λ g. times j (row_at gs g)) h) hs
names_sum gs j [] = refl
names_sum gs j (h ∷ hs) =
    let r : ℕ → ℕ = λ g. times j (row_at gs g) in
    omega (arith, names_sum gs j hs, names_parts gs j h, sum_by-cons (λ k. names gs j k) h hs, sum_by-cons (λ k. same_hold (SharedItem j) k) h hs, sum_by-cons (λ k. in_rows r k) h hs)

-- an owner of another kind is none of a group
module _ (j : ℕ) (r : ℕ → ℕ) (hs : List Hold) (gs : List GroupState) where
  abbrev CountedBy : List Hold → List GroupState → Type 0
  CountedBy ks fs = (g : ℕ) → count_at fs g ≡ tally (OwnerGroup g) ks

  abbrev FewIn : List Hold → List GroupState → Type 0
  FewIn ks fs = times j (rows_of fs) ≤ sum_by (λ h. in_rows r h) ks

  counted_behind : (k : Hold) → ((g : ℕ) → same_hold (OwnerGroup g) k ≡ 0) → CountedBy (k ∷ hs) gs → CountedBy hs gs
  counted_behind k none all g = omega (arith, all g, none g, sum_by-cons (λ x. same_hold (OwnerGroup g) x) k hs)

  few_before : (k : Hold) → FewIn hs gs → FewIn (k ∷ hs) gs
  few_before k below = omega (arith, below, sum_by-cons (λ x. in_rows r x) k hs)

  -- without an owner of group k
  module _ (k : ℕ) (all : CountedBy (OwnerGroup k ∷ hs) gs) where
    abbrev with_less : List GroupState
    with_less = with_count k (count_at gs k - 1) gs

    group_owned : IsOut gs k
    group_owned = omega (arith, all k, sum_by-cons (λ x. same_hold (OwnerGroup k) x) (OwnerGroup k) hs, hit-same k)

    counted_less : CountedBy hs with_less
    counted_less g =
        let less = weigh_less (λ (x : GroupState). x.count) gs k g (record { count = count_at gs k - 1; row = row_at gs k }) no_group (out_inside gs k group_owned) (omega (arith, group_owned)) in
        omega (arith, less, all g, sum_by-cons (λ x. same_hold (OwnerGroup g) x) (OwnerGroup k) hs)

    few_less : times j (row_at gs k) ≡ r k → FewIn hs with_less → FewIn (OwnerGroup k ∷ hs) gs
    few_less is below = omega (arith, below, is, row_lowered gs k j group_owned, sum_by-cons (λ x. in_rows r x) (OwnerGroup k) hs)

-- a row stays where its count changes
row_counted_same : (gs : List GroupState) (k n g : ℕ) → row_at (with_count k n gs) g ≡ row_at gs g
row_counted_same [] k n g = refl
row_counted_same (x ∷ gs) zero n zero = refl
row_counted_same (x ∷ gs) zero n (suc g) = refl
row_counted_same (x ∷ gs) (suc k) n zero = refl
row_counted_same (x ∷ gs) (suc k) n (suc g) = row_counted_same gs k n g

-- where these are all owners of groups, rows name an item at most as often as each owner's row does
rows_within : (j : ℕ) (r : ℕ → ℕ) (hs : List Hold) (gs : List GroupState) → CountedBy j r hs gs hs gs → ((g : ℕ) → times j (row_at gs g) ≡ r g) → FewIn j r hs gs hs gs
rows_within j r [] gs counts rows = omega (arith, ap (times j) (rows_none gs counts))
rows_within j r (OwnedItem i ∷ hs) gs counts rows = few_before j r hs gs (OwnedItem i) (rows_within j r hs gs (counted_behind j r hs gs (OwnedItem i) (λ g. refl) counts) rows)
rows_within j r (SharedItem i ∷ hs) gs counts rows = few_before j r hs gs (SharedItem i) (rows_within j r hs gs (counted_behind j r hs gs (SharedItem i) (λ g. refl) counts) rows)
rows_within j r (OwnedIn c ∷ hs) gs counts rows = few_before j r hs gs (OwnedIn c) (rows_within j r hs gs (counted_behind j r hs gs (OwnedIn c) (λ g. refl) counts) rows)
rows_within j r (SharedIn c ∷ hs) gs counts rows = few_before j r hs gs (SharedIn c) (rows_within j r hs gs (counted_behind j r hs gs (SharedIn c) (λ g. refl) counts) rows)
rows_within j r (OwnerGroup k ∷ hs) gs counts rows =
    let rest = rows_within j r hs (with_less j r hs gs k counts) (counted_less j r hs gs k counts) (λ g. ap (times j) (row_counted_same gs k (count_at gs k - 1) g) ∙ rows g) in
    few_less j r hs gs k counts (rows k) rest

module _ {T : Type 0} (holds : T → List Hold) where
  -- what items hold, one after the other
  abbrev all_held : List (Option T) → List Hold
  all_held [] = []
  all_held (v ∷ vs) = held_in holds v ++ all_held vs

  held_sum : (f : Hold → ℕ) (vs : List (Option T)) → sum_by f (all_held vs) ≡ sum_by (λ v. sum_by f (held_in holds v)) vs
  held_sum f [] = refl
  held_sum f (v ∷ vs) = omega (arith, held_sum f vs, sum_by-append f (held_in holds v) (all_held vs), sum_by-cons (λ x. sum_by f (held_in holds x)) v vs)

  module _ (hand : List Hold) (w : State T) (counted : Counted holds hand w) where
    groups_counted : (g : ℕ) → count_at w.groups g ≡ tally (OwnerGroup g) (hand ++ all_held w.values)
    groups_counted g =
        let each = counted.each (OwnerGroup g) in
        let both = sum_by-append (λ k. same_hold (OwnerGroup g) k) hand (all_held w.values) in
        omega (arith, each, both, held_sum (λ k. same_hold (OwnerGroup g) k) w.values, cells_ungrouped g w.cells, rows_ungrouped g w.groups)

    -- a group that each item holds at most once
    pub few_of_group : (g : ℕ) → ((i : ℕ) → tally (OwnerGroup g) (held_in holds (value_at w i)) ≤ 1) → count_at w.groups g ≤ tally (OwnerGroup g) hand + length w.values
    few_of_group g once =
        let each = counted.each (OwnerGroup g) in
        let in_items = sum_within (λ v. tally (OwnerGroup g) (held_in holds v)) None w.values once in
        omega (arith, each, in_items, cells_ungrouped g w.cells, rows_ungrouped g w.groups)

    -- an item that what each item holds names at most once, with rows
    pub few_of_item : (j : ℕ) → ((i : ℕ) → sum_by (λ h. names w.groups j h) (held_in holds (value_at w i)) ≤ 1) → shared_owners (status_at w j) ≤ sum_by (λ h. names w.groups j h) hand + length w.values + length w.cells
    few_of_item j once =
        let gs = w.groups in
        let r : ℕ → ℕ = λ g. times j (row_at gs g) in
        let all = all_held w.values in
        let each = counted.each (SharedItem j) in
        let rows = rows_within j r (hand ++ all) gs groups_counted (λ g. refl) in
        let in_items = sum_within (λ v. sum_by (λ h. names gs j h) (held_in holds v)) None w.values once in
        let in_cells = sum_within (λ c. tally (SharedItem j) (kept_by c)) cell.Free w.cells (λ i. kept_once j (get_or w.cells i cell.Free)) in
        let owners = held_sum (λ k. same_hold (SharedItem j) k) w.values in
        let named = held_sum (λ h. names gs j h) w.values in
        omega (arith, each, rows, in_items, in_cells, owners, named, names_sum gs j hand, names_sum gs j all, sum_by-append (λ h. in_rows r h) hand all, tally-often (SharedItem j) (rows_of gs))
