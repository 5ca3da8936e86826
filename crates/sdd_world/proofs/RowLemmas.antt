-- how often owners are among those that stand in rows of groups, as one group changes
use Rattle.std.proofs.Common.{◌≡◌, ℕ, zero, suc, ◌+◌, ◌-◌, ◌<◌, ◌≤◌, List, [], ◌∷◌, ◌++◌, length, map, reverse, set, refl, sym, ap, ◌∙◌, arith, inl, inr}
use Rattle.std.specs.List.{sum_by}
use Rattle.std.proofs.lemmas.List.Sums.{get_or-le-sum_by, sum_by-append, sum_by-cons, sum_by-set}
use Rattle.sdd_table.specs.Groups.{GroupState, IsFreeName, IsOut, NoneOut, count_at, less_owned, more_owned, no_group, row_at, row_ended, row_if, rows_of, with_count, with_row, without}
use Rattle.sdd_table.specs.Holding.{Hold, OwnedItem, SharedItem, OwnedIn, SharedIn, OwnerGroup}
use Rattle.sdd_table.specs.Steps.{hit, times}
use Rattle.sdd_table.proofs.BagInvariantLemmas.{times_reversed}
use Rattle.sdd_table.proofs.ArenaLemmas.{ends_last, gives_none, gives_row, one_or_more, out_inside, stays_out}
use Rattle.sdd_world.specs.Counting.{rows_held, same_hold, tally}

-- how often h is among owners of these slots
abbrev often : Hold → List ℕ → ℕ
often (OwnedItem i) xs = 0
often (SharedItem i) xs = times i xs
often (OwnedIn c) xs = 0
often (SharedIn c) xs = 0
often (OwnerGroup g) xs = 0

often-cons : (h : Hold) (x : ℕ) (xs : List ℕ) → often h (x ∷ xs) ≡ same_hold h (SharedItem x) + often h xs
often-cons (OwnedItem i) x xs = refl
often-cons (SharedItem i) x xs = sum_by-cons (λ k. hit k i) x xs
often-cons (OwnedIn c) x xs = refl
often-cons (SharedIn c) x xs = refl
often-cons (OwnerGroup g) x xs = refl

often-nil : (h : Hold) → often h [] ≡ 0
often-nil (OwnedItem i) = refl
often-nil (SharedItem i) = refl
often-nil (OwnedIn c) = refl
often-nil (SharedIn c) = refl
often-nil (OwnerGroup g) = refl

pub tally-often : (h : Hold) (xs : List ℕ) → tally h (map SharedItem xs) ≡ often h xs
tally-often h [] = sym (often-nil h)
tally-often h (x ∷ xs) = omega (arith, sum_by-cons (λ k. same_hold h k) (SharedItem x) (map SharedItem xs), tally-often h xs, often-cons h x xs)

-- lists that name each number as often
tally_same : (h : Hold) (xs ys : List ℕ) → ((i : ℕ) → times i xs ≡ times i ys) → tally h (map SharedItem xs) ≡ tally h (map SharedItem ys)
tally_same h xs ys e = tally-often h xs ∙ same h ∙ sym (tally-often h ys)
  where
    same : (k : Hold) → often k xs ≡ often k ys
    same (OwnedItem i) = refl
    same (SharedItem i) = e i
    same (OwnedIn c) = refl
    same (SharedIn c) = refl
    same (OwnerGroup g) = refl

tally_both : (h : Hold) (xs ys zs : List ℕ) → ((i : ℕ) → times i xs ≡ times i ys + times i zs) → tally h (map SharedItem xs) ≡ tally h (map SharedItem ys) + tally h (map SharedItem zs)
tally_both h xs ys zs e = omega (arith, tally-often h xs, tally-often h ys, tally-often h zs, same h)
  where
    same : (k : Hold) → often k xs ≡ often k ys + often k zs
    same (OwnedItem i) = refl
    same (SharedItem i) = e i
    same (OwnedIn c) = refl
    same (SharedIn c) = refl
    same (OwnerGroup g) = refl

pub tally_reversed : (h : Hold) (xs : List ℕ) → tally h (map SharedItem (reverse xs)) ≡ tally h (map SharedItem xs)
tally_reversed h xs = tally_same h (reverse xs) xs (λ i. times_reversed i xs)

-- as often as a row names i, where the group has an owner
abbrev once : ℕ → ℕ → ℕ
once zero often = 0
once (suc n) often = often

abbrev named_by : ℕ → GroupState → ℕ
named_by i g = once g.count (times i g.row)

once_some : (n t : ℕ) → 0 < n → once n t ≡ t
once_some zero t h = absurd (omega (arith, h))
once_some (suc n) t h = refl

once_none : (n t : ℕ) → n ≡ 0 → once n t ≡ 0
once_none zero t h = refl
once_none (suc n) t h = absurd (omega (arith, h))

row_once : (n i : ℕ) (row : List ℕ) → times i (row_if n row) ≡ once n (times i row)
row_once zero i row = refl
row_once (suc n) i row = refl

times_rows : (gs : List GroupState) (i : ℕ) → times i (rows_of gs) ≡ sum_by (λ g. named_by i g) gs
times_rows [] i = refl
times_rows (g ∷ gs) i =
    omega (arith, sum_by-append (λ k. hit k i) (row_if g.count g.row) (rows_of gs), row_once g.count i g.row, times_rows gs i, sum_by-cons (λ x. named_by i x) g gs)

module _ (gs : List GroupState) (g : ℕ) (i : ℕ) where
  set_named : (s : GroupState) → g < length gs → sum_by (λ x. named_by i x) (set gs g s) + once (count_at gs g) (times i (row_at gs g)) ≡ sum_by (λ x. named_by i x) gs + once s.count (times i s.row)
  set_named s lt = sum_by-set (λ x. named_by i x) gs g s no_group lt

  counted_with : (n : ℕ) → IsOut gs g → 0 < n → times i (rows_of (with_count g n gs)) ≡ times i (rows_of gs)
  counted_with n h some =
      let t = times i (row_at gs g) in
      omega (arith, times_rows gs i, times_rows (with_count g n gs) i, set_named (record { count = n; row = row_at gs g }) (out_inside gs g h), once_some (count_at gs g) t h, once_some n t some)

  counted_without : IsOut gs g → times i (rows_of gs) ≡ times i (rows_of (without g gs)) + times i (row_at gs g)
  counted_without h =
      omega (arith, times_rows gs i, times_rows (without g gs) i, set_named no_group (out_inside gs g h), once_some (count_at gs g) (times i (row_at gs g)) h)

  -- one owner of a group less takes away its row at most
  pub row_lowered : IsOut gs g → times i (rows_of gs) ≤ times i (rows_of (with_count g (count_at gs g - 1) gs)) + times i (row_at gs g)
  row_lowered h =
      let t = times i (row_at gs g) in
      omega (arith, times_rows gs i, times_rows (with_count g (count_at gs g - 1) gs) i, set_named (record { count = count_at gs g - 1; row = row_at gs g }) (out_inside gs g h), once_some (count_at gs g) t h)

  counted_made : (row : List ℕ) → IsFreeName gs g → times i (rows_of (with_row g row gs)) ≡ times i (rows_of gs) + times i row
  counted_made row free =
      omega (arith, times_rows gs i, times_rows (with_row g row gs) i, set_named (record { count = 1; row = row }) free.0, once_none (count_at gs g) (times i (row_at gs g)) free.1)

  -- each owner in the row of a group that is owned is among those of rows
  pub row_counted : IsOut gs g → times i (row_at gs g) ≤ tally (SharedItem i) (rows_held gs)
  row_counted h =
      let l = get_or-le-sum_by (λ x. named_by i x) gs g no_group (out_inside gs g h) in
      omega (arith, l, once_some (count_at gs g) (times i (row_at gs g)) h, times_rows gs i, tally-often (SharedItem i) (rows_of gs))

module _ (gs : List GroupState) (g : ℕ) (h : Hold) where
  pub rows_raised : IsOut gs g → tally h (rows_held (more_owned g gs)) ≡ tally h (rows_held gs)
  rows_raised out = tally_same h (rows_of (more_owned g gs)) (rows_of gs) (λ i. counted_with gs g i (count_at gs g + 1) out (omega arith))

  pub rows_made : (row : List ℕ) → IsFreeName gs g → tally h (rows_held (with_row g row gs)) ≡ tally h (rows_held gs) + tally h (map SharedItem row)
  rows_made row free = tally_both h (rows_of (with_row g row gs)) (rows_of gs) row (λ i. counted_made gs g i row free)

  pub rows_given : IsOut gs g → tally h (rows_held (less_owned g gs)) + tally h (map SharedItem (row_ended g gs)) ≡ tally h (rows_held gs)
  rows_given out =
      elim (one_or_more (count_at gs g)) [
        | inl few ↦
            let both = tally_both h (rows_of gs) (rows_of (without g gs)) (row_at gs g) (λ i. counted_without gs g i out) in
            let less = ap (λ (x : List GroupState). tally h (rows_held x)) (ends_last gs g few) in
            let row = ap (λ (x : List ℕ). tally h (map SharedItem x)) (gives_row gs g few) in
            omega (arith, both, less, row)
        | inr more ↦
            let same = tally_same h (rows_of (with_count g (count_at gs g - 1) gs)) (rows_of gs) (λ i. counted_with gs g i (count_at gs g - 1) out (omega (arith, more))) in
            let less = ap (λ (x : List GroupState). tally h (rows_held x)) (stays_out gs g more) in
            let row = ap (λ (x : List ℕ). tally h (map SharedItem x)) (gives_none gs g more) in
            omega (arith, same, less, row, tally-often h [], often-nil h)
      ]

-- no row is kept where no group has an owner
pub rows_none : (gs : List GroupState) → NoneOut gs → rows_of gs ≡ []
rows_none [] none = refl
rows_none (g ∷ gs) none = no_row g.count (none 0) ∙ rows_none gs (λ k. none (suc k))
  where
    no_row : (n : ℕ) → n ≡ 0 → row_if n g.row ++ rows_of gs ≡ rows_of gs
    no_row zero e = refl
    no_row (suc n) e = absurd (omega (arith, e))

pub rows_grown : (gs : List GroupState) (h : Hold) → tally h (rows_held (gs ++ no_group ∷ [])) ≡ tally h (rows_held gs)
rows_grown gs h = tally_same h (rows_of (gs ++ no_group ∷ [])) (rows_of gs) (λ i. omega (arith, times_rows gs i, times_rows (gs ++ no_group ∷ []) i, sum_by-append (λ x. named_by i x) gs (no_group ∷ [])))
