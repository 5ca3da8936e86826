-- groups of owners that grow and shrink, and how many names are free
use Rattle.std.proofs.Common.{◌≡◌, ◌≢◌, ℕ, zero, suc, ◌+◌, ◌-◌, ◌<◌, ◌≤◌, List, [], ◌∷◌, ◌++◌, set, refl, sym, ap, ◌∙◌, arith, subst, inl, inr, get_or-set_same, get_or-set_other}
use Rattle.std.specs.List.{sum_by}
use Rattle.std.proofs.lemmas.Bool.Decides.{eqb_tells}
use Rattle.std.proofs.lemmas.List.Sums.{sum_by-append, sum_by-cons, sum_by-set}
use Rattle.sdd_table.specs.Groups.{GroupState, GroupsGrow, GroupsShrink, IsFreeName, IsOut, NoNameFree, SameRows, count_at, free_names, group_at, is_vacant, less_owned, more_owned, no_group, row_at, with_count, with_row, without}
use Rattle.sdd_table.proofs.ArenaLemmas.{ends_last, free_again, not_free, one_or_more, out_inside, stays_out}

pub groups_same : (gs : List GroupState) → GroupsGrow gs gs
groups_same gs g out = (out, refl)

-- one after the other; backwards of groups that shrink
pub groups_then : (fs gs hs : List GroupState) → GroupsGrow fs gs → GroupsGrow gs hs → GroupsGrow fs hs
groups_then fs gs hs a b g out =
    let first = a g out in
    let second = b g first.0 in
    (second.0, second.1 ∙ first.1)

pub grown_rows : (gs hs : List GroupState) → GroupsGrow gs hs → SameRows gs hs
grown_rows gs hs a g was is = (a g was).1

pub shrunk_rows : (gs hs : List GroupState) → GroupsShrink gs hs → SameRows gs hs
shrunk_rows gs hs a g was is = sym (a g is).1

-- another group in the place of one
set_apart : (gs : List GroupState) (g k : ℕ) (s : GroupState) → k ≢ g → group_at (set gs g s) k ≡ group_at gs k
set_apart gs g k s ne = get_or-set_other gs g k s no_group ne

module _ (gs : List GroupState) (g : ℕ) where
  -- a group is made of a free name
  pub made_grows : (row : List ℕ) → IsFreeName gs g → GroupsGrow gs (with_row g row gs)
  made_grows row free k out =
      let s : GroupState = record { count = 1; row = row } in
      elim (eqb_tells k g) [
        | inl e ↦ absurd (let none = free.1 in let same = ap (count_at gs) e.1 in omega (arith, out, none, same))
        | inr e ↦ (let o = set_apart gs g k s e.1 in (subst (λ (x : GroupState). 0 < x.count) (sym o) out, ap (λ (x : GroupState). x.row) o))
      ]

  -- a count that isn't 0 becomes another one
  counted_grows : (n : ℕ) → 0 < n → GroupsGrow gs (with_count g n gs)
  counted_grows n some k out =
      let s : GroupState = record { count = n; row = row_at gs g } in
      elim (eqb_tells k g) [
        | inl e ↦
            let P : ℕ → Type 0 = λ j. IsOut gs j → IsOut (with_count g n gs) j × (row_at (with_count g n gs) j ≡ row_at gs j) in
            let here : P g = λ o. let same = get_or-set_same gs g s no_group (out_inside gs g o) in (subst (λ (x : GroupState). 0 < x.count) (sym same) some, ap (λ (x : GroupState). x.row) same) in
            subst P (sym e.1) here out
        | inr e ↦ (let o = set_apart gs g k s e.1 in (subst (λ (x : GroupState). 0 < x.count) (sym o) out, ap (λ (x : GroupState). x.row) o))
      ]

  pub raised_grows : GroupsGrow gs (more_owned g gs)
  raised_grows = counted_grows (count_at gs g + 1) (omega arith)

-- an owner of a group is given back
module _ (gs : List GroupState) (g : ℕ) where
  ended_shrinks : GroupsShrink gs (without g gs)
  ended_shrinks k out =
      elim (eqb_tells k g) [
        | inl e ↦ absurd (still_none gs g (subst (λ j. IsOut (without g gs) j) e.1 out))
        | inr e ↦ (let o = set_apart gs g k no_group e.1 in (subst (λ (x : GroupState). 0 < x.count) o out, ap (λ (x : GroupState). x.row) (sym o)))
      ]
    where
      still_none : (xs : List GroupState) (j : ℕ) → IsOut (without j xs) j → ⊥
      still_none [] j o = omega (arith, o)
      still_none (x ∷ xs) zero o = omega (arith, o)
      still_none (x ∷ xs) (suc j) o = still_none xs j o

  counted_shrinks : (n : ℕ) → 0 < count_at gs g → GroupsShrink gs (with_count g n gs)
  counted_shrinks n some k out =
      let s : GroupState = record { count = n; row = row_at gs g } in
      elim (eqb_tells k g) [
        | inl e ↦
            let P : ℕ → Type 0 = λ j. IsOut gs j × (row_at gs j ≡ row_at (with_count g n gs) j) in
            let here : P g = (some, ap (λ (x : GroupState). x.row) (sym (get_or-set_same gs g s no_group (out_inside gs g some)))) in
            subst P (sym e.1) here
        | inr e ↦ (let o = set_apart gs g k s e.1 in (subst (λ (x : GroupState). 0 < x.count) o out, ap (λ (x : GroupState). x.row) (sym o)))
      ]

  pub lowered_shrinks : GroupsShrink gs (less_owned g gs)
  lowered_shrinks =
      elim (one_or_more (count_at gs g)) [
        | inl few ↦ subst (λ (x : List GroupState). GroupsShrink gs x) (sym (ends_last gs g few)) ended_shrinks
        | inr more ↦ subst (λ (x : List GroupState). GroupsShrink gs x) (sym (stays_out gs g more)) (counted_shrinks (count_at gs g - 1) (omega (arith, more)))
      ]

-- a name more
pub name_grows : (gs : List GroupState) → GroupsGrow gs (gs ++ no_group ∷ [])
name_grows gs g out = let same = still gs g in (subst (λ (x : GroupState). 0 < x.count) (sym same) out, ap (λ (x : GroupState). x.row) same)
  where
    still : (xs : List GroupState) (j : ℕ) → group_at (xs ++ no_group ∷ []) j ≡ group_at xs j
    still [] zero = refl
    still [] (suc j) = refl
    still (x ∷ xs) zero = refl
    still (x ∷ xs) (suc j) = still xs j

-- free names
pub names_grown : (gs : List GroupState) → free_names (gs ++ no_group ∷ []) ≡ free_names gs + 1
names_grown gs = sum_by-append is_vacant gs (no_group ∷ [])

pub names_made : (gs : List GroupState) (g : ℕ) (row : List ℕ) → IsFreeName gs g → free_names (with_row g row gs) + 1 ≡ free_names gs
names_made gs g row free =
    let sum = sum_by-set is_vacant gs g (record { count = 1; row = row }) no_group free.0 in
    let was = free_again (count_at gs g) (row_at gs g) free.1 in
    omega (arith, sum, was)

pub names_raised : (gs : List GroupState) (g : ℕ) → IsOut gs g → free_names (more_owned g gs) ≡ free_names gs
names_raised gs g out =
    let sum = sum_by-set is_vacant gs g (record { count = count_at gs g + 1; row = row_at gs g }) no_group (out_inside gs g out) in
    let was = not_free (count_at gs g) (row_at gs g) out in
    let is = not_free (count_at gs g + 1) (row_at gs g) (omega arith) in
    omega (arith, sum, was, is)

pub names_none : (gs : List GroupState) → NoNameFree gs → free_names gs ≡ 0
names_none [] none = refl
names_none (x ∷ gs) none =
    let rest = names_none gs (λ g inside. none (suc g) (omega (arith, inside))) in
    let here = not_free x.count x.row (some x.count (none 0 (omega arith))) in
    let sum = sum_by-cons is_vacant x gs in
    omega (arith, rest, here, sum)
  where
    some : (n : ℕ) → n ≢ 0 → 0 < n
    some zero ne = absurd (ne refl)
    some (suc n) ne = omega arith
