-- a participant that stays the same, and one that had a guard open meanwhile
use Rattle.std.proofs.Common.{◌≡◌, ◌<◌, ◌+◌, ◌-◌, ◌==◌, zero, suc, ℕ, true, false, cond, refl, sym, ap, ◌∙◌, subst, arith}
use Rattle.std.specs.Prelude.{nat_lt, ◌≤◌}
use Rattle.std.proofs.lemmas.Bool.Decides.{nat_tests}
use Rattle.sdd_plain.specs.Locals.{closings_after, scans}
use Rattle.sdd_plain.specs.declared.local_state.LocalState.{LocalState}
use Rattle.sdd_domain.specs.Tokens.{born_of, own_of, nest_in, waiting_of, begun, closed, IsInNestButMisses, IsSame}
use Rattle.sdd_domain.specs.declared.domain.Domain.{Domain}
use Rattle.sdd_domain.specs.declared.local.Local.{Local}
use Rattle.shared_lists.specs.Lists.{IsAsBefore, IsReady, IsStill}

-- one guard fewer is open after a closing
pub one_fewer : (m m' : LocalState) → m' ≡ closed m → 0 < m.nesting → m'.nesting + 1 ≡ m.nesting
one_fewer m m' is some =
    let outer : LocalState = record m { nesting = 0; closings = cond (scans m) 0 (closings_after m) } in
    let inner : LocalState = record m { nesting = m.nesting - 1 } in
    ap (λ s. s.nesting + 1) is ∙ (elim (m.nesting == 1) as (λ b. (m.nesting == 1) ≡ b → (cond b outer inner).nesting + 1 ≡ m.nesting) [
      | true ↦ λ e. grind (arith, nat_tests)
      | false ↦ λ e. omega arith
    ]) refl

module _ {T : Type 0} where
  pub still_itself : (l : Local T) → IsStill l l
  still_itself l = (((refl, refl, refl, refl), refl), refl)

  pub still : (old now new : Local T) → IsStill old now → IsStill now new → IsStill old new
  still old now new before after = (((after.0.0.0 ∙ before.0.0.0, after.0.0.1 ∙ before.0.0.1, after.0.0.2 ∙ before.0.0.2, after.0.0.3 ∙ before.0.0.3), after.0.1 ∙ before.0.1), after.1 ∙ before.1)

  pub as_before : (old now new : Local T) → IsAsBefore old now → IsAsBefore now new → IsAsBefore old new
  as_before old now new before after = ((after.0.0 ∙ before.0.0, after.0.1 ∙ before.0.1, after.0.2 ∙ before.0.2), after.1 ∙ before.1, λ some. after.2 (subst (λ n. 0 < n) (sym before.1) some) ∙ before.2 some)

  -- where its misses may differ
  pub but_for_misses : (old new : Local T) → IsInNestButMisses old new → own_of new ≡ own_of old → IsAsBefore old new
  but_for_misses old new same own = (same.0, ap (λ m. m.nesting) own, λ _. same.1)

  pub still_ready : (d : Domain T) (old now : Local T) → IsReady old d → IsAsBefore old now → IsReady now d
  still_ready d old now ready same = (same.0.0 ∙ ready.0, same.0.2 ∙ ready.1, subst (λ n. n < 4294967295) (sym same.1) ready.2)

  -- one guard more is open after an opening
  pub one_more : (old now : Local T) → ((own_of old).nesting ≡ 0 → (count : ℕ) × (count ≤ born_of now) × (own_of now ≡ begun count (nat_lt 0 (waiting_of now)) (own_of old)))
      → (0 < (own_of old).nesting → own_of now ≡ record (own_of old) { nesting = (own_of old).nesting + 1 }) → (own_of now).nesting ≡ (own_of old).nesting + 1
  one_more old now first more = (elim (own_of old).nesting as (λ n. (own_of old).nesting ≡ n → (own_of now).nesting ≡ (own_of old).nesting + 1) [
    | zero ↦ λ e. let one : (own_of now).nesting ≡ 1 = ap (λ m. m.nesting) (first e).2 in omega (arith, e, one)
    | suc k ↦ λ e. ap (λ m. m.nesting) (more (omega (arith, e)))
  ]) refl

  -- a guard was opened and closed, and nothing else changed meanwhile
  pub guarded : (old opened near now new : Local T) → (own_of opened).nesting ≡ (own_of old).nesting + 1 → (0 < (own_of old).nesting → nest_in opened ≡ nest_in old) → IsSame old opened → IsStill opened near
      → own_of new ≡ closed (own_of now) → (1 < (own_of now).nesting → nest_in new ≡ nest_in now) → IsSame now new → IsStill near now → IsAsBefore old new
  guarded old opened near now new more nest first before closing inner last after =
      let under = still opened near now before after in
      let some : 0 < (own_of now).nesting = omega (arith, under.1, more) in
      let fewer = one_fewer (own_of now) (own_of new) closing some in (
        (last.0 ∙ (under.0.0.0 ∙ first.0), last.1 ∙ (under.0.0.1 ∙ first.1), last.2 ∙ (under.0.0.2 ∙ first.2)),
        omega (arith, fewer, under.1, more),
        λ one. inner (omega (arith, under.1, more, one)) ∙ (under.0.1 ∙ nest one),
      )
