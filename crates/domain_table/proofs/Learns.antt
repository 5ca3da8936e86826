-- a seat is told how large the place is, in a step that changes no word
use Rattle.std.proofs.Common.{◌≡◌, ℕ, eqb, eq-eqb, ne_eqb, get_or, set, sym, refl, ap, ◌∙◌, subst}
use mathlib.Core.Logic.{dite}
use mathlib.Core.Option.{some}
use native.Mathlib.Decide.{ℕ_discrete}
use prog.Atomic.{either}
use Rattle.atomic_table.specs.Table.{Me, step, keeps, Allows}
use Rattle.sdd_plain.specs.declared.sizes.Sizes.{Sizes}
use Rattle.sdd_homes.specs.Book.{Content}
use Rattle.domain_table.specs.Rule.{Shows}
use Rattle.domain_table.specs.Plays.{learn_then}
use Rattle.domain_table.specs.declared.board.Acting.{Acting}
use Rattle.domain_table.specs.declared.board.Plan.{Plan}
use Rattle.domain_table.proofs.Moves.{idles}

-- 0 takes the place of 0
stays_so : (k : ℕ) → k ≡ either (eqb k 0) 0 k
stays_so k = dite (ℕ_discrete k 0) (λ e. e ∙ ap (λ b. either b 0 k) (sym (eq-eqb k 0 e))) (λ ne. ap (λ b. either b 0 k) (sym (ne_eqb k 0 ne)))

module _ (S : Type 0) (IsIn : Content → S → Type 0) (Announces : S → Sizes → Type 0) (plan : Plan) where
  -- what is said is how large the place is
  pub learns : (slots id i : ℕ) (me : Me S Acting) (said : S) → me.0.kind ≡ 1 → ((z : Sizes) → Announces said z → plan.sizes ≡ z)
      → Allows (Shows IsIn plan) slots id me i (λ n. either (eqb n 0) 0 n) (learn_then Announces (step slots i 0 0 (some said)) me)
  learns slots id i me said kind is s r _ at _ = let d = me.0 in let k : ℕ = get_or s.words i 0 in (
    d,
    keeps,
    tt,
    subst (λ n. Shows IsIn plan record { words = set s.words i n; homes = s.homes; views = set s.views id d }) (stays_so k) (idles S IsIn plan s r i id d at),
    (refl, λ x z e h. (r.items.seats id d at kind).sizes_are ∙ is z (subst (λ y. Announces y z) (let heads : some x ≡ some said = sym e in let same : x ≡ said = cc in same) h)),
  )
