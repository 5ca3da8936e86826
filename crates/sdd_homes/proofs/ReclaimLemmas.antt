-- a reclaimed item has no owner, and nobody has a lease of it
use Rattle.std.proofs.Common.{◌≡◌, ℕ, ◌<◌, sym, ap, ◌∙◌, subst, ⊎_elim, arith}
use mathlib.Core.Logic.{dite}
use native.Mathlib.Decide.{ℕ_discrete}
use Rattle.sdd_steps.specs.declared.item.Item.{Item}
use Rattle.sdd_steps.specs.declared.item.ItemState.TheVariants.{Live, Reclaimed}
use Rattle.sdd_steps.specs.State.{State, At}
use Rattle.sdd_steps.specs.Invariant.{Inv, Standing}
use Rattle.sdd_steps.proofs.ListLemmas.{same_at}
use Rattle.sdd_homes.specs.Reasons.{Loads, Why, Grips}

pub reclaimed_free : (s : State) (grip : ℕ → ℕ → Type 0) → Inv s → Grips s grip → (i q : ℕ) (it : Item) → At s.items i it → it.state ≡ Reclaimed q → (it.owners ≡ 0) × ((p : ℕ) → ¬ Why s grip p i)
reclaimed_free s grip (k, (b, n, f)) held i q it at gone = let o = k.owned i it at in let dead : ¬ (0 < it.owners) = (λ h. let bad : Live ≡ Reclaimed q = sym (o.is_live h) ∙ gone in absurd (cc)) in (
  dite (ℕ_discrete it.owners 0) (λ z. z) (λ ne. absurd (dead (omega arith))),
  λ p. ⊎_elim
      (λ (l : Loads s p i). let t = f.kept p l.0 l.1 l.2 l.3 l.4 l.5 in let at' : At s.items i t.0 = subst (λ z. At s.items z t.0) l.6 t.1 in let same : t.0 ≡ it = same_at s.items i t.0 it at' at in
      subst (Standing (b p) (n l.2.item)) (ap (λ (z : Item). z.state) same ∙ gone) t.3)
      (λ (g : grip p i). let t = held p i g in let same : t.0 ≡ it = same_at s.items i t.0 it t.1 at in let h = ap (λ (z : Item). z.hand) same in let w = t.2 in let c = o.counted in dead (omega arith)),
)
