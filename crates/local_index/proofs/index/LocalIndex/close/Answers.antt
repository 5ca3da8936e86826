use Rattle.std.proofs.Common.{◌≡◌, None, refl, subst, sym, ◌∙◌}
use Rattle.std.proofs.lemmas.Bool.{false≢true}
use Rattle.std.specs.List.{All}
use Rattle.local_index.specs.State.{State}
use Rattle.local_index.proofs.index.LocalIndex.close.Goals as goal

pub returns-then-not-is_idle-clause-idle : goal.returns-then-not-is_idle-clause-idle
returns-then-not-is_idle-clause-idle g c = (
  λ e. absurd (false≢true e),
  λ idle. sym c.if-not-is_idle.true ∙ c.is_idle.ensures.1 (subst (λ (x : State _ _). All (λ p. p ≡ None) x.places) (sym c.self.view_is) idle),
)

pub returns-clause-idle : goal.returns-clause-idle
returns-clause-idle g c = (
  λ e. subst (λ (x : State _ _). All (λ p. p ≡ None) x.places) c.self.view_is (c.is_idle.ensures.0 c.if-not-is_idle.false),
  λ idle. refl,
)
