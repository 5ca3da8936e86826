-- a guard that stays open
use Rattle.std.proofs.Common.{◌≡◌, ◌<◌, ℕ, sym, ◌∙◌, subst}
use Rattle.sdd_domain.specs.declared.domain.Domain.{Domain}
use Rattle.sdd_domain.specs.declared.guard.Guard.{Guard}
use Rattle.sdd_domain.specs.declared.local.Local.{Local}
use Rattle.shared_lists.specs.Lists.{IsOpenIn, IsStill}

pub still_open : {T : Type 0} (g : Guard) (d : Domain T) (old now : Local T) → IsOpenIn g old d → IsStill old now → IsOpenIn g now d
still_open g d old now o s = (s.0.0.0 ∙ o.0, o.1 ∙ sym s.0.1, subst (λ n. 0 < n) (sym s.1) o.2)
