use Rattle.std.proofs.Common.{◌≤◌, ◌+◌, ◌*◌, ◌/◌, subst}
use Rattle.version_drafts.specs.Drafts.{Plan}
use Rattle.version_drafts.proofs.plans.Draft.slots.Goals as goal

pub returns-clause-few : goal.returns-clause-few
returns-clause-few g c = subst (λ (p : Plan _ _ _). c.self.inside.slots ≤ 2 * (p.shelves.length / (g.row.S + 1)) + 2) c.self.view_is c.self.invariant.few
