use Rattle.std.proofs.Common.{arith, ◌∙◌}
use Rattle.leaf_array.proofs.SlotLemmas.{stands_labels, stands_within}
use Rattle.leaf_array.proofs.array.Array.position.Goals as goal

pub returns-clause-place : goal.returns-clause-place
returns-clause-place g c = rw (← c.self.view_is) (c.position.ensures ∙ stands_labels c.args.slot 0 c.self.inside.slots)

pub returns-clause-within : goal.returns-clause-within
returns-clause-within g c = rw (← c.self.view_is) (λ h. omega (arith, c.position.ensures, stands_within c.args.slot 0 c.self.inside.slots h))
