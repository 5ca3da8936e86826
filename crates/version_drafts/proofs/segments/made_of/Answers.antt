use Rattle.std.proofs.Common.{refl, ap, ◌∙◌, arith}
use Rattle.std.proofs.lemmas.List.{take_all}
use Rattle.version_drafts.specs.Parts.{made_in}
use Rattle.version_drafts.proofs.segments.made_of.Goals as goal

pub loop-part-init : goal.loop-part-init
loop-part-init g c = record { here = refl; upto = omega arith }

pub returns-clause-count : goal.returns-clause-count
returns-clause-count g c = c.loop-part.invariant.here ∙ ap made_in (take_all c.loop-part.part-index c.args.parts.now (omega (arith, c.loop-part-test.false)))
