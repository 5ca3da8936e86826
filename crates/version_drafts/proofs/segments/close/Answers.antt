use Rattle.std.proofs.Common.{◌++◌, ◌∷◌, [], ap, ◌∙◌}
use Rattle.version_drafts.specs.declared.segments.Part.TheVariants as parts
use Rattle.version_drafts.proofs.segments.close.Goals as goal

pub returns-clause-parts : goal.returns-clause-parts
returns-clause-parts g c = c.in_ok-push.ensures.items ∙ ap (λ t. c.args.out.now.row.parts.items ++ parts.Made t ∷ []) c.replace.ensures.value
