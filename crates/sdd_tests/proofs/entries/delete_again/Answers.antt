use Rattle.std.proofs.Common.{◌∙◌, ap, not}
use Rattle.sdd_tests.proofs.entries.delete_again.Goals as goal

pub delete_self-requires-after_bounds : goal.delete_self-requires-after_bounds
delete_self-requires-after_bounds g c κs = record { entry = c.requires.0; is = c.requires.1 }

pub returns-clause-refused : goal.returns-clause-refused
returns-clause-refused g c = c.delete_self.ensures.when c.requires.0 c.requires.1 ∙ ap not c.requires.2

pub returns-clause-kept : goal.returns-clause-kept
returns-clause-kept g c = c.delete_self.ensures.kept (returns-clause-refused g c)
