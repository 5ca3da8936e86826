use Rattle.std.proofs.Common.{is_some, sym, ap, ◌∙◌}
use Rattle.leaf_array.proofs.EntryLemmas.{has_lookup}
use Rattle.local_index.specs.State.{list_read}
use Rattle.version_views.proofs.OptionLemmas.{copied_some}
use Rattle.local_index.proofs.index.LocalIndex.contains_counted.Goals as goal

pub returns-clause-found : goal.returns-clause-found
returns-clause-found g c = c.is_some.ensures ∙ sym (copied_some c.get_counted.result) ∙ ap is_some c.get_counted.ensures.value ∙ sym (has_lookup g.K.Ord.cmp c.args.key.now (list_read c.args.self.now c.args.session.now))
