use Rattle.std.proofs.Common.{is_some, sym, ap, ◌∙◌}
use Rattle.leaf_array.proofs.EntryLemmas.{has_lookup}
use Rattle.version_views.proofs.OptionLemmas.{copied_some}
use Rattle.serial_history.proofs.ordered_view.has.Goals as goal

pub returns : goal.returns
returns g c = c.is_some.ensures ∙ sym (copied_some c.find.result) ∙ ap is_some c.find.ensures ∙ sym (has_lookup g.K.Ord.cmp c.args.key.now (g.L.OrderedView.pairs c.args.list.now))
