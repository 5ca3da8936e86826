use Rattle.std.proofs.Common.{sym, ap, ◌∙◌}
use Rattle.std.specs.Option.{option_map}
use Rattle.version_views.specs.Cuts.{pairs_in}
use Rattle.leaf_array.proofs.EntryLemmas.{value_lookup}
use Rattle.serial_history.proofs.version_view.value_in_counted.Goals as goal

pub returns-in-Some-clause-value : goal.returns-in-Some-clause-value
returns-in-Some-clause-value g c = sym (value_lookup g.K.Ord.cmp c.args.key.now (pairs_in c.args.version.now) ∙ ap (option_map (λ e. e.1)) c.in-Some.ensures.pair)

pub returns-in-None-clause-value : goal.returns-in-None-clause-value
returns-in-None-clause-value g c = sym (value_lookup g.K.Ord.cmp c.args.key.now (pairs_in c.args.version.now) ∙ ap (option_map (λ e. e.1)) c.in-None.ensures.pair)
