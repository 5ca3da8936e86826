use Rattle.std.proofs.Common.{ap, sym, ◌∙◌}
use Rattle.std.specs.Option.{is_some}
use Rattle.leaf_array.proofs.EntryLemmas.{copied_some, has_lookup}
use Rattle.leaf_array.proofs.plain.contains_key.Goals as goal

pub returns : goal.returns
returns g c = c.is_some.ensures ∙ sym (copied_some c.find_value.result) ∙ ap is_some c.find_value.ensures ∙ sym (has_lookup g.K.Ord.cmp c.args.key.now c.args.pairs.now)
