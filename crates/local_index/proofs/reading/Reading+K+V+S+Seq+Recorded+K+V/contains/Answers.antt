use Rattle.std.proofs.Common.{is_some, sym, ap, ◌∙◌}
use Rattle.leaf_array.proofs.EntryLemmas.{has_lookup}
use Rattle.local_index.specs.Reading.{list_read}
use Rattle.version_views.proofs.OptionLemmas.{copied_some}
use Rattle.local_index.proofs.reading.Reading+K+V+S+Seq+Recorded+K+V.contains.Goals as goal

pub returns : goal.returns
returns g c = c.is_some.ensures ∙ sym (copied_some c.get.result) ∙ ap is_some c.get.ensures ∙ sym (has_lookup g.K.Ord.cmp c.args.key.now (list_read c.args.self.now))
