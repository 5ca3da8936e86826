use Rattle.std.proofs.Common.{ap, ◌∙◌}
use Rattle.version_views.specs.declared.directory.Directory.{Directory}
use Rattle.shared_versions.specs.Nodes.{own_segments}
use Rattle.shared_versions.proofs.EmptyLemmas.{empty_whole}
use Rattle.shared_versions.proofs.node.Version.empty.Goals as goal

pub new-requires-4 : goal.new-requires-4
new-requires-4 g c =
    let is = c.new-directory.ensures in
    empty_whole g.K.Ord.cmp (own_segments c.new-own.result.items) c.args.width c.new-directory.result
    (ap (λ (d : Directory _ _). d.rows.items) is ∙ c.new.ensures.items)
    (ap (λ (d : Directory _ _). d.separators.items) is ∙ c.new-2.ensures.items)
    (ap (λ (d : Directory _ _). d.ends.items) is ∙ c.new-3.ensures.items)
    (ap (λ (d : Directory _ _). d.length) is)
