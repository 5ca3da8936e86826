use Rattle.std.proofs.Common.{ap, ◌∙◌}
use Rattle.shared_versions.specs.Sight.{Sight}
use Rattle.shared_versions.proofs.DirectoryLemmas.{whole_viewed}
use Rattle.shared_versions.proofs.lending.view_of.Goals as goal

pub new-requires : goal.new-requires
new-requires g c = whole_viewed c.args.version.now.own g.K.Ord.cmp c.args.version.now.width c.directory.result.now c.directory.ensures.whole

pub returns : goal.returns
returns g c = c.new.ensures ∙ ap (λ (v : Sight _ _). v.blocks) c.directory.ensures.sight
