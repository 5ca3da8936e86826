use Rattle.version_views.proofs.BlockListLemmas.{blocks_fit}
use Rattle.local_versions.proofs.laws.segments_are_few.Goals as goal

pub returns : goal.returns
returns g c = blocks_fit
