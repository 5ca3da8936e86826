use Rattle.local_versions.proofs.StayingLemmas.{versions_stay}
use Rattle.local_versions.proofs.laws.versions_stay.Goals as goal

pub returns : goal.returns
returns g c = versions_stay g.K.Ord.cmp
