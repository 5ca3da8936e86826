use Rattle.shared_versions.proofs.LoadedLemmas.{item_is}
use Rattle.shared_versions.proofs.reader.node_at.Goals as goal

pub returns : goal.returns
returns g c = item_is c.as_ref.result c.args.at.now.seen c.as_ref.ensures.item c.as_ref.ensures.null
