use Rattle.std.proofs.lemmas.Result.{IfErr-weaker}
use Rattle.shared_index.specs.SharedFeeds.{LiesOutsideFeed, RefusesFeed}
use Rattle.shared_index.proofs.BookLemmas.{lies_outside_feed}
use Rattle.shared_index.proofs.index.SharedIndex.since.Goals as goal

pub returns : goal.returns
returns g c = record { refused = IfErr-weaker c.since-told.result (RefusesFeed c.deref.result.now.base c.deref.result.now.history c.args.number) (LiesOutsideFeed c.args.number) (lies_outside_feed c.deref.result.now.base c.deref.result.now.history c.args.number) c.since-told.ensures.refused }
