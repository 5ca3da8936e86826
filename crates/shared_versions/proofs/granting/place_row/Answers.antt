use Rattle.shared_versions.specs.declared.node.Node.TheVariants as nodes
use Rattle.shared_versions.proofs.OwnedLemmas.{made_row}
use Rattle.shared_versions.proofs.granting.place_row.Goals as goal

pub returns-in-Ok-clause-both : goal.returns-in-Ok-clause-both
returns-in-Ok-clause-both g c =
    let place = c.args.domain.now.table.shared.table_id in
    let node = nodes.Row c.args.segments in
    let one = made_row place c.in-Ok.both.0 node c.in-Ok.ensures.home.0 c.in-Ok.ensures.item.0 tt in
    let other = made_row place c.in-Ok.both.1 node c.in-Ok.ensures.home.1 c.in-Ok.ensures.item.1 tt in
    (one.0, other.0)

pub returns-in-Ok-clause-blocks : goal.returns-in-Ok-clause-blocks
returns-in-Ok-clause-blocks g c =
    let place = c.args.domain.now.table.shared.table_id in
    let node = nodes.Row c.args.segments in
    let one = made_row place c.in-Ok.both.0 node c.in-Ok.ensures.home.0 c.in-Ok.ensures.item.0 tt in
    let other = made_row place c.in-Ok.both.1 node c.in-Ok.ensures.home.1 c.in-Ok.ensures.item.1 tt in
    (one.1, other.1)
