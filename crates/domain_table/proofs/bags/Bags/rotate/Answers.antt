use Rattle.domain_table.proofs.WaitLemmas.{rotates}
use Rattle.domain_table.proofs.bags.Bags.rotate.Goals as goal

pub returns : goal.returns
returns c = rotates c.args.self.now c.requires
