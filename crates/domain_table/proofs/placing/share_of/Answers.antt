use Rattle.std.proofs.Common.{◌-◌, ◌^◌, arith}
use Rattle.std.proofs.Math.Nat.{mul-div-le}
use Rattle.std.proofs.lemmas.Nat.{le-div}
use Rattle.domain_table.proofs.placing.share_of.Goals as goal

pub returns-clause-some : goal.returns-clause-some
returns-clause-some c = let few = c.requires.1 in le-div 1 (2 ^ 63 - 1) c.args.participants c.requires.0 (omega arith)

pub returns-clause-fits : goal.returns-clause-fits
returns-clause-fits c = let h = mul-div-le (2 ^ 63 - 1) c.args.participants in omega arith
