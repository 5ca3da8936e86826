use Rattle.std.proofs.Common.{◌-◌, rules, arith, refl}
use Rattle.domain_table.proofs.Registers.{claims}
use Rattle.domain_table.proofs.steps.claim.Goals as goal

pub swap-found-requires : goal.swap-found-requires
swap-found-requires g c = (search rules, search rules, claims _ _ _ _ _ _ c.args.number c.requires.nobody.0 c.requires.nobody.1.0 c.requires.table.1 (let few = c.requires.table.3 in let small = c.requires.table.4 in omega arith))

pub returns-then-found-eq0-clause-refused : goal.returns-then-found-eq0-clause-refused
returns-then-found-eq0-clause-refused g c = (c.swap-found.ensures.2 c.args.number refl).0 c.if-found-eq0.true

pub returns-else-found-eq0-clause-claimed : goal.returns-else-found-eq0-clause-claimed
returns-else-found-eq0-clause-claimed g c = let some_ = c.if-found-eq0.false in (c.swap-found.ensures.2 c.args.number refl).1 (c.swap-found.result - 1) (omega arith)
