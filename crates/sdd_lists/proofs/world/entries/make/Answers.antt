use Rattle.std.proofs.Common.{◌∙◌, sym, arith}
use Rattle.sdd_lists.proofs.EntryNewLemmas.{one_owner}
use Rattle.sdd_lists.proofs.world.entries.make.Goals as goal

pub unreachable-requires : goal.unreachable-requires
unreachable-requires g c = let e = one_owner 4294967295 (sym c.in-Ok.ensures.one ∙ c.in-None.ensures.full.1) in omega (arith, e)
