use Rattle.std.proofs.Common.{arith, nat_cmp}
use Rattle.std.proofs.lemmas.Cmp.{nat_cmp_total}
use Rattle.leaf_array.proofs.EntryLemmas.{absent_behind}
use Rattle.tree_tests.proofs.array.slot.put_at.Goals as goal

pub insert_unchecked-requires-clause-absent : goal.insert_unchecked-requires-clause-absent
insert_unchecked-requires-clause-absent c = absent_behind nat_cmp nat_cmp_total c.args.key c.args.array.now.pairs (omega (arith, c.lower_bound.ensures.place, c.if-lower_bound-len.false, c.len.ensures.count))
