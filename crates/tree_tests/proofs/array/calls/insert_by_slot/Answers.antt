use Rattle.std.proofs.Common.{◌∙◌, ap, nat_cmp}
use Rattle.std.specs.BTreeMap.{is_at}
use Rattle.std.specs.Option.{is_some}
use Rattle.leaf_array.proofs.SortLemmas.{has_entry}
use Rattle.tree_tests.proofs.array.calls.insert_by_slot.Goals as goal

pub insert_unchecked-slot-requires-clause-absent : goal.insert_unchecked-slot-requires-clause-absent
insert_unchecked-slot-requires-clause-absent c = has_entry nat_cmp (is_at (nat_cmp c.args.key)) c.args.array.now.pairs ∙ ap is_some c.in-None.ensures

pub insert_unchecked-slot-requires-clause-dry : goal.insert_unchecked-slot-requires-clause-dry
insert_unchecked-slot-requires-clause-dry c = λ _. c.insert_dry-place.ensures.word c.args.val
