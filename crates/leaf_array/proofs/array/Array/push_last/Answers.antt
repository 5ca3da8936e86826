use Rattle.leaf_array.proofs.EntryLemmas.{absent_behind, entry_last}
use Rattle.leaf_array.proofs.array.Array.push_last.Goals as goal

pub place-requires-clause-absent : goal.place-requires-clause-absent
place-requires-clause-absent g c = absent_behind g.K.Ord.cmp g.met.K.Ord.total c.args.key c.args.self.now.pairs c.requires.last

pub returns-clause-pairs : goal.returns-clause-pairs
returns-clause-pairs g c = rw c.place.ensures (entry_last g.K.Ord.cmp g.met.K.Ord.total c.args.key c.args.val c.args.self.now.pairs c.requires.last)
