use Rattle.std.proofs.Common.{◌∙◌, ◌==◌, not, nat_eq}
use denote.Param.{value_of, number}
use Rattle.leaf_array.specs.Results.{is_closed}
use Rattle.leaf_array.specs.Cells.{array_has_key}
use Rattle.leaf_array.proofs.EntryLemmas.{has_lookup}
use Rattle.tree_nodes.proofs.LeafLemmas.{repeated_has, unique, put_is}
use Rattle.tree_nodes.proofs.leaf.Leaf.insert.Goals as goal

pub returns-clause-duplicate : goal.returns-clause-duplicate
returns-clause-duplicate g c r =
    has_lookup g.K.Ord.cmp c.args.key c.args.self.now.array.pairs ∙ repeated_has (not (nat_eq (value_of (number g.row.UPSERT)) 0)) g.K.Ord.cmp c.args.key c.args.self.now.array (c.put.ensures.duplicate.0 r)

pub returns-clause-unique : goal.returns-clause-unique
returns-clause-unique g c s e =
    let a = c.args.self.now.array in
    has_lookup g.K.Ord.cmp c.args.key a.pairs ∙ unique c.put.result (is_closed a) (a.used == 15) (not (nat_eq (value_of (number g.row.UPSERT)) 0)) (array_has_key g.K.Ord.cmp c.args.key a) c.put.ensures.full.1 c.put.ensures.duplicate.1 s e

pub returns-clause-done : goal.returns-clause-done
returns-clause-done g c s =
    put_is g.K.Ord.cmp g.met.K.Ord.total c.args.key c.args.val c.args.self.now.array c.put.new.self c.len.ensures.ordered (c.put.ensures.inserted s) (c.put.ensures.overwritten s)

pub returns-clause-absent : goal.returns-clause-absent
returns-clause-absent g c f = has_lookup g.K.Ord.cmp c.args.key c.args.self.now.array.pairs ∙ c.put.ensures.absent f c.requires
