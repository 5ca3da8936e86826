use Rattle.std.proofs.Common.{refl}
use Rattle.local_index.proofs.IndexLemmas.{kept_new}
use Rattle.local_index.proofs.index.LocalIndex.with_last.Goals as goal

pub returns : goal.returns
returns g c = rw (c.in_ok-new.ensures, c.empty.ensures) refl

pub invariant_of-result : goal.invariant_of-result
invariant_of-result g c = rw (c.in_ok-new.ensures, c.empty.ensures) (kept_new g.K.Ord.cmp g.row.S c.args.places c.args.slots 1 0 c.requires.some_pair c.requires.segment_fits)
