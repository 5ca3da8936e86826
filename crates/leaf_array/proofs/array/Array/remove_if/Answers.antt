use Rattle.std.proofs.Common.{◌∙◌, ap}
use Rattle.std.specs.Option.{is_some}
use Rattle.std.specs.BTreeMap.{is_at}
use Rattle.std.specs.List.Sorted.{IsStrictlySortedBy}
use Rattle.std.specs.Map.{keys_of}
use Rattle.leaf_array.specs.Cells.{removed_at}
use Rattle.leaf_array.proofs.SortLemmas.{has_entry}
use Rattle.leaf_array.proofs.SoundLemmas.{removed_is}
use Rattle.leaf_array.proofs.array.Array.remove_if.Goals as goal
use Rattle.leaf_array.proofs.array.Array.remove_if.Goals.{then-self-eq0, else-self-eq0}

pub returns-clause-asked : goal.returns-clause-asked
returns-clause-asked g c = λ unfrozen. rw c.in-Some.ensures.pair (elim c.if-self-eq0.branch [ then-self-eq0 w ↦ rw w.result-is c.if-not-answer.ensures | else-self-eq0 w ↦ rw w.result-is c.if-not-answer.ensures ])

pub returns-clause-removed : goal.returns-clause-removed
returns-clause-removed g c = λ yes.
    let there = has_entry g.K.Ord.cmp (is_at (g.K.Ord.cmp c.args.key.now)) c.args.self.now.pairs ∙ ap is_some c.in-Some.ensures.pair in
    let so : IsStrictlySortedBy g.K.Ord.cmp (keys_of c.args.self.now.pairs) = rw (← c.self.view_is) c.self.invariant.sorted in
    c.bury.ensures ∙ ap (λ n. removed_at n c.args.self.now) c.in-Some.ensures.place ∙ removed_is g.K.Ord.cmp g.met.K.Ord.total c.args.key.now c.args.self.now there so
