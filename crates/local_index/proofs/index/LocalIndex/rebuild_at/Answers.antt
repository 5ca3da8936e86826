use Rattle.std.proofs.Common.{◌∙◌, ap, arith}
use Rattle.local_index.specs.State.{State}
use Rattle.local_index.proofs.IndexLemmas.{kept_list}
use Rattle.local_index.proofs.index.LocalIndex.rebuild_at.Goals as goal

-- the version that is kept has the list of its number
pub rebuild_from-requires-clause-list : goal.rebuild_from-requires-clause-list
rebuild_from-requires-clause-list g c =
    let v = c.in-Some.ensures in
    let from = c.in-Some.from in
    let first = c.first_number.ensures in
    let named = ap (λ (x : State _ _). x.base.number) c.self.view_is in
    let later = c.if-from-first_number.true in
    v.4 ∙ kept_list g.K.Ord.cmp c.self.inside.history c.self.invariant v.0 from v.1 v.2 (omega (arith, first, named, later))
