use Rattle.std.proofs.Common.{◌∙◌, IfSome, IfNone, subst}
use Rattle.serial_history.specs.Histories as histories
use Rattle.serial_history.specs.Serial.{latest}
use Rattle.local_index.specs.State.{State, latest_number, present}
use Rattle.local_index.proofs.IndexLemmas.{present_pairs, refuses_first, slots_later}
use Rattle.local_index.proofs.index.LocalIndex.validate.Goals as goal

pub returns-clause-some : goal.returns-clause-some
returns-clause-some g c =
    let cmp = g.K.Ord.cmp in
    let h = c.self.inside.history in
    let reads = c.args.reads.now in
    let there = subst (λ ps. IfSome c.validate.result (histories.MayRefuse cmp (latest h.base h.transactions) h.last ps reads)) (c.present.ensures ∙ present_pairs cmp h c.self.invariant) c.validate.ensures.some in
    let here = subst (λ (x : State _ _). IfSome c.validate.result (histories.MayRefuse cmp (latest_number x) x.last (present cmp x) reads)) c.self.view_is there in
    refuses_first cmp g.row.S c.args.self.now reads c.validate.result here c.validate.ensures.first

pub returns-clause-none : goal.returns-clause-none
returns-clause-none g c =
    let cmp = g.K.Ord.cmp in
    let h = c.self.inside.history in
    let reads = c.args.reads.now in
    let there = subst (λ ps. IfNone c.validate.result (histories.MayAccept cmp (latest h.base h.transactions) h.last ps reads)) (c.present.ensures ∙ present_pairs cmp h c.self.invariant) c.validate.ensures.none in
    subst (λ (x : State _ _). IfNone c.validate.result (histories.MayAccept cmp (latest_number x) x.last (present cmp x) reads)) c.self.view_is there

pub returns-clause-early : goal.returns-clause-early
returns-clause-early g c = slots_later c.validate.result c.validate.ensures.first
