use Rattle.std.proofs.Common.{ap, ◌∙◌, IfSome, IfNone, subst}
use Rattle.serial_history.specs.Histories as histories
use Rattle.serial_history.specs.Serial.{latest}
use Rattle.version_views.specs.Cuts.{pairs_in}
use Rattle.shared_index.specs.Books.{BookState, latest_number, present_list}
use Rattle.shared_index.proofs.BookLemmas.{unmissed}
use Rattle.shared_index.proofs.book.Book.validate.Goals as goal

pub returns-clause-some : goal.returns-clause-some
returns-clause-some g c =
    let cmp = g.K.Ord.cmp in
    let h = c.self.inside.history in
    let reads = c.args.reads.now in
    let there = subst (λ ps. IfSome c.validate.result (histories.MayRefuse cmp (latest h.base h.transactions) h.last ps reads)) (ap pairs_in c.view.ensures ∙ c.self.invariant.1.list) c.validate.ensures.some in
    subst (λ (x : BookState _ _). IfSome c.validate.result (histories.MayRefuse cmp (latest_number x) x.last (present_list cmp x) reads)) c.self.view_is there

pub returns-clause-unmissed : goal.returns-clause-unmissed
returns-clause-unmissed g c = unmissed c.validate.result c.validate.ensures.first

pub returns-clause-none : goal.returns-clause-none
returns-clause-none g c =
    let cmp = g.K.Ord.cmp in
    let h = c.self.inside.history in
    let reads = c.args.reads.now in
    let there = subst (λ ps. IfNone c.validate.result (histories.MayAccept cmp (latest h.base h.transactions) h.last ps reads)) (ap pairs_in c.view.ensures ∙ c.self.invariant.1.list) c.validate.ensures.none in
    subst (λ (x : BookState _ _). IfNone c.validate.result (histories.MayAccept cmp (latest_number x) x.last (present_list cmp x) reads)) c.self.view_is there
