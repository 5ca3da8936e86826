use Rattle.std.proofs.Common.{ℕ, List, IfNone, IfSome, sym, ap, ◌∙◌, subst}
use Rattle.std.specs.List.{All}
use Rattle.serial_history.specs.Serial.{Holds, IsFirstConflict, list_numbered}
use Rattle.serial_history.proofs.BaseLemmas.{list_latest}
use Rattle.version_views.specs.Cuts.{pairs_in}
use Rattle.shared_index.specs.Books.{BookState, list_at, latest_number}
use Rattle.shared_index.proofs.book.Book.conflict_at.Goals as goal

-- the present list is that of the present number
pub returns-then-receipt-number-clause-none : goal.returns-then-receipt-number-clause-none
returns-then-receipt-number-clause-none g c =
    let base = c.self.inside.history.base in
    let items = c.self.inside.history.transactions in
    let whole = sym (list_latest g.K.Ord.cmp base items) ∙ ap (λ (b : BookState _ _). list_at g.K.Ord.cmp b (latest_number b)) c.self.view_is in
    let numbered = c.number.ensures.number in
    let is = ap pairs_in c.view.ensures ∙ c.self.invariant.1.list ∙ whole ∙ ap (list_at g.K.Ord.cmp c.args.self.now) (sym (c.if-receipt-number.true ∙ numbered)) in
    subst (λ (ps : List _). IfNone c.first_conflict.result (All (Holds g.K.Ord.cmp ps) c.args.receipt.now.reads)) is (rw c.as_slice-reads.ensures at c.first_conflict.ensures.none)

pub returns-clause-none : goal.returns-clause-none
returns-clause-none g c =
    subst (λ (ps : List _). IfNone c.first_conflict-2.result (All (Holds g.K.Ord.cmp ps) c.args.receipt.now.reads)) c.in_ok-list.ensures (rw c.as_slice-reads.ensures at c.first_conflict-2.ensures.none)
