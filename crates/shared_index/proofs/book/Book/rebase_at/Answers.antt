use Rattle.std.proofs.Common.{sym, subst}
use Rattle.serial_history.specs.Serial.{HasNumber}
use Rattle.shared_index.specs.Books.{BookState}
use Rattle.shared_index.proofs.BookLemmas.{kept_begun}
use Rattle.shared_index.proofs.book.Book.rebase_at.Goals as goal

pub invariant_of-self : goal.invariant_of-self
invariant_of-self g c =
    let upto = c.args.upto in
    let has = subst (λ (b : BookState _ _). HasNumber b.base b.history upto) (sym c.self.view_is) c.requires.has in
    let begun = kept_begun g.K.Ord.cmp c.self.inside.history c.begin_at.new.self c.begin_at.result upto has c.begin_at.ensures.begins c.begin_at.ensures.err c.self.invariant.1 c.self.invariant.2 c.self.invariant.3 in
    (c.self.invariant.0, begun.0, begun.1, begun.2)
