use Rattle.std.proofs.Common.{◌≡◌, ◌∷◌, ◌++◌, [], List, length-append, sym, ap, ◌∙◌, subst, arith}
use Rattle.std.specs.List.{All}
use Rattle.version_views.specs.Writes.{replies_to}
use Rattle.serial_history.specs.Histories.{HistoryState}
use Rattle.serial_history.specs.Serial.{Holds, after_all, latest}
use Rattle.serial_history.specs.declared.transaction.Transaction.{Transaction}
use Rattle.serial_history.proofs.RunLemmas.{IsSerial-push}
use Rattle.serial_history.proofs.history.History.push.Goals as goal

pub invariant_of-self : goal.invariant_of-self
invariant_of-self g c =
    let cmp = g.K.Ord.cmp in
    let inside = c.self.inside in
    let items = inside.transactions.items in
    let present = after_all cmp items inside.base.pairs in
    let t : Transaction _ _ = record { reads = c.args.prepared.reads; writes = c.from_vec.result; replies = c.from_vec-2.result } in
    let now = sym c.self.view_is in
    let reads = subst (λ (x : HistoryState _ _). All (Holds cmp (after_all cmp x.transactions x.base.pairs)) c.args.prepared.reads) now c.requires.reads in
    let told = c.from_vec-2.ensures ∙ c.copied_replies-replies.ensures ∙ subst (λ (x : HistoryState _ _). c.args.told.now ≡ replies_to cmp c.args.writes.items (after_all cmp x.transactions x.base.pairs)) now c.requires.told ∙ ap (λ ws. replies_to cmp ws present) (sym c.from_vec.ensures) in
    let number = ap (λ (x : HistoryState _ _). latest x.base x.transactions) now in
    let last = ap (λ (x : HistoryState _ _). x.last) now in
    let not_last = c.requires.not_last in
    let below = c.self.invariant.numbered in
    let long = length-append items (t ∷ []) in
    rw c.push_reserved.ensures.items (record {
      serial = IsSerial-push cmp items t inside.base.pairs c.self.invariant.serial (record { reads = reads; replies = told });
      numbered = omega (arith, below, not_last, number, last, long);
    })
