use Rattle.std.proofs.Common.{ℕ, ◌≡◌, ◌-◌, List, IfOk, take, drop, sym, ap, ◌∙◌, subst, arith}
use Rattle.serial_history.specs.Histories.{HistoryState}
use Rattle.serial_history.specs.Serial.{after_all, list_numbered}
use Rattle.serial_history.proofs.ReplayLemmas.{after_between}
use Rattle.serial_history.proofs.history.History.rebuild_from.Goals as goal

pub returns : goal.returns
returns g c =
    let cmp = g.K.Ord.cmp in
    let n = c.args.number in
    let from = c.args.from in
    let items = c.self.inside.transactions.items in
    let base = c.self.inside.base in
    let first = c.number-first.ensures in
    let named = ap (λ (x : HistoryState _ _). x.base.number) c.self.view_is in
    let bounds = c.requires.from in
    let list = c.requires.list ∙ sym (ap (λ (x : HistoryState _ _). list_numbered cmp x.base x.transactions from) c.self.view_is) in
    let since = ap (λ ts. take (n - c.number-first.result - (from - c.number-first.result)) (drop (from - c.number-first.result) ts)) c.deref.ensures.value ∙ ap (λ k. take (n - k - (from - k)) (drop (from - k) items)) first in
    let is =
    ap (λ ts. after_all cmp ts (g.L.Start.pairs c.args.list.now)) since
    ∙ ap (after_all cmp (take (n - base.number - (from - base.number)) (drop (from - base.number) items))) list
    ∙ after_between cmp (from - base.number) (n - base.number) items base.pairs (omega (arith, bounds, named))
    ∙ ap (λ (x : HistoryState _ _). list_numbered cmp x.base x.transactions n) c.self.view_is in
    subst (λ ps. IfOk c.replay.result (λ list. list.pairs ≡ ps)) is c.replay.ensures
