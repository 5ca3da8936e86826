use Rattle.std.proofs.Common.{◌-◌, List, drop, sym, ap, ◌∙◌, subst, arith}
use Rattle.serial_history.specs.Histories.{HistoryState}
use Rattle.serial_history.specs.Serial.{HasNumber, list_numbered}
use Rattle.serial_history.proofs.BaseLemmas.{number_kept, serial_kept}
use Rattle.serial_history.proofs.history.History.rebase.Goals as goal

pub invariant_of-self : goal.invariant_of-self
invariant_of-self g c =
    let cmp = g.K.Ord.cmp in
    let upto = c.args.upto in
    let inside = c.self.inside in
    let has = subst (λ (x : HistoryState _ _). HasNumber x.base x.transactions upto) (sym c.self.view_is) c.requires.has in
    let pairs = c.requires.pairs ∙ ap (λ (x : HistoryState _ _). list_numbered cmp x.base x.transactions upto) (sym c.self.view_is) in
    let base = c.new.ensures ∙ ap (λ (ps : List _). record { number = upto; pairs = ps }) pairs in
    let rest = c.drop_first.ensures ∙ ap (λ n. drop (upto - n) inside.transactions.items) c.number.ensures in
    let same = number_kept cmp inside.base inside.transactions.items upto has in
    let below = c.self.invariant.numbered in
    rw (base, rest) (record {
      serial = serial_kept cmp inside.base inside.transactions.items upto c.self.invariant.serial;
      numbered = omega (arith, below, same);
    })
