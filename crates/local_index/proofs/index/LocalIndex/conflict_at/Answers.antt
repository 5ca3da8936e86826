use Rattle.std.proofs.Common.{◌≤◌, List, IfNone, IfSome, ap, sym, ◌∙◌, subst}
use Rattle.std.specs.List.{All}
use Rattle.serial_history.specs.Serial.{Holds, IsFirstConflict}
use Rattle.local_index.specs.State.{State, list_at}
use Rattle.local_index.proofs.IndexLemmas.{kept_list}
use Rattle.local_index.proofs.index.LocalIndex.conflict_at.Goals as goal

pub returns-then-number-receipt-clause-some : goal.returns-then-number-receipt-clause-some
returns-then-number-receipt-clause-some g c =
    let v = c.in-Some.ensures in
    let is = v.4 ∙ kept_list g.K.Ord.cmp c.self.inside.history c.self.invariant v.0 c.args.receipt.now.number v.1 (v.2 ∙ c.if-number-receipt.true) (subst (λ (x : State _ _). x.base.number ≤ c.args.receipt.now.number) (sym c.self.view_is) c.requires.number.0) ∙ ap (λ (x : State _ _). list_at g.K.Ord.cmp x c.args.receipt.now.number) c.self.view_is in
    subst (λ (ps : List _). IfSome c.first_conflict.result (IsFirstConflict g.K.Ord.cmp ps c.args.receipt.now.reads)) is (rw c.as_slice-reads.ensures at c.first_conflict.ensures.some)

pub returns-then-number-receipt-clause-none : goal.returns-then-number-receipt-clause-none
returns-then-number-receipt-clause-none g c =
    let v = c.in-Some.ensures in
    let is = v.4 ∙ kept_list g.K.Ord.cmp c.self.inside.history c.self.invariant v.0 c.args.receipt.now.number v.1 (v.2 ∙ c.if-number-receipt.true) (subst (λ (x : State _ _). x.base.number ≤ c.args.receipt.now.number) (sym c.self.view_is) c.requires.number.0) ∙ ap (λ (x : State _ _). list_at g.K.Ord.cmp x c.args.receipt.now.number) c.self.view_is in
    subst (λ (ps : List _). IfNone c.first_conflict.result (All (Holds g.K.Ord.cmp ps) c.args.receipt.now.reads)) is (rw c.as_slice-reads.ensures at c.first_conflict.ensures.none)

pub returns-clause-some : goal.returns-clause-some
returns-clause-some g c =
    subst (λ (ps : List _). IfSome c.first_conflict-2.result (IsFirstConflict g.K.Ord.cmp ps c.args.receipt.now.reads)) c.in_ok-list.ensures (rw c.as_slice-reads.ensures at c.first_conflict-2.ensures.some)

pub returns-clause-none : goal.returns-clause-none
returns-clause-none g c =
    subst (λ (ps : List _). IfNone c.first_conflict-2.result (All (Holds g.K.Ord.cmp ps) c.args.receipt.now.reads)) c.in_ok-list.ensures (rw c.as_slice-reads.ensures at c.first_conflict-2.ensures.none)
