use Rattle.std.proofs.Common.{◌≡◌, ◌∷◌, [], ◌++◌, length, ap, ◌∙◌, sym, subst, arith, append_assoc, append-nil}
use Rattle.std.specs.Vec.Iter.{into_iter_items}
use Rattle.std.proofs.lemmas.List.{nil_from_length}
use Rattle.local_index.specs.Desk.{Run}
use Rattle.local_index.proofs.DeskLemmas.{stopped, played-more}
use Rattle.local_index.proofs.play.play_all.Goals as goal

pub returns-in_default-clause-stopped : goal.returns-in_default-clause-stopped
returns-in_default-clause-stopped g c =
    let i = c.loop-call.invariant in
    let step = rw c.in-Some.is at c.next.ensures.steps in
    rw c.reserve.ensures.items (stopped g.K.Ord.cmp g.row.S _ _ c.args.calls.items c.loop-call.yielded (into_iter_items c.next.new.self) c.in-Some.call c.loop-call.replies.items (ap (λ r. c.loop-call.yielded ++ r) (sym step.0) ∙ i.whole) i.played)

pub returns-in-Err-clause-stopped : goal.returns-in-Err-clause-stopped
returns-in-Err-clause-stopped g c =
    let i = c.loop-call.invariant in
    let step = rw c.in-Some.is at c.next.ensures.steps in
    rw (c.reserve.ensures.items, c.in-Err.ensures.index_kept, c.in-Err.ensures.desk_kept) (stopped g.K.Ord.cmp g.row.S _ _ c.args.calls.items c.loop-call.yielded (into_iter_items c.next.new.self) c.in-Some.call c.loop-call.replies.items (ap (λ r. c.loop-call.yielded ++ r) (sym step.0) ∙ i.whole) i.played)

pub returns-in-Err-clause-keeps_all : goal.returns-in-Err-clause-keeps_all
returns-in-Err-clause-keeps_all g c = λ keeps. rw (c.in-Err.ensures.index_kept, c.in-Err.ensures.desk_kept) (c.loop-call.invariant.keeps_all keeps)

pub loop-call-preserved : goal.loop-call-preserved
loop-call-preserved g c =
    let i = c.loop-call.invariant in
    let step = rw c.in-Some.is at c.next.ensures.steps in
    record {
      whole = append_assoc c.loop-call.yielded (c.in-Some.call ∷ []) (into_iter_items c.next.new.self) ∙ ap (λ r. c.loop-call.yielded ++ r) (sym step.0) ∙ i.whole;
      counted = omega (arith, step.1, i.counted, ap length step.0);
      played = played-more g.K.Ord.cmp g.row.S _ _ _ c.loop-call.yielded c.loop-call.replies.items c.push_reserved.new.self.items c.in-Some.call c.in-Ok-play_one.reply (c.push_reserved.ensures.items ∙ ap (λ r. r ++ c.in-Ok-play_one.reply ∷ []) c.reserve.ensures.items) i.played c.in-Ok-play_one.ensures.step;
      serves = c.play_one.ensures.serves;
      keeps_all = λ keeps. c.play_one.ensures.keeps_all (i.keeps_all keeps);
    }

pub returns-clause-run : goal.returns-clause-run
returns-clause-run g c =
    let i = c.loop-call.invariant in
    let step = rw c.in-None.is at c.next.ensures.steps in
    let rest : into_iter_items c.loop-call.call-iterator ≡ [] = nil_from_length _ (omega (arith, step.0, i.counted)) in
    subst (λ cs. Run g.K.Ord.cmp g.row.S (record { index = c.args.index.now; desk = c.args.desk.now }) cs c.loop-call.replies.items (record { index = c.loop-call.index; desk = c.loop-call.desk })) (sym (append-nil c.loop-call.yielded) ∙ ap (λ r. c.loop-call.yielded ++ r) (sym rest) ∙ i.whole) i.played
