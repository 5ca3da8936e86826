use Rattle.std.proofs.Common.{arith, cond, not, None, length, Some, sym, ap, ◌∙◌}
use Rattle.leaf_array.specs.Edits.{upserted}
use Rattle.version_drafts.specs.Changes.{apply_delta, changed, noted_in}
use Rattle.version_views.specs.Cuts.{pairs_in}
use Rattle.version_drafts.specs.declared.changes.Changes.{Changes}
use Rattle.version_drafts.specs.Gone.{is_gone, without_gone}
use Rattle.version_views.specs.Writes.{after_write, reply_to}
use Rattle.version_views.specs.declared.write.Reply.TheVariants as replies
use Rattle.version_views.proofs.FilterLemmas.{rising_kept}
use Rattle.version_drafts.proofs.DeltaLemmas.{noted, noted_few, noted_none, removed_absent, all_cleared}
use Rattle.version_drafts.proofs.changes.apply.Goals as goal

pub returns-then-not-has-clause-list : goal.returns-then-not-has-clause-list
returns-then-not-has-clause-list g c =
    let now = changed g.K.Ord.cmp c.args.changes.now (pairs_in c.args.old.now) in
    sym (ap (λ w. after_write g.K.Ord.cmp w now) c.in-Remove.is ∙ removed_absent g.met.K.Ord.total c.in-Remove.key now (sym c.if-not-has.ensures))

pub returns-in_ok-note-in-Insert-clause-list : goal.returns-in_ok-note-in-Insert-clause-list
returns-in_ok-note-in-Insert-clause-list g c =
    let cmp = g.K.Ord.cmp in
    let old = without_gone g.K.Ord.cmp c.args.changes.now.gone.items (pairs_in c.args.old.now) in
    let now = apply_delta cmp (noted_in c.args.changes.now.edits) old in
    let key = c.in-Insert.key in
    let facts = c.in_ok-note-in-Insert.ensures in
    ap (λ cs. apply_delta cmp cs old) facts.noted
    ∙ (noted g.met.K.Ord.total key (Some c.in-Insert.value) (noted_in c.args.changes.now.edits) old facts.rising (rising_kept cmp (λ k. not (is_gone cmp c.args.changes.now.gone.items k)) (pairs_in c.args.old.now) c.requires.ordered.rising)
    ∙ sym (ap (λ w. after_write cmp w now) c.in-Insert.is ∙ ap (λ b. cond b now (upserted cmp key c.in-Insert.value now)) (sym c.if-has.ensures)))

pub returns-in_ok-note-in-Upsert-clause-list : goal.returns-in_ok-note-in-Upsert-clause-list
returns-in_ok-note-in-Upsert-clause-list g c =
    let cmp = g.K.Ord.cmp in
    let old = without_gone g.K.Ord.cmp c.args.changes.now.gone.items (pairs_in c.args.old.now) in
    let now = apply_delta cmp (noted_in c.args.changes.now.edits) old in
    let key = c.in-Upsert.key in
    let facts = c.in_ok-note-in-Upsert.ensures in
    ap (λ cs. apply_delta cmp cs old) facts.noted
    ∙ (noted g.met.K.Ord.total key (Some c.in-Upsert.value) (noted_in c.args.changes.now.edits) old facts.rising (rising_kept cmp (λ k. not (is_gone cmp c.args.changes.now.gone.items k)) (pairs_in c.args.old.now) c.requires.ordered.rising)
    ∙ sym (ap (λ w. after_write cmp w now) c.in-Upsert.is))

pub returns-in_ok-note-in-Remove-clause-list : goal.returns-in_ok-note-in-Remove-clause-list
returns-in_ok-note-in-Remove-clause-list g c =
    let cmp = g.K.Ord.cmp in
    let old = without_gone g.K.Ord.cmp c.args.changes.now.gone.items (pairs_in c.args.old.now) in
    let now = apply_delta cmp (noted_in c.args.changes.now.edits) old in
    let facts = c.in_ok-note-in-Remove.ensures in
    ap (λ cs. apply_delta cmp cs old) facts.noted
    ∙ (noted_none g.met.K.Ord.total c.in-Remove.key (noted_in c.args.changes.now.edits) old facts.rising (rising_kept cmp (λ k. not (is_gone cmp c.args.changes.now.gone.items k)) (pairs_in c.args.old.now) c.requires.ordered.rising) ∙ sym (ap (λ w. after_write cmp w now) c.in-Remove.is))

pub returns-in_ok-remove_range-in-RemoveRange-clause-list : goal.returns-in_ok-remove_range-in-RemoveRange-clause-list
returns-in_ok-remove_range-in-RemoveRange-clause-list g c =
    let now = changed g.K.Ord.cmp c.args.changes.now (pairs_in c.args.old.now) in
    c.in_ok-remove_range-in-RemoveRange.ensures.list ∙ sym (ap (λ w. after_write g.K.Ord.cmp w now) c.in-RemoveRange.is)

pub returns-in_ok-remove_range-in-Clear-clause-list : goal.returns-in_ok-remove_range-in-Clear-clause-list
returns-in_ok-remove_range-in-Clear-clause-list g c =
    let old = pairs_in c.args.old.now in
    let emptied : Changes g.row.K.Denot g.row.V.Denot = record c.args.changes.now { gone = c.clear.new.self } in
    c.in_ok-remove_range-in-Clear.ensures.list ∙ (all_cleared g.met.K.Ord.total (changed g.K.Ord.cmp emptied old) ∙ sym (ap (λ w. after_write g.K.Ord.cmp w (changed g.K.Ord.cmp c.args.changes.now old)) c.in-Clear.is))

pub returns-in_ok-note-in-Insert-clause-few : goal.returns-in_ok-note-in-Insert-clause-few
returns-in_ok-note-in-Insert-clause-few g c = let few = noted_few g.met.K.Ord.total c.in-Insert.key (Some c.in-Insert.value) (noted_in c.args.changes.now.edits) in let noted' = ap length c.in_ok-note-in-Insert.ensures.noted in omega (arith, few, noted')

pub returns-in_ok-note-in-Upsert-clause-few : goal.returns-in_ok-note-in-Upsert-clause-few
returns-in_ok-note-in-Upsert-clause-few g c = let few = noted_few g.met.K.Ord.total c.in-Upsert.key (Some c.in-Upsert.value) (noted_in c.args.changes.now.edits) in let noted' = ap length c.in_ok-note-in-Upsert.ensures.noted in omega (arith, few, noted')

pub returns-in_ok-note-in-Remove-clause-few : goal.returns-in_ok-note-in-Remove-clause-few
returns-in_ok-note-in-Remove-clause-few g c = let few = noted_few g.met.K.Ord.total c.in-Remove.key None (noted_in c.args.changes.now.edits) in let noted' = ap length c.in_ok-note-in-Remove.ensures.noted in omega (arith, few, noted')

pub note-requires : goal.note-requires
note-requires g c = c.requires.keys

pub note-requires-in-Upsert : goal.note-requires-in-Upsert
note-requires-in-Upsert g c = c.requires.keys

pub note-requires-in-Remove : goal.note-requires-in-Remove
note-requires-in-Remove g c = c.requires.keys

pub remove_range-requires-clause-keys : goal.remove_range-requires-clause-keys
remove_range-requires-clause-keys g c = c.requires.keys

pub remove_range-requires-clause-ordered : goal.remove_range-requires-clause-ordered
remove_range-requires-clause-ordered g c = c.requires.ordered

pub remove_range-requires-in-Clear-clause-keys : goal.remove_range-requires-in-Clear-clause-keys
remove_range-requires-in-Clear-clause-keys g c = c.requires.keys

pub remove_range-requires-in-Clear-clause-ordered : goal.remove_range-requires-in-Clear-clause-ordered
remove_range-requires-in-Clear-clause-ordered g c = c.requires.ordered

pub remove_range-requires-clause-spans : goal.remove_range-requires-clause-spans
remove_range-requires-clause-spans g c = c.requires.spans

pub returns-then-has-clause-few : goal.returns-then-has-clause-few
returns-then-has-clause-few g c = omega arith

pub returns-then-has-clause-spans : goal.returns-then-has-clause-spans
returns-then-has-clause-spans g c = c.requires.spans

pub returns-then-not-has-clause-few : goal.returns-then-not-has-clause-few
returns-then-not-has-clause-few g c = omega arith

pub returns-then-not-has-clause-spans : goal.returns-then-not-has-clause-spans
returns-then-not-has-clause-spans g c = c.requires.spans

pub returns-in_ok-note-in-Insert-clause-spans : goal.returns-in_ok-note-in-Insert-clause-spans
returns-in_ok-note-in-Insert-clause-spans g c = c.requires.spans

pub returns-in_ok-note-in-Upsert-clause-spans : goal.returns-in_ok-note-in-Upsert-clause-spans
returns-in_ok-note-in-Upsert-clause-spans g c = c.requires.spans

pub returns-in_ok-note-in-Remove-clause-spans : goal.returns-in_ok-note-in-Remove-clause-spans
returns-in_ok-note-in-Remove-clause-spans g c = c.requires.spans

pub returns-in_ok-remove_range-in-RemoveRange-clause-few : goal.returns-in_ok-remove_range-in-RemoveRange-clause-few
returns-in_ok-remove_range-in-RemoveRange-clause-few g c = c.in_ok-remove_range-in-RemoveRange.ensures.few

pub returns-in_ok-remove_range-in-RemoveRange-clause-spans : goal.returns-in_ok-remove_range-in-RemoveRange-clause-spans
returns-in_ok-remove_range-in-RemoveRange-clause-spans g c = c.in_ok-remove_range-in-RemoveRange.ensures.spans

pub returns-in_ok-remove_range-in-Clear-clause-spans : goal.returns-in_ok-remove_range-in-Clear-clause-spans
returns-in_ok-remove_range-in-Clear-clause-spans g c = c.in_ok-remove_range-in-Clear.ensures.spans

pub returns-then-has-clause-reply : goal.returns-then-has-clause-reply
returns-then-has-clause-reply g c =
    let now = changed g.K.Ord.cmp c.args.changes.now (pairs_in c.args.old.now) in
    sym (ap (λ w. reply_to g.K.Ord.cmp w now) c.in-Insert.is ∙ ap (λ b. cond b replies.Duplicate replies.Inserted) (sym c.if-has.ensures))

pub returns-in_ok-note-in-Insert-clause-reply : goal.returns-in_ok-note-in-Insert-clause-reply
returns-in_ok-note-in-Insert-clause-reply g c =
    let now = changed g.K.Ord.cmp c.args.changes.now (pairs_in c.args.old.now) in
    sym (ap (λ w. reply_to g.K.Ord.cmp w now) c.in-Insert.is ∙ ap (λ b. cond b replies.Duplicate replies.Inserted) (sym c.if-has.ensures))

pub returns-then-not-has-clause-reply : goal.returns-then-not-has-clause-reply
returns-then-not-has-clause-reply g c =
    let now = changed g.K.Ord.cmp c.args.changes.now (pairs_in c.args.old.now) in
    sym (ap (λ w. reply_to g.K.Ord.cmp w now) c.in-Remove.is ∙ ap (λ b. cond b replies.Removed replies.Absent) (sym c.if-not-has.ensures))

pub returns-in_ok-note-in-Remove-clause-reply : goal.returns-in_ok-note-in-Remove-clause-reply
returns-in_ok-note-in-Remove-clause-reply g c =
    let now = changed g.K.Ord.cmp c.args.changes.now (pairs_in c.args.old.now) in
    sym (ap (λ w. reply_to g.K.Ord.cmp w now) c.in-Remove.is ∙ ap (λ b. cond b replies.Removed replies.Absent) (sym c.if-not-has.ensures))

pub returns-in_ok-note-in-Upsert-clause-reply : goal.returns-in_ok-note-in-Upsert-clause-reply
returns-in_ok-note-in-Upsert-clause-reply g c =
    let now = changed g.K.Ord.cmp c.args.changes.now (pairs_in c.args.old.now) in
    sym (ap (λ w. reply_to g.K.Ord.cmp w now) c.in-Upsert.is)

pub returns-in_ok-remove_range-in-RemoveRange-clause-reply : goal.returns-in_ok-remove_range-in-RemoveRange-clause-reply
returns-in_ok-remove_range-in-RemoveRange-clause-reply g c =
    let now = changed g.K.Ord.cmp c.args.changes.now (pairs_in c.args.old.now) in
    sym (ap (λ w. reply_to g.K.Ord.cmp w now) c.in-RemoveRange.is)

pub returns-in_ok-remove_range-in-Clear-clause-reply : goal.returns-in_ok-remove_range-in-Clear-clause-reply
returns-in_ok-remove_range-in-Clear-clause-reply g c =
    let now = changed g.K.Ord.cmp c.args.changes.now (pairs_in c.args.old.now) in
    sym (ap (λ w. reply_to g.K.Ord.cmp w now) c.in-Clear.is)

pub returns-then-has-clause-list : goal.returns-then-has-clause-list
returns-then-has-clause-list g c =
    let cmp = g.K.Ord.cmp in
    let now = changed cmp c.args.changes.now (pairs_in c.args.old.now) in
    sym (ap (λ w. after_write cmp w now) c.in-Insert.is ∙ ap (λ b. cond b now (upserted cmp c.in-Insert.key c.in-Insert.value now)) (sym c.if-has.ensures))
