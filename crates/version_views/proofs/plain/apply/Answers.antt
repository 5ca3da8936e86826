use Rattle.std.proofs.Common.{cond, sym, ap, ◌∙◌}
use Rattle.leaf_array.specs.Edits.{inserted, removed, upserted}
use Rattle.leaf_array.specs.Pairs.{has_key}
use Rattle.version_views.specs.Writes.{after_write, pairs_outside, reply_to}
use Rattle.version_views.specs.declared.write.Reply.TheVariants as replies
use Rattle.version_views.proofs.plain.apply.Goals as goal

pub returns-then-there-clause-reply : goal.returns-then-there-clause-reply
returns-then-there-clause-reply g c =
    let now = c.args.pairs.now.items in
    let there = sym (ap (has_key g.K.Ord.cmp c.in-Insert.key) c.deref.ensures.value) ∙ (sym c.contains_key-there.ensures ∙ c.if-there.true) in
    sym (ap (λ w. reply_to g.K.Ord.cmp w now) c.in-Insert.is ∙ ap (λ b. cond b replies.Duplicate replies.Inserted) there)

pub returns-then-there-clause-list : goal.returns-then-there-clause-list
returns-then-there-clause-list g c =
    let now = c.args.pairs.now.items in
    c.in_ok-pairs-in-Insert.ensures ∙ (ap (inserted g.K.Ord.cmp c.in-Insert.key c.in-Insert.value) c.deref-in-Insert.ensures.value ∙ sym (ap (λ w. after_write g.K.Ord.cmp w now) c.in-Insert.is))

pub returns-else-there-clause-reply : goal.returns-else-there-clause-reply
returns-else-there-clause-reply g c =
    let now = c.args.pairs.now.items in
    let there = sym (ap (has_key g.K.Ord.cmp c.in-Insert.key) c.deref.ensures.value) ∙ (sym c.contains_key-there.ensures ∙ c.if-there.false) in
    sym (ap (λ w. reply_to g.K.Ord.cmp w now) c.in-Insert.is ∙ ap (λ b. cond b replies.Duplicate replies.Inserted) there)

pub returns-else-there-clause-list : goal.returns-else-there-clause-list
returns-else-there-clause-list g c =
    let now = c.args.pairs.now.items in
    c.in_ok-pairs-in-Insert.ensures ∙ (ap (inserted g.K.Ord.cmp c.in-Insert.key c.in-Insert.value) c.deref-in-Insert.ensures.value ∙ sym (ap (λ w. after_write g.K.Ord.cmp w now) c.in-Insert.is))

pub returns-then-there-2-clause-reply : goal.returns-then-there-2-clause-reply
returns-then-there-2-clause-reply g c =
    let now = c.args.pairs.now.items in
    let there = sym (ap (has_key g.K.Ord.cmp c.in-Remove.key) c.deref-in-Remove.ensures.value) ∙ (sym c.contains_key-there-in-Remove.ensures ∙ c.if-there-2.true) in
    sym (ap (λ w. reply_to g.K.Ord.cmp w now) c.in-Remove.is ∙ ap (λ b. cond b replies.Removed replies.Absent) there)

pub returns-then-there-2-clause-list : goal.returns-then-there-2-clause-list
returns-then-there-2-clause-list g c =
    let now = c.args.pairs.now.items in
    c.in_ok-pairs-in-Remove.ensures ∙ (ap (removed g.K.Ord.cmp c.in-Remove.key) c.deref-in-Remove-2.ensures.value ∙ sym (ap (λ w. after_write g.K.Ord.cmp w now) c.in-Remove.is))

pub returns-else-there-2-clause-reply : goal.returns-else-there-2-clause-reply
returns-else-there-2-clause-reply g c =
    let now = c.args.pairs.now.items in
    let there = sym (ap (has_key g.K.Ord.cmp c.in-Remove.key) c.deref-in-Remove.ensures.value) ∙ (sym c.contains_key-there-in-Remove.ensures ∙ c.if-there-2.false) in
    sym (ap (λ w. reply_to g.K.Ord.cmp w now) c.in-Remove.is ∙ ap (λ b. cond b replies.Removed replies.Absent) there)

pub returns-else-there-2-clause-list : goal.returns-else-there-2-clause-list
returns-else-there-2-clause-list g c =
    let now = c.args.pairs.now.items in
    c.in_ok-pairs-in-Remove.ensures ∙ (ap (removed g.K.Ord.cmp c.in-Remove.key) c.deref-in-Remove-2.ensures.value ∙ sym (ap (λ w. after_write g.K.Ord.cmp w now) c.in-Remove.is))

pub returns-in_ok-pairs-in-Upsert-clause-reply : goal.returns-in_ok-pairs-in-Upsert-clause-reply
returns-in_ok-pairs-in-Upsert-clause-reply g c =
    let now = c.args.pairs.now.items in
    sym (ap (λ w. reply_to g.K.Ord.cmp w now) c.in-Upsert.is)

pub returns-in_ok-pairs-in-Upsert-clause-list : goal.returns-in_ok-pairs-in-Upsert-clause-list
returns-in_ok-pairs-in-Upsert-clause-list g c =
    let now = c.args.pairs.now.items in
    c.in_ok-pairs-in-Upsert.ensures ∙ (ap (upserted g.K.Ord.cmp c.in-Upsert.key c.in-Upsert.value) c.deref-in-Upsert.ensures.value ∙ sym (ap (λ w. after_write g.K.Ord.cmp w now) c.in-Upsert.is))

pub returns-in_ok-pairs-in-RemoveRange-clause-reply : goal.returns-in_ok-pairs-in-RemoveRange-clause-reply
returns-in_ok-pairs-in-RemoveRange-clause-reply g c =
    let now = c.args.pairs.now.items in
    sym (ap (λ w. reply_to g.K.Ord.cmp w now) c.in-RemoveRange.is)

pub returns-in_ok-pairs-in-RemoveRange-clause-list : goal.returns-in_ok-pairs-in-RemoveRange-clause-list
returns-in_ok-pairs-in-RemoveRange-clause-list g c =
    let now = c.args.pairs.now.items in
    c.in_ok-pairs-in-RemoveRange.ensures ∙ (ap (pairs_outside g.K.Ord.cmp c.in-RemoveRange.lower c.in-RemoveRange.upper) c.deref-in-RemoveRange.ensures.value ∙ sym (ap (λ w. after_write g.K.Ord.cmp w now) c.in-RemoveRange.is))

pub returns-in-Clear-clause-reply : goal.returns-in-Clear-clause-reply
returns-in-Clear-clause-reply g c =
    let now = c.args.pairs.now.items in
    sym (ap (λ w. reply_to g.K.Ord.cmp w now) c.in-Clear.is)
