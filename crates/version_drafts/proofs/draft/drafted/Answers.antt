use Rattle.std.proofs.Common.{◌≡◌, ◌≤◌, ◌+◌, ◌++◌, ◌∷◌, [], append_assoc, append-nil, drop, length, sym, ap, ◌∙◌, subst, arith}
use Rattle.std.proofs.lemmas.List.{drop_more, drop_all}
use Rattle.std.specs.List.{All}
use Rattle.std.proofs.lemmas.List.Elements.{All-nil}
use Rattle.version_drafts.specs.Changes.{apply_delta, changed}
use Rattle.version_drafts.specs.Gone.{IsSpan, without_gone}
use Rattle.version_drafts.proofs.RangeLemmas.{without_none}
use Rattle.version_views.specs.Cuts.{pairs_in}
use Rattle.version_views.specs.Writes.{after_writes, replies_to, reply_to}
use Rattle.version_drafts.proofs.draft.drafted.Goals as goal

pub loop-write-init : goal.loop-write-init
loop-write-init g c =
    let cmp = g.K.Ord.cmp in
    let blocks = c.args.old.now in
    let old = pairs_in blocks in
    let none : changed cmp c.in_ok-changes.changes old ≡ old = ap (λ cs. apply_delta cmp cs (without_gone cmp c.in_ok-changes.changes.gone.items old)) c.in_ok-changes.ensures.edits ∙ (ap (λ gs. without_gone cmp gs old) c.in_ok-changes.ensures.gone ∙ without_none cmp old) in
    record {
      list = ap (after_writes cmp c.args.writes.now) none;
      few = (let a = ap length c.in_ok-changes.ensures.edits in let b = ap length c.in_ok-changes.ensures.gone in omega (arith, a, b));
      spans = subst (All (IsSpan cmp blocks)) (sym c.in_ok-changes.ensures.gone) (All-nil (IsSpan cmp blocks));
      replies = ap (λ rs. rs ++ replies_to cmp c.args.writes.now (changed cmp c.in_ok-changes.changes old)) c.in_ok-replies.ensures.items ∙ ap (replies_to cmp c.args.writes.now) none;
    }

pub apply-requires-clause-ordered : goal.apply-requires-clause-ordered
apply-requires-clause-ordered g c = let cut = c.requires.whole in record { some = λ k e h. (cut.sizes k e h).0; rising = cut.rising; separated = cut.separated }

pub loop-write-preserved : goal.loop-write-preserved
loop-write-preserved g c =
    let cmp = g.K.Ord.cmp in
    let ws = c.args.writes.now in
    let at = c.loop-write.write-index in
    let i = c.loop-write.invariant in
    let e = c.in_ok-apply.ensures in
    let now = changed cmp c.loop-write.changes (pairs_in c.args.old.now) in
    let here = drop_more ws at c.write-item.result (omega (arith, c.loop-write-test.true)) ∙ ap (λ w. w ∷ drop (at + 1) ws) (sym c.write-item.is) in
    record {
      list = ap (after_writes cmp (drop (at + 1) ws)) e.list ∙ (sym (ap (λ xs. after_writes cmp xs now) here) ∙ i.list);
      few = (let before = i.few in let more = e.few in omega (arith, before, more));
      spans = e.spans;
      replies =
          ap (λ rs. rs ++ replies_to cmp (drop (at + 1) ws) (changed cmp c.apply.new.changes (pairs_in c.args.old.now))) c.in_ok-push.ensures.items
          ∙ (append_assoc c.loop-write.replies.items (c.in_ok-apply.field-0 ∷ []) (replies_to cmp (drop (at + 1) ws) (changed cmp c.apply.new.changes (pairs_in c.args.old.now)))
          ∙ (ap (λ r. c.loop-write.replies.items ++ r ∷ replies_to cmp (drop (at + 1) ws) (changed cmp c.apply.new.changes (pairs_in c.args.old.now))) e.reply
          ∙ (ap (λ ps. c.loop-write.replies.items ++ reply_to cmp c.write-item.result now ∷ replies_to cmp (drop (at + 1) ws) ps) e.list
          ∙ (sym (ap (λ xs. c.loop-write.replies.items ++ replies_to cmp xs now) here) ∙ i.replies))));
    }

pub returns-clause-list : goal.returns-clause-list
returns-clause-list g c =
    let cmp = g.K.Ord.cmp in
    let now = changed cmp c.loop-write.changes (pairs_in c.args.old.now) in
    let all : length c.args.writes.now ≤ c.loop-write.write-index = omega (arith, c.loop-write-test.false) in
    c.in_ok-segments.ensures.list ∙ (sym (ap (λ ws. after_writes cmp ws now) (drop_all c.loop-write.write-index c.args.writes.now all)) ∙ c.loop-write.invariant.list)

pub returns-clause-few : goal.returns-clause-few
returns-clause-few g c =
    let few = c.in_ok-segments.ensures.few in
    let most = c.loop-write.invariant.few in
    let all = c.loop-write-test.false in
    let upto = c.loop-write.auto.write-index-end in
    omega (arith, few, most, all, upto)

pub returns-clause-replies : goal.returns-clause-replies
returns-clause-replies g c =
    let cmp = g.K.Ord.cmp in
    let now = changed cmp c.loop-write.changes (pairs_in c.args.old.now) in
    let told = c.loop-write.replies.items in
    let all : length c.args.writes.now ≤ c.loop-write.write-index = omega (arith, c.loop-write-test.false) in
    sym (ap (λ ws. told ++ replies_to cmp ws now) (drop_all c.loop-write.write-index c.args.writes.now all) ∙ append-nil told) ∙ c.loop-write.invariant.replies

pub apply-requires-clause-keys : goal.apply-requires-clause-keys
apply-requires-clause-keys g c = c.requires.keys

pub apply-requires-clause-spans : goal.apply-requires-clause-spans
apply-requires-clause-spans g c = c.loop-write.invariant.spans

pub merged-requires-clause-size : goal.merged-requires-clause-size
merged-requires-clause-size g c = c.requires.size

pub merged-requires-clause-keys : goal.merged-requires-clause-keys
merged-requires-clause-keys g c = c.requires.keys

pub merged-requires-clause-values : goal.merged-requires-clause-values
merged-requires-clause-values g c = c.requires.values

pub merged-requires-clause-whole : goal.merged-requires-clause-whole
merged-requires-clause-whole g c = c.requires.whole

pub merged-requires-clause-spans : goal.merged-requires-clause-spans
merged-requires-clause-spans g c = c.loop-write.invariant.spans

pub returns-clause-cut : goal.returns-clause-cut
returns-clause-cut g c = c.in_ok-segments.ensures.cut

pub returns-clause-length : goal.returns-clause-length
returns-clause-length g c = c.in_ok-segments.ensures.length
