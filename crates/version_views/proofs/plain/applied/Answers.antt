use Rattle.std.proofs.Common.{◌≤◌, ◌+◌, ◌++◌, ◌∷◌, [], append_assoc, append-nil, drop, length, sym, ap, ◌∙◌, arith}
use Rattle.std.proofs.lemmas.List.{drop_more, drop_all}
use Rattle.version_views.specs.Writes.{after_writes, replies_to, reply_to}
use Rattle.version_views.proofs.plain.applied.Goals as goal

pub apply-requires-clause-keys : goal.apply-requires-clause-keys
apply-requires-clause-keys g c = c.requires.keys

pub apply-requires-clause-values : goal.apply-requires-clause-values
apply-requires-clause-values g c = c.requires.values

pub loop-write-preserved : goal.loop-write-preserved
loop-write-preserved g c =
    let cmp = g.K.Ord.cmp in
    let ws = c.args.writes.now in
    let at = c.loop-write.write-index in
    let i = c.loop-write.invariant in
    let e = c.in_ok-apply.ensures in
    let now = c.loop-write.list.items in
    let next = c.apply.new.pairs.items in
    let told = c.loop-write.replies.items in
    let rest = drop (at + 1) ws in
    let here = drop_more ws at c.write-item.result (omega (arith, c.loop-write-test.true)) ∙ ap (λ w. w ∷ rest) (sym c.write-item.is) in
    record {
      list = ap (after_writes cmp rest) e.list ∙ (sym (ap (λ xs. after_writes cmp xs now) here) ∙ i.list);
      replies =
          ap (λ rs. rs ++ replies_to cmp rest next) c.in_ok-push.ensures.items
          ∙ (append_assoc told (c.in_ok-apply.field-0 ∷ []) (replies_to cmp rest next)
          ∙ (ap (λ r. told ++ r ∷ replies_to cmp rest next) e.reply
          ∙ (ap (λ ps. told ++ reply_to cmp c.write-item.result now ∷ replies_to cmp rest ps) e.list
          ∙ (sym (ap (λ xs. told ++ replies_to cmp xs now) here) ∙ i.replies))));
    }

pub returns-clause-list : goal.returns-clause-list
returns-clause-list g c =
    let cmp = g.K.Ord.cmp in
    let now = c.loop-write.list.items in
    let all : length c.args.writes.now ≤ c.loop-write.write-index = omega (arith, c.loop-write-test.false) in
    sym (ap (λ ws. after_writes cmp ws now) (drop_all c.loop-write.write-index c.args.writes.now all)) ∙ c.loop-write.invariant.list

pub returns-clause-replies : goal.returns-clause-replies
returns-clause-replies g c =
    let cmp = g.K.Ord.cmp in
    let now = c.loop-write.list.items in
    let told = c.loop-write.replies.items in
    let all : length c.args.writes.now ≤ c.loop-write.write-index = omega (arith, c.loop-write-test.false) in
    sym (ap (λ ws. told ++ replies_to cmp ws now) (drop_all c.loop-write.write-index c.args.writes.now all) ∙ append-nil told) ∙ c.loop-write.invariant.replies

pub loop-write-init : goal.loop-write-init
loop-write-init g c =
    let cmp = g.K.Ord.cmp in
    let ws = c.args.writes.now in
    let same = c.in_ok-list.ensures.items_if_clones_equal (λ x y h. ap (λ k. (k, y.1)) (c.requires.keys x.0 y.0 h.0) ∙ ap (λ v. (x.0, v)) (c.requires.values x.1 y.1 h.1)) in
    record {
      list = ap (after_writes cmp ws) same;
      replies = ap (λ rs. rs ++ replies_to cmp ws c.in_ok-list.list.items) c.new-replies.ensures.items ∙ ap (replies_to cmp ws) same;
    }

pub loop-write-smaller : goal.loop-write-smaller
loop-write-smaller g c = omega (arith, c.loop-write-test.true)
