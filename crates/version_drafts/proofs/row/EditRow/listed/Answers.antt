use Rattle.std.proofs.Common.{◌≡◌, ◌++◌, ◌∷◌, [], append-nil, append_assoc, drop, Option, sym, ap, ◌∙◌, subst}
use Rattle.leaf_array.specs.Pairs.{IsAscending}
use Rattle.version_drafts.proofs.MergeLemmas.{head_of, none_of}
use Rattle.version_drafts.proofs.row.EditRow.listed.Goals as goal

pub loop-key-preserved : goal.loop-key-preserved
loop-key-preserved g c =
    let done = c.loop-key.noted.items in
    let left = c.loop-key.left in
    let p : g.row.K.Denot × Option g.row.V.Denot = (c.in-Some.key.now, c.in-Some.edit.now) in
    let same : c.new.result ≡ p = c.new.ensures ∙ ap (λ (to : Option g.row.V.Denot). (c.in-Some.key.now, to)) c.value.ensures in
    ap (λ qs. c.push.new.self.items ++ qs) c.step.ensures
    ∙ (ap (λ qs. qs ++ drop 1 left) c.in_ok-push.ensures.items
    ∙ (append_assoc done (c.new.result ∷ []) (drop 1 left)
    ∙ (ap (λ q. done ++ q ∷ drop 1 left) same
    ∙ (sym (ap (λ qs. done ++ qs) (head_of left p c.in-Some.ensures)) ∙ c.loop-key.invariant))))

pub invariant_of-result : goal.invariant_of-result
invariant_of-result g c =
    let all = sym (append-nil c.loop-key.noted.items) ∙ (sym (ap (λ ps. c.loop-key.noted.items ++ ps) (none_of c.loop-key.left c.in_default.ensures)) ∙ c.loop-key.invariant) in
    subst (IsAscending g.K.Ord.cmp) (sym all) c.len.ensures.rising

pub returns : goal.returns
returns g c = sym (append-nil c.loop-key.noted.items) ∙ (sym (ap (λ ps. c.loop-key.noted.items ++ ps) (none_of c.loop-key.left c.in_default.ensures)) ∙ c.loop-key.invariant)
