use Rattle.std.proofs.Common.{◌≡◌, ◌&&◌, true, false, not, ◌∙◌, sym, ap}
use Rattle.leaf_array.specs.Pairs.{has_key}
use Rattle.version_views.specs.Cuts.{pairs_in}
use Rattle.version_drafts.specs.Changes.{noted_in}
use Rattle.version_drafts.specs.Gone.{is_gone, without_gone}
use Rattle.version_drafts.proofs.DeltaLemmas.{fair_has, found, has_amended}
use Rattle.version_drafts.proofs.RangeLemmas.{fair_gone, fair_other, outside}
use Rattle.version_drafts.proofs.changes.has.Goals as goal

pub returns-in-Some : goal.returns-in-Some
returns-in-Some g c =
    let old = without_gone g.K.Ord.cmp c.args.changes.now.gone.items (pairs_in c.args.old.now) in
    c.leaves_a_pair.ensures ∙ (ap (λ v. found v (has_key g.K.Ord.cmp c.args.key.now old)) c.in-Some.ensures ∙ sym (has_amended g.met.K.Ord.total c.args.key.now (noted_in c.args.changes.now.edits) old c.len.ensures.rising))

pub returns-then-is_gone : goal.returns-then-is_gone
returns-then-is_gone g c =
    let cmp = g.K.Ord.cmp in
    let key = c.args.key.now in
    let gone = c.args.changes.now.gone.items in
    let all = pairs_in c.args.old.now in
    let old = without_gone cmp gone all in
    let told : is_gone cmp gone key ≡ true = ap (λ gs. is_gone cmp gs key) (sym c.deref.ensures.value) ∙ (sym c.is_gone.ensures ∙ c.if-is_gone.true) in
    let inside : has_key cmp key old ≡ (not (is_gone cmp gone key) && has_key cmp key all) = fair_has g.met.K.Ord.total (outside (is_gone cmp gone)) (fair_other g.met.K.Ord.total (is_gone cmp gone) (fair_gone g.met.K.Ord.total gone)) key all in
    sym (has_amended g.met.K.Ord.total key (noted_in c.args.changes.now.edits) old c.len.ensures.rising ∙ (sym (ap (λ v. found v (has_key cmp key old)) c.in-None.ensures) ∙ (inside ∙ ap (λ b. not b && has_key cmp key all) told)))

pub returns-else-is_gone : goal.returns-else-is_gone
returns-else-is_gone g c =
    let cmp = g.K.Ord.cmp in
    let key = c.args.key.now in
    let gone = c.args.changes.now.gone.items in
    let all = pairs_in c.args.old.now in
    let old = without_gone cmp gone all in
    let told : is_gone cmp gone key ≡ false = ap (λ gs. is_gone cmp gs key) (sym c.deref.ensures.value) ∙ (sym c.is_gone.ensures ∙ c.if-is_gone.false) in
    let inside : has_key cmp key old ≡ (not (is_gone cmp gone key) && has_key cmp key all) = fair_has g.met.K.Ord.total (outside (is_gone cmp gone)) (fair_other g.met.K.Ord.total (is_gone cmp gone) (fair_gone g.met.K.Ord.total gone)) key all in
    c.contains.ensures ∙ sym (has_amended g.met.K.Ord.total key (noted_in c.args.changes.now.edits) old c.len.ensures.rising ∙ (sym (ap (λ v. found v (has_key cmp key old)) c.in-None.ensures) ∙ (inside ∙ ap (λ b. not b && has_key cmp key all) told)))
