use Rattle.std.proofs.Common.{◌≡◌, ◌++◌, ◌∷◌, [], arith, length, length-append, not, sym, ap, ◌∙◌, subst}
use Rattle.std.proofs.lemmas.List.Elements.{All-push}
use Rattle.std.specs.List.{All}
use Rattle.std.specs.BTreeMap.Range.{range_contains}
use Rattle.version_drafts.specs.Changes.{apply_delta, noted_in}
use Rattle.version_views.specs.Cuts.{pairs_in}
use Rattle.version_drafts.specs.Gone.{IsSpan, is_gone, without_gone}
use Rattle.version_drafts.proofs.DeltaLemmas.{kept_amended}
use Rattle.version_views.proofs.FilterLemmas.{kept, kept_upto, rising_kept}
use Rattle.version_drafts.proofs.RangeLemmas.{outside, fair_other, fair_range, without_more}
use Rattle.version_drafts.proofs.changes.remove_range.Goals as goal

pub returns-clause-list : goal.returns-clause-list
returns-clause-list g c =
    let cmp = g.K.Ord.cmp in
    let lower = c.args.lower.now in
    let upper = c.args.upper.now in
    let gone = c.args.changes.now.gone.items in
    let edits = noted_in c.args.changes.now.edits in
    let old = pairs_in c.args.old.now in
    let test = λ (y : g.row.K.Denot). range_contains cmp lower upper y in
    let range = c.in_ok-range_of.field-0 in
    let e = c.in_ok-range_of.ensures in
    let left : noted_in c.forget_range.new.self ≡ kept (outside test) edits = c.forget_range.ensures in
    let more : without_gone cmp (gone ++ range ∷ []) old ≡ kept (outside test) (without_gone cmp gone old) = without_more cmp gone range old ∙ (ap (λ l. kept (outside (λ y. range_contains cmp l range.upper y)) (without_gone cmp gone old)) e.lower ∙ ap (λ u. kept (outside (λ y. range_contains cmp lower u y)) (without_gone cmp gone old)) e.upper) in
    ap (λ cs. apply_delta cmp cs (without_gone cmp c.push.new.self.items old)) left
    ∙ (ap (λ gs. apply_delta cmp (kept (outside test) edits) (without_gone cmp gs old)) c.in_ok-push.ensures.items
    ∙ (ap (apply_delta cmp (kept (outside test) edits)) more
    ∙ sym (kept_amended g.met.K.Ord.total (outside test) (fair_other g.met.K.Ord.total test (fair_range g.met.K.Ord.total lower upper)) edits (without_gone cmp gone old) c.len.ensures.rising (rising_kept cmp (λ k. not (is_gone cmp gone k)) old c.requires.ordered.rising))))

pub returns-clause-few : goal.returns-clause-few
returns-clause-few g c =
    let cmp = g.K.Ord.cmp in
    let lower = c.args.lower.now in
    let upper = c.args.upper.now in
    let edits = noted_in c.args.changes.now.edits in
    let test = λ (y : g.row.K.Denot). range_contains cmp lower upper y in
    let left : noted_in c.forget_range.new.self ≡ kept (outside test) edits = c.forget_range.ensures in
    let few = kept_upto (outside test) edits in
    let same = ap length left in
    let one = ap length c.in_ok-push.ensures.items ∙ length-append c.args.changes.now.gone.items (c.in_ok-range_of.field-0 ∷ []) in
    omega (arith, few, same, one)

pub returns-clause-spans : goal.returns-clause-spans
returns-clause-spans g c =
    let P = IsSpan g.K.Ord.cmp c.args.old.now in
    subst (All P) (sym c.in_ok-push.ensures.items) (All-push P c.args.changes.now.gone.items c.in_ok-range_of.field-0 c.requires.spans c.in_ok-range_of.ensures.span)
