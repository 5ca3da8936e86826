use Rattle.std.proofs.Common.{not, rules, ap, ◌∙◌}
use Rattle.std.proofs.lemmas.Fn.{filter_same}
use Rattle.std.specs.BTreeMap.Range.{range_contains}
use Rattle.std.specs.List.{filter}
use Rattle.version_views.proofs.FilterLemmas.{rising_kept}
use Rattle.version_drafts.proofs.row.EditRow.remove_range.Goals as goal

pub returns : goal.returns
returns g c =
    let left = filter_same _ (λ p. not (range_contains g.K.Ord.cmp c.args.lower.now c.args.upper.now p.0)) _ (λ p b f called. search rules) _ _ c.retain.ensures.filtered in
    left ∙ ap (filter (λ p. not (range_contains g.K.Ord.cmp c.args.lower.now c.args.upper.now p.0))) c.self.view_is

pub invariant_of-self : goal.invariant_of-self
invariant_of-self g c =
    let left = filter_same _ (λ p. not (range_contains g.K.Ord.cmp c.args.lower.now c.args.upper.now p.0)) _ (λ p b f called. search rules) _ _ c.retain.ensures.filtered in
    rw left (rising_kept g.K.Ord.cmp (λ k. not (range_contains g.K.Ord.cmp c.args.lower.now c.args.upper.now k)) _ c.self.invariant)
