use Rattle.std.proofs.Common.{◌+◌, List, ℕ, subst, arith}
use Rattle.std.specs.Ordering.{nat_cmp}
use Rattle.version_views.specs.SeparatorSearch.{IsPlaceOf}
use Rattle.version_views.proofs.SpotLemmas.{end_found, row_found, start_found}
use Rattle.version_views.proofs.directory.Directory.spot_of.Goals as goal

pub overflow_sub-result : goal.overflow_sub-result
overflow_sub-result g c =
    let ends = c.args.self.now.ends.items in
    let at = subst (λ (es : List ℕ). IsPlaceOf nat_cmp (c.args.place + 1) es c.place_of-row.result) c.deref.ensures.value c.place_of-row.ensures in
    let found = start_found ends c.args.place c.place_of-row.result at in
    omega (arith, c.start_of.ensures, found)

pub returns-clause-inside : goal.returns-clause-inside
returns-clause-inside g c =
    let ends = c.args.self.now.ends.items in
    let at = subst (λ (es : List ℕ). IsPlaceOf nat_cmp (c.args.place + 1) es c.place_of-row.result) c.deref.ensures.value c.place_of-row.ensures in
    let found = start_found ends c.args.place c.place_of-row.result at in
    let end = end_found ends c.args.place c.place_of-row.result at c.requires in
    record {
      row = row_found ends c.args.place c.place_of-row.result at c.requires;
      at = omega (arith, c.start_of.ensures, found, end);
    }

pub returns-clause-place : goal.returns-clause-place
returns-clause-place g c =
    let ends = c.args.self.now.ends.items in
    let at = subst (λ (es : List ℕ). IsPlaceOf nat_cmp (c.args.place + 1) es c.place_of-row.result) c.deref.ensures.value c.place_of-row.ensures in
    let found = start_found ends c.args.place c.place_of-row.result at in
    omega (arith, c.start_of.ensures, found)
