use Rattle.std.proofs.Common.{◌≡◌, ◌≢◌, Some, None, length, slice_get, sym, subst, arith}
use Rattle.std.specs.Option.{MatchOption}
use Rattle.std.proofs.lemmas.Bool.{false≢true}
use Rattle.version_views.specs.Cuts.{separators_of}
use Rattle.version_views.specs.Rows.{place_at}
use Rattle.version_views.specs.SeparatorSearch.{IsPlaceOf}
use Rattle.version_views.proofs.HalvingLemmas.{none_inside}
use Rattle.version_views.proofs.PlaceLemmas.{entry_around}
use Rattle.version_views.proofs.RowSearchLemmas.{around_rising}
use Rattle.version_views.proofs.view.VersionView.get_counted.Goals as goal

pub returns-clause-pair : goal.returns-clause-pair
returns-clause-pair g c =
    let blocks = c.args.self.now in
    let key = c.args.key.now in
    let tree = c.tree_at.result.now.pairs in
    let place = place_at c.self.inside.directory.now.ends.items c.spot_around-spot.result in
    let at = subst (λ bs. IsPlaceOf g.K.Ord.cmp key (separators_of bs) place) c.self.view_is c.spot_around-spot.ensures.place in
    let there = subst (λ bs. slice_get bs place ≡ Some tree) c.self.view_is c.tree_at.ensures.pairs in
    let some : length c.args.self.now ≢ 0 = λ e. false≢true (c.if-is_empty.ensures.1 e) in
    let around = around_rising g.K.Ord.cmp g.met.K.Ord.total key blocks place c.laws.ensures.rising at (omega (arith, some)) in
    let same = entry_around g.K.Ord.cmp g.met.K.Ord.total key blocks place around tree there in
    subst (λ o. MatchOption c.peek_entry_counted.result (o ≡ None) (λ e. o ≡ Some (e.0.now, e.1.now))) (sym same) c.peek_entry_counted.ensures.pair

-- where there is a segment there is a pair
pub returns-clause-none : goal.returns-clause-none
returns-clause-none g c = λ none. absurd (false≢true (c.if-is_empty.ensures.1 (none_inside c.args.self.now c.laws.ensures.rising.some none)))
