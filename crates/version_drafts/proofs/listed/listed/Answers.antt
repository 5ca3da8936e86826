use Rattle.std.proofs.Common.{◌*◌, ◌+◌, ◌<◌, length, sym, ap, ◌∙◌, subst}
use Rattle.version_views.specs.Cuts.{IsCut, pairs_in, separators_of}
use Rattle.version_views.specs.declared.directory.Directory.{Directory}
use Rattle.version_drafts.proofs.ListedLemmas.{all_new, blocks_new, view_none}
use Rattle.version_drafts.proofs.listed.listed.Goals as goal

pub new-old-requires : goal.new-old-requires
new-old-requires g c =
    let is = c.new-none.ensures in
    view_none _ (ap (λ (d : Directory _ _). d.rows.items) is ∙ c.new.ensures.items) (ap (λ (d : Directory _ _). d.separators.items) is ∙ c.new-2.ensures.items) g.K.Ord.cmp _ _ _ _ (ap (λ (d : Directory _ _). d.ends.items) is ∙ c.new-3.ensures.items) (ap (λ (d : Directory _ _). d.length) is)

pub returns-clause-cut : goal.returns-clause-cut
returns-clause-cut g c = λ blocks.
    let e = c.in_ok-segments.ensures in
    let segments = c.in_ok-segments.segments in
    subst (λ bs. IsCut g.K.Ord.cmp g.row.S bs (separators_of bs)) (blocks_new blocks segments.parts.items e.within) e.cut

pub returns-clause-list : goal.returns-clause-list
returns-clause-list g c = λ blocks.
    let e = c.in_ok-segments.ensures in
    sym (ap pairs_in (blocks_new blocks c.in_ok-segments.segments.parts.items e.within)) ∙ e.list

pub returns-clause-new : goal.returns-clause-new
returns-clause-new g c = all_new c.in_ok-segments.segments.parts.items c.in_ok-segments.ensures.within

pub returns-clause-fewest : goal.returns-clause-fewest
returns-clause-fewest g c =
    let e = c.in_ok-segments.ensures in
    subst (λ m. g.row.S * m < length c.args.pairs.now + g.row.S) (all_new c.in_ok-segments.segments.parts.items e.within) e.fewest
