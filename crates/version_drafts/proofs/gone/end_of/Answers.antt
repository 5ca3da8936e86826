use Rattle.std.proofs.Common.{Some, sym, subst}
use Rattle.version_views.specs.Cuts.{separators_of}
use Rattle.version_drafts.specs.Gone.{IsEndAt}
use Rattle.version_drafts.proofs.SpanLemmas.{among_of}
use Rattle.version_drafts.proofs.gone.end_of.Goals as goal

pub returns-in-Included : goal.returns-in-Included
returns-in-Included g c =
    let cmp = g.K.Ord.cmp in
    let blocks = c.args.old.now in
    let at = c.place_of.ensures in
    subst (λ b. IsEndAt cmp blocks b (Some c.place_of.result)) (sym c.in-Included.is) (among_of g.met.K.Ord.total blocks c.in-Included.key (separators_of c.args.old.now) c.place_of.result c.requires at)

pub returns-in-Excluded : goal.returns-in-Excluded
returns-in-Excluded g c =
    let cmp = g.K.Ord.cmp in
    let blocks = c.args.old.now in
    let at = c.place_of-in-Excluded.ensures in
    subst (λ b. IsEndAt cmp blocks b (Some c.place_of-in-Excluded.result)) (sym c.in-Excluded.is) (among_of g.met.K.Ord.total blocks c.in-Excluded.key (separators_of c.args.old.now) c.place_of-in-Excluded.result c.requires at)
