use Rattle.std.proofs.Common.{◌≡◌, sym, ap, ◌∙◌, subst}
use Rattle.std.specs.declared.cmp.Ordering.TheVariants.{Less}
use Rattle.tree_index.proofs.WayLemmas.{some_same}
use Rattle.tree_index.specs.Shape.{AllKeys}
use Rattle.version_views.specs.Cuts.{separators_of}
use Rattle.version_drafts.proofs.SpanLemmas.{among_of}
use Rattle.version_drafts.proofs.merge.reached_at.Goals as goal

pub returns-in-Some : goal.returns-in-Some
returns-in-Some g c = λ i b less here change first.
    let cmp = g.K.Ord.cmp in
    let blocks = c.args.old.now in
    let key = c.in-Some.key.now in
    let at = c.place_of.ensures in
    let among = among_of g.met.K.Ord.total blocks key (separators_of c.args.old.now) c.place_of.result c.requires at in
    let same = some_same (sym first ∙ sym c.in-Some.ensures) in
    subst (λ x. AllKeys (λ k. cmp k x ≡ Less) b) (sym (ap (λ x. x.0) same)) (among.before i b here less)
