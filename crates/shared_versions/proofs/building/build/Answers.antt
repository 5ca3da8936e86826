use Rattle.std.proofs.Common.{◌≡◌, ◌≤◌, ◌+◌, ◌*◌, length, sym, ap, ◌∙◌, subst, arith}
use Rattle.version_views.specs.Cuts.{IsCut, pairs_in, separators_of}
use Rattle.version_views.specs.Writes.{after_writes}
use Rattle.version_views.specs.Rows.{CutsInRows}
use Rattle.version_views.specs.declared.directory.Directory.{Directory}
use Rattle.version_drafts.specs.Drafts as drafts
use Rattle.shared_versions.specs.Drafts.{IsPlannedAs}
use Rattle.shared_versions.specs.Nodes.{IsReadable}
use Rattle.shared_versions.specs.Sight.{Sight}
use Rattle.shared_versions.proofs.DirectoryLemmas.{planned_placeable, whole_cut, whole_readable}
use Rattle.shared_versions.proofs.building.build.Goals as goal

pub build-requires : goal.build-requires
build-requires g c =
    let cmp = g.K.Ord.cmp in
    let old = c.args.old.now in
    let view = c.view_of-view.ensures in
    let cut = subst (λ s. IsCut cmp s old.blocks (separators_of old.blocks)) c.requires.width c.laws.ensures in
    let d = c.directory-rows.result.now in
    let rows = whole_cut old.own cmp old.width d c.directory-rows.ensures.whole in
    let same = ap (λ (v : Sight _ _). v.blocks) c.directory-rows.ensures.sight ∙ sym view in
    (omega arith, (c.requires.size, (c.requires.keys, (c.requires.values, (subst (λ bs. IsCut cmp g.row.S bs (separators_of bs)) (sym view) cut, subst (λ bs. CutsInRows bs d) same rows)))))

pub of-requires : goal.of-requires
of-requires g c =
    let old = c.args.old.now in
    let d = c.directory-rows.result.now in
    let readable = whole_readable old.own g.K.Ord.cmp old.width d c.directory-rows.ensures.whole in
    (omega arith, (omega arith, (subst (λ o. IsReadable o d) (sym c.own.ensures) readable, c.in_ok-plan.ensures.planned.there)))

-- the older version's rows are those of its directory, and what was planned upon them can be placed
pub returns-clause-placeable : goal.returns-clause-placeable
returns-clause-placeable g c =
    let old = c.args.old.now in
    let d = c.directory-rows.result.now in
    let sight = c.directory-rows.ensures.sight in
    let same = c.view_of-view.ensures ∙ sym (ap (λ (v : Sight _ _). v.blocks) sight) in
    let planned = subst (λ bs. drafts.IsPlanned g.K.Ord.cmp bs d.ends.items c.in_ok-plan.plan) same c.in_ok-plan.ensures.planned in
    (planned_placeable old.own g.K.Ord.cmp g.row.S d c.in_ok-plan.plan c.in_ok-of.field-0 old (ap (λ (v : Sight _ _). v.rows) sight) planned (subst (λ o. IsPlannedAs o d c.in_ok-plan.plan.shelves c.in_ok-of.field-0) c.own.ensures c.in_ok-of.ensures)).0

pub returns-clause-list : goal.returns-clause-list
returns-clause-list g c =
    let old = c.args.old.now in
    let d = c.directory-rows.result.now in
    let sight = c.directory-rows.ensures.sight in
    let same = c.view_of-view.ensures ∙ sym (ap (λ (v : Sight _ _). v.blocks) sight) in
    let planned = subst (λ bs. drafts.IsPlanned g.K.Ord.cmp bs d.ends.items c.in_ok-plan.plan) same c.in_ok-plan.ensures.planned in
    let list = (planned_placeable old.own g.K.Ord.cmp g.row.S d c.in_ok-plan.plan c.in_ok-of.field-0 old (ap (λ (v : Sight _ _). v.rows) sight) planned (subst (λ o. IsPlannedAs o d c.in_ok-plan.plan.shelves c.in_ok-of.field-0) c.own.ensures c.in_ok-of.ensures)).1 in
    list ∙ sym (ap (λ bs. drafts.list_planned bs c.in_ok-plan.plan) same) ∙ c.in_ok-plan.ensures.list ∙ ap (λ bs. after_writes g.K.Ord.cmp c.args.writes.now (pairs_in bs)) c.view_of-view.ensures
