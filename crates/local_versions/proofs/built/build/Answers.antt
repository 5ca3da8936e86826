use Rattle.std.proofs.Common.{◌≡◌, ℕ, IfOk, Some, sym, ◌∙◌, subst, arith}
use Rattle.std.proofs.lemmas.Result.{IfOk-weaker}
use Rattle.sdd_world.specs.Frame.{IsLive}
use Rattle.sdd_world.specs.Groups.{name_of, row_at}
use Rattle.sdd_world.specs.State.{value_at}
use Rattle.version_views.specs.Cuts.{IsCut, pairs_in, separators_of}
use Rattle.version_views.specs.Rows.{CutsInRows}
use Rattle.version_views.specs.Versions.{blocks_in, segment_pairs}
use Rattle.version_views.specs.Writes.{after_writes}
use Rattle.version_views.specs.declared.item.Item.TheVariants as items
use Rattle.version_views.specs.declared.row.Row.{Row}
use Rattle.version_views.proofs.RowLemmas.{map-flat_map}
use Rattle.version_views.proofs.RowSearchLemmas.{rows_cut}
use Rattle.version_drafts.specs.Drafts.{IsPlanned}
use Rattle.local_versions.specs.Placing.{IsPlaceable, list_planned}
use Rattle.local_versions.proofs.BuildingLemmas.{placeable_beside}
use Rattle.local_versions.proofs.built.build.Goals as goal

pub build-requires : goal.build-requires
build-requires g c =
    let cmp = g.K.Ord.cmp in
    let w = c.args.w.now in
    let dir = c.args.dir.now in
    let is = sym c.view_of-old.ensures in
    let rows = sym (map-flat_map (λ i. segment_pairs (value_at w i)) (λ (r : Row _ _). row_at w.groups (name_of r.segments)) dir.rows.items) in
    let cut = subst (λ bs. IsCut cmp g.row.S bs (separators_of bs)) is c.requires.version.cut in
    let stands = subst (λ bs. CutsInRows bs dir) (rows ∙ is) (rows_cut (blocks_in w.groups (value_at w)) dir c.requires.version.rowed) in
    (omega arith, (c.requires.size, (c.requires.keys, (c.requires.values, (cut, stands)))))

pub returns-clause-placeable : goal.returns-clause-placeable
returns-clause-placeable g c =
    let cmp = g.K.Ord.cmp in
    let w = c.args.w.now in
    let dir = c.args.dir.now in
    IfOk-weaker c.build.result _ (λ made. (i : ℕ) → IsLive w i → value_at w i ≡ Some (items.Directory dir) → IsPlaceable cmp w (Some i) made.0)
    (λ made planned. placeable_beside cmp w dir c.requires.version made.0 (subst (λ bs. IsPlanned cmp bs dir.ends.items made.0) c.view_of-old.ensures planned))
    c.build.ensures.planned

pub returns-clause-list : goal.returns-clause-list
returns-clause-list g c = subst (λ bs. IfOk c.build.result (λ made. list_planned bs made.0 ≡ after_writes g.K.Ord.cmp c.args.writes.now (pairs_in bs))) c.view_of-old.ensures c.build.ensures.list
