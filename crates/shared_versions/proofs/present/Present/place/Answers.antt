use Rattle.std.proofs.Common.{sym, ap, ◌∙◌, subst, arith}
use Rattle.std.specs.List.{All}
use Rattle.shared_versions.specs.Placing.{IsKeptRow, IsPlanned, IsPresent, Placed, sight_in, version_owned}
use Rattle.shared_versions.proofs.PresentLemmas.{kept_present, placeable_kept, planned_kept}
use Rattle.shared_versions.proofs.StillLemmas.{but_for_misses, still_but_misses}
use Rattle.shared_versions.proofs.present.Present.place.Goals as goal

-- what is kept is of the place, and the draft was built upon its segments
pub place_draft-requires : goal.place_draft-requires
place_draft-requires g c =
    let home = ap (λ (p : Placed _ _). p.place) c.self.view_is ∙ c.requires.mine in
    let blocks = c.self.invariant.blocks ∙ ap (λ (p : Placed _ _). p.version.rows) c.self.view_is in
    let kept = subst (λ t. All (IsKeptRow t) c.self.inside.rows.items) home c.self.invariant.rows in
    let placeable = placeable_kept g.K.Ord.cmp g.row.S c.self.inside.rows.items c.args.self.now.version c.args.draft blocks c.requires.placeable in
    (omega arith, (c.requires.home, (c.requires.hand, (kept, placeable))))

-- the owner of the new version is in the place of the older one's
pub invariant_of-self : goal.invariant_of-self
invariant_of-self g c = subst (λ o. IsPresent g.row.S o c.place_draft.new.kept.items) (sym c.replace-older.ensures.after) c.in-Some.ensures.present

pub invariant_of-self-in-None : goal.invariant_of-self-in-None
invariant_of-self-in-None g c =
    let home = ap (λ (p : Placed _ _). p.place) c.self.view_is ∙ c.requires.mine in
    kept_present g.row.S c.args.domain.now.table.shared.table_id c.self.inside.version c.self.inside.rows.items c.place_draft.new.kept.items home c.self.invariant c.in-None.ensures.still c.in-None.ensures.kept

pub returns-in-Some-clause-made : goal.returns-in-Some-clause-made
returns-in-Some-clause-made g c =
    let blocks = c.self.invariant.blocks ∙ ap (λ (p : Placed _ _). p.version.rows) c.self.view_is in
    let planned = planned_kept g.row.S c.self.inside.rows.items c.args.self.now.version c.args.draft (sight_in (version_owned c.in-Some.version)) blocks c.in-Some.ensures.made in
    subst (λ o. IsPlanned g.row.S c.args.self.now.version c.args.draft (sight_in (version_owned o))) (sym c.replace-older.ensures.after) planned

pub let_go-requires-clause-home : goal.let_go-requires-clause-home
let_go-requires-clause-home g c = c.place_draft.ensures.same.0 ∙ c.requires.home

pub returns-in-Some-clause-same : goal.returns-in-Some-clause-same
returns-in-Some-clause-same g c =
    let first = c.place_draft.new.local in
    let last = c.let_go.new.local in
    still_but_misses c.args.local.now first last c.place_draft.ensures.same (but_for_misses first last c.let_go.ensures.same)
