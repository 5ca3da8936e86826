use Rattle.std.proofs.Common.{[], ◌∷◌, ◌∙◌, map, ap, sym, subst}
use Rattle.std.proofs.lemmas.List.{map-append}
use Rattle.version_views.specs.Items.{shared_items}
use Rattle.shared_versions.specs.Placing.{IsGrantedIn, granted_face}
use Rattle.shared_versions.proofs.OwnedLemmas.{held_row}
use Rattle.shared_versions.proofs.rows.held.Goals as goal

pub returns-in-Item-clause-owned : goal.returns-in-Item-clause-owned
returns-in-Item-clause-owned g c =
    let place = c.args.domain.now.table.shared.table_id in
    (held_row place c.in-Item.owner c.hold.result c.hold.ensures.item (subst (IsGrantedIn place) c.in-Item.is c.requires.mine)).0

pub returns-in-Item-clause-face : goal.returns-in-Item-clause-face
returns-in-Item-clause-face g c =
    let place = c.args.domain.now.table.shared.table_id in
    let held = held_row place c.in-Item.owner c.hold.result c.hold.ensures.item (subst (IsGrantedIn place) c.in-Item.is c.requires.mine) in
    ap (λ bs. (bs, bs)) held.1 ∙ sym (ap granted_face c.in-Item.is)

-- the row goes behind the others
pub returns-in-Own-clause-more : goal.returns-in-Own-clause-more
returns-in-Own-clause-more g c =
    let row = c.in-Own.segments ∷ [] in
    (map shared_items row, ap (map shared_items) c.push_reserved.ensures.items ∙ map-append shared_items c.args.own.now.items row)
