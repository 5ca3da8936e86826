use Rattle.std.proofs.Common.{◌≡◌, ◌∷◌, [], ◌++◌, append-nil, length, map, reverse, refl, sym, ap, ◌∙◌, subst, arith}
use Rattle.std.specs.List.{All}
use Rattle.std.specs.Prelude.{IfSome}
use Rattle.std.proofs.lemmas.List.{length-append, length-map}
use Rattle.std.proofs.lemmas.List.Elements.{All-nil, All-pop, All-push}
use Rattle.version_views.specs.Items.{row_keys}
use Rattle.version_views.specs.declared.row.Row.{Row}
use Rattle.shared_versions.specs.Drafts.{planned_placed}
use Rattle.shared_versions.specs.Placing.{IsGrantedIn, IsThere, IsToKeep, blocks_kept, blocks_to_keep, granted_face, moved_from, planned_face, row_face, taken_from}
use Rattle.shared_versions.proofs.MovingLemmas.{all_new}
use Rattle.shared_versions.proofs.SeamLemmas.{crossing}
use Rattle.shared_versions.proofs.StillLemmas.{still}
use Rattle.shared_versions.proofs.granting.grant_all.Goals as goal

pub grant-requires-clause-there : goal.grant-requires-clause-there
grant-requires-clause-there g c =
    let before = c.granting.invariant in
    let Is = λ (r : Row _ _). IsThere (map blocks_kept c.args.kept.now.items) r.segments in
    let popped = All-pop Is c.granting.planned.items c.pop.new.self.items c.pop.result c.pop.ensures.items before.there in
    let here = subst (λ r. IfSome r Is) c.in-Some.is popped.1 in
    let parts = ap (λ (r : Row _ _). r.segments) c.into_parts-segments.ensures in
    subst (λ p. IsThere (map blocks_kept c.granting.kept.items) p) (sym parts) (subst (λ rows. IsThere rows c.in-Some.row.segments) (sym before.still) here)

pub granting-preserved : goal.granting-preserved
granting-preserved g c =
    let place = c.args.domain.now.table.shared.table_id in
    let before = c.granting.invariant in
    let many = length c.args.kept.now.items in
    let named = map blocks_kept c.args.kept.now.items in
    let row = c.in-Some.row in
    let parts = c.into_parts-segments.ensures in
    let segments = c.into_parts-segments.result.0 in
    let keys = c.into_parts-segments.result.1 in
    let owner = c.in-Some-grant.owner in
    let one = c.in-Some-grant.kept_so in
    let told = c.in-Some-grant.ensures in
    let rest = c.pop.new.self.items in
    let fewer = c.in-Some.ensures.items in
    let owners = c.push_reserved.ensures.items in
    let new = c.new.result in
    let new_is = c.new.ensures in
    let keeps = c.push_reserved-in-Some-grant.ensures.items in
    let same = c.grant.ensures.same in
    let is : row ≡ record { segments = segments; separators = keys } = sym parts in
    let face_is : row_face granted_face new ≡ row_face (planned_face named) row =
    ap (row_face granted_face) new_is
    ∙ ap (λ f. (f, row_keys (record { segments = segments; separators = keys }))) (told.face ∙ ap (λ rows. planned_face rows segments) before.still)
    ∙ sym (ap (row_face (planned_face named)) is) in
    let blocks_are : planned_placed named row.segments ≡ blocks_to_keep named one =
    ap (λ (r : Row _ _). planned_placed named r.segments) is
    ∙ sym (subst (λ rows. blocks_to_keep rows one ≡ planned_placed rows segments) before.still told.blocks) in
    let from_is : taken_from row.segments ≡ moved_from one = ap (λ (r : Row _ _). taken_from r.segments) is ∙ sym told.from in
    let as_many = sym (length-map c.grant.new.kept.items blocks_kept) ∙ (ap length c.grant.ensures.still ∙ length-map c.granting.kept.items blocks_kept) in
    let Granted = λ (r : Row _ _). IsGrantedIn place r.segments in
    record {
      faces = before.faces ∙ crossing (row_face granted_face) (row_face (planned_face named)) new row c.granting.granted.items c.push_reserved.new.self.items rest c.granting.planned.items owners fewer (sym face_is);
      blocks = before.blocks ∙ crossing (blocks_to_keep named) (λ (r : Row _ _). planned_placed named r.segments) one row c.granting.to_keep.items c.push_reserved-in-Some-grant.new.self.items rest c.granting.planned.items keeps fewer blocks_are;
      from = before.from ∙ crossing moved_from (λ (r : Row _ _). taken_from r.segments) one row c.granting.to_keep.items c.push_reserved-in-Some-grant.new.self.items rest c.granting.planned.items keeps fewer from_is;
      there = (All-pop (λ (r : Row _ _). IsThere named r.segments) c.granting.planned.items rest c.pop.result c.pop.ensures.items before.there).0;
      owners = subst (All Granted) (sym owners) (All-push Granted c.granting.granted.items new before.owners (subst Granted (sym new_is) told.owner));
      to_keep = subst (All (IsToKeep place many)) (sym keeps) (All-push (IsToKeep place many) c.granting.to_keep.items one before.to_keep (subst (λ n. IsToKeep place n one) before.places told.to_keep));
      kept = c.grant.ensures.kept;
      still = c.grant.ensures.still ∙ before.still;
      places = as_many ∙ before.places;
      room = omega (arith, before.room, ap length fewer, length-append rest (row ∷ []), ap length owners, length-append c.granting.granted.items (new ∷ []), c.push_reserved.ensures.capacity);
      room_to_keep = omega (arith, before.room_to_keep, ap length fewer, length-append rest (row ∷ []), ap length keeps, length-append c.granting.to_keep.items (one ∷ []), c.push_reserved-in-Some-grant.ensures.capacity);
      hand = c.grant.ensures.hand;
      same = still c.args.local.now c.granting.local c.grant.new.local before.same (same.0, same.1, same.2, same.3, told.hit);
      cells = c.grant.ensures.cells ∙ before.cells;
    }

pub release_new-requires-clause-new : goal.release_new-requires-clause-new
release_new-requires-clause-new g c = all_new c.args.domain.now.table.shared.table_id (length c.args.kept.now.items) c.granting.to_keep.items c.granting.invariant.to_keep

pub granting-init : goal.granting-init
granting-init g c =
    let place = c.args.domain.now.table.shared.table_id in
    let n = length c.args.kept.now.items in
    let named = map blocks_kept c.args.kept.now.items in
    let rows = c.args.planned.items in
    let none = c.requires.none in
    let placed = map (λ (r : Row _ _). planned_placed named r.segments) rows in
    let from = map (λ (r : Row _ _). taken_from r.segments) rows in
    let faces = map (row_face (planned_face named)) rows in
    record {
      faces = sym (append-nil faces) ∙ ap (λ os. faces ++ reverse (map (row_face granted_face) os)) (sym none.0);
      blocks = sym (append-nil placed) ∙ ap (λ ts. placed ++ reverse (map (blocks_to_keep named) ts)) (sym none.1);
      from = sym (append-nil from) ∙ ap (λ ts. from ++ reverse (map moved_from ts)) (sym none.1);
      there = c.requires.there;
      owners = subst (All (λ (r : Row _ _). IsGrantedIn place r.segments)) (sym none.0) (All-nil (λ (r : Row _ _). IsGrantedIn place r.segments));
      to_keep = subst (All (IsToKeep place n)) (sym none.1) (All-nil (IsToKeep place n));
      kept = c.requires.kept;
      still = refl;
      places = refl;
      room = omega (arith, ap length none.0, c.requires.room.0);
      room_to_keep = omega (arith, ap length none.1, c.requires.room.1);
      hand = c.requires.hand;
      same = (refl, refl, refl, refl, refl);
      cells = refl;
    }

pub push_reserved-requires : goal.push_reserved-requires
push_reserved-requires g c = omega (arith, c.granting.invariant.room, ap length c.in-Some.ensures.items, length-append c.pop.new.self.items (c.in-Some.row ∷ []), c.granting.granted.ok.0)

pub push_reserved-requires-in-Some-grant : goal.push_reserved-requires-in-Some-grant
push_reserved-requires-in-Some-grant g c = omega (arith, c.granting.invariant.room_to_keep, ap length c.in-Some.ensures.items, length-append c.pop.new.self.items (c.in-Some.row ∷ []), c.granting.to_keep.ok.0)
