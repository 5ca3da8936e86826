use Rattle.std.proofs.Common.{◌≡◌, ◌∷◌, [], ◌++◌, length, map, reverse, refl, sym, ap, ◌∙◌, subst, arith}
use Rattle.std.specs.List.{All}
use Rattle.std.specs.Prelude.{IfSome}
use Rattle.std.proofs.lemmas.List.{length-append}
use Rattle.std.proofs.lemmas.List.Elements.{All-nil, All-pop, All-push}
use Rattle.sdd_domain.specs.Holding.{all_told}
use Rattle.sdd_domain.specs.Tokens.{hand_of}
use Rattle.version_views.specs.Items.{row_keys}
use Rattle.version_views.specs.declared.row.Row.{Row}
use Rattle.shared_versions.specs.Nodes.{OwnsRow, holds_in, own_segments, row_holds}
use Rattle.shared_versions.specs.Placing.{IsGrantedIn, granted_face, owner_face, row_face}
use Rattle.shared_versions.proofs.OwnRowLemmas.{faces_still, owned_still}
use Rattle.shared_versions.proofs.OwnerLemmas.{told_both, with_last}
use Rattle.shared_versions.proofs.SeamLemmas.{crossing}
use Rattle.shared_versions.proofs.StillLemmas.{still}
use Rattle.shared_versions.proofs.rows.hold_rows.Goals as goal

pub held-owner-requires-clause-home : goal.held-owner-requires-clause-home
held-owner-requires-clause-home g c = c.holding.invariant.same.0 ∙ c.requires.home

pub held-owner-requires-clause-mine : goal.held-owner-requires-clause-mine
held-owner-requires-clause-mine g c =
    let place = c.args.domain.now.table.shared.table_id in
    let Is = λ (r : Row _ _). IsGrantedIn place r.segments in
    let popped = All-pop Is c.holding.granted.items c.pop.new.self.items c.pop.result c.pop.ensures.items c.holding.invariant.owners in
    let here = subst (λ r. IfSome r Is) c.in-Some.is popped.1 in
    subst (IsGrantedIn place) (sym (ap (λ (r : Row _ _). r.segments) c.into_parts-segments.ensures)) here

pub holding-preserved : goal.holding-preserved
holding-preserved g c =
    let place = c.args.domain.now.table.shared.table_id in
    let before = c.holding.invariant in
    let row = c.in-Some.row in
    let segments = c.into_parts-segments.result.0 in
    let keys = c.into_parts-segments.result.1 in
    let is : row ≡ record { segments = segments; separators = keys } = sym c.into_parts-segments.ensures in
    let new = c.new.result in
    let new_is = c.new.ensures in
    let fewer = c.in-Some.ensures.items in
    let rest = c.pop.new.self.items in
    let longer = c.push_reserved.ensures.items in
    let rows = c.holding.rows.items in
    let own = own_segments c.holding.own.items in
    let now = own_segments c.held-owner.new.own.items in
    let e = c.held-owner.ensures in
    let owner = c.held-owner.result in
    let face_is : row_face (owner_face now) new ≡ row_face granted_face row =
    ap (row_face (owner_face now)) new_is
    ∙ ap (λ f. (f, row_keys (record { segments = segments; separators = keys }))) e.face
    ∙ sym (ap (row_face granted_face) is) in
    let both : holds_in c.push_reserved.new.self.items ≡ holds_in rows ++ row_holds owner = ap holds_in longer ∙ with_last rows new ∙ ap (λ (r : Row _ _). holds_in rows ++ row_holds r.segments) new_is in
    let Owns = λ (r : Row _ _). OwnsRow now r.segments in
    record {
      faces =
          crossing (row_face granted_face) (row_face (owner_face now)) row new rest c.holding.granted.items rows c.push_reserved.new.self.items fewer longer face_is
          ∙ ap (λ fs. fs ++ reverse (map (row_face granted_face) c.holding.granted.items)) (faces_still own now e.more rows before.owned)
          ∙ before.faces;
      owners = (All-pop (λ (r : Row _ _). IsGrantedIn place r.segments) c.holding.granted.items rest c.pop.result c.pop.ensures.items before.owners).0;
      owned = subst (All Owns) (sym longer) (All-push Owns rows new (owned_still own now e.more rows before.owned) (subst Owns (sym new_is) e.owned));
      room = (
        omega (arith, before.room.0, ap length fewer, length-append rest (row ∷ []), ap length longer, length-append rows (new ∷ []), c.push_reserved.ensures.capacity),
        omega (arith, before.room.1, ap length fewer, length-append rest (row ∷ []), e.few, e.room),
      );
      hand = e.hand ∙ ap (λ hs. all_told (row_holds owner) ++ hs) before.hand ∙ sym (ap all_told both ∙ told_both (holds_in rows) (row_holds owner));
      same = still c.args.local.now c.holding.local c.held-owner.new.local before.same e.same;
      cells = e.cells ∙ before.cells;
    }

pub holding-init : goal.holding-init
holding-init g c =
    let none = c.requires.none.0 in
    let none_own = c.requires.none.1 in
    let own = own_segments c.args.own.items in
    record {
      faces = ap (λ rs. map (row_face (owner_face own)) rs ++ reverse (map (row_face granted_face) c.args.granted.items)) none;
      owners = c.requires.owners;
      owned = subst (All (λ (r : Row _ _). OwnsRow own r.segments)) (sym none) (All-nil (λ (r : Row _ _). OwnsRow own r.segments));
      room = (omega (arith, ap length none, c.requires.room.0), omega (arith, ap length none_own, c.requires.room.1));
      hand = c.requires.hand ∙ sym (ap (λ rs. all_told (holds_in rs)) none);
      same = (refl, refl, refl, refl, refl);
      cells = refl;
    }

pub push_reserved-requires : goal.push_reserved-requires
push_reserved-requires g c = omega (arith, c.holding.invariant.room.0, ap length c.in-Some.ensures.items, length-append c.pop.new.self.items (c.in-Some.row ∷ []), c.holding.rows.ok.0)
