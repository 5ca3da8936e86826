use Rattle.std.proofs.Common.{◌≡◌, ◌∷◌, [], length, map, sym, ap, ◌∙◌, subst, arith}
use Rattle.std.specs.List.{All, AllPairs}
use Rattle.std.specs.Prelude.{IfSome}
use Rattle.std.proofs.lemmas.List.{length-append}
use Rattle.std.proofs.lemmas.List.Elements.{All-pop, All-push}
use Rattle.shared_versions.specs.Placing.{AreApart, IsKeptRow, IsSameIn, IsToKeep, IsWithinKept, blocks_kept, blocks_to_keep, moved_from, owner_of}
use Rattle.shared_versions.proofs.ApartLemmas.{pairs_head, pairs_tail}
use Rattle.shared_versions.proofs.MovingLemmas.{all_stay, all_turned, as_many_places, owner_told, rest_left}
use Rattle.shared_versions.proofs.SeamLemmas.{crossing, first_told}
use Rattle.shared_versions.proofs.keeping.keep_all.Goals as goal

pub moving-preserved : goal.moving-preserved
moving-preserved g c =
    let place = c.args.domain.now.table.shared.table_id in
    let first = c.args.kept.now.items in
    let named = map blocks_kept first in
    let before = c.moving.invariant in
    let older = c.moving.older.items in
    let rest = c.pop.new.self.items in
    let one = c.in-Some.one in
    let owner = c.moved.result in
    let fewer = c.in-Some.ensures.items in
    let keeps = c.push_reserved.ensures.items in
    let IsOne = IsToKeep place (length first) in
    let all = All-pop IsOne c.moving.to_keep.items rest c.pop.result c.pop.ensures.items before.to_keep in
    let there = All-pop (IsSameIn first older) c.moving.to_keep.items rest c.pop.result c.pop.ensures.items before.there in
    let is = subst (λ r. IfSome r IsOne) c.in-Some.is all.1 in
    let owner_is : owner ≡ owner_of first one = c.moved.ensures.owner ∙ subst (λ r. IfSome r (IsSameIn first older)) c.in-Some.is there.1 in
    let told = owner_told place first one c.requires.kept is in
    let apart = subst (AllPairs AreApart) (first_told moved_from one rest c.moving.to_keep.items fewer) before.apart in
    let far = all_turned (AreApart (moved_from one)) moved_from rest (pairs_head AreApart (moved_from one) _ apart) in
    let left = c.moved.ensures.left in
    record {
      blocks = before.blocks ∙ sym (crossing (blocks_to_keep named) blocks_kept one owner rest c.moving.to_keep.items c.moving.kept.items c.push_reserved.new.self.items fewer keeps (ap blocks_kept owner_is ∙ told.1));
      to_keep = all.0;
      there = all_stay first older c.moved.new.older.items one rest left far there.0;
      apart = pairs_tail AreApart (moved_from one) _ apart;
      kept = subst (All (IsKeptRow place)) (sym keeps) (All-push (IsKeptRow place) c.moving.kept.items owner before.kept (subst (IsKeptRow place) (sym owner_is) told.0));
      left = subst (All (IsKeptRow place)) (sym left) (rest_left place older one before.left);
      places = ap length left ∙ (as_many_places older one ∙ before.places);
      room = omega (arith, before.room, ap length fewer, length-append rest (one ∷ []), ap length keeps, length-append c.moving.kept.items (owner ∷ []), c.push_reserved.ensures.capacity);
    }

pub moved-requires : goal.moved-requires
moved-requires g c =
    let IsOne = IsToKeep c.args.domain.now.table.shared.table_id (length c.args.kept.now.items) in
    let all = All-pop IsOne c.moving.to_keep.items c.pop.new.self.items c.pop.result c.pop.ensures.items c.moving.invariant.to_keep in
    subst (λ n. IsWithinKept n c.in-Some.one) (sym c.moving.invariant.places) (subst (λ r. IfSome r IsOne) c.in-Some.is all.1).1

pub push_reserved-requires : goal.push_reserved-requires
push_reserved-requires g c = omega (arith, c.moving.invariant.room, ap length c.in-Some.ensures.items, length-append c.pop.new.self.items (c.in-Some.one ∷ []))

pub release_kept-requires-clause-home : goal.release_kept-requires-clause-home
release_kept-requires-clause-home g c = c.requires.home

pub release_kept-requires-clause-left : goal.release_kept-requires-clause-left
release_kept-requires-clause-left g c = c.moving.invariant.left

pub returns-clause-kept : goal.returns-clause-kept
returns-clause-kept g c = c.moving.invariant.kept

pub returns-clause-hand : goal.returns-clause-hand
returns-clause-hand g c = c.release_kept.ensures.hand

pub returns-clause-same : goal.returns-clause-same
returns-clause-same g c = c.release_kept.ensures.same
