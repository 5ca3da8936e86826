use Rattle.std.proofs.Common.{◌<◌, ◌∙◌, length, refl, rules, subst, sym}
use Rattle.world_containers.proofs.MutableIterationLemmas.{bag_at, left_at, participant_at, told_none, told_some}
use Rattle.sdd_tests.proofs.writing_walks.raise.Goals as goal

pub loop-passed-init : goal.loop-passed-init
loop-passed-init g c =
    let e = c.in-Ok.ensures in
    record { same = refl; left = left_at _ _ _ e.place e.left; list = bag_at _ _ _ _ e.place c.requires.list; participant = participant_at _ _ e.place c.requires.participant }

pub loop-passed-preserved : goal.loop-passed-preserved
loop-passed-preserved g c =
    let v = c.loop-passed.invariant in
    let x = told_some _ _ c.in-Some.is (c.next.follows.holds _) in
    record { same = x.same ∙ v.same; left = x.left; list = x.bags _ _ v.list; participant = subst (λ ms. 0 < length ms) (sym x.participants) v.participant }

pub returns-in-None-clause-participant : goal.returns-in-None-clause-participant
returns-in-None-clause-participant g c =
    let v = c.loop-passed.invariant in
    let e = told_none _ c.in-None.is c.next.follows.holds-at-none in
    let n = sym (e.same ∙ v.same ∙ c.in-Ok.ensures.same) in
    let h = participant_at c.loop-passed.walk.place.now c.drop-walk.new.self.0 (c.drop-walk.ensures ∙ e.place) v.participant in
    search rules

pub returns-in-None-clause-list : goal.returns-in-None-clause-list
returns-in-None-clause-list g c =
    let v = c.loop-passed.invariant in
    let e = told_none _ c.in-None.is c.next.follows.holds-at-none in
    let n = sym (e.same ∙ v.same ∙ c.in-Ok.ensures.same) in
    bag_at _ _ c.loop-passed.walk.place.now _ (search rules) v.list

pub returns-clause-participant : goal.returns-clause-participant
returns-clause-participant g c =
    let v = c.loop-passed.invariant in
    let n = sym (v.same ∙ c.in-Ok.ensures.same) in
    let h = participant_at c.loop-passed.walk.place.now c.drop-walk-2.new.self.0 c.drop-walk-2.ensures v.participant in
    search rules

pub returns-clause-list : goal.returns-clause-list
returns-clause-list g c =
    let v = c.loop-passed.invariant in
    let n = sym (v.same ∙ c.in-Ok.ensures.same) in
    bag_at _ _ c.loop-passed.walk.place.now _ (search rules) v.list
