use Rattle.std.proofs.Common.{◌<◌, ◌∙◌, length, rules, subst, sym}
use Rattle.world_containers.proofs.MutableIterationLemmas.{bag_at, participant_at, told_some}
use Rattle.sdd_tests.proofs.writing_walks.exchange.Goals as goal

pub returns-clause-participant : goal.returns-clause-participant
returns-clause-participant g c =
    let e = c.in-Ok.ensures in
    let x = told_some _ _ c.in-Some.is (c.next.follows.holds c.args.other) in
    let n = sym (x.same ∙ e.same) in
    let h = participant_at _ c.drop-walk-2.new.self.0 c.drop-walk-2.ensures (subst (λ ms. 0 < length ms) (sym x.participants) (participant_at _ _ e.place c.requires.participant)) in
    search rules

pub returns-clause-list : goal.returns-clause-list
returns-clause-list g c =
    let e = c.in-Ok.ensures in
    let x = told_some _ _ c.in-Some.is (c.next.follows.holds c.args.other) in
    let n = sym (x.same ∙ e.same) in
    bag_at _ _ (c.next.follows.lender c.args.other).place.now _ (search rules) (x.bags _ _ (bag_at _ _ _ _ e.place c.requires.list))
