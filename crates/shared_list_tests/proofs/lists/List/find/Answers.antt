use Rattle.std.proofs.Common.{ap}
use Rattle.shared_lists.specs.Lists.{IsStill}
use Rattle.shared_lists.proofs.StillLemmas.{still, still_itself}
use Rattle.shared_list_tests.proofs.OpenLemmas.{still_open}
use Rattle.shared_list_tests.proofs.lists.List.find.Goals as goal

pub loop-i-init : goal.loop-i-init
loop-i-init c = record { same = still_itself c.args.local.now; guarded = c.requires.open; entry = c.args.self.now.made.0 }

pub loop-i-preserved : goal.loop-i-preserved
loop-i-preserved c =
    let l = c.loop-i.local in
    let m = c.load-next.new.local in
    let same : IsStill l m = (c.load-next.ensures.same.0, ap (λ o. o.nesting) c.load-next.ensures.same.1) in
    record {
      same = still c.args.local.now l m c.loop-i.invariant.same same;
      guarded = still_open c.args.self.now.guard.now c.args.self.now.domain.now l m c.loop-i.invariant.guarded same;
      entry = c.in_ok-at.ensures.place.1 c.args.self.now.domain.now c.args.self.now.made.1;
    }
