use Rattle.shared_lists.proofs.StillLemmas.{still, still_itself}
use Rattle.shared_list_tests.proofs.OpenLemmas.{still_open}
use Rattle.shared_list_tests.proofs.threads.all_behind.Goals as goal

pub loop-i-init : goal.loop-i-init
loop-i-init c = record { same = still_itself c.args.local.now; guarded = c.requires.open; entry = c.in-Some.ensures.place.1 c.args.domain.now c.requires.links }

pub loop-i-preserved : goal.loop-i-preserved
loop-i-preserved c =
    let l = c.loop-i.local in
    let m = c.next_ptr-next.new.local in
    let same = c.next_ptr-next.ensures.same in
    record {
      same = still c.args.local.now l m c.loop-i.invariant.same same;
      guarded = still_open c.args.guard.now c.args.domain.now l m c.loop-i.invariant.guarded same;
      entry = c.in-Some-of.ensures.place.1 c.args.domain.now c.requires.links;
    }
