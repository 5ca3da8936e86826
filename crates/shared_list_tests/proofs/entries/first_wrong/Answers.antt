use Rattle.shared_lists.proofs.StillLemmas.{still_itself}
use Rattle.shared_list_tests.proofs.entries.first_wrong.Goals as goal

pub loop-i-init : goal.loop-i-init
loop-i-init c = record { same = still_itself c.args.local.now; guarded = c.requires.open; entry = c.in-Some.ensures.place.1 c.args.domain.now c.requires.links }
