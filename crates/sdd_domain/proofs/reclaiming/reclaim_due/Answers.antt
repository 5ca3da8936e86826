use Rattle.std.proofs.Common.{◌≡◌, ◌+◌, ◌∙◌, List, length, ap, refl, arith}
use Rattle.atomic_table.specs.Table.{Me}
use Rattle.sdd_homes.specs.declared.Garbage.{Garbage}
use Rattle.domain_table.specs.Bags.{aged}
use Rattle.domain_table.specs.declared.board.Acting.{Acting}
use Rattle.domain_table.proofs.WaitLemmas.{due_less}
use Rattle.sdd_domain.proofs.reclaiming.reclaim_due.Goals as goal

pub loop-slot-init : goal.loop-slot-init
loop-slot-init g c = let m = c.args.seat.now.me in record { seat = (refl, refl); reclaimed = (m.0.slot, m.0.waits, refl); waits = c.requires.waits }

-- what was due is one less, whatever was retired meanwhile
pub loop-slot-smaller : goal.loop-slot-smaller
loop-slot-smaller g c = let d = c.in-Some.ensures.taken in let r = c.reclaim-item.ensures.reclaimed d.1 d.0 (ap (λ (z : Me _ Acting). z.0.waits) c.take_due.ensures.seat.2 ∙ d.2) in
    let now = ap length (c.give_up.ensures.bags.1 ∙ ap (λ (z : Me _ Acting). aged 3 z.0.waits) r.2) in let before = ap (λ (ws : List Garbage). length (aged 3 ws)) d.2 ∙ due_less d.0 d.1 d.4 in omega arith
