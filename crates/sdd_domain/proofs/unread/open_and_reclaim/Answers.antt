use Rattle.std.proofs.Common.{◌≡◌, ◌∙◌, ℕ, List, sym, refl, ap, subst}
use Rattle.atomic_table.specs.Table.{Me}
use Rattle.sdd_homes.specs.declared.Garbage.{Garbage}
use Rattle.domain_table.specs.Ledgers.{WaitsIn}
use Rattle.domain_table.specs.Views.{publishing, reading}
use Rattle.domain_table.specs.declared.board.Acting.{Acting}
use Rattle.sdd_domain.proofs.unread.open_and_reclaim.Goals as goal

pub returns-then-settle-clause-reclaimed : goal.returns-then-settle-clause-reclaimed
returns-then-settle-clause-reclaimed g c = let r = c.read_count-epoch.ensures in let s = c.settle.ensures.settled c.if-settle.true in let d = c.reclaim_settled.ensures.reclaimed in let e = c.read_count-epoch.result in
    (d.0, d.1, d.2, d.3 ∙ ((λ j. (record (s.3 j).0 { known = publishing e (s.3 j).0.known; born = d.0; slot = d.1; waits = d.2 }, (s.3 j).1)) ∙ λ j. (record (r.2 j).0 { known = publishing e (r.2 j).0.known; born = d.0; slot = d.1; waits = d.2 }, (r.2 j).1)))
