use Rattle.std.proofs.Common.{sym, subst}
use Rattle.sdd_steps.specs.State.{Has}
use Rattle.domain_table.proofs.Rows.{slots_told, lent_slot}
use Rattle.domain_table.proofs.owners.release.Goals as goal

pub release_home-requires-clause-free : goal.release_home-requires-clause-free
release_home-requires-clause-free g c = λ h. let ls = c.args.seat.now.me.0.leases in let r = c.requires.rows.0 in c.in-None.ensures.free (subst (λ ks. Has ks c.args.slot) (sym (slots_told r.0 c.args.rows.now.items ls r.1)) (lent_slot ls c.args.slot h))
