use Rattle.std.proofs.Common.{◌+◌, ℕ, sym, subst}
use Rattle.sdd_table.specs.Place.{IsShared}
use Rattle.sdd_table.specs.declared.status.Status.TheVariants as status
use Rattle.sdd_world.proofs.FrameLemmas.{shared_more}
use Rattle.sdd_table.proofs.BagInvariantLemmas.{inside_by}
use Rattle.sdd_world.proofs.world.ptr.add_owner.Goals as goal

pub returns-else-is_last-clause-live : goal.returns-else-is_last-clause-live
returns-else-is_last-clause-live g c =
    let w = c.w.inside.table in
    let inside = inside_by w.states c.args.slot (status.Shared c.in-Shared.owners) c.in-Shared.ensures (λ e. cc) in
    let there = shared_more w c.set_status.new.self c.args.slot (c.in-Shared.owners + 1) inside c.set_status.ensures in
    subst (λ (i : ℕ). IsShared c.set_status.new.self i) (sym c.shared_at.ensures) there
