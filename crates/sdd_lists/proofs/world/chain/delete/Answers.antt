use Rattle.std.proofs.Common.{◌∙◌, ap, sym, ℕ, None, Option}
use Rattle.sdd_world.specs.State.{cell_at, with_cell}
use Rattle.sdd_world.specs.Tokens.{shared_cell, shared_slots}
use Rattle.sdd_world.specs.declared.owner.Shared.{Shared}
use Rattle.sdd_world.specs.declared.tag.Tag.TheVariants as tag
use Rattle.sdd_world.specs.declared.status.Cell.TheVariants as cell
use Rattle.sdd_lists.proofs.ChainLemmas.{full_empty}
use Rattle.sdd_lists.proofs.ReleaseLemmas.{loose_cell}
use Rattle.sdd_lists.proofs.world.chain.delete.Goals as goal

pub swap-next-requires : goal.swap-next-requires
swap-next-requires g c =
    let r = c.requires in
    loose_cell g.L.LinkedList.link _ r.0 r.1 (shared_cell c.cell.result.now) (c.cell.ensures ∙ c.link_of-link.ensures r.0 r.1.item r.2)

pub unreachable-requires : goal.unreachable-requires
unreachable-requires g c =
    let r = c.requires in
    let at = c.cell.ensures ∙ c.link_of-link.ensures r.0 r.1.item r.2 in
    let was = c.swap-next.ensures.was ∙ ap (λ (o : Option (Shared _)). cell.OfShared (shared_slots o) c.swap-next.result.1) c.in-Some.is in
    full_empty None c.in-Some.field-0.slot r.0.tag c.swap-next.result.1 (sym r.1.empty ∙ sym (ap (λ (j : ℕ). cell_at c.args.w.now j) at) ∙ was)

pub returns-clause-deleted : goal.returns-clause-deleted
returns-clause-deleted g c = λ e k at. c.swap-next.ensures.now ∙ ap (λ (j : ℕ). with_cell j (cell.OfShared None tag.Second) c.args.w.now) (c.cell.ensures ∙ c.link_of-link.ensures e k.item at)
