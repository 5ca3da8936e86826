use Rattle.std.proofs.Common.{arith, ap, ◌≡◌, ◌<◌, length, subst}
use Rattle.sdd_table.specs.State.{State, emptiness, cell_at, with_cell}
use Rattle.sdd_table.specs.declared.status.Cell.TheVariants as cell
use Rattle.sdd_table.proofs.ListLemmas.{lists_pop}
use Rattle.sdd_table.proofs.SlotLemmas.{cell_invariant, named_cell}
use Rattle.sdd_table.proofs.table.Table.claim_cell.Goals as goal

pub index_mut-requires : goal.index_mut-requires
index_mut-requires g c =
    let r = named_cell c.self.inside c.pop.new.self.items c.in_ok-c.c c.self.invariant c.in_ok-c.ensures.items in
    omega (arith, r.0, c.self.inside.cells.ok.0)

pub invariant_of-self-2 : goal.invariant_of-self-2
invariant_of-self-2 g c =
    let a = c.self.inside in
    let r = named_cell a c.pop.new.self.items c.in_ok-c.c c.self.invariant c.in_ok-c.ensures.items in
    let cap = c.in_ok-c.ensures.capacity in
    cell_invariant a c.in_ok-c.c c.args.cell c.pop.new.self c.self.invariant (lists_pop emptiness a.cells.items c.in_ok-c.c c.args.cell cell.Free a.free_cells.items c.pop.new.self.items c.in_ok-c.ensures.items r.0 (ap emptiness r.1) c.requires c.self.invariant.cells.lists) (omega (arith, c.self.invariant.cells.room, cap))

pub returns-clause-claimed : goal.returns-clause-claimed
returns-clause-claimed g c =
    let a = c.self.inside in
    let r = named_cell a c.pop.new.self.items c.in_ok-c.c c.self.invariant c.in_ok-c.ensures.items in
    (subst (λ (w : State _). (c.in_ok-c.c < length w.cells) × (cell_at w c.in_ok-c.c ≡ cell.Free)) c.self.view_is r, ap (λ (w : State _). with_cell c.in_ok-c.c c.args.cell w) c.self.view_is)
