use Rattle.world_containers.proofs.Names.{◌<◌, arith, drop, inl, map, length, ◌∙◌, true, refl, length-map, link_cell, shared_cell}
use Rattle.world_containers.proofs.RowLemmas.{numbered, null_at}
use Rattle.world_containers.proofs.MutableIterationLemmas.{left_shared, pass_on, none_after}
use Rattle.world_containers.proofs.world.iter_mut.seek.Goals as goal

pub is_null-requires : goal.is_null-requires
is_null-requires g c =
    let s = c.requires in
    left_shared c.args.w.now (link_cell c.loop-next.at) _ (drop c.loop-next.next (map shared_cell c.args.cells.now.items)) c.cell.ensures (record { entries = s.entries; is = c.loop-next.invariant.left s.entries s.is })

pub loop-next-preserved : goal.loop-next-preserved
loop-next-preserved g c =
    let ts = c.args.cells.now.items in
    let lt : c.loop-next.next < length ts = omega (arith, c.loop-next-test.true, c.len-next-end.ensures) in
    let inside : c.loop-next.next < length (map shared_cell ts) = (let e = length-map ts shared_cell in omega (arith, e, lt)) in
    record {
      left = λ es l. pass_on c.args.w.now (link_cell c.loop-next.at) (link_cell c.of-at.result) (map shared_cell ts) c.loop-next.next es inside (c.of-at.ensures ∙ numbered ts c.loop-next.next c.index.result.now lt c.index.ensures) (null_at c.args.w.now (shared_cell c.cell.result.now) (link_cell c.loop-next.at) true true c.cell.ensures refl c.if-not-is_null.ensures) (c.loop-next.invariant.left es l);
    }

pub returns-clause-left : goal.returns-clause-left
returns-clause-left g c =
    let ts = c.args.cells.now.items in
    let e = length-map ts shared_cell in
    λ es l. none_after c.args.w.now (link_cell c.loop-next.at) (map shared_cell ts) c.loop-next.next c.len.result es (omega (arith, e, c.loop-next-test.false, c.len-next-end.ensures)) (omega (arith, e, c.len.ensures)) (c.loop-next.invariant.left es l)

pub returns-clause-found : goal.returns-clause-found
returns-clause-found g c = inl (omega (arith, c.len.ensures))
