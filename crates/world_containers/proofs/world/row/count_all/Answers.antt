use Rattle.world_containers.proofs.Names.{arith, ◌≡◌, ◌<◌, length, map, length-map, shared_cell}
use Rattle.world_containers.proofs.RowLemmas.{numbered}
use Rattle.world_containers.proofs.BagLenLemmas.{count_next, count_end, row_hangs}
use Rattle.world_containers.proofs.world.row.count_all.Goals as goal

pub count-here-requires : goal.count-here-requires
count-here-requires g c =
    let ts = c.args.cells.now.items in
    let lt : c.loop-at.at < length ts = omega (arith, c.loop-at-test.true, c.len-at-end.ensures) in
    let e = length-map ts shared_cell in
    row_hangs g.L.LinkedList.link _ (map shared_cell ts) _ c.loop-at.at (omega (arith, e, lt)) (numbered ts c.loop-at.at c.index.result.now lt c.index.ensures) c.requires

pub prove-unreachable-requires : goal.prove-unreachable-requires
prove-unreachable-requires g c =
    let ts = c.args.cells.now.items in
    let lt : c.loop-at.at < length ts = omega (arith, c.loop-at-test.true, c.len-at-end.ensures) in
    let r = c.requires in
    let size : length r.rows ≡ length ts = (let e = length-map ts shared_cell in let s = r.size in omega (arith, s, e)) in
    let b = (count_next g.L.LinkedList.link c.args.w.now ts r.rows c.loop-at.at _ c.loop-at.total c.count-here.result size r.is lt (numbered ts c.loop-at.at c.index.result.now lt c.index.ensures) (c.loop-at.invariant.counted r.rows size r.is) c.count-here.ensures).1 in
    let m = c.loop-at.invariant.most in
    omega (arith, m, b, c.if-prove.true)

pub overflow_sub-most : goal.overflow_sub-most
overflow_sub-most g c =
    let ts = c.args.cells.now.items in
    let lt : c.loop-at.at < length ts = omega (arith, c.loop-at-test.true, c.len-at-end.ensures) in
    let r = c.requires in
    let size : length r.rows ≡ length ts = (let e = length-map ts shared_cell in let s = r.size in omega (arith, s, e)) in
    let b = (count_next g.L.LinkedList.link c.args.w.now ts r.rows c.loop-at.at _ c.loop-at.total c.count-here.result size r.is lt (numbered ts c.loop-at.at c.index.result.now lt c.index.ensures) (c.loop-at.invariant.counted r.rows size r.is) c.count-here.ensures).1 in
    let m = c.loop-at.invariant.most in
    omega (arith, m, b)

pub loop-at-preserved : goal.loop-at-preserved
loop-at-preserved g c =
    let ts = c.args.cells.now.items in
    let lt : c.loop-at.at < length ts = omega (arith, c.loop-at-test.true, c.len-at-end.ensures) in
    record {
      counted = λ rows size row. (count_next g.L.LinkedList.link c.args.w.now ts rows c.loop-at.at _ c.loop-at.total c.count-here.result size row lt (numbered ts c.loop-at.at c.index.result.now lt c.index.ensures) (c.loop-at.invariant.counted rows size row) c.count-here.ensures).0;
      most = c.loop-at.invariant.most;
    }

pub returns : goal.returns
returns g c = λ rows size row.
    let t = c.loop-at.invariant.counted rows size row in
    let z = count_end rows c.loop-at.at (omega (arith, size, c.loop-at-test.false, c.len-at-end.ensures)) in
    omega (arith, t, z)
