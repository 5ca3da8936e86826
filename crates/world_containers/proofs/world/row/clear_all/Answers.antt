use Rattle.world_containers.proofs.Names.{refl, ◌∙◌, arith, length, map, ◌<◌, length-map, shared_cell, stays_then, stays_refl}
use Rattle.world_containers.proofs.RowLemmas.{numbered, emptied_start, emptied_next, emptied_hangs, emptied_all}
use Rattle.world_containers.proofs.world.row.clear_all.Goals as goal

pub loop-at-init : goal.loop-at-init
loop-at-init g c = record { participant = c.requires.participant; emptied = λ rows enough row. emptied_start g.L.LinkedList.link _ _ rows row; only = λ k ne. refl; stays = stays_refl _ }

pub clear-requires-clause-participant : goal.clear-requires-clause-participant
clear-requires-clause-participant g c = c.loop-at.invariant.participant

pub clear-requires-clause-list : goal.clear-requires-clause-list
clear-requires-clause-list g c =
    let ts = c.args.cells.now.items in
    let lt : c.loop-at.at < length ts = omega (arith, c.loop-at-test.true, c.len-at-end.ensures) in
    let r = c.requires.list in
    let e = length-map ts shared_cell in
    emptied_hangs g.L.LinkedList.link _ _ (map shared_cell ts) r.rows c.loop-at.at _ (omega (arith, e, lt)) (numbered ts c.loop-at.at c.index.result.now lt c.index.ensures) (c.loop-at.invariant.emptied r.rows (let s = r.size in omega (arith, s, e)) r.is)

pub loop-at-preserved : goal.loop-at-preserved
loop-at-preserved g c =
    let v = c.loop-at.invariant in
    let ts = c.args.cells.now.items in
    let lt : c.loop-at.at < length ts = omega (arith, c.loop-at-test.true, c.len-at-end.ensures) in
    let e = length-map ts shared_cell in
    record {
      participant = let m = c.clear.ensures.stays.participants in omega (arith, m, v.participant);
      emptied = λ rows enough row. emptied_next g.L.LinkedList.link _ _ _ (map shared_cell ts) rows c.loop-at.at _ (omega (arith, e, lt)) (omega (arith, e, enough)) (numbered ts c.loop-at.at c.index.result.now lt c.index.ensures) (v.emptied rows enough row) c.clear.ensures.cleared c.clear.ensures.leaves;
      only = λ k ne. c.clear.ensures.only k ne ∙ v.only k ne;
      stays = stays_then _ _ _ v.stays c.clear.ensures.stays;
    }

pub returns-clause-cleared : goal.returns-clause-cleared
returns-clause-cleared g c = λ rows enough row.
    let e = length-map c.args.cells.now.items shared_cell in
    emptied_all g.L.LinkedList.link _ _ (map shared_cell c.args.cells.now.items) rows c.loop-at.at (omega (arith, e, c.loop-at-test.false, c.len-at-end.ensures)) (c.loop-at.invariant.emptied rows enough row)

pub returns-clause-leaves : goal.returns-clause-leaves
returns-clause-leaves g c = λ rows enough row. (c.loop-at.invariant.emptied rows enough row).leaves
