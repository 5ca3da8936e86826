use Rattle.world_containers.proofs.Names.{◌≡◌, ◌∙◌, ap, sym, subst, arith, map, length, List, ◌++◌, ◌∷◌, [], None, length-map, State, shared_cell, AtomicShared, Stays, AreEmpty, IsClaimed, freed, stays_then, stays_write}
use Rattle.std.proofs.Common.{length-append}
use Rattle.sdd_world.specs.declared.tag.Tag.TheVariants as tag
use Rattle.sdd_world.specs.declared.status.Cell.TheVariants as cell
use Rattle.world_containers.proofs.BagInitLemmas.{claimed_last, claimed_empty, claimed_freed, claimed_count, none_free}
use Rattle.world_containers.proofs.world.row.claim_all.Goals as goal

pub end_all-requires : goal.end_all-requires
end_all-requires g c =
    let cs = map shared_cell c.loop-made.cells.items in
    subst (λ (w : State _). AreEmpty w cs) (sym c.in-Err-null.ensures.refused.0) (claimed_empty cs c.args.w.now c.loop-made.w c.loop-made.invariant.claimed)

pub returns-in-Err-null-clause-back : goal.returns-in-Err-null-clause-back
returns-in-Err-null-clause-back g c =
    let cs = map shared_cell c.loop-made.cells.items in
    c.end_all.ensures.ended ∙ ap (λ (w : State _). freed cs w) c.in-Err-null.ensures.refused.0 ∙ claimed_freed cs c.args.w.now c.loop-made.w c.loop-made.invariant.claimed

pub returns-in-Err-null-clause-refused : goal.returns-in-Err-null-clause-refused
returns-in-Err-null-clause-refused g c = λ _.
    let v = c.loop-made.invariant in
    let ts = c.loop-made.cells.items in
    let n = claimed_count (map shared_cell ts) c.args.w.now c.loop-made.w v.claimed in
    let none = none_free c.loop-made.w c.in-Err-null.ensures.refused.1 in
    let e = length-map ts shared_cell in
    let m = v.number in
    omega (arith, n, none, e, m, c.loop-made-test.true)

pub loop-made-preserved : goal.loop-made-preserved
loop-made-preserved g c =
    let v = c.loop-made.invariant in
    let m = c.in-Ok-null.ensures.made in
    let ts = c.loop-made.cells.items in
    let t = c.in-Ok-null.cell in
    let items = c.keep.ensures.items in
    let size : length c.keep.new.cells.items ≡ length (ts ++ t ∷ []) = ap length items in
    record {
      claimed = subst (λ (xs : List (AtomicShared _)). IsClaimed c.args.w.now (map shared_cell xs) c.null.new.w) (sym items) (subst (λ (w : State _). IsClaimed c.args.w.now (map shared_cell (ts ++ t ∷ [])) w) (sym m.1) (claimed_last ts t c.args.w.now c.loop-made.w v.claimed m.0));
      number = let l = length-append ts (t ∷ []) in let o = v.number in omega (arith, size, l, o);
      room = let r = c.keep.ensures.room in let o = v.room in omega (arith, r, o);
      participants = ap (λ (w : State _). w.participants) m.1 ∙ v.participants;
      stays = stays_then _ _ _ v.stays (subst (λ (w : State _). Stays c.loop-made.w w) (sym m.1) (stays_write c.loop-made.w (shared_cell t) (cell.OfShared None tag.None)));
    }
