use Rattle.std.proofs.Common.{arith, sym, subst, ◌≤◌, ◌+◌, ℕ}
use Rattle.sdd_world.specs.Tokens.{shared_cell}
use Rattle.sdd_lists.specs.Chain.{PassedEntries}
use Rattle.sdd_lists.proofs.WalkLemmas.{count_next, count_small, count_all, behind_hangs}
use Rattle.sdd_lists.proofs.world.chain.count.Goals as goal

pub returns : goal.returns
returns g c = λ t es h. count_all g.L.LinkedList.link _ es _ _ _ _ t h (omega (arith, c.loop-passed-test.false, c.slots_in_use-passed-end.ensures)) (c.loop-passed.invariant.counted t es h)

pub loop-passed-preserved : goal.loop-passed-preserved
loop-passed-preserved g c =
    let b = c.in-Some.ensures.some in
    let v = c.loop-passed.invariant in
    record {
      hangs = behind_hangs g.L.LinkedList.link _ _ _ _ _ v.hangs (b v.hangs.tag v.hangs.entries v.hangs.is);
      counted = λ t es h. let k = v.counted t es h in subst (λ (m : ℕ). PassedEntries g.L.LinkedList.link c.args.w.now es (c.loop-passed._passed + 1) m (shared_cell c.in-Some.entry.link.now)) (sym c.counted-count.ensures) (count_next g.L.LinkedList.link _ es _ _ _ _ _ _ k (b k.tag k.rest k.hung));
      small = subst (λ (m : ℕ). m ≤ c.loop-passed._passed + 1) (sym c.counted-count.ensures) (count_small c.in-Some.entry.deleted _ _ v.small);
    }
