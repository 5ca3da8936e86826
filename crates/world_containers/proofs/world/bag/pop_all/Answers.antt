use Rattle.world_containers.proofs.Names.{refl, ◌∙◌, subst, arith, ◌++◌, List, [], map, shared_cell, Entry, IsBag, Removes, stays_then, stays_refl}
use denote.Param.Always.{mut_next}
use denote.Param.Members.{Called}
use Rattle.world_containers.proofs.FoldLemmas.{popped_start, popped_next, popped_all, popped_none}
use Rattle.world_containers.proofs.world.bag.pop_all.Goals as goal

pub loop-popped-init : goal.loop-popped-init
loop-popped-init g c = record { callable = c.requires.callable; list = c.requires.list; popped = λ ps os b. popped_start g.row.ARRAY_LEN _ (λ f b' o r f2. Called g.F.FnMut f (b', (o, tt)) r f2) c.args.w.now ps os (c.args.init, c.args.f) b; participants = refl; stays = stays_refl _ }

pub pop-requires : goal.pop-requires
pop-requires g c = (omega arith, c.loop-popped.invariant.list)

pub loop-popped-preserved : goal.loop-popped-preserved
loop-popped-preserved g c =
    let v = c.loop-popped.invariant in
    let p = c.in-Some.ensures in
    record {
      callable = mut_next g.F.FnMut _ _ _ _ _ c.f-folded.ensures refl v.callable;
      list = p.list;
      popped = λ ps os b. popped_next g.row.ARRAY_LEN _ (λ f b' o r f2. Called g.F.FnMut f (b', (o, tt)) r f2) _ _ _ ps os _ _ (c.f-folded.result, c.f-folded.new.self) _ c.in-Some.owner (v.popped ps os b) p.popped p.leaves c.f-folded.ensures;
      participants = p.participants ∙ v.participants;
      stays = stays_then _ _ _ v.stays p.stays;
    }

pub unreachable-requires : goal.unreachable-requires
unreachable-requires g c =
    let b = c.requires.list in
    let v = c.loop-popped.invariant.popped b.primary b.overflow b.is in
    let n = c.len-popped-end.ensures b.primary b.overflow b.is in
    popped_none v.primary v.overflow (c.in-None.ensures.popped v.primary v.overflow v.is).0 (c.in-None.ensures.popped v.primary v.overflow v.is).1 (let s = v.size in omega (arith, s, n, c.loop-popped-test.true))

pub returns-clause-folded : goal.returns-clause-folded
returns-clause-folded g c = λ ps os b.
    let v = c.loop-popped.invariant.popped ps os b in
    let n = c.len-popped-end.ensures ps os b in
    let none = popped_all v.primary v.overflow (let s = v.size in omega (arith, s, n, c.loop-popped-test.false)) in
    (v.taken, subst (λ (es : List (Entry _)). Removes v.taken (os ++ ps) es) none.2 v.removes, v.own, v.spare, (c.loop-popped.f, v.folds))

pub returns-clause-emptied : goal.returns-clause-emptied
returns-clause-emptied g c =
    let b = c.requires.list in
    let v = c.loop-popped.invariant.popped b.primary b.overflow b.is in
    let n = c.len-popped-end.ensures b.primary b.overflow b.is in
    let none = popped_all v.primary v.overflow (let s = v.size in omega (arith, s, n, c.loop-popped-test.false)) in
    subst (λ (xs : List (Entry _)). IsBag g.row.ARRAY_LEN c.loop-popped.w (map shared_cell c.args.bag.now.cells.items) xs []) none.0 (subst (λ (ys : List (Entry _)). IsBag g.row.ARRAY_LEN c.loop-popped.w (map shared_cell c.args.bag.now.cells.items) v.primary ys) none.1 v.is)

pub returns-clause-participants : goal.returns-clause-participants
returns-clause-participants g c = c.loop-popped.invariant.participants

pub returns-clause-stays : goal.returns-clause-stays
returns-clause-stays g c = c.loop-popped.invariant.stays

pub returns-clause-leaves : goal.returns-clause-leaves
returns-clause-leaves g c = λ ps os b. (c.loop-popped.invariant.popped ps os b).leaves
