use Rattle.world_containers.proofs.Names.{◌∙◌, ◌⊎◌, Some, sym, subst, reverse, State, NoneFree, NoCellFree, stack_cell, stays_then}
use Rattle.world_containers.proofs.FromIterLemmas.{stack_start, stack_behind, stack_same}
use Rattle.world_containers.proofs.world.stack.from_iter.Goals as goal

pub loop-value-init : goal.loop-value-init
loop-value-init g c = let e = c.in-Ok.ensures in record { built = stack_start c.args.w.now c.new.new.w (stack_cell c.in-Ok.stack) e.fresh e.made e.leaves e.stays; participants = e.participants }

pub put-requires : goal.put-requires
put-requires g c = let f = c.loop-value.invariant.built.fills in record { entries = f.entries; is = f.is }

pub loop-value-preserved : goal.loop-value-preserved
loop-value-preserved g c =
    let v = c.loop-value.invariant in
    let a = c.in-Ok-put.ensures in
    record {
      built = stack_behind c.args.w.now c.loop-value.w c.put.new.w (stack_cell c.in-Ok.stack) c.loop-value.yielded c.in-Some.value v.built (stays_then _ _ _ v.built.stays a.stays) a.put a.leaves;
      participants = a.participants ∙ v.participants;
    }

pub returns-in-Err-put-clause-partly : goal.returns-in-Err-put-clause-partly
returns-in-Err-put-clause-partly g c =
    let r = c.in-Err-put.ensures.refused in (
      c.into_iter-value-iterator.result,
      c.loop-value.yielded,
      c.next.new.self,
      c.into_iter-value-iterator.ensures.into_iter_gives,
      (c.loop-value.value-iterator, c.loop-value.yielded_by, subst (λ (x : _). g.I.IntoIter.Iterator.next_gives c.loop-value.value-iterator (Some x) c.next.new.self) (sym r.0) c.in-Some.ensures.steps),
      (stack_same c.args.w.now c.loop-value.w c.put.new.w (stack_cell c.in-Ok.stack) (reverse c.loop-value.yielded) c.in-Err-put.ensures.refused.1 c.loop-value.invariant.built).fills,
    )

pub returns-in-Err-put-clause-room : goal.returns-in-Err-put-clause-room
returns-in-Err-put-clause-room g c = let r = c.in-Err-put.ensures.refused in subst (λ (v : State _). NoneFree v ⊎ NoCellFree v) (sym r.1) r.2

pub returns-in-Err-put-clause-leaves : goal.returns-in-Err-put-clause-leaves
returns-in-Err-put-clause-leaves g c = (stack_same c.args.w.now c.loop-value.w c.put.new.w (stack_cell c.in-Ok.stack) (reverse c.loop-value.yielded) c.in-Err-put.ensures.refused.1 c.loop-value.invariant.built).leaves

pub returns-in-Err-put-clause-participants : goal.returns-in-Err-put-clause-participants
returns-in-Err-put-clause-participants g c = c.put.ensures.participants ∙ c.loop-value.invariant.participants

pub returns-in-Err-put-clause-stays : goal.returns-in-Err-put-clause-stays
returns-in-Err-put-clause-stays g c = (stack_same c.args.w.now c.loop-value.w c.put.new.w (stack_cell c.in-Ok.stack) (reverse c.loop-value.yielded) c.in-Err-put.ensures.refused.1 c.loop-value.invariant.built).stays

pub returns-clause-filled : goal.returns-clause-filled
returns-clause-filled g c = (
  c.into_iter-value-iterator.result,
  c.loop-value.yielded,
  c.into_iter-value-iterator.ensures.into_iter_gives,
  (c.next.new.self, (c.loop-value.value-iterator, c.loop-value.yielded_by, c.in-None.ensures.steps)),
  c.loop-value.invariant.built.fills,
)

pub returns-clause-leaves : goal.returns-clause-leaves
returns-clause-leaves g c = c.loop-value.invariant.built.leaves

pub returns-clause-participants : goal.returns-clause-participants
returns-clause-participants g c = c.loop-value.invariant.participants

pub returns-clause-stays : goal.returns-clause-stays
returns-clause-stays g c = c.loop-value.invariant.built.stays

pub returns-clause-list : goal.returns-clause-list
returns-clause-list g c = let f = c.loop-value.invariant.built.fills in record { entries = f.entries; is = f.is }

pub returns-in-Err-put-clause-built : goal.returns-in-Err-put-clause-built
returns-in-Err-put-clause-built g c = let f = (stack_same c.args.w.now c.loop-value.w c.put.new.w (stack_cell c.in-Ok.stack) (reverse c.loop-value.yielded) c.in-Err-put.ensures.refused.1 c.loop-value.invariant.built).fills in record { entries = f.entries; is = f.is }
