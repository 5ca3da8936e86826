use Rattle.world_containers.proofs.Names.{◌∙◌, ◌⊎◌, Some, arith, sym, subst, State, NoneFree, NoCellFree, bag_cells, stays_then}
use Rattle.world_containers.proofs.FromIterLemmas.{bag_start, bag_next, bag_same}
use Rattle.world_containers.proofs.world.bag.from_iter.Goals as goal

pub loop-value-init : goal.loop-value-init
loop-value-init g c = let e = c.in-Ok.ensures in record { built = bag_start c.args.w.now g.row.ARRAY_LEN c.new.new.w (bag_cells c.in-Ok.bag) e.fresh e.made e.leaves e.stays; participants = e.participants }

pub push-requires : goal.push-requires
push-requires g c = let f = c.loop-value.invariant.built.fills in (omega arith, record { primary = f.primary; overflow = f.overflow; is = f.is })

pub loop-value-preserved : goal.loop-value-preserved
loop-value-preserved g c =
    let v = c.loop-value.invariant in
    let a = c.in-Ok-push.ensures in
    record {
      built = bag_next c.args.w.now g.row.ARRAY_LEN c.loop-value.w c.push.new.w (bag_cells c.in-Ok.bag) c.loop-value.yielded c.in-Some.value v.built (stays_then _ _ _ v.built.stays a.stays) a.pushed a.leaves;
      participants = a.participants ∙ v.participants;
    }

pub returns-in-Err-push-clause-partly : goal.returns-in-Err-push-clause-partly
returns-in-Err-push-clause-partly g c =
    let r = c.in-Err-push.ensures.refused in (
      c.into_iter-value-iterator.result,
      c.loop-value.yielded,
      c.next.new.self,
      c.into_iter-value-iterator.ensures.into_iter_gives,
      (c.loop-value.value-iterator, c.loop-value.yielded_by, subst (λ (x : _). g.I.IntoIter.Iterator.next_gives c.loop-value.value-iterator (Some x) c.next.new.self) (sym r.0) c.in-Some.ensures.steps),
      (bag_same c.args.w.now g.row.ARRAY_LEN c.loop-value.w c.push.new.w (bag_cells c.in-Ok.bag) c.loop-value.yielded c.in-Err-push.ensures.refused.1 c.loop-value.invariant.built).fills,
    )

pub returns-in-Err-push-clause-room : goal.returns-in-Err-push-clause-room
returns-in-Err-push-clause-room g c = let r = c.in-Err-push.ensures.refused in subst (λ (v : State _). NoneFree v ⊎ NoCellFree v) (sym r.1) r.2

pub returns-in-Err-push-clause-leaves : goal.returns-in-Err-push-clause-leaves
returns-in-Err-push-clause-leaves g c = (bag_same c.args.w.now g.row.ARRAY_LEN c.loop-value.w c.push.new.w (bag_cells c.in-Ok.bag) c.loop-value.yielded c.in-Err-push.ensures.refused.1 c.loop-value.invariant.built).leaves

pub returns-in-Err-push-clause-participants : goal.returns-in-Err-push-clause-participants
returns-in-Err-push-clause-participants g c = c.push.ensures.participants ∙ c.loop-value.invariant.participants

pub returns-in-Err-push-clause-stays : goal.returns-in-Err-push-clause-stays
returns-in-Err-push-clause-stays g c = (bag_same c.args.w.now g.row.ARRAY_LEN c.loop-value.w c.push.new.w (bag_cells c.in-Ok.bag) c.loop-value.yielded c.in-Err-push.ensures.refused.1 c.loop-value.invariant.built).stays

pub returns-clause-filled : goal.returns-clause-filled
returns-clause-filled g c = (
  c.into_iter-value-iterator.result,
  c.loop-value.yielded,
  c.into_iter-value-iterator.ensures.into_iter_gives,
  (c.next.new.self, (c.loop-value.value-iterator, c.loop-value.yielded_by, c.in-None.ensures.steps)),
  c.loop-value.invariant.built.fills,
)

pub returns-clause-leaves : goal.returns-clause-leaves
returns-clause-leaves g c = c.loop-value.invariant.built.leaves

pub returns-clause-participants : goal.returns-clause-participants
returns-clause-participants g c = c.loop-value.invariant.participants

pub returns-clause-stays : goal.returns-clause-stays
returns-clause-stays g c = c.loop-value.invariant.built.stays

pub returns-clause-list : goal.returns-clause-list
returns-clause-list g c = let f = c.loop-value.invariant.built.fills in record { primary = f.primary; overflow = f.overflow; is = f.is }

pub returns-in-Err-push-clause-built : goal.returns-in-Err-push-clause-built
returns-in-Err-push-clause-built g c = let f = (bag_same c.args.w.now g.row.ARRAY_LEN c.loop-value.w c.push.new.w (bag_cells c.in-Ok.bag) c.loop-value.yielded c.in-Err-push.ensures.refused.1 c.loop-value.invariant.built).fills in record { primary = f.primary; overflow = f.overflow; is = f.is }
