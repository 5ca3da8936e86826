use Rattle.world_containers.proofs.Names.{◌∙◌, ◌⊎◌, List, Option, ap, sym, subst, arith, get_or, State, NoneFree, NoCellFree, ParticipantState, nobody, oldest_cell, newest_cell, stays_then}
use Rattle.world_containers.proofs.FromIterLemmas.{queue_start, queue_more, queue_same}
use Rattle.world_containers.proofs.world.queue.from_iter.Goals as goal

pub loop-value-init : goal.loop-value-init
loop-value-init g c =
    let e = c.in-Ok.ensures in
    record {
      built = queue_start c.args.w.now c.new.new.w (oldest_cell c.in-Ok.queue) (newest_cell c.in-Ok.queue) e.fresh.0 e.fresh.1 e.made e.leaves e.stays;
      only = λ k ne. ap (λ (ms : List ParticipantState). get_or ms k nobody) e.participants;
    }

pub add-requires-clause-participant : goal.add-requires-clause-participant
add-requires-clause-participant g c = let s = c.loop-value.invariant.built.stays.participants in omega (arith, s, c.requires.participant)

pub add-requires-clause-list : goal.add-requires-clause-list
add-requires-clause-list g c = let f = c.loop-value.invariant.built.fills in record { entries = f.entries; is = f.is }

pub loop-value-preserved : goal.loop-value-preserved
loop-value-preserved g c =
    let v = c.loop-value.invariant in
    let a = c.in-Ok-add.ensures in
    record {
      built = queue_more c.args.w.now c.loop-value.w c.add.new.w (oldest_cell c.in-Ok.queue) (newest_cell c.in-Ok.queue) c.loop-value.yielded c.in-Some.value v.built (stays_then _ _ _ v.built.stays a.stays) a.added a.leaves;
      only = λ k ne. a.only k ne ∙ v.only k ne;
    }

pub returns-in-Err-add-clause-partly : goal.returns-in-Err-add-clause-partly
returns-in-Err-add-clause-partly g c =
    let r = c.in-Err-add.ensures.refused in (
      c.into_iter-value-iterator.result,
      c.loop-value.yielded,
      c.next.new.self,
      c.into_iter-value-iterator.ensures.into_iter_gives,
      (c.loop-value.value-iterator, c.loop-value.yielded_by, subst (λ (o : Option _). g.I.IntoIter.Iterator.next_gives c.loop-value.value-iterator o c.next.new.self) r.0 c.in-Some.ensures.steps),
      (queue_same c.args.w.now c.loop-value.w c.add.new.w (oldest_cell c.in-Ok.queue) (newest_cell c.in-Ok.queue) c.loop-value.yielded c.in-Err-add.ensures.refused.1 c.loop-value.invariant.built).fills,
    )

pub returns-in-Err-add-clause-room : goal.returns-in-Err-add-clause-room
returns-in-Err-add-clause-room g c = let r = c.in-Err-add.ensures.refused in subst (λ (v : State _). NoneFree v ⊎ NoCellFree v) (sym r.1) r.2

pub returns-in-Err-add-clause-leaves : goal.returns-in-Err-add-clause-leaves
returns-in-Err-add-clause-leaves g c = (queue_same c.args.w.now c.loop-value.w c.add.new.w (oldest_cell c.in-Ok.queue) (newest_cell c.in-Ok.queue) c.loop-value.yielded c.in-Err-add.ensures.refused.1 c.loop-value.invariant.built).leaves

pub returns-in-Err-add-clause-only : goal.returns-in-Err-add-clause-only
returns-in-Err-add-clause-only g c = λ k ne. c.add.ensures.only k ne ∙ c.loop-value.invariant.only k ne

pub returns-in-Err-add-clause-stays : goal.returns-in-Err-add-clause-stays
returns-in-Err-add-clause-stays g c = (queue_same c.args.w.now c.loop-value.w c.add.new.w (oldest_cell c.in-Ok.queue) (newest_cell c.in-Ok.queue) c.loop-value.yielded c.in-Err-add.ensures.refused.1 c.loop-value.invariant.built).stays

pub returns-clause-filled : goal.returns-clause-filled
returns-clause-filled g c = (
  c.into_iter-value-iterator.result,
  c.loop-value.yielded,
  c.into_iter-value-iterator.ensures.into_iter_gives,
  (c.next.new.self, (c.loop-value.value-iterator, c.loop-value.yielded_by, c.in-None.ensures.steps)),
  c.loop-value.invariant.built.fills,
)

pub returns-clause-leaves : goal.returns-clause-leaves
returns-clause-leaves g c = c.loop-value.invariant.built.leaves

pub returns-clause-only : goal.returns-clause-only
returns-clause-only g c = c.loop-value.invariant.only

pub returns-clause-stays : goal.returns-clause-stays
returns-clause-stays g c = c.loop-value.invariant.built.stays

pub returns-clause-list : goal.returns-clause-list
returns-clause-list g c = let f = c.loop-value.invariant.built.fills in record { entries = f.entries; is = f.is }

pub returns-in-Err-add-clause-built : goal.returns-in-Err-add-clause-built
returns-in-Err-add-clause-built g c = let f = (queue_same c.args.w.now c.loop-value.w c.add.new.w (oldest_cell c.in-Ok.queue) (newest_cell c.in-Ok.queue) c.loop-value.yielded c.in-Err-add.ensures.refused.1 c.loop-value.invariant.built).fills in record { entries = f.entries; is = f.is }
