use Rattle.std.proofs.Common.{◌++◌, ◌∷◌, [], None, length, replicate, ap, ◌∙◌, arith}
use Rattle.std.proofs.lemmas.List.{length-replicate, replicate_more}
use Rattle.local_index.proofs.desk.Desk.new.Goals as goal

pub unwrap-requires : goal.unwrap-requires
unwrap-requires g c =
    let long = ap length c.loop.invariant.made ∙ length-replicate c.loop.counter None in
    c.push.ensures.succeeds (omega (arith, c.loop.tickets.ok.0, long, c.loop-test.true, c.loop.invariant.room))

pub loop-preserved : goal.loop-preserved
loop-preserved g c = record {
  made = rw c.unwrap.ensures at c.push.ensures.items ∙ ap (λ tickets. tickets ++ None ∷ []) c.loop.invariant.made ∙ replicate_more c.loop.counter None;
  room = omega (arith, c.loop.invariant.room, c.push.ensures.capacity);
}

pub returns : goal.returns
returns g c = c.loop.invariant.made ∙ ap (λ n. replicate n None) (omega (arith, c.loop-test.false, c.loop.auto.counter-end))
