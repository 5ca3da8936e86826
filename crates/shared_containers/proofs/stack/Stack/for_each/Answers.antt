use Rattle.std.proofs.Common.{◌∙◌, sym, arith}
use Rattle.shared_lists.proofs.StillLemmas.{still, one_more, guarded}
use Rattle.shared_containers.proofs.stack.Stack.for_each.Goals as goal

pub iter-items-requires-clause-open : goal.iter-items-requires-clause-open
iter-items-requires-clause-open g c =
    let more = one_more c.args.local.now c.new.new.local c.new.ensures.outermost c.in-Ok.ensures.counted in
    (c.new.ensures.same.0 ∙ c.requires.ready.0, c.in-Ok.ensures.guard.1, omega (arith, more))

pub next-requires-clause-open : goal.next-requires-clause-open
next-requires-clause-open g c =
    let more = one_more c.args.local.now c.new.new.local c.new.ensures.outermost c.in-Ok.ensures.counted in
    let under = still c.new.new.local c.iter-items.new.local c.loop-item.local c.iter-items.ensures.same c.loop-item.invariant.same in
    (under.0.0.0 ∙ (c.new.ensures.same.0 ∙ c.requires.ready.0), c.in-Ok.ensures.guard.1 ∙ sym under.0.1, omega (arith, under.1, more))

pub close-requires-clause-home : goal.close-requires-clause-home
close-requires-clause-home g c =
    c.next.ensures.same.0.0.0 ∙ (c.loop-item.invariant.same.0.0.0 ∙ (c.iter-items.ensures.same.0.0.0 ∙ (c.new.ensures.same.0 ∙ c.requires.ready.0)))

pub close-requires-clause-mine : goal.close-requires-clause-mine
close-requires-clause-mine g c = c.in-Ok.ensures.guard.1 ∙ sym (c.next.ensures.same.0.1 ∙ (c.loop-item.invariant.same.0.1 ∙ c.iter-items.ensures.same.0.1))

pub close-requires-clause-open : goal.close-requires-clause-open
close-requires-clause-open g c =
    let more = one_more c.args.local.now c.new.new.local c.new.ensures.outermost c.in-Ok.ensures.counted in
    omega (arith, c.next.ensures.same.1, c.loop-item.invariant.same.1, c.iter-items.ensures.same.1, more)

pub returns : goal.returns
returns g c =
    let old = c.args.local.now in
    let opened = c.new.new.local in
    let now = c.loop-item.local in
    let more = one_more old opened c.new.ensures.outermost c.in-Ok.ensures.counted in
    let under = still opened c.iter-items.new.local now c.iter-items.ensures.same c.loop-item.invariant.same in
    record {
      same = guarded old opened now c.next.new.local c.close.new.local more (λ some. (c.new.ensures.inner some).1) c.new.ensures.same under
          c.close.ensures.closed (λ some. (c.close.ensures.inner some).1) c.close.ensures.same c.next.ensures.same;
    }
