use Rattle.std.proofs.Common.{◌≡◌, ℕ, ◌<◌, refl, sym, ap, ◌∙◌, subst, arith, true}
use Rattle.sdd_world.specs.Passing.{accelerated, passed_times}
use Rattle.sdd_world.specs.State.{State, local_at, with_local}
use Rattle.sdd_world.specs.Steps.{guard_closed}
use Rattle.sdd_world.specs.Tokens.{guard_participant}
use Rattle.version_views.specs.Items.{held_by}
use Rattle.local_versions.proofs.PassLemmas.{passing_closed, passing_known, passing_next}
use Rattle.local_versions.proofs.store.reclaiming.run_passes.Goals as goal

pub new-requires : goal.new-requires
new-requires g c = passing_known g.K.Ord.cmp c.loop.counter c.args.w.now c.loop.w c.requires.0 c.args.writer c.requires.1 c.requires.2 c.requires.3 c.loop.invariant

pub accelerate-requires : goal.accelerate-requires
accelerate-requires g c =
    let known = passing_known g.K.Ord.cmp c.loop.counter c.args.w.now c.loop.w c.requires.0 c.args.writer c.requires.1 c.requires.2 c.requires.3 c.loop.invariant in
    omega (arith, known, c.in-Ok.ensures.opened.0, c.in-Ok.ensures.keeps.participants)

pub close-requires-clause-participant : goal.close-requires-clause-participant
close-requires-clause-participant g c =
    let known = passing_known g.K.Ord.cmp c.loop.counter c.args.w.now c.loop.w c.requires.0 c.args.writer c.requires.1 c.requires.2 c.requires.3 c.loop.invariant in
    omega (arith, known, c.in-Ok.ensures.opened.0, c.in-Ok.ensures.keeps.participants, c.accelerate.ensures.keeps.participants)

pub close-requires-clause-open : goal.close-requires-clause-open
close-requires-clause-open g c =
    let own = c.in-Ok.ensures.opened.0 in
    let open' = subst (λ (q : ℕ). 0 < (local_at c.new.new.w q).nesting) (sym own) c.in-Ok.ensures.open in
    omega (arith, open', c.accelerate.ensures.nests (guard_participant c.in-Ok.guard))

pub unreachable-requires : goal.unreachable-requires
unreachable-requires g c =
    let none = passing_closed g.K.Ord.cmp c.loop.counter c.args.w.now c.loop.w c.requires.0 c.args.writer c.requires.1 c.requires.2 c.requires.3 c.loop.invariant in
    let full = c.in-Err.ensures.nested.0 refl in
    absurd (omega (arith, none, full))

pub loop-preserved : goal.loop-preserved
loop-preserved g c =
    let p = c.args.writer in
    let own = c.in-Ok.ensures.opened.0 in
    let fast = c.accelerate.ensures.set ∙ ap (λ (q : ℕ). with_local q (record (local_at c.new.new.w q) { accelerated = true }) c.new.new.w) own in
    let pass = c.close.ensures.closed ∙ ap (λ (q : ℕ). guard_closed q c.accelerate.new.w) own ∙ ap (λ (w : State _). guard_closed p w) fast ∙ ap (λ (w : State _). guard_closed p (accelerated p w)) c.in-Ok.ensures.opened.1 in
    passing_next g.K.Ord.cmp c.loop.counter c.args.w.now c.loop.w c.requires.0 p c.requires.1 c.requires.2 c.requires.3 c.loop.invariant c.close.new.w pass

pub returns : goal.returns
returns g c =
    let all : c.loop.counter ≡ c.args.passes = omega (arith, c.loop-test.false, c.loop.far-counter) in
    c.loop.invariant ∙ ap (λ (n : ℕ). passed_times held_by c.args.writer n c.args.w.now) all
