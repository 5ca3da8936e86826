use Rattle.std.proofs.Common.{◌≡◌, ◌≤◌, ◌+◌, ◌-◌, ℕ, length, sym, ap, ◌∙◌, subst, arith}
use Rattle.tree_nodes.specs.Content.{leaves_of, pairs_of}
use Rattle.tree_nodes.specs.Depth.{ascending_headroom}
use Rattle.tree_nodes.specs.Copy.{place, IsPositionOrEnd}
use Rattle.tree_nodes.specs.Push.{LastLeafTakes}
use Rattle.tree_nodes.specs.Walk.{pairs_before, pairs_in_leaf, position, IsPosition}
use Rattle.tree_nodes.proofs.EqualLemmas.{end_position_answer, place_is}
use Rattle.tree_nodes.proofs.ExtendLemmas.{run_rising, run_extended}
use Rattle.tree_nodes.proofs.arenas.Arenas.fill.Goals as goal

pub extend_at-requires-clause-rising : goal.extend_at-requires-clause-rising
extend_at-requires-clause-rising g c =
    let l = c.loop-room in
    let spot = c.in-Some-next.spot in
    let is : IsPosition c.args.source.now spot = subst (IsPositionOrEnd c.args.source.now) c.in-Some-next.is l.invariant.run.spot in
    let place_within = is.within in
    let few : c.min-run.result ≤ l.left = omega (arith, c.min-run.ensures, c.min.ensures) in
    let within : spot.place + c.min-run.result ≤ length spot.leaf.now.array.pairs = omega (arith, c.min-run.ensures, c.min.ensures, c.len.ensures.count, place_within) in
    run_rising g.met.K.Ord.total c.args.source.now c.requires.source (pairs_of c.args.self.now) (place c.args.source.now c.args.from) c.args.count (ascending_headroom g.K.Ord.cmp c.args.self.now) l.self l.next l.left l.invariant.run c.requires.rising spot c.in-Some-next.is c.min-run.result few within

pub loop-room-preserved : goal.loop-room-preserved
loop-room-preserved g c =
    let l = c.loop-room in
    let a = c.args.source.now in
    let spot = c.in-Some-next.spot in
    let run = c.min-run.result in
    let is : IsPosition a spot = subst (IsPositionOrEnd a) c.in-Some-next.is l.invariant.run.spot in
    let place_within = is.within in
    let few : run ≤ l.left = omega (arith, c.min-run.ensures, c.min.ensures) in
    let within : spot.place + run ≤ length spot.leaf.now.array.pairs = omega (arith, c.min-run.ensures, c.min.ensures, c.len.ensures.count, place_within) in
    let next = c.first_at-next in
    let same = ap (λ (k : ℕ). pairs_before (pairs_in_leaf a) k (leaves_of a)) c.moved.ensures.at in
    let moved : position a c.moved.result ≡ position a spot + run = omega (arith, same, c.moved.ensures.place) in
    let there = end_position_answer a (position a c.moved.result) next.result next.ensures.none next.ensures.there ∙ moved in
    let e = c.in_ok-extend_at.ensures in
    let all : run + (l.room - run) ≡ l.room = omega (arith, c.min-run.ensures) in
    record {
      run = run_extended g.met.K.Ord.total a c.requires.source (pairs_of c.args.self.now) (place a c.args.from) c.args.count (ascending_headroom g.K.Ord.cmp c.args.self.now) l.self l.next l.left l.invariant.run c.requires.rising spot c.in-Some-next.is run few within c.extend_at.new.self next.result e.sound (place_is a next.result next.ensures.spot) e.pairs there e.ascending;
      takes = e.room (l.room - run) (subst (LastLeafTakes l.self c.in-Some.at) (sym all) l.invariant.takes);
    }
