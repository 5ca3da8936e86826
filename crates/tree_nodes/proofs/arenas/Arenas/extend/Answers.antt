use Rattle.std.proofs.Common.{◌≡◌, ◌≤◌, ◌+◌, ℕ, length, ap, ◌∙◌, subst, arith}
use Rattle.tree_nodes.specs.Content.{leaves_of, pairs_of}
use Rattle.tree_nodes.specs.Depth.{ascending_headroom}
use Rattle.tree_nodes.specs.Copy.{place, IsExtended, IsPositionOrEnd}
use Rattle.tree_nodes.specs.Walk.{pairs_before, pairs_in_leaf, position, IsPosition}
use Rattle.tree_nodes.proofs.EqualLemmas.{end_position_answer, place_is}
use Rattle.tree_nodes.proofs.CopyLemmas.{extended_then, rest_rising}
use Rattle.tree_nodes.proofs.ExtendLemmas.{run_rising, run_extended}
use Rattle.tree_nodes.proofs.arenas.Arenas.extend.Goals as goal

pub fill-requires-clause-rising : goal.fill-requires-clause-rising
fill-requires-clause-rising g c =
    let l = c.loop-left in
    let a = c.args.source.now in
    rest_rising g.met.K.Ord.total a c.requires.source (pairs_of c.args.self.now) (place a c.args.from) c.args.count (ascending_headroom g.K.Ord.cmp c.args.self.now) l.self l.next l.left l.invariant.run c.requires.rising

pub returns-then-left-eq0 : goal.returns-then-left-eq0
returns-then-left-eq0 g c =
    let l = c.loop-left in
    let a = c.args.source.now in
    let o = g.met.K.Ord.total in
    let base = pairs_of c.args.self.now in
    let room = ascending_headroom g.K.Ord.cmp c.args.self.now in
    let left = c.in_ok-next.field-0-1 in
    let two = extended_then o a c.requires.source base (place a c.args.from) c.args.count room l.self l.next l.left l.invariant.run c.requires.rising c.fill.new.self c.in_ok-next.field-0-0 left c.in_ok-next.ensures in
    subst (λ (n : ℕ). IsExtended g.K.Ord.cmp a base (place a c.args.from) c.args.count room c.fill.new.self c.in_ok-next.field-0-0 n) (let none : left ≡ 0 = omega (arith, c.if-left-eq0.true) in none) two

pub push_leaf-requires-clause-rising : goal.push_leaf-requires-clause-rising
push_leaf-requires-clause-rising g c =
    let l = c.loop-left in
    let a = c.args.source.now in
    let o = g.met.K.Ord.total in
    let base = pairs_of c.args.self.now in
    let room = ascending_headroom g.K.Ord.cmp c.args.self.now in
    let left = c.in_ok-next.field-0-1 in
    let two = extended_then o a c.requires.source base (place a c.args.from) c.args.count room l.self l.next l.left l.invariant.run c.requires.rising c.fill.new.self c.in_ok-next.field-0-0 left c.in_ok-next.ensures in
    let spot = c.in-Some.spot in
    let is : IsPosition a spot = subst (IsPositionOrEnd a) c.in-Some.is two.spot in
    let place_within = is.within in
    let few : c.min-run.result ≤ left = omega (arith, c.min-run.ensures) in
    let within : spot.place + c.min-run.result ≤ length spot.leaf.now.array.pairs = omega (arith, c.min-run.ensures, c.len.ensures.count, place_within) in
    run_rising o a c.requires.source base (place a c.args.from) c.args.count room c.fill.new.self c.in_ok-next.field-0-0 left two c.requires.rising spot c.in-Some.is c.min-run.result few within

pub loop-left-preserved : goal.loop-left-preserved
loop-left-preserved g c =
    let l = c.loop-left in
    let a = c.args.source.now in
    let o = g.met.K.Ord.total in
    let base = pairs_of c.args.self.now in
    let room = ascending_headroom g.K.Ord.cmp c.args.self.now in
    let left = c.in_ok-next.field-0-1 in
    let two = extended_then o a c.requires.source base (place a c.args.from) c.args.count room l.self l.next l.left l.invariant.run c.requires.rising c.fill.new.self c.in_ok-next.field-0-0 left c.in_ok-next.ensures in
    let spot = c.in-Some.spot in
    let is : IsPosition a spot = subst (IsPositionOrEnd a) c.in-Some.is two.spot in
    let place_within = is.within in
    let done = c.in_ok-done.done in
    let few : done ≤ left = omega (arith, c.min-run.ensures, c.in_ok-done.ensures.most) in
    let within : spot.place + done ≤ length spot.leaf.now.array.pairs = omega (arith, c.min-run.ensures, c.in_ok-done.ensures.most, c.len.ensures.count, place_within) in
    let next = c.first_at-next in
    let same = ap (λ (k : ℕ). pairs_before (pairs_in_leaf a) k (leaves_of a)) c.moved.ensures.at in
    let moved : position a c.moved.result ≡ position a spot + done = omega (arith, same, c.moved.ensures.place) in
    let there = end_position_answer a (position a c.moved.result) next.result next.ensures.none next.ensures.there ∙ moved in
    let e = c.in_ok-done.ensures in
    record { run = run_extended o a c.requires.source base (place a c.args.from) c.args.count room c.fill.new.self c.in_ok-next.field-0-0 left two c.requires.rising spot c.in-Some.is done few within c.push_leaf.new.self next.result e.sound (place_is a next.result next.ensures.spot) e.pairs there e.ascending }
