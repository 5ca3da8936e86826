use Rattle.std.proofs.Common.{◌≡◌, ◌+◌, ℕ, drop, take, ap, ◌∙◌, subst, arith}
use Rattle.std.specs.Prelude.{IfSome}
use Rattle.std.specs.declared.cmp.Ordering.TheVariants.{Less}
use Rattle.tree_nodes.specs.Content.{leaves_of, pairs_of}
use Rattle.tree_nodes.specs.Copy.{place}
use Rattle.tree_nodes.specs.Shape.{AllKeys}
use Rattle.tree_nodes.specs.Walk.{pairs_before, pairs_in_leaf, position}
use Rattle.tree_nodes.proofs.EqualLemmas.{end_position_answer, place_is}
use Rattle.tree_nodes.proofs.RunLemmas.{bounded_both}
use Rattle.tree_nodes.proofs.arenas.Arenas.run_at.Goals as goal

pub returns-then-at-run-clause-below : goal.returns-then-at-run-clause-below
returns-then-at-run-clause-below g c =
    let l = c.loop-next in
    let a = c.args.self.now in
    let start = position a c.args.spot in
    let here : position a c.in-Some.at ≡ start + l.count = subst (λ n. place a n ≡ start + l.count) c.in-Some.is l.invariant.there in
    let run = c.run_in-run.result in
    bounded_both (λ key k. g.K.Ord.cmp k key.now ≡ Less) c.args.upto l.count run start (pairs_of a) l.invariant.below
    (subst (λ (n : ℕ). IfSome c.args.upto (λ key. AllKeys (λ k. g.K.Ord.cmp k key.now ≡ Less) (take run (drop n (pairs_of a))))) here c.run_in-run.ensures.below)

pub loop-next-preserved : goal.loop-next-preserved
loop-next-preserved g c =
    let l = c.loop-next in
    let a = c.args.self.now in
    let start = position a c.args.spot in
    let here : position a c.in-Some.at ≡ start + l.count = subst (λ n. place a n ≡ start + l.count) c.in-Some.is l.invariant.there in
    let run = c.run_in-run.result in
    let next = c.first_at-next in
    let same = ap (λ (k : ℕ). pairs_before (pairs_in_leaf a) k (leaves_of a)) c.moved.ensures.at in
    let behind : position a c.moved.result ≡ start + (l.count + run) = omega (arith, same, c.moved.ensures.place, here) in
    record {
      spot = place_is a next.result next.ensures.spot;
      there = end_position_answer a (position a c.moved.result) next.result next.ensures.none next.ensures.there ∙ behind;
      below = bounded_both (λ key k. g.K.Ord.cmp k key.now ≡ Less) c.args.upto l.count run start (pairs_of a) l.invariant.below
          (subst (λ (n : ℕ). IfSome c.args.upto (λ key. AllKeys (λ k. g.K.Ord.cmp k key.now ≡ Less) (take run (drop n (pairs_of a))))) here c.run_in-run.ensures.below);
    }
