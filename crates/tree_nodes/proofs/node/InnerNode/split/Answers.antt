use Rattle.std.proofs.Common.{◌≡◌, ◌-◌, length, sym, ap, ◌∙◌, arith}
use Rattle.std.proofs.lemmas.List.{length-drop, length-take-le}
use Rattle.leaf_array.specs.Cells.{Cells}
use Rattle.tree_nodes.proofs.LastLemmas.{halves, has_last}
use Rattle.tree_nodes.proofs.node.InnerNode.split.Goals as goal

pub unreachable-requires : goal.unreachable-requires
unreachable-requires g c =
    let old = c.args.self.now.children in
    let long : length old.pairs ≡ 15 = omega (arith, c.requires.full, c.requires.node.packed) in
    let lower = ap (λ (n : Cells _ _). length n.pairs) c.split_half-lower.ensures.lower ∙ length-take-le 8 old.pairs (omega (arith, long)) in
    has_last c.split_half-lower.result.pairs (omega (arith, lower)) c.in-None.ensures.pair

pub returns-clause-parts : goal.returns-clause-parts
returns-clause-parts g c =
    let lower = c.split_half-lower.result in
    let upper = c.split_half-lower.new.self in
    halves c.args.self.now.children.pairs lower.pairs upper.pairs c.pop_last.new.self.pairs 8 (c.in-Some.separator, c.in-Some.last)
    (ap (λ (n : Cells _ _). n.pairs) c.split_half-lower.ensures.lower) (ap (λ (n : Cells _ _). n.pairs) c.split_half-lower.ensures.upper)
    (sym c.in-Some.ensures.pair) (ap (λ (n : Cells _ _). n.pairs) c.pop_last.ensures.rest)

pub returns-clause-lower : goal.returns-clause-lower
returns-clause-lower g c =
    let rest = c.pop_last.ensures.rest in record {
      thawed = ap (λ (n : Cells _ _). n.frozen) rest ∙ ap (λ (n : Cells _ _). n.frozen) c.split_half-lower.ensures.lower;
      living = ap (λ (n : Cells _ _). n.retired) rest;
      packed = ap (λ (n : Cells _ _). n.used) rest ∙ sym (ap (λ (n : Cells _ _). length n.pairs) rest);
    }

pub returns-clause-upper : goal.returns-clause-upper
returns-clause-upper g c =
    let upper = c.split_half-lower.ensures.upper in record {
      thawed = ap (λ (n : Cells _ _). n.frozen) upper ∙ c.requires.node.thawed;
      living = ap (λ (n : Cells _ _). n.retired) upper;
      packed = ap (λ (n : Cells _ _). n.used) upper ∙ sym (ap (λ (n : Cells _ _). length n.pairs) upper);
    }

pub returns-clause-lower_room : goal.returns-clause-lower_room
returns-clause-lower_room g c =
    let old = c.args.self.now.children in
    let pairs = c.split_half-lower.result.pairs in
    let long : length old.pairs ≡ 15 = omega (arith, c.requires.full, c.requires.node.packed) in
    let lower : length pairs ≡ 8 = ap (λ (n : Cells _ _). length n.pairs) c.split_half-lower.ensures.lower ∙ length-take-le 8 old.pairs (omega (arith, long)) in
    let used = ap (λ (n : Cells _ _). n.used) c.pop_last.ensures.rest in
    let rest = length-take-le (length pairs - 1) pairs (omega arith) in
    omega (arith, used, rest, lower)

pub returns-clause-upper_room : goal.returns-clause-upper_room
returns-clause-upper_room g c =
    let old = c.args.self.now.children in
    let long : length old.pairs ≡ 15 = omega (arith, c.requires.full, c.requires.node.packed) in
    let used = ap (λ (n : Cells _ _). n.used) c.split_half-lower.ensures.upper in
    let upper = length-drop 8 old.pairs in
    omega (arith, used, upper, long)
