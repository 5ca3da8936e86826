use Rattle.std.proofs.Common.{length, take, drop, cond, sym, ap, ◌∙◌, arith}
use Rattle.std.proofs.Math.Seq.{take-length}
use Rattle.std.proofs.lemmas.List.{drop_all}
use Rattle.leaf_array.specs.Cells.{Cells}
use Rattle.tree_nodes.specs.declared.leaf.Leaf.{Leaf}
use Rattle.tree_nodes.proofs.leaf.Leaf.split.Goals.{then-whole, else-whole}
use Rattle.tree_nodes.proofs.leaf.Leaf.split.Goals as goal

pub returns-clause-lower : goal.returns-clause-lower
returns-clause-lower g c =
    let old = c.args.self.now.array.pairs in
    elim c.if-whole.branch [
      | then-whole w ↦
          ap (λ (n : Cells g.row.K.Denot g.row.V.Denot). n.pairs) (w.array-is ∙ w.replace-array.ensures.value)
          ∙ sym (ap (λ b. take (cond b (length old) 8) old) w.if-whole.true ∙ take-length old)
      | else-whole w ↦
          ap (λ (n : Cells g.row.K.Denot g.row.V.Denot). n.pairs) (w.array-is ∙ w.split_half-array.ensures.lower)
          ∙ sym (ap (λ b. take (cond b (length old) 8) old) w.if-whole.false)
    ]

pub returns-clause-upper : goal.returns-clause-upper
returns-clause-upper g c =
    let old = c.args.self.now.array.pairs in
    elim c.if-whole.branch [
      | then-whole w ↦
          ap (λ (l : Leaf g.row.K.Denot g.row.V.Denot). l.array.pairs) w.self-is
          ∙ ap (λ (n : Cells g.row.K.Denot g.row.V.Denot). n.pairs) (w.replace-array.ensures.after ∙ w.new.ensures)
          ∙ sym (ap (λ b. drop (cond b (length old) 8) old) w.if-whole.true ∙ drop_all (length old) old (omega arith))
      | else-whole w ↦
          ap (λ (l : Leaf g.row.K.Denot g.row.V.Denot). l.array.pairs) w.self-is
          ∙ ap (λ (n : Cells g.row.K.Denot g.row.V.Denot). n.pairs) w.split_half-array.ensures.upper
          ∙ sym (ap (λ b. drop (cond b (length old) 8) old) w.if-whole.false)
    ]

pub returns-clause-rising : goal.returns-clause-rising
returns-clause-rising g c = c.len.ensures.ordered

pub returns-clause-lower_rising : goal.returns-clause-lower_rising
returns-clause-lower_rising g c = c.len-2.ensures.ordered

pub returns-clause-upper_rising : goal.returns-clause-upper_rising
returns-clause-upper_rising g c = c.len-3.ensures.ordered
