use Rattle.std.proofs.Common.{◌≡◌, ◌/◌, ◌%◌, ◌-◌, Some, sym, ◌∙◌, arith}
use Rattle.domain_table.proofs.LeftCodes.{told_by}
use Rattle.domain_table.proofs.left.bag_in.Goals as goal

pub returns : goal.returns
returns c = λ ws is below. let t = told_by ws c.args.word c.if-word-eq0.false is below in let first : c.args.word / 2147483648 - 1 ≡ t.first = omega (arith, t.code, t.few) in let last : c.args.word % 2147483648 ≡ t.last = omega (arith, t.code, t.few) in
    (λ j. Some (record { first = first j; last = last j })) ∙ sym t.ends
