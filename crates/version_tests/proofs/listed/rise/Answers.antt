use Rattle.std.proofs.Common.{◌∙◌, ap, take, subst}
use Rattle.std.proofs.Math.Seq.{take-length}
use Rattle.std.proofs.lemmas.Bool.{eqb-true}
use Rattle.std.specs.Ordering.{nat_cmp}
use Rattle.leaf_array.specs.Pairs.{IsAscending}
use Rattle.version_tests.proofs.listed.rise.Goals as goal

pub returns : goal.returns
returns c = λ all. subst (IsAscending nat_cmp) (ap (λ n. take n c.args.pairs.now) (eqb-true c.rising_until.result _ all) ∙ take-length c.args.pairs.now) c.rising_until.ensures.rising
