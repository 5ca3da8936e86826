use Rattle.std.proofs.Common.{◌<◌, arith, ap, sym, subst}
use Rattle.sdd_plain.specs.declared.sizes.Sizes.{Sizes}
use Rattle.domain_table.specs.Chains.{AllBelow}
use Rattle.domain_table.proofs.Takeovers.{takes_left}
use Rattle.domain_table.proofs.left.take_left.Goals as goal

pub swap-requires : goal.swap-requires
swap-requires g c = let t = c.requires.table in let long = t.4 in let low = t.5 in (t.0, omega arith, takes_left _ _ _ _ _ c.args.number _ c.requires.ready.0 c.requires.ready.1 (subst (λ (z : Sizes). c.args.number < z.participants) (sym t.1) low))

pub bag_in-requires : goal.bag_in-requires
bag_in-requires g c = let r = c.swap.ensures.2 in let t = c.requires.table in (r.0, r.1, λ w h. let low = r.3 w h in let few = t.3.2 in let sizes = ap (λ (z : Sizes). z.slots) t.2 in omega arith)

pub returns-clause-taken : goal.returns-clause-taken
returns-clause-taken g c = let r = c.swap.ensures.2 in let t = c.requires.table in (r.0, (c.bag_in.ensures r.0 r.1 (λ w h. let low = r.3 w h in let few = t.3.2 in let sizes = ap (λ (z : Sizes). z.slots) t.2 in omega arith), r.2), subst (λ (z : Sizes). AllBelow z.slots r.0) t.2 r.3, r.4)
