use Rattle.std.proofs.Common.{◌≡◌, ◌∷◌, [], List, sym, subst, refl}
use Rattle.domain_table.specs.Views.{gathering}
use Rattle.domain_table.specs.declared.board.Acting.{Acting}
use Rattle.domain_garbage.specs.Bag.{IsKept, bag_in}
use Rattle.sdd_domain.proofs.private_collector.PrivateCollector.new.Goals as goal

pub invariant_of-result : goal.invariant_of-result
invariant_of-result g c = let v = c.new_bag-calm.ensures.1 in record {
  at = subst (λ (vs : List Acting). vs ≡ gathering (bag_in vs) ∷ []) (sym v) refl;
  told = subst (λ (vs : List Acting). IsKept c.args.domain.now.sizes.slots (bag_in vs) c.new.result) (sym v) (c.new.ensures c.args.domain.now.sizes.slots);
}
