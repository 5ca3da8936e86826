use Rattle.std.proofs.Common.{◌≡◌, rules, refl, sym, ap, ◌∙◌}
use Rattle.sdd_plain.specs.declared.sizes.Sizes.{Sizes}
use Rattle.domain_table.specs.declared.board.Home.{Home}
use Rattle.domain_table.specs.declared.board.Home.TheVariants.{Announced}
use Rattle.domain_table.proofs.Learns.{learns}
use Rattle.domain_table.proofs.steps.learn.Goals as goal

announced : {T : Type 0} (y z : Sizes) → ◌≡◌ {A = Home T} (Announced y) (Announced z) → y ≡ z
announced y z e = cc

pub compare_exchange_with-requires : goal.compare_exchange_with-requires
compare_exchange_with-requires g c = (search rules, search rules, learns _ _ _ _ _ _ _ _ _ c.requires.acts (λ z e. sym c.requires.table.2 ∙ announced c.args.sizes z e))

pub returns-clause-learned : goal.returns-clause-learned
returns-clause-learned g c = let e = c.compare_exchange_with.ensures in ap (λ m. m.0.sizes) e.2.0 ∙ e.2.1 (Announced c.args.sizes) c.args.sizes refl refl
