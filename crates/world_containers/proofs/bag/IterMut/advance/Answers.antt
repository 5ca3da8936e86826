use Rattle.world_containers.proofs.Names.{ℕ, ◌∷◌, drop, map, sym, subst, ◌∙◌, shared_cell, IsLeft}
use Rattle.world_containers.proofs.bag.IterMut.advance.Goals as goal

pub returns-in_default-clause-none : goal.returns-in_default-clause-none
returns-in_default-clause-none g c = λ es l. c.in_default.ensures.none es (subst (λ (j : ℕ). IsLeft (g.W.ExclusiveAccess.state c.args.self.now.place.now) (j ∷ drop c.args.self.now.row (map shared_cell c.args.self.now.cells.now.items)) es) (sym (c.of-from.ensures ∙ c.cell.ensures)) l)
