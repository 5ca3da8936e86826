use Rattle.std.proofs.Common.{refl, ap, ◌∙◌}
use Rattle.sdd_table.specs.State.{State, published_at, changing}
use Rattle.sdd_table.proofs.SlotLemmas.{changed_view, changed_invariant, known_in}
use Rattle.sdd_table.proofs.table.Table.publish.Goals as goal

pub publish-requires : goal.publish-requires
publish-requires g c = known_in c.self.inside c.args.self.now _ c.self.view_is c.requires

pub invariant_of-self : goal.invariant_of-self
invariant_of-self g c = changed_invariant c.self.inside c.args.self.now c.args.p (published_at c.self.inside.count) c.publish.new.self c.self.invariant c.self.view_is c.requires c.publish.ensures (λ j. refl)

pub returns : goal.returns
returns g c =
    changed_view c.self.inside c.args.self.now c.args.p (published_at c.self.inside.count) c.publish.new.self c.self.view_is c.publish.ensures
    ∙ ap (λ (w : State _). changing c.args.p (published_at w.count) c.args.self.now) c.self.view_is
