use Rattle.std.proofs.Common.{ℕ, ◌∙◌, inl, inr, sym, subst}
use Rattle.std.proofs.lemmas.Bool.{false≢true}
use Rattle.sdd_table.specs.Place.{IsOpen}
use Rattle.sdd_table.specs.State.{State}
use Rattle.sdd_table.specs.Steps.{AllSwept, NoneOpen}
use Rattle.sdd_world.proofs.world.World.close.Goals as goal

pub sweep_all-requires : goal.sweep_all-requires
sweep_all-requires g c = c.self.invariant

pub returns-then-any_open-clause-back : goal.returns-then-any_open-clause-back
returns-then-any_open-clause-back g c =
    let some = c.any_open.ensures.open c.if-any_open.true in
    inl (subst (λ (w : State _). (p : ℕ) × IsOpen w p) c.self.view_is some, c.self.view_is)

pub returns-then-not-is_unused-clause-back : goal.returns-then-not-is_unused-clause-back
returns-then-not-is_unused-clause-back g c =
    let none = c.any_open.ensures.none c.if-any_open.false in
    inr (
      subst (λ (w : State _). NoneOpen w) c.self.view_is none,
      subst (λ (w : State _). AllSwept g.T.Holds.holds w c.sweep_all.new.table) c.self.view_is c.sweep_all.ensures.swept,
      λ unused. false≢true (sym c.if-not-is_unused.true ∙ c.is_unused.ensures.1 unused),
    )

pub end-requires : goal.end-requires
end-requires g c =
    let unused = c.is_unused.ensures.0 c.if-not-is_unused.false in
    record { items = unused.0; groups = unused.2 }

pub returns-clause-ended : goal.returns-clause-ended
returns-clause-ended g c = λ _.
    let none = c.any_open.ensures.none c.if-any_open.false in (
      subst (λ (w : State _). NoneOpen w) c.self.view_is none,
      c.sweep_all.new.table,
      subst (λ (w : State _). AllSwept g.T.Holds.holds w c.sweep_all.new.table) c.self.view_is c.sweep_all.ensures.swept,
      c.is_unused.ensures.0 c.if-not-is_unused.false,
    )
