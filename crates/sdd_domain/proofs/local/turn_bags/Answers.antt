use Rattle.std.proofs.Common.{◌≡◌, ◌∙◌, ◌∷◌, [], List, true, false, nat_lt, lt-ltb, length, sym, refl, ap, subst, arith}
use Rattle.sdd_homes.specs.declared.Garbage.{Garbage}
use Rattle.domain_table.specs.Ledgers.{WaitsIn}
use Rattle.domain_table.specs.Views.{older_waits}
use Rattle.sdd_domain.proofs.local.turn_bags.Goals as goal

nothing : (ws : List Garbage) → nat_lt 0 (length ws) ≡ false → ws ≡ []
nothing [] h = refl
nothing (w ∷ ws) h = let bad : true ≡ false = sym (lt-ltb 0 (length (w ∷ ws)) (omega arith)) ∙ h in absurd (cc)

pub returns-then-not-has_some-clause-reclaimed : goal.returns-then-not-has_some-clause-reclaimed
returns-then-not-has_some-clause-reclaimed g c = let m = c.args.seat.now.me in (m.0.slot, m.0.waits, refl)

pub returns-then-not-has_some-clause-waits : goal.returns-then-not-has_some-clause-waits
returns-then-not-has_some-clause-waits g c = let w = c.requires.waits in let n = c.args.place.sizes.now.slots in let none = nothing w.0 (sym (c.has_some.ensures n w.0 w.2) ∙ c.if-not-has_some.true) in
    subst (λ (us : List Garbage). WaitsIn n us c.args.bags.now) (none ∙ sym (w.1 ∙ ap older_waits none)) w.2

pub returns-then-not-has_some-clause-some : goal.returns-then-not-has_some-clause-some
returns-then-not-has_some-clause-some g c = let w = c.requires.waits in let none = nothing w.0 (sym (c.has_some.ensures c.args.place.sizes.now.slots w.0 w.2) ∙ c.if-not-has_some.true) in
    sym (ap (λ (us : List Garbage). nat_lt 0 (length us)) (w.1 ∙ ap older_waits none))
