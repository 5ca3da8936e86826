use Rattle.std.proofs.Common.{◌≡◌, ◌<◌, ◌∷◌, ℕ, List, arith, subst}
use Rattle.sdd_table.specs.PrivateBags.{Waiting}
use Rattle.sdd_table.proofs.PrivateBagLemmas.{first_of}
use Rattle.sdd_table.proofs.private_bag.PrivateBag.first.Goals as goal

pub returns-clause-some : goal.returns-clause-some
returns-clause-some c =
    let a = c.self.inside in
    let some : 0 < a.count = omega (arith, c.if-self-eq0.false) in
    subst (λ (w : Waiting). (is : List ℕ) × (w.items ≡ a.first ∷ is)) c.self.view_is (first_of a.listed.items a.first (omega (arith, some, c.self.invariant.count)) (c.self.invariant.first some))
