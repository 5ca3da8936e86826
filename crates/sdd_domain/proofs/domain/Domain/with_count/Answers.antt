use Rattle.std.proofs.Common.{◌≡◌, ℕ, ◌+◌, ◌++◌, ap, sym, ◌∙◌, subst, List, length, length-append, replicate, arith}
use Rattle.sdd_steps.specs.State.{At}
use Rattle.sdd_steps.proofs.ListLemmas.{at_replicate}
use Rattle.domain_table.specs.Ledgers.{IsEmpty}
use Rattle.domain_table.specs.Layout.{all_homes, all_spares}
use Rattle.domain_table.specs.declared.board.Home.{Home}
use Rattle.domain_table.specs.declared.board.Home.TheVariants.{Blank}
use Rattle.domain_table.specs.declared.board.Plan.{Plan}
use Rattle.domain_table.proofs.Firsts.{many_of, at_low, at_high, long_first}
use Rattle.domain_table.proofs.Seats.{begins}
use Rattle.sdd_domain.proofs.domain.Domain.with_count.Goals as goal

pub new-requires : goal.new-requires
new-requires g c = let sizes = c.args.sizes in let homes = c.in_ok-homes.ensures in let own = homes.0 in let spares : List (Home g.row.T.Denot) = replicate (all_spares sizes) Blank in
    let long_own = homes.1 in let long_spares : length spares ≡ all_spares sizes = many_of (all_spares sizes) Blank in let long_both = length-append own spares in let all = homes.3 in
    begins _ _ (record { sizes = sizes; first = c.args.count }) c.deref.result.now c.in_ok-homes.homes.items (omega (arith, c.ranges.count)) (c.deref.ensures.value ∙ c.in_ok-words.ensures) (record {
      long = ap length all ∙ omega arith;
      low = λ i y lt at. homes.2 i y (at_low own spares i y (omega arith) (subst (λ l. At l i y) all at));
      high = λ i y lt at. sym (at_replicate (all_spares sizes) i Blank y (at_high own spares i (all_homes sizes + i) y (omega arith) (subst (λ l. At l (all_homes sizes + i) y) all at)));
    })

pub invariant_of-result : goal.invariant_of-result
invariant_of-result g c = let sizes = c.args.sizes in let plan : Plan = record { sizes = sizes; first = c.args.count } in let told = c.in-Ok.ensures.ok in let key = ap (λ (z : Plan). z.sizes) told.5 in
    let long = told.0 ∙ (ap (λ (ws : List ℕ). length ws) (c.deref.ensures.value ∙ c.in_ok-words.ensures) ∙ long_first plan) in
    record { cells = c.in_ok-taken.ensures; noted = λ x e. (let same : c.in-Ok-new.ledger ≡ x = cc in subst (IsEmpty sizes.slots) same c.in-Ok-new.ensures); sized = (sym key, c.requires, omega (arith, long)) }
