use Rattle.std.proofs.Common.{◌≡◌, ℕ, ◌∷◌, [], ap, subst, ⊎_elim, arith, length, length-append}
use Rattle.sdd_steps.specs.State.{At}
use Rattle.sdd_steps.proofs.ListLemmas.{at_end}
use Rattle.domain_table.specs.Contents.{IsIn, first_in_home}
use Rattle.domain_table.proofs.homes.push_rooms.Goals as goal

pub loop-at-preserved : goal.loop-at-preserved
loop-at-preserved g c = let l = c.loop-at in let home = c.in_ok-home.home in let deeds : ℕ = c.args.deeds in let e = c.keep.ensures.items in let inv = l.invariant in record {
  number = let a = inv.number in let b = ap length e in let d = length-append l.homes.items (home ∷ []) in omega arith;
  resting = λ i y at. ⊎_elim (λ (t : At l.homes.items i y). inv.resting i y t)
      (λ (t : (i ≡ length l.homes.items) × (home ≡ y)). let same : l.at ≡ i = (let a = inv.number in let b = t.0 in omega arith) in subst (λ z. IsIn g.H.Holding.holds (first_in_home deeds z) y) same (subst (IsIn g.H.Holding.holds (first_in_home deeds l.at)) t.1 c.in_ok-home.ensures))
      (at_end l.homes.items home i y (subst (λ xs. At xs i y) e at));
  room = let a = inv.room in let b = c.keep.ensures.room in omega arith;
  kept = let a = inv.kept in let b = c.keep.ensures.room in omega arith;
}
