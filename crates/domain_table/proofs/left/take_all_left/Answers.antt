use Rattle.std.proofs.Common.{◌∙◌, ◌++◌, ◌∷◌, [], ℕ, List, sym, subst, inl, inr, arith}
use Rattle.std.proofs.lemmas.Bool.Decides.{eqb_tells}
use Rattle.sdd_steps.specs.State.{Has}
use Rattle.domain_table.proofs.Looks.{has_last, has_more}
use Rattle.domain_table.proofs.left.take_all_left.Goals as goal

pub loop-number-preserved : goal.loop-number-preserved
loop-number-preserved g c = let i = c.loop-number.invariant in let e = c.take_if_left.ensures in record {
  seat = (e.seat.0 ∙ i.seat.0, e.seat.1 ∙ i.seat.1);
  taken = (e.taken.0, e.taken.1, e.taken.2 ∙ λ j. (record (i.taken.2 j).0 { waits = e.taken.0 }, (i.taken.2 j).1));
  due = e.due ∙ i.due;
  looked = λ q low. let n = c.loop-number.number in let old = c.loop-number.looks.numbers.items in subst (λ (xs : List ℕ). Has xs q) (sym e.looked) (elim (eqb_tells q n) [
    | inl t ↦ subst (λ (k : ℕ). Has (old ++ n ∷ []) k) (sym t.1) (has_last old n)
    | inr t ↦ let apart = t.1 in has_more old n q (i.looked q (omega arith))
  ]);
}
