use Rattle.std.proofs.Common.{◌≡◌, ◌∙◌, true, false, length, refl, ap, sym, arith}
use Rattle.std.specs.Bool.{IsFalse, IsTrue}
use Rattle.std.specs.List.{sum_by}
use Rattle.sdd_table.specs.Groups.{NoneOut, count_at}
use Rattle.sdd_table.specs.State.{State, emptiness, in_use}
use Rattle.sdd_table.proofs.table.Table.is_unused.Goals as goal

pub returns : goal.returns
returns g c =
    let a = c.self.inside in
    let s = c.self.view_is in
    let none = c.self.invariant.cells.lists.count in
    let used : in_use c.args.self.now ≡ 0 = sym (ap (λ (w : State _). in_use w) s) ∙ (sym c.self.invariant.tally ∙ c.if-self-ne0.false) in
    let cells : sum_by emptiness c.args.self.now.cells ≡ length c.args.self.now.cells = omega (arith, ap (λ (w : State _). sum_by emptiness w.cells) s, ap (λ (w : State _). length w.cells) s, none, c.if-len.false, c.len.ensures, c.len-2.ensures, a.free_cells.ok.0, a.cells.ok.0) in
    let out : NoneOut c.args.self.now.groups → IsTrue c.is_unused.result = λ h.
    (elim c.is_unused.result as (λ b. (IsFalse b → NoneOut a.groups → ⊥) → IsTrue b) [ true ↦ λ f. refl | false ↦ λ f. absurd (f refl (λ k. ap (λ (w : State _). count_at w.groups k) s ∙ h k)) ]) c.is_unused.ensures.used in
    (λ r. (used, cells, λ k. sym (ap (λ (w : State _). count_at w.groups k) s) ∙ c.is_unused.ensures.unused r k), λ u. out u.2)
