use Rattle.std.proofs.Common.{◌≡◌, ℕ, refl, ap, sym, ◌∙◌, arith, length, replicate, List, ◌++◌, ◌∷◌, []}
use Rattle.std.proofs.lemmas.List.{length-replicate}
use Rattle.sdd_table.specs.State.{emptiness}
use Rattle.sdd_table.specs.declared.status.Cell.{Cell}
use Rattle.sdd_table.specs.declared.status.Cell.TheVariants as cell
use Rattle.sdd_table.proofs.ListLemmas.{replicate-push, lists_grow}
use Rattle.sdd_table.proofs.table.free_cells.Goals as goal

pub loop-i-preserved : goal.loop-i-preserved
loop-i-preserved c =
    let h = c.loop-i.invariant in
    let e = c.in_ok-push.ensures.items in
    let f = c.in_ok-push-2.ensures.items in
    let at = sym (ap length h.cells ∙ length-replicate c.loop-i.i cell.Free) in
    let other = c.in_ok-push-2.ensures.capacity in
    record {
      cells = e ∙ ap (λ (xs : List Cell). xs ++ cell.Free ∷ []) h.cells ∙ sym (replicate-push c.loop-i.i cell.Free);
      room = omega (arith, h.room, other);
      free = rw (e, f) (lists_grow emptiness c.loop-i.cells.items cell.Free c.loop-i.free.items c.loop-i.i at refl h.free);
    }

pub returns-clause-cells : goal.returns-clause-cells
returns-clause-cells c =
    let all : c.loop-i.i ≡ c.args.n = omega (arith, c.loop-i-test.false, c.loop-i.auto.i-end) in
    c.loop-i.invariant.cells ∙ ap (λ (n : ℕ). replicate n cell.Free) all

pub returns-clause-free : goal.returns-clause-free
returns-clause-free c =
    let h = c.loop-i.invariant in
    let all : c.loop-i.i ≡ c.args.n = omega (arith, c.loop-i-test.false, c.loop-i.auto.i-end) in
    let long = ap length h.cells ∙ length-replicate c.loop-i.i cell.Free in
    record { lists = h.free; room = omega (arith, h.room, long, all) }
