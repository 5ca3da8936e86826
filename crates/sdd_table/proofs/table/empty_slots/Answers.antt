use Rattle.std.proofs.Common.{◌≡◌, ◌++◌, ◌∷◌, [], ℕ, List, Option, None, length, replicate, sym, ap, ◌∙◌, arith}
use Rattle.std.proofs.lemmas.List.{length-replicate}
use Rattle.sdd_table.proofs.ListLemmas.{replicate-push}
use Rattle.sdd_table.proofs.table.empty_slots.Goals as goal

pub loop-preserved : goal.loop-preserved
loop-preserved g c =
    let i = c.loop.invariant in
    let e = c.in-Ok.ensures in
    record {
      values = e.items ∙ ap (λ (xs : List (Option _)). xs ++ None ∷ []) i.values ∙ sym (replicate-push c.loop.counter None);
      room = omega (arith, i.room, e.capacity);
    }

pub unreachable-requires : goal.unreachable-requires
unreachable-requires g c =
    let long = ap (λ (xs : List (Option g.row.T.Denot)). length xs) c.loop.invariant.values ∙ length-replicate c.loop.counter None in
    omega (arith, c.in-Err.ensures.full, c.loop.invariant.room, c.loop.values.ok.0, c.loop-test.true, long)

pub unreachable-unreachable : goal.unreachable-unreachable
unreachable-unreachable g c =
    let long = ap (λ (xs : List (Option g.row.T.Denot)). length xs) c.loop.invariant.values ∙ length-replicate c.loop.counter None in
    omega (arith, c.in-Err.ensures.full, c.loop.invariant.room, c.loop.values.ok.0, c.loop-test.true, long)

pub returns : goal.returns
returns g c =
    let all : c.loop.counter ≡ c.args.n = omega (arith, c.loop-test.false, c.loop.auto.counter-end) in
    c.loop.invariant.values ∙ ap (λ (n : ℕ). replicate n None) all
