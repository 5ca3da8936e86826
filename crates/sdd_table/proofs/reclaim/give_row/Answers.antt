use Rattle.std.proofs.Common.{◌≡◌, ◌∙◌, List, ℕ, [], ◌∷◌, length, map, reverse, ap, sym, arith}
use Rattle.std.proofs.lemmas.List.{map-append, reverse-append}
use Rattle.sdd_table.specs.State.{State}
use Rattle.sdd_table.specs.Steps.{released_each}
use Rattle.sdd_table.specs.Tokens.{kept_slot}
use Rattle.sdd_table.proofs.BagInvariantLemmas.{released_known}
use Rattle.sdd_table.proofs.reclaim.give_row.Goals as goal

pub loop-kept-preserved : goal.loop-kept-preserved
loop-kept-preserved g c =
    let p = c.args.p in
    let table = c.loop-kept.table in
    let slot = kept_slot c.in-Some.kept in
    let xs = map kept_slot c.pop.new.self.items in
    let e = ap (map kept_slot) c.in-Some.ensures.items ∙ map-append kept_slot c.pop.new.self.items (c.in-Some.kept ∷ []) in
    let all : reverse (map kept_slot c.loop-kept.row.items) ≡ slot ∷ reverse xs = ap reverse e ∙ reverse-append xs (slot ∷ []) in
    record {
      participant = omega (arith, c.loop-kept.invariant.participant, ap (λ (x : State _). length x.participants) c.give_shared.ensures, released_known table p slot);
      rest = ap (released_each p (reverse xs)) c.give_shared.ensures ∙ (ap (λ (is : List ℕ). released_each p is table) (sym all) ∙ c.loop-kept.invariant.rest);
    }
