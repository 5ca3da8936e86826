use Rattle.std.proofs.Common.{◌∙◌, ℕ, List, length, map, ap, sym, arith}
use Rattle.std.proofs.lemmas.List.{length-map}
use Rattle.sdd_table.specs.Groups.{GroupState, count_at, row_at}
use Rattle.sdd_table.specs.Arena.{group_of}
use Rattle.sdd_table.specs.Tokens.{kept_slot}
use Rattle.sdd_table.proofs.ArenaLemmas.{front_empty, last_empty}
use Rattle.sdd_table.proofs.groups.Groups.end.Goals as goal

pub loop-row-init : goal.loop-row-init
loop-row-init c = λ k. c.self.invariant.empty k (ap (λ (x : List GroupState). count_at x k) c.self.view_is ∙ c.requires k)

pub destroy_empty-requires : goal.destroy_empty-requires
destroy_empty-requires c =
    let h = λ (k : ℕ). ap (λ xs. row_at (map group_of xs) k) (sym c.in-Some.ensures.items) ∙ c.loop-row.invariant k in
    let long = ap length (last_empty group_of c.pop.new.self.items c.in-Some.field-0 h) in
    let row = ap (λ x. length x.items) c.in-Some.row-is in
    omega (arith, long, row, length-map c.in-Some.field-0.row.items kept_slot, c.in-Some.field-0.row.ok.0)

pub loop-row-preserved : goal.loop-row-preserved
loop-row-preserved c =
    front_empty group_of c.pop.new.self.items c.in-Some.field-0 (λ k. ap (λ xs. row_at (map group_of xs) k) (sym c.in-Some.ensures.items) ∙ c.loop-row.invariant k)
