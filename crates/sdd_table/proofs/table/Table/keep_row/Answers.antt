use Rattle.std.proofs.Common.{◌≤◌, ◌-◌, ◌++◌, Some, List, ℕ, ap, arith, drop, length, map, refl, subst, sym, take, ◌∙◌}
use Rattle.std.proofs.lemmas.List.{length-map}
use Rattle.sdd_table.specs.Place.{AddsOwners, TakeOwners, kept_at}
use Rattle.sdd_table.specs.State.{State, uses_alone}
use Rattle.sdd_table.specs.Tokens.{kept_slot}
use Rattle.sdd_table.specs.View.{state_of}
use Rattle.sdd_table.proofs.KeepingLemmas.{adds_elsewhere, adds_invariant, part_read, row_read, takes_alone}
use Rattle.sdd_table.proofs.SlotLemmas.{no_value, used_in}
use Rattle.sdd_table.proofs.table.Table.keep_row.Goals as goal

pub unreachable-requires : goal.unreachable-requires
unreachable-requires g c =
    no_value c.self.inside c.args.i _ c.self.invariant (used_in c.self.inside c.args.self.now c.args.i _ c.self.view_is c.requires.there.used) c.index.ensures c.in-None.is

pub offset_bounds-row-from : goal.offset_bounds-row-from
offset_bounds-row-from g c =
    let read = row_read c.self.inside g.T.KeepsRow.kept c.args.self.now c.args.i c.index.result.now c.in-Some.value c.row-row.result.now c.self.view_is c.self.invariant c.requires.there c.index.ensures c.in-Some.is c.row-row.ensures in
    let long = ap length read ∙ length-map c.row-row.result.now kept_slot in
    let small = c.row-row.type_inv.1 in
    omega (arith, long, small, c.requires.ordered, c.requires.within)

pub slice_bounds-keep_each-end : goal.slice_bounds-keep_each-end
slice_bounds-keep_each-end g c =
    let read = row_read c.self.inside g.T.KeepsRow.kept c.args.self.now c.args.i c.index.result.now c.in-Some.value c.row-row.result.now c.self.view_is c.self.invariant c.requires.there c.index.ensures c.in-Some.is c.row-row.ensures in
    let long = ap length read ∙ length-map c.row-row.result.now kept_slot in
    let within : c.args.upto ≤ length c.row-row.result.now = omega (arith, long, c.requires.within) in
    within

pub keep_each-requires-clause-takes : goal.keep_each-requires-clause-takes
keep_each-requires-clause-takes g c =
    let row = c.row-row.result.now in
    let n = c.args.upto - c.args.from in
    let read = row_read c.self.inside g.T.KeepsRow.kept c.args.self.now c.args.i c.index.result.now c.in-Some.value row c.self.view_is c.self.invariant c.requires.there c.index.ensures c.in-Some.is c.row-row.ensures in
    let part = part_read n c.args.from row _ read in
    let alone = takes_alone _ c.args.self.now c.requires.takes in
    subst (λ is. TakeOwners is (uses_alone c.self.inside.states.items)) (sym part) (subst (λ (w : State _). TakeOwners (take n (drop c.args.from (kept_at g.T.KeepsRow.kept c.args.self.now (Some c.args.i)))) (uses_alone w.states)) (sym c.self.view_is) alone)

pub invariant_of-self : goal.invariant_of-self
invariant_of-self g c = adds_invariant c.self.inside _ c.keep_each.new.states c.self.invariant c.keep_each.ensures.raised

pub returns-clause-owners : goal.returns-clause-owners
returns-clause-owners g c =
    let row = c.row-row.result.now in
    let read = row_read c.self.inside g.T.KeepsRow.kept c.args.self.now c.args.i c.index.result.now c.in-Some.value row c.self.view_is c.self.invariant c.requires.there c.index.ensures c.in-Some.is c.row-row.ensures in
    let part = part_read (c.args.upto - c.args.from) c.args.from row _ read in
    c.keep_each.ensures.owners ∙ ap (λ (is : List ℕ). map kept_slot c.args.into.now.items ++ is) part

pub returns-clause-raised : goal.returns-clause-raised
returns-clause-raised g c =
    let row = c.row-row.result.now in
    let a = c.self.inside in
    let read = row_read a g.T.KeepsRow.kept c.args.self.now c.args.i c.index.result.now c.in-Some.value row c.self.view_is c.self.invariant c.requires.there c.index.ensures c.in-Some.is c.row-row.ensures in
    let part = part_read (c.args.upto - c.args.from) c.args.from row _ read in
    let raised = adds_elsewhere _ _ _ (state_of a) c.keep_each.ensures.raised refl in
    subst (λ is. AddsOwners is c.args.self.now (state_of (record a { states = c.keep_each.new.states }))) part (subst (λ (w : State _). AddsOwners (map kept_slot (take (c.args.upto - c.args.from) (drop c.args.from row))) w (state_of (record a { states = c.keep_each.new.states }))) c.self.view_is raised)
