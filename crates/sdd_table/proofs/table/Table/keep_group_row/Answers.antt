use Rattle.std.proofs.Common.{◌≡◌, ◌≤◌, ◌-◌, ◌++◌, List, ℕ, ap, arith, drop, length, map, refl, subst, sym, take, ◌∙◌}
use Rattle.std.proofs.lemmas.List.{length-map}
use Rattle.sdd_table.specs.Groups.{row_at}
use Rattle.sdd_table.specs.Place.{AddsOwners, TakeOwners, row_between}
use Rattle.sdd_table.specs.State.{State, uses_alone}
use Rattle.sdd_table.specs.Tokens.{kept_slot}
use Rattle.sdd_table.specs.View.{state_of}
use Rattle.sdd_table.specs.declared.owner.Kept.{Kept}
use Rattle.sdd_table.specs.declared.table.Table.TheInside.{Inside}
use Rattle.sdd_table.proofs.KeepingLemmas.{adds_elsewhere, adds_invariant, part_read, takes_alone}
use Rattle.sdd_table.proofs.table.Table.keep_group_row.Goals as goal

-- the row that was read is that of the group
row_is : {T J : Type 0} (a : Inside T J) (w : State T) (g : ℕ) (row : List Kept) → map kept_slot row ≡ row_at a.groups g → state_of a ≡ w → row_at w.groups g ≡ map kept_slot row
row_is a w g row read is = sym (read ∙ ap (λ (x : State _). row_at x.groups g) is)

pub offset_bounds-row-from : goal.offset_bounds-row-from
offset_bounds-row-from g c =
    let small = c.row-row.type_inv.1 in
    omega (arith, ap length (row_is c.self.inside c.args.self.now c.args.name.number c.row-row.result.now c.row-row.ensures c.self.view_is), length-map c.row-row.result.now kept_slot, small, c.requires.ordered, c.requires.within)

pub slice_bounds-keep_each-end : goal.slice_bounds-keep_each-end
slice_bounds-keep_each-end g c =
    let within : c.args.upto ≤ length c.row-row.result.now = omega (arith, ap length (row_is c.self.inside c.args.self.now c.args.name.number c.row-row.result.now c.row-row.ensures c.self.view_is), length-map c.row-row.result.now kept_slot, c.requires.within) in
    within

pub keep_each-requires-clause-takes : goal.keep_each-requires-clause-takes
keep_each-requires-clause-takes g c =
    let row = c.row-row.result.now in
    let n = c.args.upto - c.args.from in
    let part = part_read n c.args.from row (row_at c.args.self.now.groups c.args.name.number) (row_is c.self.inside c.args.self.now c.args.name.number c.row-row.result.now c.row-row.ensures c.self.view_is) in
    let alone = takes_alone _ c.args.self.now c.requires.takes in
    subst (λ is. TakeOwners is (uses_alone c.self.inside.states.items)) (sym part) (subst (λ (w : State _). TakeOwners (row_between c.args.self.now c.args.name.number c.args.from c.args.upto) (uses_alone w.states)) (sym c.self.view_is) alone)

pub invariant_of-self : goal.invariant_of-self
invariant_of-self g c = adds_invariant c.self.inside _ c.keep_each.new.states c.self.invariant c.keep_each.ensures.raised

pub returns-clause-owners : goal.returns-clause-owners
returns-clause-owners g c =
    let part = part_read (c.args.upto - c.args.from) c.args.from c.row-row.result.now (row_at c.args.self.now.groups c.args.name.number) (row_is c.self.inside c.args.self.now c.args.name.number c.row-row.result.now c.row-row.ensures c.self.view_is) in
    c.keep_each.ensures.owners ∙ ap (λ (is : List ℕ). map kept_slot c.args.into.now.items ++ is) part

pub returns-clause-raised : goal.returns-clause-raised
returns-clause-raised g c =
    let row = c.row-row.result.now in
    let a = c.self.inside in
    let part = part_read (c.args.upto - c.args.from) c.args.from row (row_at c.args.self.now.groups c.args.name.number) (row_is c.self.inside c.args.self.now c.args.name.number c.row-row.result.now c.row-row.ensures c.self.view_is) in
    let raised = adds_elsewhere _ _ _ (state_of a) c.keep_each.ensures.raised refl in
    subst (λ is. AddsOwners is c.args.self.now (state_of (record a { states = c.keep_each.new.states }))) part (subst (λ (w : State _). AddsOwners (map kept_slot (take (c.args.upto - c.args.from) (drop c.args.from row))) w (state_of (record a { states = c.keep_each.new.states }))) c.self.view_is raised)
