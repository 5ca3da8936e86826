use Rattle.std.proofs.Common.{◌∙◌, List, length, map, set, ap, sym, arith, subst}
use Rattle.std.proofs.lemmas.List.{length-map}
use Rattle.sdd_table.specs.Groups.{GroupState, IsFreeName, with_row}
use Rattle.sdd_table.specs.Arena.{group_of, groups_of}
use Rattle.sdd_table.specs.Tokens.{kept_slot}
use Rattle.sdd_table.proofs.ArenaLemmas.{arena_made, entry_set, named_free, row_known, within}
use Rattle.sdd_table.proofs.groups.Groups.make.Goals as goal

pub index_mut-requires : goal.index_mut-requires
index_mut-requires c =
    let r = named_free c.self.inside c.in-Some.name c.pop.new.self.items c.self.invariant c.in-Some.ensures.items in
    omega (arith, within c.self.inside c.in-Some.name r.0, c.self.inside.entries.ok.0)

pub destroy_empty-requires : goal.destroy_empty-requires
destroy_empty-requires c =
    let a = c.self.inside in
    let r = named_free a c.in-Some.name c.pop.new.self.items c.self.invariant c.in-Some.ensures.items in
    let row = row_known a c.in-Some.name c.index_mut.result.now (within a c.in-Some.name r.0) c.index_mut.ensures.value in
    let none = c.self.invariant.empty c.in-Some.name r.1 in
    let same = ap (λ e. length e.row.items) c.replace-none.ensures.value in
    let long = ap length (sym row ∙ none) in
    omega (arith, same, long, length-map c.index_mut.result.now.row.items kept_slot, c.replace-none.result.row.ok.0)

pub invariant_of-self-2 : goal.invariant_of-self-2
invariant_of-self-2 c =
    arena_made c.self.inside c.in-Some.name c.replace-none.new.dest c.pop.new.self c.self.invariant (ap (λ e. e.count) c.replace-none.ensures.after) c.in-Some.ensures.items (omega (arith, c.in-Some.ensures.capacity))

pub returns-clause-free : goal.returns-clause-free
returns-clause-free c =
    let r = named_free c.self.inside c.in-Some.name c.pop.new.self.items c.self.invariant c.in-Some.ensures.items in
    subst (λ (x : List GroupState). IsFreeName x c.in-Some.name) c.self.view_is r

pub returns-clause-made : goal.returns-clause-made
returns-clause-made c =
    let a = c.self.inside in
    let name = c.in-Some.name in
    entry_set a name _ c.pop.new.self
    ∙ (ap (λ e. set (groups_of a) name (group_of e)) c.replace-none.ensures.after
    ∙ ap (λ (x : List GroupState). with_row name (map kept_slot c.args.row.items) x) c.self.view_is)
