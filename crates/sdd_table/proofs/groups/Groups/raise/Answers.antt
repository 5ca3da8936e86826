use Rattle.std.proofs.Common.{◌∙◌, ◌+◌, List, set, ap, sym, arith, subst, refl}
use Rattle.sdd_table.specs.Groups.{GroupState, IsOut, count_at, with_count}
use Rattle.sdd_table.specs.Arena.{groups_of}
use Rattle.sdd_table.proofs.ArenaLemmas.{arena_counted, entry_set, known, out_inside, within}
use Rattle.sdd_table.proofs.groups.Groups.raise.Goals as goal

pub invariant_of-self-2 : goal.invariant_of-self-2
invariant_of-self-2 c =
    let name = c.args.name.number in
    let out = subst (λ (x : List GroupState). IsOut x name) (sym c.self.view_is) c.requires in
    let inside = within c.self.inside name (out_inside _ name out) in
    arena_counted c.self.inside name _ c.self.invariant inside out (omega arith)

pub returns-clause-raised : goal.returns-clause-raised
returns-clause-raised c =
    let name = c.args.name.number in
    let out = subst (λ (x : List GroupState). IsOut x name) (sym c.self.view_is) c.requires in
    let inside = within c.self.inside name (out_inside _ name out) in
    let is = known c.self.inside name c.index_mut-entry.result.now inside c.index_mut-entry.ensures.value in (
      refl,
      entry_set c.self.inside name _ c.self.inside.free
          ∙ (ap (λ (s : GroupState). set (groups_of c.self.inside) name (record { count = s.count + 1; row = s.row })) (sym is)
          ∙ ap (λ (x : List GroupState). with_count name (count_at x name + 1) x) c.self.view_is),
    )
