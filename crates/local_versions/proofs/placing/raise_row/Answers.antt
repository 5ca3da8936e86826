use Rattle.std.proofs.Common.{◌≡◌, get_or, length, sym, ap, ◌∙◌, arith, subst}
use Rattle.sdd_world.specs.Groups.{IsOut, count_at, more_owned, name_of}
use Rattle.sdd_world.specs.State.{with_groups}
use Rattle.sdd_world.specs.Tokens.{loaded_slot}
use Rattle.local_versions.proofs.RaisingLemmas.{row_named, row_counted}
use Rattle.local_versions.proofs.RowStretchLemmas.{there_by_row}
use Rattle.local_versions.proofs.placing.raise_row.Goals as goal

pub directory_at-requires : goal.directory_at-requires
directory_at-requires g c =
    (omega arith, (there_by_row c.args.w.now (loaded_slot c.args.older.now) c.args.row c.requires.there c.requires.row))

pub bounds-rows-row : goal.bounds-rows-row
bounds-rows-row g c =
    let o = loaded_slot c.args.older.now in
    let t = there_by_row c.args.w.now o c.args.row c.requires.there c.requires.row in
    let dir = c.directory_at.result.now in
    let rows = ap length c.rows.ensures in
    let inside = row_counted c.args.w.now o t.0 dir c.args.row t.1 (c.directory_at.ensures t.0 t.1) c.requires.row in
    omega (arith, rows, inside)

pub raise-requires : goal.raise-requires
raise-requires g c =
    let w = c.args.w.now in
    let o = loaded_slot c.args.older.now in
    let t = there_by_row w o c.args.row c.requires.there c.requires.row in
    let dir = c.directory_at.result.now in
    let row = c.index-rows-row.result in
    let read = subst (λ rs. row ≡ get_or rs c.args.row row) c.rows.ensures c.index-rows-row.is in
    let named = row_named w o t.0 dir c.args.row row t.1 (c.directory_at.ensures t.0 t.1) c.requires.row read in
    let name = c.name-name.ensures ∙ ap name_of c.owners.ensures ∙ sym named in
    subst (IsOut w.groups) (sym name) (c.requires.raised c.args.row 0 c.requires.row).0

pub unreachable-requires : goal.unreachable-requires
unreachable-requires g c =
    let w = c.args.w.now in
    let o = loaded_slot c.args.older.now in
    let t = there_by_row w o c.args.row c.requires.there c.requires.row in
    let dir = c.directory_at.result.now in
    let row = c.index-rows-row.result in
    let read = subst (λ rs. row ≡ get_or rs c.args.row row) c.rows.ensures c.index-rows-row.is in
    let named = row_named w o t.0 dir c.args.row row t.1 (c.directory_at.ensures t.0 t.1) c.requires.row read in
    let name = c.name-name.ensures ∙ ap name_of c.owners.ensures ∙ sym named in
    let few = (c.requires.raised c.args.row 0 c.requires.row).1 in
    let full = c.in-None.ensures.refused.1 in
    let same = ap (count_at w.groups) name in
    omega (arith, few, full, same)

pub returns-clause-name : goal.returns-clause-name
returns-clause-name g c =
    let w = c.args.w.now in
    let o = loaded_slot c.args.older.now in
    let t = there_by_row w o c.args.row c.requires.there c.requires.row in
    let dir = c.directory_at.result.now in
    let row = c.index-rows-row.result in
    let read = subst (λ rs. row ≡ get_or rs c.args.row row) c.rows.ensures c.index-rows-row.is in
    let named = row_named w o t.0 dir c.args.row row t.1 (c.directory_at.ensures t.0 t.1) c.requires.row read in
    c.in-Some.ensures.raised.0 ∙ c.name-name.ensures ∙ ap name_of c.owners.ensures ∙ sym named

pub returns-clause-raised : goal.returns-clause-raised
returns-clause-raised g c = c.in-Some.ensures.raised.1 ∙ ap (λ n. with_groups (more_owned n c.args.w.now.groups) c.args.w.now) (sym c.in-Some.ensures.raised.0)
