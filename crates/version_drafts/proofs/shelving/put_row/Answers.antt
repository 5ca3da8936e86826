use Rattle.std.proofs.Common.{◌≡◌, refl, sym, ap, ◌∙◌, subst}
use Rattle.version_views.specs.Items.{row_keys}
use Rattle.version_views.specs.Rows.{IsRow, between, row_part, start_of}
use Rattle.version_drafts.specs.Shelves.{TakesMore}
use Rattle.version_drafts.specs.declared.shelving.Shelving.{Shelving}
use Rattle.version_drafts.proofs.ShelfLemmas.{row_read, takes_older}
use Rattle.version_drafts.proofs.shelving.put_row.Goals as goal

pub returns-clause-taken : goal.returns-clause-taken
returns-clause-taken g c =
    let blocks = c.args.old.now in
    let ends = c.args.rows.now.ends.items in
    let row = c.args.row in
    let cut = c.requires.rows in
    let is = c.requires.is in
    let older = c.index-rows-row.result in
    let there = row_read blocks c.args.rows.now cut row is.inside c.rows.result.now older c.rows.ensures c.index-rows-row.is in
    let keys = ap row_keys c.new.ensures ∙ c.in_ok-keys.ensures in
    let out : Shelving g.row.K.Denot g.row.V.Denot = record c.args.out.now { rows = c.push_reserved.new.self; greatest = c.push_reserved-2.new.self; ends = c.push_reserved-3.new.self; count = c.in-Some.count } in
    let same : between c.args.from c.args.upto blocks ≡ row_part ends row blocks = ap (λ n. between n c.args.upto blocks) is.begins ∙ ap (λ n. between (start_of ends row) n blocks) is.stops in
    subst (λ bs. TakesMore blocks ends bs 0 c.args.out.now out) (sym same) (takes_older blocks ends c.args.out.now out row c.args.from c.args.upto c.new.result c.in_ok-last.last c.requires.whole c.requires.none is (cut.rising row is.inside) (cut.within row is.inside)
    (ap (λ r. r.segments) c.new.ensures)
    (subst (IsRow (row_part ends row blocks)) (sym keys) (cut.rows row older there))
    c.in_ok-last.ensures
    (record { rows = c.push_reserved.ensures.items; greatest = c.push_reserved-2.ensures.items; count = c.in-Some.ensures.1; ends = c.push_reserved-3.ensures.items; parts = refl; keys = refl }))
