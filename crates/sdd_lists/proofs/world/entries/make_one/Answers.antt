use Rattle.std.proofs.Common.{sym}
use Rattle.sdd_lists.proofs.EntryNewLemmas.{made, unmade}
use Rattle.sdd_lists.proofs.world.entries.make_one.Goals as goal

pub returns-in-Ok-new-clause-made : goal.returns-in-Ok-new-clause-made
returns-in-Ok-new-clause-made g c =
    let a = c.in-Ok.ensures.made in
    let p = c.in-Ok-new.ensures.placed in
    made c.args.w.now c.link.new.w c.new.new.w a.0 c.in-Ok-new.owner.slot c.args.value c.in-Ok.entry a.1 a.2 a.3 a.4 p.0 p.1 c.in-Ok.entry (sym c.in-Ok-new.ensures.value)

pub returns-in-Err-new-clause-refused : goal.returns-in-Err-new-clause-refused
returns-in-Err-new-clause-refused g c =
    let a = c.in-Ok.ensures.made in
    let b = c.in-Err-new.ensures.refused in
    unmade c.args.w.now c.link.new.w c.new.new.w c.undo.new.w a.0 c.args.value c.undo.result c.in-Ok.entry c.in-Err-new.entry a.1 a.2 a.3 a.4 b.0 b.1 b.2 c.undo.ensures.value c.undo.ensures.ended
