use Rattle.std.proofs.Common.{◌≡◌, ◌∙◌, ap, sym, subst, List}
use Rattle.atomic_table.specs.Table.{Me}
use Rattle.sdd_homes.specs.declared.Garbage.{Garbage}
use Rattle.sdd_homes.specs.declared.Owner.{Owner}
use Rattle.domain_table.specs.Ledgers.{WaitsIn}
use Rattle.domain_table.specs.declared.board.Acting.{Acting}
use Rattle.domain_garbage.proofs.private.give_back.Goals as goal

pub retire-requires-clause-retired : goal.retire-requires-clause-retired
retire-requires-clause-retired g c = let f = c.requires.owner.0 in let r = (c.release.ensures.released.2 f.0 f.1 f.2).1 c.if-release-eq0.true in (r.0, c.args.seat.now.me.0.waits, ap (λ (z : Me _ Acting). z.0.waits) r.3, r.1, r.2, c.requires.waits)

pub returns-then-release-eq0-clause-given : goal.returns-then-release-eq0-clause-given
returns-then-release-eq0-clause-given g c = λ o os first. let l = c.release.ensures.released in let r = (l.2 o os first).1 c.if-release-eq0.true in let w = c.retire.ensures.waits in (w.0, l.0, l.1, w.3 ∙ λ j. (record (r.3 j).0 { waits = w.0 }, (r.3 j).1))

pub returns-then-release-eq0-clause-waits : goal.returns-then-release-eq0-clause-waits
returns-then-release-eq0-clause-waits g c = let w = c.retire.ensures.waits in subst (λ (ws : List Garbage). WaitsIn c.args.place.sizes.now.slots ws c.retire.new.self) (sym (ap (λ (z : Me _ Acting). z.0.waits) w.3)) w.2
