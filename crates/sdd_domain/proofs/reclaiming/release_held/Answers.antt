use Rattle.std.proofs.Common.{◌≡◌, ◌∙◌, refl, ap, sym, subst, List}
use Rattle.atomic_table.specs.Table.{Me}
use Rattle.sdd_homes.specs.declared.Garbage.{Garbage}
use Rattle.domain_table.specs.Bags.{aged}
use Rattle.domain_table.specs.Ledgers.{WaitsIn}
use Rattle.domain_table.specs.declared.board.Acting.{Acting}
use Rattle.domain_table.proofs.WaitLemmas.{young_is_not_due}
use Rattle.sdd_domain.proofs.reclaiming.release_held.Goals as goal

pub retire-requires-clause-retired : goal.retire-requires-clause-retired
retire-requires-clause-retired g c = let f = c.requires.owner in let r = (c.release_home.ensures.released f.0 f.1 f.2).1 c.if-release_home-eq0.true in (r.0, c.args.seat.now.me.0.waits, ap (λ (z : Me _ Acting). z.0.waits) r.3, r.1, r.2, c.requires.waits)

pub returns-then-release_home-eq0-clause-released : goal.returns-then-release_home-eq0-clause-released
returns-then-release_home-eq0-clause-released g c = λ o os first. let r = (c.release_home.ensures.released o os first).1 c.if-release_home-eq0.true in let w = c.retire.ensures.waits in (w.0, w.3 ∙ λ j. (record (r.3 j).0 { waits = w.0 }, (r.3 j).1))

pub returns-then-release_home-eq0-clause-waits : goal.returns-then-release_home-eq0-clause-waits
returns-then-release_home-eq0-clause-waits g c = let w = c.retire.ensures.waits in subst (λ (ws : List Garbage). WaitsIn c.args.place.sizes.now.slots ws c.retire.new.self) (sym (ap (λ (z : Me _ Acting). z.0.waits) w.3)) w.2

pub returns-then-release_home-eq0-clause-bags : goal.returns-then-release_home-eq0-clause-bags
returns-then-release_home-eq0-clause-bags g c = let f = c.requires.owner in let r = (c.release_home.ensures.released f.0 f.1 f.2).1 c.if-release_home-eq0.true in (c.retire.ensures.due.0, c.retire.ensures.due.1 ∙ (ap (λ (z : Me _ Acting). aged 3 z.0.waits) r.3 ∙ young_is_not_due r.0 c.args.seat.now.me.0.waits r.2))
