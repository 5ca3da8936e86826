use Rattle.std.proofs.Common.{◌≡◌, ◌∙◌, ◌==◌, true, cond, ℕ, List, [], None, sym, refl, ap, subst, eq-eqb}
use Rattle.atomic_table.specs.Table.{Me}
use Rattle.sdd_homes.specs.declared.Garbage.{Garbage}
use Rattle.domain_table.specs.Leases.{IsAtRest}
use Rattle.domain_table.specs.Ledgers.{WaitsIn}
use Rattle.domain_table.specs.Outcomes.{HasPublished}
use Rattle.domain_table.specs.Views.{publishing, rotated, older_waits}
use Rattle.domain_table.specs.declared.board.Acting.{Acting}
use Rattle.sdd_domain.proofs.unread.reclaim_settled.Goals as goal

-- behind the publication of the count that was found, what waits is as it was
module _ {S : Type 0} (m m1 : Me S Acting) (e : ℕ) (found : m.0.known.found ≡ e) (p : HasPublished e m m1) where
  stays : rotated e m.0.known.found m.0.waits ≡ m.0.waits
  stays = ap (λ b. cond b m.0.waits (older_waits m.0.waits)) (eq-eqb e m.0.known.found (sym found))

  is : m1 ≡ (record m.0 { known = publishing e m.0.known; born = p.0; waits = m.0.waits }, m.1)
  is = p.2 ∙ λ j. (record m.0 { known = publishing e m.0.known; born = p.0; waits = stays j }, m.1)

  rests : (n : ℕ) → m.0.kind ≡ 1 → m.0.number ≡ n → m.0.releasing ≡ 0 → m.0.leases ≡ [] → m.0.filling ≡ None → IsAtRest n m1.0 × (m1.0.filling ≡ None)
  rests n kind number idle none empty = subst (λ (z : Me S Acting). IsAtRest n z.0 × (z.0.filling ≡ None)) (sym is) ((kind, number, eq-eqb e e refl, idle, none), empty)

pub reclaim_due-requires-clause-ready : goal.reclaim_due-requires-clause-ready
reclaim_due-requires-clause-ready g c = let r = c.requires.read in let q = c.requires.rest in rests c.args.seat.now.me c.publish.new.seat.me c.args.epoch r.3 c.publish.ensures.published c.args.number r.0 r.1 q.0 q.1 q.2

pub reclaim_due-requires-clause-waits : goal.reclaim_due-requires-clause-waits
reclaim_due-requires-clause-waits g c = subst (λ (z : Me _ Acting). WaitsIn c.args.place.sizes.now.slots z.0.waits c.args.bags.now) (sym (is c.args.seat.now.me c.publish.new.seat.me c.args.epoch c.requires.read.3 c.publish.ensures.published)) c.requires.waits

pub returns-clause-reclaimed : goal.returns-clause-reclaimed
returns-clause-reclaimed g c = let p = c.publish.ensures.published in let d = c.reclaim_due.ensures.reclaimed in (p.0, d.0, d.1, d.2 ∙ λ j. (record (p.2 j).0 { slot = d.0; waits = d.1 }, (p.2 j).1))
