use Rattle.std.proofs.Common.{◌≡◌, ◌∙◌, ap, sym, subst, true, List}
use Rattle.atomic_table.specs.Table.{Me}
use Rattle.sdd_steps.specs.declared.participant.Phase.{Phase}
use Rattle.sdd_steps.specs.declared.participant.Phase.TheVariants.{Idle}
use Rattle.sdd_steps.specs.declared.participant.Participant.{Participant}
use Rattle.sdd_steps.specs.Steps.{is_ready}
use Rattle.sdd_homes.specs.declared.Garbage.{Garbage}
use Rattle.domain_table.specs.Chains.{AllBelow}
use Rattle.domain_table.specs.Bags.{IsBag}
use Rattle.domain_table.specs.Ledgers.{WaitsIn}
use Rattle.domain_table.specs.Plays.{leaving}
use Rattle.domain_table.specs.Views.{IsBare}
use Rattle.domain_table.specs.declared.board.Acting.{Acting}
use Rattle.domain_table.proofs.left.leave.Goals as goal

-- who has no guard open may act
idle_ready : (x : Participant) → x.phase ≡ Idle → is_ready x ≡ true
idle_ready x is = ap (λ (p : Phase). is_ready (record x { phase = p })) is

-- only what waits has changed, and that nothing was left before is known
module _ {S : Type 0} (m m1 m2 : Me S Acting) (ts vs : List Garbage) (one : m1 ≡ (record m.0 { waits = ts; left = 1 }, m.1)) (two : m2 ≡ (record m1.0 { waits = vs }, m1.1)) where
  second : m2 ≡ (record m.0 { waits = vs; left = 1 }, m.1)
  second = two ∙ λ j. (record (one j).0 { waits = vs }, (one j).1)

  module _ (m3 : Me S Acting) (ws : List Garbage) (three : m3 ≡ (record m2.0 { waits = ws }, m2.1)) where
    third : m3 ≡ (record m.0 { waits = ws; left = 1 }, m.1)
    third = three ∙ λ j. (record (second j).0 { waits = ws }, (second j).1)

pub take_own-before-requires-clause-ready : goal.take_own-before-requires-clause-ready
take_own-before-requires-clause-ready g c = let r = c.requires.rests in (r.0, idle_ready c.args.seat.now.me.0.known r.2, r.1)

pub take_over-requires-clause-table : goal.take_over-requires-clause-table
take_over-requires-clause-table g c = let t = c.requires.table in let o = c.take_own-before.ensures in (o.seat.0 ∙ t.0, t.1, ap (λ (m : Me _ Acting). m.0.sizes) o.taken.3 ∙ t.2, t.3, t.4)

pub take_over-requires-clause-taken : goal.take_over-requires-clause-taken
take_over-requires-clause-taken g c = let o = c.take_own-before.ensures.taken in (o.0, c.args.seat.now.me.0.waits, ap (λ (m : Me _ Acting). m.0.waits) o.3, o.1, o.2, c.requires.waits.0)

pub joined-bag-requires-clause-table : goal.joined-bag-requires-clause-table
joined-bag-requires-clause-table g c = let t = c.requires.table in let o = c.take_own-before.ensures in let w = c.take_over.ensures in let is = second c.args.seat.now.me c.take_own-before.new.seat.me c.take_over.new.seat.me _ w.waits.0 o.taken.3 w.waits.3 in
    (w.seat.0 ∙ (o.seat.0 ∙ t.0), t.1, ap (λ (m : Me _ Acting). m.0.sizes) is ∙ t.2, t.3, t.4)

pub joined-bag-requires-clause-acts : goal.joined-bag-requires-clause-acts
joined-bag-requires-clause-acts g c = let o = c.take_own-before.ensures in let w = c.take_over.ensures in ap (λ (m : Me _ Acting). m.0.kind) (second c.args.seat.now.me c.take_own-before.new.seat.me c.take_over.new.seat.me _ w.waits.0 o.taken.3 w.waits.3) ∙ c.requires.rests.0

pub joined-bag-requires-clause-waits : goal.joined-bag-requires-clause-waits
joined-bag-requires-clause-waits g c = let w = c.take_over.ensures in (subst (λ (ws : List Garbage). WaitsIn c.args.place.sizes.now.slots ws c.take_over.new.self) (sym (ap (λ (m : Me _ Acting). m.0.waits) w.waits.3)) w.waits.2, w.due ∙ c.requires.waits.1)

pub tell-requires-clause-table : goal.tell-requires-clause-table
tell-requires-clause-table g c = let t = c.requires.table in let o = c.take_own-before.ensures in let w = c.take_over.ensures in let j = c.joined-bag.ensures in
    let is = third c.args.seat.now.me c.take_own-before.new.seat.me c.take_over.new.seat.me _ w.waits.0 o.taken.3 w.waits.3 c.joined-bag.new.seat.me j.joined.0 j.joined.3 in (j.seat.0 ∙ (w.seat.0 ∙ (o.seat.0 ∙ t.0)), t.1, ap (λ (m : Me _ Acting). m.0.sizes) is ∙ t.2, t.3, t.4, t.5)

pub tell-requires-clause-rests : goal.tell-requires-clause-rests
tell-requires-clause-rests g c = let r = c.requires.rests in let o = c.take_own-before.ensures in let w = c.take_over.ensures in let j = c.joined-bag.ensures in
    let is = third c.args.seat.now.me c.take_own-before.new.seat.me c.take_over.new.seat.me _ w.waits.0 o.taken.3 w.waits.3 c.joined-bag.new.seat.me j.joined.0 j.joined.3 in
    subst (λ (m : Me _ Acting). (m.0.kind ≡ 1) × (m.0.number ≡ c.args.number) × (m.0.known.phase ≡ Idle) × (m.0.scan ≡ 0) × IsBare m.0) (sym is) (r.0, r.1, r.2, r.3, r.4)

pub tell-requires-clause-known : goal.tell-requires-clause-known
tell-requires-clause-known g c = let o = c.take_own-before.ensures in let w = c.take_over.ensures in let j = c.joined-bag.ensures in
    ap (λ (m : Me _ Acting). m.0.left) (third c.args.seat.now.me c.take_own-before.new.seat.me c.take_over.new.seat.me _ w.waits.0 o.taken.3 w.waits.3 c.joined-bag.new.seat.me j.joined.0 j.joined.3)

pub tell-requires-clause-bag : goal.tell-requires-clause-bag
tell-requires-clause-bag g c = let j = c.joined-bag.ensures.joined in subst (λ (ws : List Garbage). IsBag ws c.joined-bag.result × AllBelow c.args.place.sizes.now.slots ws) (sym (ap (λ (m : Me _ Acting). m.0.waits) j.3)) (j.1, j.2)

pub returns : goal.returns
returns g c = let o = c.take_own-before.ensures in let w = c.take_over.ensures in let j = c.joined-bag.ensures in let e = c.tell.ensures in
    let is = third c.args.seat.now.me c.take_own-before.new.seat.me c.take_over.new.seat.me _ w.waits.0 o.taken.3 w.waits.3 c.joined-bag.new.seat.me j.joined.0 j.joined.3 in
    (e.0 ∙ (j.seat.0 ∙ (w.seat.0 ∙ o.seat.0)), e.1 ∙ (j.seat.1 ∙ (w.seat.1 ∙ o.seat.1)), e.2 ∙ λ i. (leaving (is i).0, (is i).1))
