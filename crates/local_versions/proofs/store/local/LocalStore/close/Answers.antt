use Rattle.std.proofs.Common.{ℕ, None, set, sym, ap, ◌∙◌, subst, arith}
use Rattle.sdd_world.specs.Place.{IsOpen}
use Rattle.sdd_world.specs.Steps.{guard_closed}
use Rattle.sdd_world.specs.Tokens.{shared_cell}
use Rattle.sdd_world.proofs.SlotLemmas.{stack_room}
use Rattle.local_versions.specs.Store.{Store, gap, store_of}
use Rattle.local_versions.proofs.FreePlaceLemmas.{gap-one, stack_given}
use Rattle.local_versions.proofs.StoreLemmas.{closed_shows, reader_at, reader_there, store_closed}
use Rattle.local_versions.proofs.store.local.LocalStore.close.Goals as goal

pub close-requires-clause-participant : goal.close-requires-clause-participant
close-requires-clause-participant g c =
    let shown = ap (λ (x : Store _ _). x.readers) c.self.view_is in
    let r = reader_at g.K.Ord.cmp c.self.inside.world (shared_cell c.self.inside.root) c.self.inside.readers.items c.self.invariant.0 c.args.place c.index_mut.result.now c.index_mut.ensures.value c.requires.0 c.in-Some.field-0 (rw (← shown) at c.requires.1) (sym c.replace.ensures.value ∙ c.in-Some.is) in
    let inside = r.inside in
    let guard = r.reads.guard in
    let participants = c.self.invariant.0.participants in
    omega (arith, inside, guard, participants)

pub close-requires-clause-open : goal.close-requires-clause-open
close-requires-clause-open g c =
    let shown = ap (λ (x : Store _ _). x.readers) c.self.view_is in
    let r = reader_at g.K.Ord.cmp c.self.inside.world (shared_cell c.self.inside.root) c.self.inside.readers.items c.self.invariant.0 c.args.place c.index_mut.result.now c.index_mut.ensures.value c.requires.0 c.in-Some.field-0 (rw (← shown) at c.requires.1) (sym c.replace.ensures.value ∙ c.in-Some.is) in
    let once = r.reads.once in
    subst (λ (n : ℕ). IsOpen c.self.inside.world n) (sym r.reads.guard) (omega (arith, once))

pub invariant_of-self : goal.invariant_of-self
invariant_of-self g c =
    let shown = ap (λ (x : Store _ _). x.readers) c.self.view_is in
    let r = reader_at g.K.Ord.cmp c.self.inside.world (shared_cell c.self.inside.root) c.self.inside.readers.items c.self.invariant.0 c.args.place c.index_mut.result.now c.index_mut.ensures.value c.requires.0 c.in-Some.field-0 (rw (← shown) at c.requires.1) (sym c.replace.ensures.value ∙ c.in-Some.is) in
    let inside = r.inside in
    let participants = c.self.invariant.0.participants in
    let now = c.close.ensures.closed ∙ ap (λ (n : ℕ). guard_closed n c.self.inside.world) r.reads.guard in
    rw (now, c.replace.ensures.after) (store_closed g.K.Ord.cmp c.self.inside.world (shared_cell c.self.inside.root) c.self.inside.readers.items c.self.invariant.0 c.args.place (omega (arith, inside, participants)) c.in-Some.field-0 r.inside r.at, stack_given c.self.inside.readers.items c.self.inside.free c.self.invariant.1 c.args.place c.push_reserved.new.self c.in-Some.field-0 r.inside r.at c.push_reserved.ensures.items (omega (arith, c.push_reserved.ensures.capacity)))

pub push_reserved-requires : goal.push_reserved-requires
push_reserved-requires g c =
    let shown = ap (λ (x : Store _ _). x.readers) c.self.view_is in
    let r = reader_at g.K.Ord.cmp c.self.inside.world (shared_cell c.self.inside.root) c.self.inside.readers.items c.self.invariant.0 c.args.place c.index_mut.result.now c.index_mut.ensures.value c.requires.0 c.in-Some.field-0 (rw (← shown) at c.requires.1) (sym c.replace.ensures.value ∙ c.in-Some.is) in
    stack_room gap gap-one c.self.inside.readers.items c.args.place None c.self.inside.free c.self.invariant.1 r.inside (ap gap r.at)

pub unreachable-requires : goal.unreachable-requires
unreachable-requires g c =
    let shown = ap (λ (x : Store _ _). x.readers) c.self.view_is in
    reader_there g.K.Ord.cmp c.self.inside.world (shared_cell c.self.inside.root) c.self.inside.readers.items c.self.invariant.0 c.args.place c.index_mut.result.now c.index_mut.ensures.value c.requires.0 (rw (← shown) at c.requires.1) (sym c.replace.ensures.value ∙ c.in-None.is)

pub returns : goal.returns
returns g c =
    let shown = ap (λ (x : Store _ _). x.readers) c.self.view_is in
    let r = reader_at g.K.Ord.cmp c.self.inside.world (shared_cell c.self.inside.root) c.self.inside.readers.items c.self.invariant.0 c.args.place c.index_mut.result.now c.index_mut.ensures.value c.requires.0 c.in-Some.field-0 (rw (← shown) at c.requires.1) (sym c.replace.ensures.value ∙ c.in-Some.is) in
    let inside = r.inside in
    let participants = c.self.invariant.0.participants in
    let now = c.close.ensures.closed ∙ ap (λ (n : ℕ). guard_closed n c.self.inside.world) r.reads.guard in
    ap (λ w. store_of w (shared_cell c.self.inside.root) (set c.self.inside.readers.items c.args.place c.replace.new.dest)) now
    ∙ ap (λ o. store_of (guard_closed c.args.place c.self.inside.world) (shared_cell c.self.inside.root) (set c.self.inside.readers.items c.args.place o)) c.replace.ensures.after
    ∙ closed_shows g.K.Ord.cmp c.self.inside.world (shared_cell c.self.inside.root) c.self.inside.readers.items c.self.invariant.0 c.args.place (omega (arith, inside, participants)) inside
    ∙ ap (λ (x : Store _ _). record x { readers = set x.readers c.args.place None }) c.self.view_is
