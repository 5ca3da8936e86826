use Rattle.std.proofs.Common.{◌<◌, IsSome, Some, refl, length, set, sym, ap, ◌∙◌, subst, arith}
use Rattle.sdd_world.specs.Passing.{slot_kept}
use Rattle.sdd_world.specs.State.{State, cell_at}
use Rattle.sdd_world.specs.Steps.{guard_opened}
use Rattle.sdd_world.specs.Tokens.{shared_cell}
use Rattle.version_views.specs.Items.{held_by}
use Rattle.std.specs.List.{slice_get}
use Rattle.std.specs.List.{All}
use Rattle.std.proofs.lemmas.List.{nil_from_length}
use Rattle.local_versions.specs.Store.{IsReader, Store, read_by, store_of}
use Rattle.version_views.proofs.OptionLemmas.{all_mapped, none_read}
use Rattle.local_versions.proofs.FreePlaceLemmas.{all_taken, stack_taken, taken_free}
use Rattle.local_versions.proofs.StoreLemmas.{opened_cell, opened_shows, opened_used, reader_free, store_opened}
use Rattle.local_versions.proofs.store.local.LocalStore.open.Goals as goal

pub new-requires : goal.new-requires
new-requires g c =
    let free = taken_free c.self.inside.readers.items c.self.inside.free c.self.invariant.1 c.in-Some.place c.pop.new.self.items c.in-Some.ensures.items in
    let inside = free.0 in
    let participants = c.self.invariant.0.participants in
    omega (arith, inside, participants)

pub unreachable-requires : goal.unreachable-requires
unreachable-requires g c =
    let free = taken_free c.self.inside.readers.items c.self.inside.free c.self.invariant.1 c.in-Some.place c.pop.new.self.items c.in-Some.ensures.items in
    let none = subst (λ x. IsReader g.K.Ord.cmp c.self.inside.world c.in-Some.place x) free.1 (c.self.invariant.0.readers c.in-Some.place) in
    let full = c.in-Err.ensures.nested.0 refl in
    absurd (omega (arith, none, full))

pub loaded-root-requires : goal.loaded-root-requires
loaded-root-requires g c =
    let free = taken_free c.self.inside.readers.items c.self.inside.free c.self.invariant.1 c.in-Some.place c.pop.new.self.items c.in-Some.ensures.items in
    let inside = free.0 in
    let participants = c.self.invariant.0.participants in
    rw c.in-Ok.ensures.opened.1 (opened_used g.K.Ord.cmp c.self.inside.world (shared_cell c.self.inside.root) c.self.inside.readers.items c.self.invariant.0 c.in-Some.place (omega (arith, inside, participants)))

pub index_mut-requires : goal.index_mut-requires
index_mut-requires g c =
    let free = taken_free c.self.inside.readers.items c.self.inside.free c.self.invariant.1 c.in-Some.place c.pop.new.self.items c.in-Some.ensures.items in
    let inside = free.0 in
    omega (arith, inside, c.self.inside.readers.ok.0)

pub unreachable-requires-in-Some-replace : goal.unreachable-requires-in-Some-replace
unreachable-requires-in-Some-replace g c =
    let free = taken_free c.self.inside.readers.items c.self.inside.free c.self.invariant.1 c.in-Some.place c.pop.new.self.items c.in-Some.ensures.items in
    reader_free g.K.Ord.cmp c.self.inside.world (shared_cell c.self.inside.root) c.self.inside.readers.items c.self.invariant.0 c.in-Some.place c.index_mut.result.now c.index_mut.ensures.value c.in-Some-replace.field-0 (none_read (read_by c.self.inside.world) c.self.inside.readers.items c.in-Some.place free.0 free.1) (sym c.replace.ensures.value ∙ c.in-Some-replace.is)

pub invariant_of-self-2 : goal.invariant_of-self-2
invariant_of-self-2 g c =
    let store = c.self.invariant.0 in
    let free = taken_free c.self.inside.readers.items c.self.inside.free c.self.invariant.1 c.in-Some.place c.pop.new.self.items c.in-Some.ensures.items in
    let inside = free.0 in
    let participants = store.participants in
    let known : c.in-Some.place < length c.self.inside.world.participants = omega (arith, inside, participants) in
    let named = ap slot_kept (sym c.loaded-root.ensures.1 ∙ ap (λ (w : State _). cell_at w (shared_cell c.self.inside.root)) c.in-Ok.ensures.opened.1 ∙ opened_cell g.K.Ord.cmp c.self.inside.world (shared_cell c.self.inside.root) c.self.inside.readers.items store c.in-Some.place known ∙ store.named) in
    rw (c.in-Ok.ensures.opened.1, c.replace.ensures.after) (store_opened g.K.Ord.cmp c.self.inside.world (shared_cell c.self.inside.root) c.self.inside.readers.items store c.in-Some.place known (record { guard = c.in-Ok.guard; root = c.loaded-root.result }) free.0 free.1 c.in-Ok.ensures.opened.0 named, stack_taken c.self.inside.readers.items c.self.inside.free c.self.invariant.1 c.in-Some.place c.pop.new.self (record { guard = c.in-Ok.guard; root = c.loaded-root.result }) c.in-Some.ensures.items (omega (arith, c.in-Some.ensures.capacity)))

pub returns-clause-opened : goal.returns-clause-opened
returns-clause-opened g c =
    let store = c.self.invariant.0 in
    let free = taken_free c.self.inside.readers.items c.self.inside.free c.self.invariant.1 c.in-Some.place c.pop.new.self.items c.in-Some.ensures.items in
    let inside = free.0 in
    let participants = store.participants in
    let known : c.in-Some.place < length c.self.inside.world.participants = omega (arith, inside, participants) in
    let named = ap slot_kept (sym c.loaded-root.ensures.1 ∙ ap (λ (w : State _). cell_at w (shared_cell c.self.inside.root)) c.in-Ok.ensures.opened.1 ∙ opened_cell g.K.Ord.cmp c.self.inside.world (shared_cell c.self.inside.root) c.self.inside.readers.items store c.in-Some.place known ∙ store.named) in
    ap (λ w. store_of w (shared_cell c.self.inside.root) (set c.self.inside.readers.items c.in-Some.place c.replace.new.dest)) c.in-Ok.ensures.opened.1
    ∙ ap (λ o. store_of (guard_opened held_by c.in-Some.place c.self.inside.world) (shared_cell c.self.inside.root) (set c.self.inside.readers.items c.in-Some.place o)) c.replace.ensures.after
    ∙ opened_shows g.K.Ord.cmp c.self.inside.world (shared_cell c.self.inside.root) c.self.inside.readers.items store c.in-Some.place known (record { guard = c.in-Ok.guard; root = c.loaded-root.result }) free.0 named
    ∙ ap (λ (x : Store _ _). record x { readers = set x.readers c.in-Some.place (Some x.present) }) c.self.view_is

pub returns-clause-free : goal.returns-clause-free
returns-clause-free g c =
    let free = taken_free c.self.inside.readers.items c.self.inside.free c.self.invariant.1 c.in-Some.place c.pop.new.self.items c.in-Some.ensures.items in
    sym (ap (λ (x : Store _ _). slice_get x.readers c.in-Some.place) c.self.view_is) ∙ none_read (read_by c.self.inside.world) c.self.inside.readers.items c.in-Some.place free.0 free.1

pub returns-in_default-clause-full : goal.returns-in_default-clause-full
returns-in_default-clause-full g c = subst (λ (x : Store _ _). All IsSome x.readers) c.self.view_is (all_mapped (read_by c.self.inside.world) c.self.inside.readers.items (all_taken c.self.inside.readers.items c.self.inside.free c.self.invariant.1 (nil_from_length c.self.inside.free.items (omega (arith, c.in_default.ensures.cases.0, c.self.inside.free.ok.0)))))
