use Rattle.std.proofs.Common.{◌≡◌, ◌+◌, ℕ, refl, Option, List, [], Some, length, sym, ap, ◌∙◌, subst, arith}
use Rattle.std.proofs.lemmas.Result.{IfErr-at_err}
use Rattle.sdd_world.specs.Frame.{OnlyParticipant}
use Rattle.sdd_world.specs.State.{in_use, with_cell}
use Rattle.sdd_world.specs.Steps.{released}
use Rattle.sdd_world.specs.Tokens.{loaded_slot, shared_cell, shared_slot}
use Rattle.sdd_world.proofs.CountLemmas.{owners_are_counted}
use Rattle.version_views.specs.Items.{held_by}
use Rattle.sdd_world.specs.declared.status.Cell.TheVariants as cell
use Rattle.sdd_world.specs.declared.tag.Tag.TheVariants as tag
use Rattle.local_versions.specs.Placing.{IsPlaceable, blocks_at, list_planned, slots_for}
use Rattle.local_versions.proofs.BuildingLemmas.{blocks_beside}
use Rattle.local_versions.proofs.NamedStoreLemmas.{named_shows, store_named}
use Rattle.local_versions.proofs.SharingLemmas.{same_named}
use Rattle.version_views.specs.Sizes.{room_for}
use Rattle.local_versions.specs.Store.{Store, Version, store_of}
use Rattle.version_views.specs.Writes.{after_writes}
use Rattle.local_versions.proofs.PublishLemmas.{published_shows, published_uses, still_known, still_named, still_owned, still_used, store_published, too_few}
use Rattle.local_versions.proofs.store.local.LocalStore.write.Goals as goal

pub build-requires : goal.build-requires
build-requires g c =
    let is = c.present-older.ensures.is ∙ ap (λ (x : Store _ _). x.present) c.self.view_is in
    let number = ap (λ (v : Version _ _). v.number) is in
    let last = c.requires.last in
    (omega arith, (omega arith, (c.present-older.ensures.version, (c.requires.size, (omega (arith, number, last), (c.requires.keys, c.requires.values))))))

pub place-placed-requires : goal.place-placed-requires
place-placed-requires g c =
    let store = c.self.invariant.0 in
    let there = c.present-older.ensures.there store.slot tag.None store.named in
    let planned = c.in-Ok.ensures.placeable store.slot there.0 there.1 in
    let older = same_named _ _ _ _ (sym c.kept_at-at.ensures.1 ∙ store.named) in
    let placeable = subst (λ (o : Option ℕ). IsPlaceable g.K.Ord.cmp c.self.inside.world o c.in-Ok.made.0) (sym older) planned in
    (omega arith, (omega arith, (omega arith, (c.present-older.ensures.settled, placeable))))

pub kept_at-at-requires : goal.kept_at-at-requires
kept_at-at-requires g c = (owners_are_counted held_by).cell_in_hand (shared_cell c.self.inside.root) [] c.self.inside.world c.self.invariant.0.counted

pub publish-requires : goal.publish-requires
publish-requires g c =
    let w = c.self.inside.world in
    let root = shared_cell c.self.inside.root in
    let slot = shared_slot c.in-Ok-placed.version in
    let places = c.self.inside.readers.items in
    let store = c.self.invariant.0 in
    let plan = c.in-Ok.made.0 in
    let placed = c.in-Ok-placed.ensures.placed in
    let known = still_known g.K.Ord.cmp w c.place-placed.new.w root slot _ _ _ places store placed in
    (omega arith, (omega (arith, known, c.len.ensures, c.self.inside.readers.ok.0), (still_used g.K.Ord.cmp w c.place-placed.new.w root slot _ _ _ places store placed, still_owned g.K.Ord.cmp w c.place-placed.new.w root slot _ _ _ places store placed)))

pub invariant_of-self-2 : goal.invariant_of-self-2
invariant_of-self-2 g c =
    let w = c.self.inside.world in
    let root = shared_cell c.self.inside.root in
    let slot = shared_slot c.in-Ok-placed.version in
    let places = c.self.inside.readers.items in
    let store = c.self.invariant.0 in
    let plan = c.in-Ok.made.0 in
    let placed = c.in-Ok-placed.ensures.placed in
    let long = c.len.ensures ∙ c.self.inside.readers.ok.0 in
    let now = c.publish.ensures.published (Some store.slot) tag.None (still_named g.K.Ord.cmp w c.place-placed.new.w root slot _ _ _ places store placed) ∙ ap (λ (n : ℕ). released n store.slot (with_cell root (cell.OfShared (Some slot) tag.None) c.place-placed.new.w)) long in
    (store_published g.K.Ord.cmp w c.place-placed.new.w c.publish.new.w root slot _ _ _ places store placed c.laws.ensures now c.publish.ensures.keeps (subst (λ (n : ℕ). OnlyParticipant n c.place-placed.new.w c.publish.new.w) long c.publish.ensures.only), c.self.invariant.1)

-- what is shown of the version that is published
pub returns-clause-written : goal.returns-clause-written
returns-clause-written g c =
    let w = c.self.inside.world in
    let root = shared_cell c.self.inside.root in
    let slot = shared_slot c.in-Ok-placed.version in
    let places = c.self.inside.readers.items in
    let store = c.self.invariant.0 in
    let plan = c.in-Ok.made.0 in
    let placed = c.in-Ok-placed.ensures.placed in
    let long = c.len.ensures ∙ c.self.inside.readers.ok.0 in
    let now = c.publish.ensures.published (Some store.slot) tag.None (still_named g.K.Ord.cmp w c.place-placed.new.w root slot _ _ _ places store placed) ∙ ap (λ (n : ℕ). released n store.slot (with_cell root (cell.OfShared (Some slot) tag.None) c.place-placed.new.w)) long in
    let shows = published_shows g.K.Ord.cmp w c.place-placed.new.w c.publish.new.w root slot _ _ _ places store placed c.laws.ensures now c.publish.ensures.keeps (subst (λ (n : ℕ). OnlyParticipant n c.place-placed.new.w c.publish.new.w) long c.publish.ensures.only) in
    let is = c.present-older.ensures.is ∙ ap (λ (x : Store _ _). x.present) c.self.view_is in
    let old : Store _ _ = c.args.self.now in
    let number = c.in-Ok.ensures.number ∙ ap (λ (v : Version _ _). v.number + 1) is in
    let pairs = c.in-Ok.ensures.list ∙ ap (λ (v : Version _ _). after_writes g.K.Ord.cmp c.args.writes.now v.pairs) is in
    let uses = published_uses g.K.Ord.cmp w c.place-placed.new.w c.publish.new.w root slot _ _ _ places store placed c.laws.ensures now c.publish.ensures.keeps (subst (λ (n : ℕ). OnlyParticipant n c.place-placed.new.w c.publish.new.w) long c.publish.ensures.only) in
    let before : Store _ _ = store_of w root places in
    let there = c.present-older.ensures.there store.slot tag.None store.named in
    let blocks = ap (blocks_at w) (same_named _ _ _ _ (sym c.kept_at-at.ensures.1 ∙ store.named)) ∙ blocks_beside g.K.Ord.cmp w c.present-older.result.now c.present-older.ensures.version store.slot there.1 in
    shows
    ∙ ap (λ (n : ℕ). record before { present = record { number = n; pairs = list_planned (blocks_at w (loaded_slot c.kept_at-at.result)) plan }; used = in_use w + slots_for plan }) number
    ∙ ap (λ (bs : List (List (_ × _))). record before { present = record { number = old.present.number + 1; pairs = list_planned bs plan }; used = in_use w + slots_for plan }) blocks
    ∙ ap (λ ps. record before { present = record { number = old.present.number + 1; pairs = ps }; used = in_use w + slots_for plan }) pairs
    ∙ ap (λ (n : ℕ). record before { present = record { number = old.present.number + 1; pairs = after_writes g.K.Ord.cmp c.args.writes.now old.present.pairs }; used = n }) (sym uses)
    ∙ ap (λ (x : Store _ _). record x { present = record { number = old.present.number + 1; pairs = after_writes g.K.Ord.cmp c.args.writes.now old.present.pairs }; used = in_use c.publish.new.w }) c.self.view_is

pub returns-clause-room : goal.returns-clause-room
returns-clause-room g c =
    let w = c.self.inside.world in
    let root = shared_cell c.self.inside.root in
    let slot = shared_slot c.in-Ok-placed.version in
    let places = c.self.inside.readers.items in
    let store = c.self.invariant.0 in
    let plan = c.in-Ok.made.0 in
    let placed = c.in-Ok-placed.ensures.placed in
    let long = c.len.ensures ∙ c.self.inside.readers.ok.0 in
    let now = c.publish.ensures.published (Some store.slot) tag.None (still_named g.K.Ord.cmp w c.place-placed.new.w root slot _ _ _ places store placed) ∙ ap (λ (n : ℕ). released n store.slot (with_cell root (cell.OfShared (Some slot) tag.None) c.place-placed.new.w)) long in
    let uses = published_uses g.K.Ord.cmp w c.place-placed.new.w c.publish.new.w root slot _ _ _ places store placed c.laws.ensures now c.publish.ensures.keeps (subst (λ (n : ℕ). OnlyParticipant n c.place-placed.new.w c.publish.new.w) long c.publish.ensures.only) in
    let used = ap (λ (x : Store _ _). x.used) c.self.view_is in
    let is = c.present-older.ensures.is ∙ ap (λ (x : Store _ _). x.present) c.self.view_is in
    let pairs = c.in-Ok.ensures.list ∙ ap (λ (v : Version _ _). after_writes g.K.Ord.cmp c.args.writes.now v.pairs) is in
    let there = c.present-older.ensures.there c.self.invariant.0.slot tag.None c.self.invariant.0.named in
    let blocks = blocks_beside g.K.Ord.cmp c.self.inside.world c.present-older.result.now c.present-older.ensures.version c.self.invariant.0.slot there.1 in
    let counted = (c.in-Ok.ensures.placeable c.self.invariant.0.slot there.0 there.1).planned.counted ∙ ap (λ (bs : List (List (_ × _))). length (list_planned bs plan)) blocks ∙ ap length pairs in
    let room = ap (room_for g.row.S) counted in
    let few = c.slots-slots.ensures.few in
    let count = c.slots-slots.ensures.count in
    omega (arith, uses, used, room, few, count)

pub returns-clause-few : goal.returns-clause-few
returns-clause-few g c =
    let w = c.self.inside.world in
    let root = shared_cell c.self.inside.root in
    let slot = shared_slot c.in-Ok-placed.version in
    let places = c.self.inside.readers.items in
    let store = c.self.invariant.0 in
    let plan = c.in-Ok.made.0 in
    let placed = c.in-Ok-placed.ensures.placed in
    let long = c.len.ensures ∙ c.self.inside.readers.ok.0 in
    let now = c.publish.ensures.published (Some store.slot) tag.None (still_named g.K.Ord.cmp w c.place-placed.new.w root slot _ _ _ places store placed) ∙ ap (λ (n : ℕ). released n store.slot (with_cell root (cell.OfShared (Some slot) tag.None) c.place-placed.new.w)) long in
    let uses = published_uses g.K.Ord.cmp w c.place-placed.new.w c.publish.new.w root slot _ _ _ places store placed c.laws.ensures now c.publish.ensures.keeps (subst (λ (n : ℕ). OnlyParticipant n c.place-placed.new.w c.publish.new.w) long c.publish.ensures.only) in
    let used = ap (λ (x : Store _ _). x.used) c.self.view_is in
    let few = c.in-Ok.ensures.few in
    omega (arith, uses, used, few)

-- names for groups alone came
pub invariant_of-self : goal.invariant_of-self
invariant_of-self g c = (store_named g.K.Ord.cmp c.self.inside.world c.place-placed.new.w (shared_cell c.self.inside.root) c.self.inside.readers.items c.self.invariant.0 c.in-Err-placed.ensures.refused c.place-placed.ensures.keeps c.laws.ensures, c.self.invariant.1)

pub returns-in-Err-placed-clause-refused : goal.returns-in-Err-placed-clause-refused
returns-in-Err-placed-clause-refused g c = named_shows g.K.Ord.cmp c.self.inside.world c.place-placed.new.w (shared_cell c.self.inside.root) c.self.inside.readers.items c.self.invariant.0 c.in-Err-placed.ensures.refused c.place-placed.ensures.keeps c.laws.ensures ∙ c.self.view_is

pub returns-in-Err-placed-clause-full : goal.returns-in-Err-placed-clause-full
returns-in-Err-placed-clause-full g c = λ e.
    let plan = c.in-Ok.made.0 in
    let less = too_few g.K.Ord.cmp c.self.inside.world (slots_for plan) c.self.invariant.0.plain (c.in-Err-placed.ensures.full.0 (c.why.ensures (IfErr-at_err (λ x. c.why.result ≡ x) e refl))) in
    let slots = ap (λ (x : Store _ _). x.slots) c.self.view_is in
    let used = ap (λ (x : Store _ _). x.used) c.self.view_is in
    let is = c.present-older.ensures.is ∙ ap (λ (x : Store _ _). x.present) c.self.view_is in
    let pairs = c.in-Ok.ensures.list ∙ ap (λ (v : Version _ _). after_writes g.K.Ord.cmp c.args.writes.now v.pairs) is in
    let there = c.present-older.ensures.there c.self.invariant.0.slot tag.None c.self.invariant.0.named in
    let blocks = blocks_beside g.K.Ord.cmp c.self.inside.world c.present-older.result.now c.present-older.ensures.version c.self.invariant.0.slot there.1 in
    let counted = (c.in-Ok.ensures.placeable c.self.invariant.0.slot there.0 there.1).planned.counted ∙ ap (λ (bs : List (List (_ × _))). length (list_planned bs plan)) blocks ∙ ap length pairs in
    let room = ap (room_for g.row.S) counted in
    let few = c.slots-slots.ensures.few in
    let count = c.slots-slots.ensures.count in
    omega (arith, less, slots, used, room, few, count)

pub returns-in-Err-placed-clause-short : goal.returns-in-Err-placed-clause-short
returns-in-Err-placed-clause-short g c = λ e.
    let less = too_few g.K.Ord.cmp c.self.inside.world (slots_for c.in-Ok.made.0) c.self.invariant.0.plain (c.in-Err-placed.ensures.full.0 (c.why.ensures (IfErr-at_err (λ x. c.why.result ≡ x) e refl))) in
    let slots = ap (λ (x : Store _ _). x.slots) c.self.view_is in
    let used = ap (λ (x : Store _ _). x.used) c.self.view_is in
    let few = c.in-Ok.ensures.few in
    omega (arith, less, slots, used, few)
