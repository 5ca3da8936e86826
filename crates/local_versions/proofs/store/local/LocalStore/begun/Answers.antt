use Rattle.std.proofs.Common.{[], List, get_or, length, ap, ◌∙◌, subst, arith}
use Rattle.sdd_world.specs.Frame.{Frame}
use Rattle.sdd_world.specs.State.{State}
use Rattle.sdd_world.specs.Tokens.{shared_cell, shared_slot}
use Rattle.sdd_world.specs.declared.status.Cell.{Cell}
use Rattle.sdd_world.specs.declared.status.Cell.TheVariants as cell
use Rattle.local_versions.specs.Placing.{OnlyNamesCome, Places, list_planned, number_of, slots_for}
use Rattle.local_versions.specs.Store.{store_of}
use Rattle.local_versions.proofs.PublishLemmas.{first_shows, first_store, fresh_closed, fresh_rootless, fresh_settled}
use Rattle.local_versions.proofs.store.local.LocalStore.begun.Goals as goal

pub place-placed-requires : goal.place-placed-requires
place-placed-requires g c =
    (omega arith, (omega arith, (omega arith, ((rw c.in-Ok.ensures (fresh_settled g.K.Ord.cmp c.args.readers c.args.slots c.requires.size.slots_fit)), c.requires.alone.placeable c.in-Ok.world))))

pub end_unused-requires : goal.end_unused-requires
end_unused-requires g c =
    let v = c.place-placed.new.w in
    let come = subst (λ (w : State _). OnlyNamesCome w v) c.in-Ok.ensures c.in-Err-placed.ensures.refused in
    let keeps = subst (λ (w : State _). Frame w v) c.in-Ok.ensures c.place-placed.ensures.keeps in
    (omega arith, (fresh_rootless g.K.Ord.cmp c.args.readers c.args.slots v come keeps c.laws.ensures, fresh_closed g.K.Ord.cmp c.args.readers c.args.slots v come keeps))

pub unreachable-requires : goal.unreachable-requires
unreachable-requires g c =
    let cells = c.in-Ok-placed.ensures.placed.adds.cells ∙ ap (λ (w : State _). w.cells) c.in-Ok.ensures in
    let long = ap (λ (cs : List Cell). length cs) cells in
    c.in-Err-from.ensures.refused.2 0 (omega (arith, long)) (ap (λ (cs : List Cell). get_or cs 0 cell.Free) cells)

pub invariant_of-result : goal.invariant_of-result
invariant_of-result g c =
    let slot = shared_slot c.in-Ok-placed.version in
    let plan = c.args.built in
    let made = subst (λ (w : State _). Places g.K.Ord.cmp (slots_for plan) (number_of plan) (list_planned [] plan) slot w c.place-placed.new.w) c.in-Ok.ensures c.in-Ok-placed.ensures.placed in
    (rw c.free_all.ensures.readers (first_store g.K.Ord.cmp c.args.readers c.args.slots c.place-placed.new.w c.from.new.w (shared_cell c.in-Ok-from.root) slot _ _ _ made c.in-Ok-from.ensures.made.0 c.in-Ok-from.ensures.made.1 c.laws-2.ensures c.requires.size.slots_fit), c.free_all.ensures.free)

pub returns : goal.returns
returns g c =
    let slot = shared_slot c.in-Ok-placed.version in
    let plan = c.args.built in
    let made = subst (λ (w : State _). Places g.K.Ord.cmp (slots_for plan) (number_of plan) (list_planned [] plan) slot w c.place-placed.new.w) c.in-Ok.ensures c.in-Ok-placed.ensures.placed in
    ap (λ ps. store_of c.from.new.w (shared_cell c.in-Ok-from.root) ps) c.free_all.ensures.readers
    ∙ first_shows g.K.Ord.cmp c.args.readers c.args.slots c.place-placed.new.w c.from.new.w (shared_cell c.in-Ok-from.root) slot _ _ _ made c.in-Ok-from.ensures.made.0 c.in-Ok-from.ensures.made.1 c.laws-2.ensures
