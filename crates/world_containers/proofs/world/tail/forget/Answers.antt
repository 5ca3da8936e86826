use Rattle.world_containers.proofs.Names.{◌≡◌, ◌∙◌, ap, sym, subst, Option, ℕ, State, released, IsShared, shared_cell, cell_vacated, stays_then, shared_write, stays_released}
use Rattle.sdd_world.specs.declared.tag.Tag.TheVariants as tag
use Rattle.sdd_world.specs.declared.status.Cell.TheVariants as cell
use Rattle.world_containers.proofs.world.tail.forget.Goals as goal

pub release-requires-clause-live : goal.release-requires-clause-live
release-requires-clause-live g c =
    let n = c.requires.newest in
    let k = c.in-Some.ensures.took n.0 tag.None n.1 in
    subst (λ (v : State _). IsShared v c.in-Some.last.slot) (sym k.1) (shared_write c.args.w.now (shared_cell c.args.newest.now) c.in-Some.last.slot _ (c.requires.last c.in-Some.last.slot (n.1 ∙ ap (λ (o : Option ℕ). cell.OfShared o tag.None) (sym k.0))))

pub returns-in-Some-clause-forgot : goal.returns-in-Some-clause-forgot
returns-in-Some-clause-forgot g c = λ o h.
    let k = c.in-Some.ensures.took o tag.None h in
    subst (λ (r : Option ℕ). c.release.new.w ≡ cell_vacated c.args.p (shared_cell c.args.newest.now) r c.args.w.now) k.0 (c.release.ensures.released ∙ ap (λ (v : State _). released c.args.p c.in-Some.last.slot v) k.1)

pub returns-in-Some-clause-stays : goal.returns-in-Some-clause-stays
returns-in-Some-clause-stays g c = stays_then _ _ _ c.in-Some.ensures.stays (stays_released c.args.p c.in-Some.last.slot _ _ c.release.ensures.released c.release.ensures.keeps c.release.ensures.nests)
