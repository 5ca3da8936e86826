use Rattle.world_containers.proofs.Names.{◌≡◌, ◌∙◌, ◌+◌, arith, sym, ap, subst, Bool, Option, IfSome, false, true, status_at, skip, undeleted, first_item, shared_slot, entry_link, stack_cell, more_shared, spare_owner, first_skipped, first_use, no_first}
use Rattle.std.specs.Fn.{FnOnceReturnsAt}
use Rattle.sdd_world.specs.declared.tag.Tag.TheVariants as tag
use Rattle.sdd_world.specs.declared.status.Status.TheVariants as status
use Rattle.sdd_lists.proofs.FirstLemmas.{undeleted_skip, not_empty, skipped_leaves}
use Rattle.world_containers.proofs.world.stack.pop_if.Goals as goal

pub first_undeleted-requires : goal.first_undeleted-requires
first_undeleted-requires g c = let r = c.requires.list in record { tag = tag.None; entries = skip r.entries; is = c.skip_deleted.ensures.skipped tag.None r.entries r.is }

pub share_first-requires : goal.share_first-requires
share_first-requires g c = let r = c.requires.list in record { tag = tag.None; entries = skip r.entries; is = c.skip_deleted.ensures.skipped tag.None r.entries r.is }

pub pop-requires-clause-list : goal.pop-requires-clause-list
pop-requires-clause-list g c = let r = c.requires.list in record { entries = skip r.entries; is = c.skip_deleted.ensures.skipped tag.None r.entries r.is }

pub returns-in_default-clause-asked : goal.returns-in_default-clause-asked
returns-in_default-clause-asked g c = λ es h.
    let item = c.in_default.ensures tag.None (skip es) (c.skip_deleted.ensures.skipped tag.None es h) ∙ ap first_item (undeleted_skip es) in
    subst (λ (o : Option _). IfSome o (λ v. FnOnceReturnsAt g.F.FnOnce c.args.f v false)) item tt

pub returns-in_default-clause-kept : goal.returns-in_default-clause-kept
returns-in_default-clause-kept g c = λ no es h. c.skip_deleted.ensures.skipped tag.None es h

pub returns-in-Some-share_first-clause-asked : goal.returns-in-Some-share_first-clause-asked
returns-in-Some-share_first-clause-asked g c = λ es h.
    let item = c.in-Some.ensures tag.None (skip es) (c.skip_deleted.ensures.skipped tag.None es h) ∙ ap first_item (undeleted_skip es) in
    subst (λ (o : Option _). IfSome o (λ v. FnOnceReturnsAt g.F.FnOnce c.args.f v false)) item (subst (λ (r : Bool). FnOnceReturnsAt g.F.FnOnce c.args.f c.in-Some.entry.now r) c.if-not-answer.true c.answer.ensures)

pub returns-in-None-clause-asked : goal.returns-in-None-clause-asked
returns-in-None-clause-asked g c = λ es h.
    let item = c.in-Some.ensures tag.None (skip es) (c.skip_deleted.ensures.skipped tag.None es h) ∙ ap first_item (undeleted_skip es) in
    subst (λ (o : Option _). IfSome o (λ v. FnOnceReturnsAt g.F.FnOnce c.args.f v false)) item (subst (λ (r : Bool). FnOnceReturnsAt g.F.FnOnce c.args.f c.in-Some.entry.now r) c.if-not-answer.true c.answer.ensures)

pub returns-clause-asked : goal.returns-clause-asked
returns-clause-asked g c = λ es h.
    let item = c.in-Some.ensures tag.None (skip es) (c.skip_deleted.ensures.skipped tag.None es h) ∙ ap first_item (undeleted_skip es) in
    subst (λ (o : Option _). IfSome o (λ v. FnOnceReturnsAt g.F.FnOnce c.args.f v true)) item (subst (λ (r : Bool). FnOnceReturnsAt g.F.FnOnce c.args.f c.in-Some.entry.now r) c.if-not-answer.false c.answer.ensures)

pub returns-in-Some-share_first-clause-kept : goal.returns-in-Some-share_first-clause-kept
returns-in-Some-share_first-clause-kept g c = λ no es h. c.share_first.ensures.hung tag.None (skip es) (c.skip_deleted.ensures.skipped tag.None es h)

pub returns-in-None-clause-kept : goal.returns-in-None-clause-kept
returns-in-None-clause-kept g c = λ no es h. c.share_first.ensures.hung tag.None (skip es) (c.skip_deleted.ensures.skipped tag.None es h)

pub returns-in-Some-share_first-clause-refused : goal.returns-in-Some-share_first-clause-refused
returns-in-Some-share_first-clause-refused g c = λ es h. c.in-Some-share_first.ensures.some tag.None (skip es) (c.skip_deleted.ensures.skipped tag.None es h) ∙ first_skipped es

pub unreachable-requires : goal.unreachable-requires
unreachable-requires g c =
    let r = c.requires.list in
    let h = c.skip_deleted.ensures.skipped tag.None r.entries r.is in
    not_empty c.in-Some.entry.now (undeleted (skip r.entries)) (c.in-Some.ensures tag.None (skip r.entries) h) (c.in-None-pop.ensures.popped (skip r.entries) h).0

pub returns-clause-popped : goal.returns-clause-popped
returns-clause-popped g c = λ es h.
    let p = c.in-Some-pop.ensures.popped (skip es) (c.skip_deleted.ensures.skipped tag.None es h) in
    record { entry = p.entry; rest = p.rest; is = sym (undeleted_skip es) ∙ p.is; at = p.at; left = p.left; apart = p.apart; gone = p.gone }

pub returns-in_default-clause-list : goal.returns-in_default-clause-list
returns-in_default-clause-list g c = let r = c.requires.list in record { entries = skip r.entries; is = c.skip_deleted.ensures.skipped tag.None r.entries r.is }

pub returns-in-Some-share_first-clause-list : goal.returns-in-Some-share_first-clause-list
returns-in-Some-share_first-clause-list g c = let r = c.requires.list in record { entries = skip r.entries; is = c.share_first.ensures.hung tag.None (skip r.entries) (c.skip_deleted.ensures.skipped tag.None r.entries r.is) }

pub returns-in-None-clause-list : goal.returns-in-None-clause-list
returns-in-None-clause-list g c = let r = c.requires.list in record { entries = skip r.entries; is = c.share_first.ensures.hung tag.None (skip r.entries) (c.skip_deleted.ensures.skipped tag.None r.entries r.is) }

pub returns-in_default-clause-leaves : goal.returns-in_default-clause-leaves
returns-in_default-clause-leaves g c = λ es h. c.skip_deleted.ensures.leaves tag.None es h

pub returns-in-Some-share_first-clause-leaves : goal.returns-in-Some-share_first-clause-leaves
returns-in-Some-share_first-clause-leaves g c = λ es h. skipped_leaves _ _ _ (stack_cell c.args.stack.now) es (c.skip_deleted.ensures.leaves tag.None es h) (c.share_first.ensures.leaves tag.None (skip es) (c.skip_deleted.ensures.skipped tag.None es h))

pub returns-in-None-clause-leaves : goal.returns-in-None-clause-leaves
returns-in-None-clause-leaves g c = λ es h. skipped_leaves _ _ _ (stack_cell c.args.stack.now) es (c.skip_deleted.ensures.leaves tag.None es h) (c.share_first.ensures.leaves tag.None (skip es) (c.skip_deleted.ensures.skipped tag.None es h))

pub returns-clause-leaves : goal.returns-clause-leaves
returns-clause-leaves g c = λ es h. skipped_leaves _ _ _ (stack_cell c.args.stack.now) es (c.skip_deleted.ensures.leaves tag.None es h) (c.in-Some-pop.ensures.leaves (skip es) (c.skip_deleted.ensures.skipped tag.None es h))

pub returns-in_default-clause-full : goal.returns-in_default-clause-full
returns-in_default-clause-full g c = λ es h.
    let item = c.in_default.ensures tag.None (skip es) (c.skip_deleted.ensures.skipped tag.None es h) ∙ ap first_item (undeleted_skip es) in
    subst (λ (o : Option _). IfSome o (λ i. status_at c.args.w.now i ≡ status.Shared 4294967295)) (sym (no_first (undeleted es) (sym item))) tt

pub returns-in-None-clause-full : goal.returns-in-None-clause-full
returns-in-None-clause-full g c = λ es h.
    first_use 4294967295 es c.args.w.now c.skip_deleted.new.w (c.skip_deleted.ensures.same tag.None es h) (c.in-None.ensures.none tag.None (skip es) (c.skip_deleted.ensures.skipped tag.None es h))

pub returns-in-Some-share_first-clause-owner : goal.returns-in-Some-share_first-clause-owner
returns-in-Some-share_first-clause-owner g c = more_shared c.skip_deleted.new.w c.share_first.new.w (shared_slot c.in-Some-share_first.owner) c.in-Some-share_first.ensures.more

pub returns-in-Some-share_first-clause-spare : goal.returns-in-Some-share_first-clause-spare
returns-in-Some-share_first-clause-spare g c = λ p es h.
    let m = c.in-Some-share_first.ensures.more in
    spare_owner entry_link p (shared_slot c.in-Some-share_first.owner) (m.owners + 1) (stack_cell c.args.stack.now) tag.None (skip es) c.share_first.new.w m.now (let some = m.had in omega (arith, some)) (c.share_first.ensures.hung tag.None (skip es) (c.skip_deleted.ensures.skipped tag.None es h))
