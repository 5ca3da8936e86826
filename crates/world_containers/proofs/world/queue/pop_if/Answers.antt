use Rattle.world_containers.proofs.Names.{◌≡◌, ◌∷◌, sym, subst, refl, Bool, Option, IfSome, false, true, status_at, skip, undeleted, links, slots, oldest_cell, newest_cell, leaves_more, no_first}
use Rattle.std.specs.Fn.{FnOnceReturnsAt}
use Rattle.sdd_world.specs.declared.tag.Tag.TheVariants as tag
use Rattle.sdd_world.specs.declared.status.Status.TheVariants as status
use Rattle.sdd_lists.proofs.FirstLemmas.{undeleted_skip, not_empty}
use Rattle.world_containers.proofs.world.queue.pop_if.Goals as goal

pub first_undeleted-requires : goal.first_undeleted-requires
first_undeleted-requires g c = let r = c.requires.list in record { tag = tag.None; entries = r.entries; is = r.is.hung }

pub share_oldest-requires-clause-list : goal.share_oldest-requires-clause-list
share_oldest-requires-clause-list g c = let r = c.requires.list in record { entries = r.entries; is = r.is; some = λ none. not_empty c.in-Some.entry.now (undeleted r.entries) (c.in-Some.ensures tag.None r.entries r.is.hung) none }

pub returns-in_default-clause-asked : goal.returns-in_default-clause-asked
returns-in_default-clause-asked g c = λ es q. subst (λ (o : Option _). IfSome o (λ v. FnOnceReturnsAt g.F.FnOnce c.args.f v false)) (c.in_default.ensures tag.None es q.hung) tt

pub returns-in_default-clause-kept : goal.returns-in_default-clause-kept
returns-in_default-clause-kept g c = λ no es q. record { rest = es; same = refl; left = q }

pub returns-in_default-clause-full : goal.returns-in_default-clause-full
returns-in_default-clause-full g c = λ es q. subst (λ (o : Option _). IfSome o (λ i. status_at c.args.w.now i ≡ status.Shared 4294967295)) (sym (no_first (undeleted es) (sym (c.in_default.ensures tag.None es q.hung)))) tt

pub returns-in-Some-share_oldest-clause-asked : goal.returns-in-Some-share_oldest-clause-asked
returns-in-Some-share_oldest-clause-asked g c = λ es q. subst (λ (o : Option _). IfSome o (λ v. FnOnceReturnsAt g.F.FnOnce c.args.f v false)) (c.in-Some.ensures tag.None es q.hung) (subst (λ (r : Bool). FnOnceReturnsAt g.F.FnOnce c.args.f c.in-Some.entry.now r) c.if-not-answer.true c.answer.ensures)

pub returns-in-None-clause-asked : goal.returns-in-None-clause-asked
returns-in-None-clause-asked g c = λ es q. subst (λ (o : Option _). IfSome o (λ v. FnOnceReturnsAt g.F.FnOnce c.args.f v false)) (c.in-Some.ensures tag.None es q.hung) (subst (λ (r : Bool). FnOnceReturnsAt g.F.FnOnce c.args.f c.in-Some.entry.now r) c.if-not-answer.true c.answer.ensures)

pub returns-clause-asked : goal.returns-clause-asked
returns-clause-asked g c = λ es q. subst (λ (o : Option _). IfSome o (λ v. FnOnceReturnsAt g.F.FnOnce c.args.f v true)) (c.in-Some.ensures tag.None es q.hung) (subst (λ (r : Bool). FnOnceReturnsAt g.F.FnOnce c.args.f c.in-Some.entry.now r) c.if-not-answer.false c.answer.ensures)

pub returns-in-Some-share_oldest-clause-kept : goal.returns-in-Some-share_oldest-clause-kept
returns-in-Some-share_oldest-clause-kept g c = λ no es q. record { rest = skip es; same = undeleted_skip es; left = c.share_oldest.ensures.kept es q (λ none. not_empty c.in-Some.entry.now (undeleted es) (c.in-Some.ensures tag.None es q.hung) none) }

pub returns-in-None-clause-kept : goal.returns-in-None-clause-kept
returns-in-None-clause-kept g c = λ no es q. record { rest = skip es; same = undeleted_skip es; left = c.share_oldest.ensures.kept es q (λ none. not_empty c.in-Some.entry.now (undeleted es) (c.in-Some.ensures tag.None es q.hung) none) }

pub returns-in-Some-share_oldest-clause-list : goal.returns-in-Some-share_oldest-clause-list
returns-in-Some-share_oldest-clause-list g c = let r = c.requires.list in let k = returns-in-Some-share_oldest-clause-kept g c refl r.entries r.is in record { entries = k.rest; is = k.left }

pub returns-in-None-clause-list : goal.returns-in-None-clause-list
returns-in-None-clause-list g c = let r = c.requires.list in let k = returns-in-None-clause-kept g c refl r.entries r.is in record { entries = k.rest; is = k.left }

pub returns-in-Some-share_oldest-clause-leaves : goal.returns-in-Some-share_oldest-clause-leaves
returns-in-Some-share_oldest-clause-leaves g c = λ es q. leaves_more (oldest_cell c.args.queue.now ∷ links es) (slots es) (oldest_cell c.args.queue.now ∷ newest_cell c.args.queue.now ∷ links es) (slots es) _ _ (λ j out. (out.0, out.1.1)) (λ j out. out) (c.share_oldest.ensures.leaves es q)

pub returns-in-None-clause-leaves : goal.returns-in-None-clause-leaves
returns-in-None-clause-leaves g c = λ es q. leaves_more (oldest_cell c.args.queue.now ∷ links es) (slots es) (oldest_cell c.args.queue.now ∷ newest_cell c.args.queue.now ∷ links es) (slots es) _ _ (λ j out. (out.0, out.1.1)) (λ j out. out) (c.share_oldest.ensures.leaves es q)

pub unreachable-requires : goal.unreachable-requires
unreachable-requires g c =
    let r = c.requires.list in
    not_empty c.in-Some.entry.now (undeleted r.entries) (c.in-Some.ensures tag.None r.entries r.is.hung) (c.in-None-pop.ensures.popped r.entries r.is).0

pub returns-in-Some-share_oldest-clause-spare : goal.returns-in-Some-share_oldest-clause-spare
returns-in-Some-share_oldest-clause-spare g c = λ p es q. record { rest = skip es; same = undeleted_skip es; left = c.in-Some-share_oldest.ensures.spare p es q (λ none. not_empty c.in-Some.entry.now (undeleted es) (c.in-Some.ensures tag.None es q.hung) none) }
