use Rattle.world_containers.proofs.Names.{◌∙◌, subst, Bool, link_cell, shared_cell, BeginsWithItem}
use Rattle.world_containers.proofs.FromIterLemmas.{copies_gone, copies_kept, cant_copy}
use Rattle.world_containers.proofs.world.copies.first.Goals as goal

pub returns-then-front-clause-first : goal.returns-then-front-clause-first
returns-then-front-clause-first g c = λ t es h.
    let f = c.in-Some.front in
    copies_gone es f.item.now (link_cell c.of-link.result) (shared_cell f.link.now) c.of-link.ensures (subst (λ (b : Bool). BeginsWithItem es f.item.now (shared_cell f.link.now) b) c.if-front.true (c.in-Some.ensures.some t es h))

pub returns-clause-first : goal.returns-clause-first
returns-clause-first g c = λ t es h.
    let f = c.in-Some.front in
    copies_kept es f.item.now (link_cell c.of-link.result) (shared_cell f.link.now) c.of-link.ensures c.in-Ok.value (subst (λ (b : Bool). BeginsWithItem es f.item.now (shared_cell f.link.now) b) c.if-front.false (c.in-Some.ensures.some t es h)) (c.requires.clones c.as_ref.result.now c.in-Ok.value c.in-Ok.ensures.cases ∙ c.as_ref.ensures)

pub returns-in_default-clone-clause-refused : goal.returns-in_default-clone-clause-refused
returns-in_default-clone-clause-refused g c = λ t es h.
    let f = c.in-Some.front in
    cant_copy es f.item.now (link_cell c.of-link.result) (shared_cell f.link.now) c.of-link.ensures g.T.Clone.is_infallible (subst (λ (b : Bool). BeginsWithItem es f.item.now (shared_cell f.link.now) b) c.if-front.false (c.in-Some.ensures.some t es h)) (subst (λ (x : _). ¬ g.T.Clone.is_infallible x) c.as_ref.ensures c.in_default-clone.ensures.cases)
