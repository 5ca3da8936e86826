use Rattle.world_containers.proofs.Names.{◌∙◌, sym, shared_cell, entry_link, skip, head_cell, kept_same, kept_tag, skipped_first}
use Rattle.sdd_world.specs.declared.tag.Tag.TheVariants as tag
use Rattle.sdd_lists.proofs.NodeLemmas.{hung_node, hung_listed}
use Rattle.world_containers.proofs.world.queue.peek.Goals as goal

pub load-requires-after_bounds : goal.load-requires-after_bounds
load-requires-after_bounds g c = λ _ _. let r = c.skip_from.ensures tag.None c.requires.entries c.requires.is.hung in head_cell entry_link c.args.w.now (shared_cell c.skip_from.result.now) r.0 (skip c.requires.entries) r.1

pub returns-clause-first : goal.returns-clause-first
returns-clause-first g c = λ es q. let h = q.hung in
    let r = c.skip_from.ensures tag.None es h in
    kept_same _ _ _ _ (sym c.load.ensures ∙ skipped_first entry_link c.args.w.now (shared_cell c.skip_from.result.now) r.0 es r.1)

pub returns-clause-node : goal.returns-clause-node
returns-clause-node g c = let r = c.skip_from.ensures tag.None c.requires.entries c.requires.is.hung in hung_node entry_link c.args.w.now (shared_cell c.skip_from.result.now) r.0 _ (skip c.requires.entries) r.1 _ c.load.ensures

pub returns-clause-listed : goal.returns-clause-listed
returns-clause-listed g c = let r = c.skip_from.ensures tag.None c.requires.entries c.requires.is.hung in hung_listed entry_link c.args.w.now (shared_cell c.skip_from.result.now) r.0 _ (skip c.requires.entries) r.1 _ c.load.ensures

pub returns-clause-tag : goal.returns-clause-tag
returns-clause-tag g c = λ es q.
    let r = c.skip_from.ensures tag.None es q.hung in
    kept_tag _ _ _ _ (sym c.load.ensures ∙ skipped_first entry_link c.args.w.now (shared_cell c.skip_from.result.now) r.0 es r.1) ∙ r.2
