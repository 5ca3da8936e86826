use Rattle.std.proofs.Common.{◌≡◌, ◌∙◌, sym, subst, ℕ, Option, Some, IfSome}
use Rattle.sdd_world.specs.State.{value_at}
use Rattle.sdd_world.specs.Tokens.{shared_cell}
use Rattle.sdd_lists.specs.Chain.{IsList, skip}
use Rattle.sdd_lists.proofs.ChainLemmas.{some_same}
use Rattle.sdd_lists.proofs.NodeLemmas.{node_item}
use Rattle.sdd_lists.proofs.world.linked_list.next_link.Goals as goal

pub returns : goal.returns
returns g c = λ e es n h.
    let item = node_item g.L.LinkedList.link c.args.w.now _ e c.in-Some.item.now n (λ i is. subst (λ (o : Option ℕ). IfSome o (λ j. Some c.in-Some.item.now ≡ value_at c.args.w.now j)) is c.in-Some.ensures.item) in
    let at = some_same e.link (shared_cell c.link_ref.result.now) (sym item ∙ c.link_ref.ensures) in
    let k = c.skip_from.ensures e.tag es (subst (λ (d : ℕ). IsList g.L.LinkedList.link c.args.w.now d e.tag es) at h) in
    (k.0, subst (λ (d : ℕ). IsList g.L.LinkedList.link c.args.w.now d k.0 (skip es)) (sym c.of.ensures) k.1, k.2)
