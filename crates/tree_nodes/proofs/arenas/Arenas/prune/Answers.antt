use Rattle.std.proofs.Common.{◌++◌, sym, ap, ◌∙◌}
use Rattle.tree_nodes.proofs.arenas.Arenas.prune.Goals as goal

pub returns-in-Some-clause-pairs : goal.returns-in-Some-clause-pairs
returns-in-Some-clause-pairs g c =
    let w = c.release.ensures.without in
    w.now ∙ sym (w.was ∙ ap (λ ps. w.front ++ (ps ++ w.back)) c.requires.empty)
