use Rattle.world_containers.proofs.Names.{sym, subst, List, ◌++◌, ◌∷◌, map, State, shared_cell, Entry, Leaves, links, slots, entry_link, AreFreeCells, leaves_then}
use Rattle.world_containers.proofs.BagLemmas.{bag_row, bag_enough}
use Rattle.world_containers.proofs.RowLemmas.{out_append}
use Rattle.world_containers.proofs.BagInitLemmas.{row_empty, freed_free, freed_leaves}
use Rattle.world_containers.proofs.world.bag.retire.Goals as goal

pub clear_all-requires-clause-list : goal.clear_all-requires-clause-list
clear_all-requires-clause-list g c = bag_row g.row.ARRAY_LEN c.args.w.now _ _ _ c.requires.list.is

pub end_all-requires : goal.end_all-requires
end_all-requires g c =
    let l = c.requires.list in
    let b = l.is in
    let ts = c.args.bag.cells.items in
    row_empty entry_link c.clear_all.new.w (map shared_cell ts) (c.clear_all.ensures.cleared (l.overflow ∷ b.rows) (bag_enough g.row.ARRAY_LEN c.args.w.now ts l.primary l.overflow b) b.row)

pub returns-clause-ended : goal.returns-clause-ended
returns-clause-ended g c =
    let l = c.requires.list in
    let b = l.is in
    let ts = c.args.bag.cells.items in
    let none = row_empty entry_link c.clear_all.new.w (map shared_cell ts) (c.clear_all.ensures.cleared (l.overflow ∷ b.rows) (bag_enough g.row.ARRAY_LEN c.args.w.now ts l.primary l.overflow b) b.row) in
    subst (λ (w : State _). AreFreeCells w (map shared_cell ts)) (sym c.end_all.ensures.ended) (freed_free (map shared_cell ts) c.clear_all.new.w none)

pub returns-clause-leaves : goal.returns-clause-leaves
returns-clause-leaves g c = λ ps os b.
    let ts = c.args.bag.cells.items in
    let cs = map shared_cell ts in
    let one = subst (λ (es : List (Entry _)). Leaves (cs ++ links (os ++ es)) (slots (os ++ es)) c.args.w.now c.clear_all.new.w) b.is (c.clear_all.ensures.leaves (os ∷ b.rows) (bag_enough g.row.ARRAY_LEN c.args.w.now ts ps os b) b.row) in
    let two = subst (λ (w : State _). Leaves (cs ++ links (os ++ ps)) (slots (os ++ ps)) c.clear_all.new.w w) (sym c.end_all.ensures.ended) (freed_leaves cs (cs ++ links (os ++ ps)) (slots (os ++ ps)) c.clear_all.new.w (λ j out. (out_append j cs (links (os ++ ps)) out).0)) in
    leaves_then (cs ++ links (os ++ ps)) (slots (os ++ ps)) c.args.w.now c.clear_all.new.w c.end_all.new.w one two
