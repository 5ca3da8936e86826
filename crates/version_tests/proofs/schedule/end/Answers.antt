use Rattle.std.proofs.Common.{ℕ, []}
use Rattle.sdd_world.specs.Counting.{OwnersAreCounted}
use Rattle.sdd_world.specs.Tokens.{shared_cell}
use Rattle.sdd_world.proofs.CountLemmas.{owners_are_counted}
use Rattle.version_views.specs.Items.{held_by}
use Rattle.version_views.specs.declared.item.Item.{Item}
use Rattle.version_tests.proofs.schedule.end.Goals as goal

pub retire-requires-clause-cell : goal.retire-requires-clause-cell
retire-requires-clause-cell g c =
    let owners : OwnersAreCounted {T = Item ℕ ℕ 2} held_by = owners_are_counted held_by in
    owners.cell_in_hand (shared_cell c.args.root) [] c.args.w c.requires.counted
