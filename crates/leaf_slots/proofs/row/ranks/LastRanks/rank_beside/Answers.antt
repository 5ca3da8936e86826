use Rattle.std.proofs.Common.{arith, ◌∷◌, [], sym, ap, ◌∙◌}
use Rattle.leaf_slots.specs.Labels.{rank_in}
use Rattle.leaf_slots.specs.Places.{labels_above}
use Rattle.leaf_slots.proofs.RankLemmas.{one_label, entered_past}
use Rattle.leaf_slots.proofs.row.ranks.LastRanks.rank_beside.Goals as goal

-- behind the end of the row nothing comes in
pub returns-then-at-gt1 : goal.returns-then-at-gt1
returns-then-at-gt1 g c =
    c.rank_of.ensures
    ∙ ap (rank_in c.args.slot) (sym (entered_past c.args.low c.args.at c.args.fresh (labels_above c.args.low (c.args.self.now.head ∷ [])) (omega (arith, one_label c.args.low c.args.self.now.head, c.if-at-gt1.true))))
