use Rattle.world_containers.proofs.Names.{◌++◌, ◌∙◌, refl, false≢true}
use Rattle.world_containers.proofs.BagLemmas.{some_cell}
use Rattle.world_containers.proofs.RowLemmas.{numbered}
use Rattle.world_containers.proofs.MutableIterationLemmas.{found_shut, walk_begins}
use Rattle.world_containers.proofs.world.iter_mut.WorldLinkedEntryBagPlace.iter_mut.Goals as goal

pub returns : goal.returns
returns g c =
    let w = c.args.self.now in
    let ts = c.args.bag.now.cells.items in
    let lt = some_cell g.row.ARRAY_LEN w ts c.requires in
    let at = c.of-at.ensures ∙ numbered ts 0 c.index.result.now lt c.index.ensures in
    let quiet = c.if-has_open_guard.ensures.none refl in
    let b = c.requires in (
      (refl, (λ v. refl), tt),
      record {
        refused = tt;
        «open» = (λ e. absurd (false≢true e), λ o. absurd (found_shut w quiet o.0 o.1));
        same = refl;
        place = refl;
        bag = refl;
        starts = λ ps os k. walk_begins w g.row.ARRAY_LEN _ ts ps os lt at quiet k;
        left = record { entries = b.overflow ++ b.primary; is = walk_begins w g.row.ARRAY_LEN _ ts b.primary b.overflow lt at quiet b.is };
      },
    )
