use Rattle.std.proofs.Common.{IsSome, slice_index_or, refl, sym, subst}
use Rattle.leaf_slots.specs.declared.place.Place.TheVariants.{Empty}
use Rattle.leaf_slots.specs.Places.{live_pair}
use Rattle.leaf_slots.proofs.slots.Slots.overwrite.Goals as goal

pub overwrite-requires : goal.overwrite-requires
overwrite-requires g c = subst (λ ps. IsSome (live_pair (slice_index_or ps c.args.at Empty))) (sym c.self.view_is) c.requires

pub returns-clause-count : goal.returns-clause-count
returns-clause-count g c = refl

pub returns-clause-pair : goal.returns-clause-pair
returns-clause-pair g c = rw (← c.self.view_is) c.overwrite.ensures.pair

pub returns-clause-places : goal.returns-clause-places
returns-clause-places g c = rw (← c.self.view_is) c.overwrite.ensures.new
