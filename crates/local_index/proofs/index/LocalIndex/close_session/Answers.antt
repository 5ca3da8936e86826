use Rattle.std.proofs.Common.{ap, lit<, subst}
use Rattle.local_index.specs.State.{State, Closes}
use Rattle.local_index.proofs.PlaceLemmas.{others_keep}
use Rattle.local_index.proofs.index.LocalIndex.close_session.Goals as goal

pub close_place-requires : goal.close_place-requires
close_place-requires g c = rw (c.into_parts-place.ensures.place, c.into_parts-place.ensures.receipt) (lit< tt, c.requires)

pub returns-clause-closes : goal.returns-clause-closes
returns-clause-closes g c = subst (λ p. Closes c.args.self.now p c.close_place.new.self) c.into_parts-place.ensures.place c.close_place.ensures

pub returns-clause-others : goal.returns-clause-others
returns-clause-others g c = λ place version other h. others_keep _ _ _ _ (ap (λ (x : State _ _). x.places) (returns-clause-closes g c)) place version other h
