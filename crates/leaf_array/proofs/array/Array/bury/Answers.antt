use Rattle.leaf_array.proofs.SoundLemmas.{top_behind, sound_bury}
use Rattle.leaf_array.proofs.array.Array.bury.Goals as goal

pub bury-requires-clause-rank : goal.bury-requires-clause-rank
bury-requires-clause-rank g c = top_behind g.K.Ord.cmp c.self.inside.slots c.self.inside.len c.self.inside.used c.args.at c.self.invariant (rw (← c.self.view_is) at c.requires)

pub invariant_of-self : goal.invariant_of-self
invariant_of-self g c =
    (sound_bury g.K.Ord.cmp c.self.inside.slots c.bury.new.self c.self.inside.len c.self.inside.used c.args.at c.self.invariant (rw (← c.self.view_is) at c.requires) c.bury.ensures.count c.bury.ensures.places).0

pub returns : goal.returns
returns g c =
    rw (← c.self.view_is)
    ((sound_bury g.K.Ord.cmp c.self.inside.slots c.bury.new.self c.self.inside.len c.self.inside.used c.args.at c.self.invariant (rw (← c.self.view_is) at c.requires) c.bury.ensures.count c.bury.ensures.places).1
    c.self.inside.frozen c.self.inside.retired _ c.retires-self-inside.ensures)
