use Rattle.leaf_array.proofs.SoundLemmas.{live_at_key, sound_overwrite}
use Rattle.leaf_array.proofs.array.Array.overwrite.Goals as goal

pub overwrite-requires : goal.overwrite-requires
overwrite-requires g c =
    live_at_key g.K.Ord.cmp g.met.K.Ord.total c.args.key c.self.inside.slots c.self.inside.len c.self.inside.used c.args.at c.self.invariant
    (rw (← c.self.view_is) at c.requires.place) (rw (← c.self.view_is) at c.requires.there)

pub invariant_of-self : goal.invariant_of-self
invariant_of-self g c =
    (sound_overwrite g.K.Ord.cmp g.met.K.Ord.total c.args.key c.args.val c.self.inside.slots c.overwrite.new.self c.self.inside.len c.self.inside.used c.args.at c.self.invariant
    (rw (← c.self.view_is) at c.requires.place) (rw (← c.self.view_is) at c.requires.there) c.overwrite.ensures.count c.overwrite.ensures.places).0

pub returns : goal.returns
returns g c =
    rw (← c.self.view_is) ((sound_overwrite g.K.Ord.cmp g.met.K.Ord.total c.args.key c.args.val c.self.inside.slots c.overwrite.new.self c.self.inside.len c.self.inside.used c.args.at c.self.invariant
    (rw (← c.self.view_is) at c.requires.place) (rw (← c.self.view_is) at c.requires.there) c.overwrite.ensures.count c.overwrite.ensures.places).1 c.self.inside.frozen c.self.inside.retired)
