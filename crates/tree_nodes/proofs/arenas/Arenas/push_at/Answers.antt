use Rattle.std.proofs.Common.{◌∷◌, [], refl, sym}
use Rattle.tree_nodes.specs.Push.{LastLeafHasRoom}
use Rattle.tree_nodes.proofs.WalkLemmas.{own_there}
use Rattle.tree_nodes.proofs.PushLemmas.{open_above}
use Rattle.tree_nodes.proofs.ExtendLemmas.{IsAppended, found_open, extended_sound, extended_pairs, extended_headroom}
use Rattle.tree_nodes.proofs.arenas.Arenas.push_at.Given.{Over}
use Rattle.tree_nodes.proofs.arenas.Arenas.push_at.Goals.{In-Some, After-push}
use Rattle.tree_nodes.proofs.arenas.Arenas.push_at.Goals as goal

-- the last leaf, as it was found
abbrev found : (g : Over) (c : In-Some g) → LastLeafHasRoom c.args.self.now c.args.at
found g c = found_open c.args.self.now c.args.at c.requires.open c.in-Some.leaf.now (sym c.in-Some.ensures.value)

-- the leaf with the pair
abbrev pushed : (g : Over) (c : After-push g) → IsAppended g.K.Ord.cmp c.args.self.now c.args.at 1 ((c.args.key, c.args.val) ∷ []) c.push.new.self
pushed g c =
    let e = c.push.ensures in
    record {
      total = g.met.K.Ord.total;
      sound = c.requires.sound;
      last = found_open c.args.self.now c.args.at c.requires.open c.in-Some.leaf.now (sym c.in-Some.ensures.value);
      fore = [];
      end = (c.args.key, c.args.val);
      all = refl;
      above = c.requires.above;
      long = refl;
      pairs = e.pairs;
      rising = e.rising;
      used = e.used;
      frozen = e.frozen;
      prev = e.prev;
      next = e.next;
    }

pub unreachable-requires : goal.unreachable-requires
unreachable-requires g c = own_there g.K.Ord.cmp c.args.self.now c.requires.sound c.args.at c.requires.open.own (sym (rw c.in-None.is at c.get_mut.ensures.value))

pub push-requires-clause-room : goal.push-requires-clause-room
push-requires-clause-room g c = (found g (goal.at.push-requires-clause-room g c).In-Some).room

pub push-requires-clause-above : goal.push-requires-clause-above
push-requires-clause-above g c = open_above g.K.Ord.cmp g.met.K.Ord.total c.args.key c.args.self.now c.requires.sound c.args.at (found g (goal.at.push-requires-clause-above g c).In-Some) c.requires.above

pub returns-clause-sound : goal.returns-clause-sound
returns-clause-sound g c = extended_sound (pushed g (goal.at.returns-clause-sound g c).After-push)

pub returns-clause-done : goal.returns-clause-done
returns-clause-done g c = extended_pairs (pushed g (goal.at.returns-clause-done g c).After-push)

pub returns-clause-ascending : goal.returns-clause-ascending
returns-clause-ascending g c = extended_headroom (pushed g (goal.at.returns-clause-ascending g c).After-push)
