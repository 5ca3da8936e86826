use Rattle.std.proofs.Common.{◌≡◌, ◌+◌, ◌-◌, ℕ, suc, Option, Some, None, sym, ap, ◌∙◌, refl, arith, inr, subst}
use Rattle.std.specs.Prelude.{length}
use Rattle.std.specs.Option.{option_map}
use Rattle.slab.specs.Slab.{get}
use Rattle.leaf_array.specs.Cells.{Cells}
use Rattle.tree_nodes.specs.declared.node.InnerNode.{InnerNode}
use Rattle.tree_nodes.specs.Shape.{ArenaContent, way, pairs_under, leaves_under, Stands}
use Rattle.tree_nodes.specs.Chain.{leaf_links, IsLinked}
use Rattle.tree_nodes.specs.Content.{content, content_of}
use Rattle.tree_nodes.proofs.NodeLemmas.{planted}
use Rattle.tree_nodes.proofs.GrowLemmas.{IsRaised, raised, raised_pairs, raised_order, raised_way}
use Rattle.tree_nodes.proofs.arenas.Arenas.grow_root.Given.{Over}
use Rattle.tree_nodes.proofs.arenas.Arenas.grow_root.Goals.{After-insert_reserved-self}
use Rattle.tree_nodes.proofs.arenas.Arenas.grow_root.Goals as goal

module _ (g : Over) (c : After-insert_reserved-self g) where
  abbrev b : ArenaContent g.row.K.Denot g.row.V.Denot
  b = content c.args.self.now.leaves c.insert_reserved-self.new.self

  abbrev fresh : ℕ
  fresh = c.insert_reserved-self.result

  abbrev root : IsRaised g.K.Ord.cmp (content_of c.args.self.now) b c.args.self.now.height c.args.self.now.root fresh
  root =
      let a = c.args.self.now in
      let up = c.insert_reserved-self.ensures.updates in
      let node : Option (InnerNode g.row.K.Denot) → Option (Cells g.row.K.Denot ℕ × ℕ) = option_map (λ (n : InnerNode g.row.K.Denot). (n.children, n.last)) in
      record {
        stands = planted g.K.Ord.cmp g.met.K.Ord.total c.args.key.now a c.requires.sound c.requires.planted;
        absent = ap node c.insert_reserved-self.ensures.was_vacant;
        there = ap node up.changed ∙ ap (λ (d : Cells g.row.K.Denot ℕ). Some (d, a.root)) c.new.ensures;
        others = λ n d. ap node (up.others n d);
        leaves = λ n. refl;
      }

  more : c.args.self.now.height + 1 ≡ suc c.args.self.now.height
  more = omega arith

pub returns-clause-pairs : goal.returns-clause-pairs
returns-clause-pairs g c = let at = (goal.at.returns-clause-pairs g c).After-insert_reserved-self in ap (λ (n : ℕ). pairs_under (b g at) n (fresh g at)) (more g at) ∙ raised_pairs (root g at)

pub returns-clause-sound : goal.returns-clause-sound
returns-clause-sound g c =
    let at = (goal.at.returns-clause-sound g c).After-insert_reserved-self in
    record {
      stands = inr (λ e. omega (arith, e), subst (λ (n : ℕ). Stands g.K.Ord.cmp (b g at) n (fresh g at)) (sym (more g at)) (raised (root g at)));
      linked = λ h. subst (λ ns. IsLinked (leaf_links c.args.self.now.leaves) None ns None) (sym (ap (λ (n : ℕ). leaves_under (b g at) n (fresh g at)) (more g at) ∙ raised_order (root g at))) (c.requires.sound.linked c.requires.planted);
      count = c.requires.sound.count ∙ sym (ap length (returns-clause-pairs g c));
    }

pub returns-clause-leaf : goal.returns-clause-leaf
returns-clause-leaf g c = let at = (goal.at.returns-clause-leaf g c).After-insert_reserved-self in ap (λ (n : ℕ). way g.K.Ord.cmp (b g at) c.args.key.now n (fresh g at)) (more g at) ∙ raised_way (root g at) c.args.key.now

pub returns-clause-room : goal.returns-clause-room
returns-clause-room g c =
    let nodes = c.insert_reserved-self.new.self in
    let at = (goal.at.returns-clause-room g c).After-insert_reserved-self in
    let m : InnerNode g.row.K.Denot = record { children = c.new.result; last = c.args.self.now.root } in
    let none : c.args.self.now.height + 1 - (c.args.self.now.height + 1) ≡ 0 = omega arith in
    let here : get nodes (way g.K.Ord.cmp (b g at) c.args.key.now (c.args.self.now.height + 1 - (c.args.self.now.height + 1)) (fresh g at)) ≡ Some m = subst (λ (n : ℕ). get nodes (way g.K.Ord.cmp (b g at) c.args.key.now n (fresh g at)) ≡ Some m) (sym none) c.insert_reserved-self.ensures.updates.changed in
    record { node = m; there = here; room = rw c.new.ensures (omega arith) }
