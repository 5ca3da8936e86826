use Rattle.std.proofs.Common.{◌≡◌, ℕ, ◌+◌, [], ◌∷◌, ◌++◌, length, sym, ap, ◌∙◌, subst, arith}
use Rattle.slab.specs.Slab.{with_value}
use Rattle.leaf_array.specs.Cells.{lesser}
use Rattle.leaf_array.specs.Pairs.{IsAscending}
use Rattle.tree_nodes.specs.Content.{pairs_of}
use Rattle.tree_nodes.specs.declared.node.InnerNode.{InnerNode}
use Rattle.tree_nodes.proofs.WayLemmas.{some_same}
use Rattle.tree_nodes.proofs.ExtendLemmas.{back_rising, run_length}
use Rattle.tree_nodes.proofs.AppendLemmas.{HasMore, above_separators, done_more}
use Rattle.tree_nodes.proofs.arenas.Arenas.append.Given.{Over}
use Rattle.tree_nodes.proofs.arenas.Arenas.append.Goals.{In-Some, After-append}
use Rattle.tree_nodes.proofs.arenas.Arenas.append.Goals as goal

-- the root that was found
root : (g : Over) (c : In-Some g) → c.requires.last.root ≡ c.in-Some.root.now
root g c = some_same (sym c.requires.last.root_there ∙ sym c.in-Some.ensures.value)

-- the run in a leaf of its own
module _ (g : Over) (c : After-append g) where
  long : length c.in_ok-fresh.ensures.leaf.array.pairs ≡ c.args.count
  long = ap length c.in_ok-fresh.ensures.holds ∙ run_length c.args.from c.args.count c.args.source.now.array.pairs c.requires.within

  more : HasMore g.K.Ord.cmp c.args.self.now (record { leaves = c.set_next.new.leaves; nodes = with_value c.args.self.now.nodes c.args.self.now.root c.append.new.self; root = c.args.self.now.root; height = c.args.self.now.height; len = c.args.self.now.len + c.args.count }) c.in_ok-fresh.ensures.leaf.array.pairs
  more =
      let a = c.args.self.now in
      let f = c.requires.last in
      let r = c.in_ok-fresh.ensures in
      let same : f.root ≡ c.in-Some.root.now = some_same (sym f.root_there ∙ sym c.in-Some.ensures.value) in
      let separators = c.append.ensures.separators ∙ ap (λ (n : InnerNode g.row.K.Denot). n.children.pairs ++ (c.args.separator, n.last) ∷ []) (sym same) ∙ ap (λ (j : ℕ). f.root.children.pairs ++ (c.args.separator, j) ∷ []) f.last in
      done_more g.K.Ord.cmp g.met.K.Ord.total a c.requires.sound c.args.last c.args.separator f r.leaf r.is (subst (λ qs. IsAscending g.K.Ord.cmp (pairs_of a ++ qs)) (sym r.holds) c.requires.rising) c.insert_run.new.leaves c.set_next.new.leaves c.in_ok-fresh.fresh r.added r.vacant c.set_next.ensures.arrays c.set_next.ensures.links
      c.append.new.self c.append.ensures.node separators c.append.ensures.last (a.len + c.args.count) (ap (λ (n : ℕ). a.len + n) (sym long))

pub insert_run-requires-clause-rising : goal.insert_run-requires-clause-rising
insert_run-requires-clause-rising g c = back_rising g.K.Ord.cmp g.met.K.Ord.total (pairs_of c.args.self.now) _ c.requires.rising

pub append-requires-clause-above : goal.append-requires-clause-above
append-requires-clause-above g c =
    let same = root g (goal.at.append-requires-clause-above g c).In-Some in
    subst (λ (n : InnerNode g.row.K.Denot). lesser g.K.Ord.cmp c.args.separator n.children.pairs ≡ length n.children.pairs) same (above_separators g.K.Ord.cmp g.met.K.Ord.total c.args.self.now c.requires.sound c.args.last c.args.separator c.requires.last)

pub returns-clause-sound : goal.returns-clause-sound
returns-clause-sound g c = (more g (goal.at.returns-clause-sound g c).After-append).sound

pub returns-clause-pairs : goal.returns-clause-pairs
returns-clause-pairs g c = (more g (goal.at.returns-clause-pairs g c).After-append).pairs ∙ ap (λ qs. pairs_of c.args.self.now ++ qs) c.in_ok-fresh.ensures.holds

pub returns-clause-ascending : goal.returns-clause-ascending
returns-clause-ascending g c =
    let at = (goal.at.returns-clause-ascending g c).After-append in
    let kept = (more g at).headroom in
    omega (arith, kept, long g at)
