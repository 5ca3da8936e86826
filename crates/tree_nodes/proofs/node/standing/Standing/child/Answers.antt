use Rattle.std.proofs.Common.{◌≡◌, ℕ, suc, ◌-◌, Some, None, sym, ap, ◌∙◌, subst, arith}
use Rattle.std.specs.Option.{option_map}
use Rattle.std.specs.BTreeMap.{is_at}
use Rattle.std.specs.Map.{lookup_entry}
use Rattle.leaf_array.specs.Cells.{Cells}
use Rattle.tree_nodes.specs.declared.node.InnerNode.{InnerNode}
use Rattle.tree_nodes.specs.Shape.{ArenaContent, IsTree, pairs_under}
use Rattle.tree_nodes.specs.Content.{content_of}
use Rattle.tree_nodes.specs.Standing.{IsAround}
use Rattle.tree_nodes.proofs.WayLemmas.{IsStep, step_down}
use Rattle.tree_nodes.proofs.StandingLemmas.{around_child, lookup_child, node_content}
use Rattle.tree_nodes.proofs.node.standing.Standing.child.Goals as goal

pub unreachable-requires : goal.unreachable-requires
unreachable-requires g c =
    let a : ArenaContent g.row.K.Denot g.row.V.Denot = content_of c.args.self.now.arenas.now in
    let s = c.args.self.now in
    let deeper : s.height ≡ suc (s.height - 1) = omega (arith, c.requires.node) in
    let t = subst (λ (n : ℕ). IsTree g.K.Ord.cmp a n s.at c.requires.stands.low c.requires.stands.high) deeper c.requires.stands.tree in
    let none : a.node s.at ≡ None = ap (option_map (λ (n : InnerNode g.row.K.Denot). (n.children, n.last))) (sym (rw c.in-None.is at c.get.ensures)) in
    absurd (let e : None ≡ Some t.0 = sym none ∙ t.1 in cc)

pub returns-clause-stands : goal.returns-clause-stands
returns-clause-stands g c =
    let a : ArenaContent g.row.K.Denot g.row.V.Denot = content_of c.args.self.now.arenas.now in
    let s = c.args.self.now in
    let deeper : s.height ≡ suc (s.height - 1) = omega (arith, c.requires.node) in
    let t = subst (λ (n : ℕ). IsTree g.K.Ord.cmp a n s.at c.requires.stands.low c.requires.stands.high) deeper c.requires.stands.tree in
    let n : Cells g.row.K.Denot ℕ × ℕ = (c.in-Some.node.now.children, c.in-Some.node.now.last) in
    let here : a.node s.at ≡ Some n = node_content c.args.self.now.arenas.now s.at c.in-Some.node.now (sym c.in-Some.ensures) in
    let step : IsStep g.K.Ord.cmp c.args.key.now a (s.height - 1) 0 s.at c.child.result = rw c.child.ensures (step_down g.K.Ord.cmp c.args.key.now a (s.height - 1) 0 s.at n c.requires.stands.low c.requires.stands.high t here) in
    record { sound = c.requires.stands.sound; low = step.low; high = step.high; tree = step.tree }

pub returns-clause-found : goal.returns-clause-found
returns-clause-found g c =
    let a : ArenaContent g.row.K.Denot g.row.V.Denot = content_of c.args.self.now.arenas.now in
    let s = c.args.self.now in
    let key = c.args.key.now in
    let deeper : s.height ≡ suc (s.height - 1) = omega (arith, c.requires.node) in
    let t = subst (λ (n : ℕ). IsTree g.K.Ord.cmp a n s.at c.requires.stands.low c.requires.stands.high) deeper c.requires.stands.tree in
    let n : Cells g.row.K.Denot ℕ × ℕ = (c.in-Some.node.now.children, c.in-Some.node.now.last) in
    let here : a.node s.at ≡ Some n = node_content c.args.self.now.arenas.now s.at c.in-Some.node.now (sym c.in-Some.ensures) in
    ap (λ (n : ℕ). lookup_entry (is_at (g.K.Ord.cmp key)) (pairs_under a n s.at)) deeper ∙ lookup_child g.K.Ord.cmp g.met.K.Ord.total key a (s.height - 1) s.at n here c.requires.stands.low c.requires.stands.high t ∙ ap (λ m. lookup_entry (is_at (g.K.Ord.cmp key)) (pairs_under a (s.height - 1) m)) (sym c.child.ensures)

pub returns-clause-around : goal.returns-clause-around
returns-clause-around g c =
    let a : ArenaContent g.row.K.Denot g.row.V.Denot = content_of c.args.self.now.arenas.now in
    let s = c.args.self.now in
    let key = c.args.key.now in
    let deeper : s.height ≡ suc (s.height - 1) = omega (arith, c.requires.node) in
    let t = subst (λ (n : ℕ). IsTree g.K.Ord.cmp a n s.at c.requires.stands.low c.requires.stands.high) deeper c.requires.stands.tree in
    let n : Cells g.row.K.Denot ℕ × ℕ = (c.in-Some.node.now.children, c.in-Some.node.now.last) in
    let here : a.node s.at ≡ Some n = node_content c.args.self.now.arenas.now s.at c.in-Some.node.now (sym c.in-Some.ensures) in
    let around = around_child g.K.Ord.cmp g.met.K.Ord.total key a (s.height - 1) s.at n here c.requires.stands.low c.requires.stands.high t in
    subst (λ (n : ℕ). IsAround g.K.Ord.cmp key (pairs_under a (s.height - 1) c.child.result) (pairs_under a n s.at)) (sym deeper) (subst (λ m. IsAround g.K.Ord.cmp key (pairs_under a (s.height - 1) m) (pairs_under a (suc (s.height - 1)) s.at)) (sym c.child.ensures) around)
