use Rattle.std.proofs.Common.{◌≡◌, ◌-◌, ◌++◌, ℕ, drop, length, take, sym, ap, ◌∙◌, subst, arith}
use Rattle.std.proofs.Math.Seq.{take-length}
use Rattle.leaf_array.specs.Pairs.{IsAscending}
use Rattle.tree_nodes.specs.Content.{pairs_of}
use Rattle.tree_nodes.specs.Copy.{place}
use Rattle.tree_nodes.specs.Depth.{ascending_headroom, headroom_for, root_room}
use Rattle.tree_nodes.proofs.WalkLemmas.{if_none, if_some}
use Rattle.tree_nodes.proofs.EqualLemmas.{end_position_answer}
use Rattle.tree_nodes.proofs.SpotLemmas.{rising_of}
use Rattle.tree_nodes.proofs.arenas.Arenas.copy.Goals as goal

pub extend-requires-clause-rising : goal.extend-requires-clause-rising
extend-requires-clause-rising g c =
    let a = c.args.self.now in
    let ps = pairs_of a in
    let r = c.first_from-first.result in
    let start : place a r ≡ 0 = end_position_answer a 0 r (if_none r (λ e. sym c.first_leaf.ensures.first ∙ e) c.first_from-first.ensures.none) (if_some r (λ s e. e ∙ c.first_leaf.ensures.first) c.first_from-first.ensures.there) in
    let all : take a.len (drop (place a r) ps) ≡ ps = ap (λ (n : ℕ). take a.len (drop n ps)) start ∙ (ap (λ (n : ℕ). take n ps) c.requires.sound.count ∙ take-length ps) in
    subst (IsAscending g.K.Ord.cmp) (sym (ap (λ qs. qs ++ take a.len (drop (place a r) ps)) c.in_ok-copy.ensures.empty ∙ all)) (rising_of g.K.Ord.cmp g.met.K.Ord.total a c.requires.sound)

pub returns-clause-pairs : goal.returns-clause-pairs
returns-clause-pairs g c =
    let a = c.args.self.now in
    let ps = pairs_of a in
    let r = c.first_from-first.result in
    let start : place a r ≡ 0 = end_position_answer a 0 r (if_none r (λ e. sym c.first_leaf.ensures.first ∙ e) c.first_from-first.ensures.none) (if_some r (λ s e. e ∙ c.first_leaf.ensures.first) c.first_from-first.ensures.there) in
    let all : take a.len (drop (place a r) ps) ≡ ps = ap (λ (n : ℕ). take a.len (drop n ps)) start ∙ (ap (λ (n : ℕ). take n ps) c.requires.sound.count ∙ take-length ps) in
    let e = c.in_ok-extend.ensures in
    let long : place a c.in_ok-extend.field-0 - place a r ≡ a.len = omega (arith, e.upto) in
    e.pairs ∙ (ap (λ (n : ℕ). pairs_of c.in_ok-copy.copy ++ take n (drop (place a r) ps)) long ∙ (ap (λ qs. qs ++ take a.len (drop (place a r) ps)) c.in_ok-copy.ensures.empty ∙ all))

pub returns-clause-ascending_headroom : goal.returns-clause-ascending_headroom
returns-clause-ascending_headroom g c =
    let b = c.in_ok-copy.copy in
    let flat : ascending_headroom g.K.Ord.cmp b ≡ 241 = ap (λ (h : ℕ). headroom_for h (root_room g.K.Ord.cmp b)) c.in_ok-copy.ensures.flat in
    let e = c.in_ok-extend.ensures in
    let long = c.requires.sound.count in
    let same = ap length (returns-clause-pairs g c) in
    omega (arith, flat, e.places, e.upto, long, same)
