use Rattle.std.proofs.Common.{◌≡◌, ◌+◌, ◌&&◌, ℕ, Bool, length, drop, sym, ap, ◌∙◌, subst, arith}
use Rattle.std.specs.Cmp.Lexicographic.{pointwise}
use Rattle.tree_nodes.specs.Content.{pairs_of}
use Rattle.tree_nodes.specs.Walk.{position, IsPosition}
use Rattle.tree_nodes.proofs.SpotLemmas.{spot_pair}
use Rattle.tree_nodes.specs.Copy.{place, IsPositionOrEnd}
use Rattle.tree_nodes.proofs.EqualLemmas.{end_equal, end_position_answer, place_is, spots_equal}
use Rattle.tree_nodes.proofs.arenas.Arenas.equals.Goals as goal

pub returns-then-not-are_equal : goal.returns-then-not-are_equal
returns-then-not-are_equal g c =
    let a = c.args.self.now in
    let b = c.args.other.now in
    let x = c.in-Some-Some.a in
    let y = c.in-Some-Some.b in
    let E : g.row.K.Denot × g.row.V.Denot → g.row.K.Denot × g.row.V.Denot → Bool = λ p q. g.K.PartialEq.eq p.0 q.0 && g.V.PartialEq.eq p.1 q.1 in
    let is_x : IsPosition a x = subst (IsPositionOrEnd a) c.in-Some-Some.is-0 c.loop-left.invariant.left in
    let is_y : IsPosition b y = subst (IsPositionOrEnd b) c.in-Some-Some.is-1 c.loop-left.invariant.right in
    let at : place a c.loop-left.left ≡ position a x = ap (place a) c.in-Some-Some.is-0 in
    let together : position a x ≡ position b y = sym at ∙ c.loop-left.invariant.together ∙ ap (place b) c.in-Some-Some.is-1 in
    let step = spots_equal g.K.Ord.cmp E a b c.requires.first c.requires.second x y is_x is_y together _ _ c.pair.ensures c.pair-in-Some-Some.ensures in
    let same = subst (λ (n : ℕ). pointwise E (drop n (pairs_of a)) (drop n (pairs_of b)) ≡ pointwise E (pairs_of a) (pairs_of b)) at c.loop-left.invariant.same in
    let apart = sym c.are_equal.ensures ∙ c.if-not-are_equal.true in
    sym (sym same ∙ step ∙ ap (λ (t : Bool). t && pointwise E (drop (position a x + 1) (pairs_of a)) (drop (position a x + 1) (pairs_of b))) apart)

pub loop-left-smaller : goal.loop-left-smaller
loop-left-smaller g c =
    let a = c.args.self.now in
    let x = c.in-Some-Some.a in
    let is_x : IsPosition a x = subst (IsPositionOrEnd a) c.in-Some-Some.is-0 c.loop-left.invariant.left in
    let at : place a c.loop-left.left ≡ position a x = ap (place a) c.in-Some-Some.is-0 in
    let next = end_position_answer a (position a x + 1) c.behind-left.result c.behind-left.ensures.none c.behind-left.ensures.there in
    let within = (spot_pair g.K.Ord.cmp a c.requires.first x is_x).1 in
    omega (arith, at, next, within)

pub loop-left-preserved : goal.loop-left-preserved
loop-left-preserved g c =
    let a = c.args.self.now in
    let b = c.args.other.now in
    let x = c.in-Some-Some.a in
    let y = c.in-Some-Some.b in
    let E : g.row.K.Denot × g.row.V.Denot → g.row.K.Denot × g.row.V.Denot → Bool = λ p q. g.K.PartialEq.eq p.0 q.0 && g.V.PartialEq.eq p.1 q.1 in
    let is_x : IsPosition a x = subst (IsPositionOrEnd a) c.in-Some-Some.is-0 c.loop-left.invariant.left in
    let is_y : IsPosition b y = subst (IsPositionOrEnd b) c.in-Some-Some.is-1 c.loop-left.invariant.right in
    let at : place a c.loop-left.left ≡ position a x = ap (place a) c.in-Some-Some.is-0 in
    let together : position a x ≡ position b y = sym at ∙ c.loop-left.invariant.together ∙ ap (place b) c.in-Some-Some.is-1 in
    let step = spots_equal g.K.Ord.cmp E a b c.requires.first c.requires.second x y is_x is_y together _ _ c.pair.ensures c.pair-in-Some-Some.ensures in
    let same = subst (λ (n : ℕ). pointwise E (drop n (pairs_of a)) (drop n (pairs_of b)) ≡ pointwise E (pairs_of a) (pairs_of b)) at c.loop-left.invariant.same in
    let next = end_position_answer a (position a x + 1) c.behind-left.result c.behind-left.ensures.none c.behind-left.ensures.there in
    let other = end_position_answer b (position b y + 1) c.behind-right.result c.behind-right.ensures.none c.behind-right.ensures.there in
    let equal = sym c.are_equal.ensures ∙ c.if-not-are_equal.false in
    record {
      left = place_is a c.behind-left.result c.behind-left.ensures.spot;
      right = place_is b c.behind-right.result c.behind-right.ensures.spot;
      together = next ∙ ap (λ (n : ℕ). n + 1) together ∙ sym other;
      same = subst (λ (n : ℕ). pointwise E (drop n (pairs_of a)) (drop n (pairs_of b)) ≡ pointwise E (pairs_of a) (pairs_of b)) (sym next)
          (sym (ap (λ (t : Bool). t && pointwise E (drop (position a x + 1) (pairs_of a)) (drop (position a x + 1) (pairs_of b))) equal) ∙ sym step ∙ same);
    }

pub loop-left-init : goal.loop-left-init
loop-left-init g c =
    let a = c.args.self.now in
    let b = c.args.other.now in
    let E : g.row.K.Denot × g.row.V.Denot → g.row.K.Denot × g.row.V.Denot → Bool = λ p q. g.K.PartialEq.eq p.0 q.0 && g.V.PartialEq.eq p.1 q.1 in
    let left = end_position_answer a _ c.first_from-left.result c.first_from-left.ensures.none c.first_from-left.ensures.there ∙ c.first_leaf.ensures.first in
    let right = end_position_answer b _ c.first_from-right.result c.first_from-right.ensures.none c.first_from-right.ensures.there ∙ c.first_leaf-2.ensures.first in
    record {
      left = place_is a c.first_from-left.result c.first_from-left.ensures.spot;
      right = place_is b c.first_from-right.result c.first_from-right.ensures.spot;
      together = left ∙ sym right;
      same = ap (λ (n : ℕ). pointwise E (drop n (pairs_of a)) (drop n (pairs_of b))) left;
    }

pub returns-in_default : goal.returns-in_default
returns-in_default g c =
    let a = c.args.self.now in
    let b = c.args.other.now in
    let E : g.row.K.Denot × g.row.V.Denot → g.row.K.Denot × g.row.V.Denot → Bool = λ p q. g.K.PartialEq.eq p.0 q.0 && g.V.PartialEq.eq p.1 q.1 in
    let at = c.loop-left.invariant.together ∙ ap (place b) c.in_default.is-1 in
    let first = c.requires.first.count in
    let second = c.requires.second.count in
    sym (end_equal E (pairs_of a) (pairs_of b) (place a c.loop-left.left) (omega (arith, at, first, second, c.if-self-other.false)) (omega (arith, at))) ∙ c.loop-left.invariant.same

pub returns-in_default-2 : goal.returns-in_default-2
returns-in_default-2 g c =
    let a = c.args.self.now in
    let b = c.args.other.now in
    let E : g.row.K.Denot × g.row.V.Denot → g.row.K.Denot × g.row.V.Denot → Bool = λ p q. g.K.PartialEq.eq p.0 q.0 && g.V.PartialEq.eq p.1 q.1 in
    let at : place a c.loop-left.left ≡ length (pairs_of a) = ap (place a) c.in_default.is-0 in
    let first = c.requires.first.count in
    let second = c.requires.second.count in
    sym (end_equal E (pairs_of a) (pairs_of b) (place a c.loop-left.left) (omega (arith, at)) (omega (arith, at, first, second, c.if-self-other.false))) ∙ c.loop-left.invariant.same

pub behind-left-requires-clause-spot : goal.behind-left-requires-clause-spot
behind-left-requires-clause-spot g c = subst (IsPositionOrEnd c.args.self.now) c.in-Some-Some.is-0 c.loop-left.invariant.left

pub behind-right-requires-clause-spot : goal.behind-right-requires-clause-spot
behind-right-requires-clause-spot g c = subst (IsPositionOrEnd c.args.other.now) c.in-Some-Some.is-1 c.loop-left.invariant.right

pub pair-requires : goal.pair-requires
pair-requires g c =
    let is_x : IsPosition c.args.self.now c.in-Some-Some.a = subst (IsPositionOrEnd c.args.self.now) c.in-Some-Some.is-0 c.loop-left.invariant.left in
    is_x.within

pub pair-requires-in-Some-Some : goal.pair-requires-in-Some-Some
pair-requires-in-Some-Some g c =
    let is_y : IsPosition c.args.other.now c.in-Some-Some.b = subst (IsPositionOrEnd c.args.other.now) c.in-Some-Some.is-1 c.loop-left.invariant.right in
    is_y.within
