-- Pairs behind all others go to the last leaf.
use Rattle.std.proofs.Common.{◌≡◌, ◌≢◌, ◌≤◌, ◌<◌, ℕ, ◌+◌, ◌-◌, Bool, true, false, List, [], ◌∷◌, ◌++◌, append_assoc, append-nil, drop, length, take, Option, Some, refl, sym, ap, ◌∙◌, subst, arith}
use Rattle.std.proofs.Math.Seq.{take-add}
use Rattle.std.proofs.lemmas.List.{length-append, length-drop, length-take}
use Rattle.std.specs.declared.cmp.Ordering.{Ordering}
use Rattle.std.specs.declared.cmp.Ordering.TheVariants.{Less}
use Rattle.std.specs.Cmp.{IsTotalOrder}
use Rattle.std.specs.Map.{keys_of}
use Rattle.std.proofs.lemmas.Map.Keys.{sorted_head, sorted_tail}
use Rattle.slab.specs.Slab.{get}
use Rattle.slab.proofs.SlabLemmas.{Updates-with_value}
use Rattle.leaf_array.specs.Pairs.{IsAscending}
use Rattle.tree_nodes.specs.declared.leaf.Leaf.{Leaf}
use Rattle.tree_nodes.specs.declared.arenas.Arenas.{Arenas}
use Rattle.tree_nodes.specs.Shape.{AllKeys, IsOver, IsUpTo, IsWithin, joined_over}
use Rattle.tree_nodes.specs.Chain.{times}
use Rattle.tree_nodes.specs.Content.{pairs_of, IsSound}
use Rattle.tree_nodes.specs.Depth.{IsAbove, ascending_headroom, root_room}
use Rattle.tree_nodes.specs.Push.{LastLeafHasRoom, LastLeafTakes}
use Rattle.tree_nodes.specs.Walk.{pairs_in_leaf, position, IsPosition}
use Rattle.tree_nodes.specs.Copy.{place, IsExtended, IsPositionOrEnd}
use Rattle.tree_nodes.specs.declared.walk.Position.{Position}
use Rattle.tree_nodes.proofs.RunLemmas.{leaf_first, take_fore}
use Rattle.tree_nodes.proofs.ShapeLemmas.{over_trans, upto_trans, less_upto, all_append, joined_over_append}
use Rattle.tree_nodes.proofs.RisingLemmas.{to_keys, from_keys, rising_cons}
use Rattle.tree_nodes.proofs.GrowLemmas.{none_rising}
use Rattle.tree_nodes.proofs.WalkLemmas.{all_held, held_is}
use Rattle.tree_nodes.proofs.WayLemmas.{some_same}
use Rattle.tree_nodes.proofs.WithoutLemmas.{part_of}
use Rattle.tree_nodes.proofs.ArenaLemmas.{IsOnWay, with_leaf, thawed_on_way, leaf_counted, rewritten, still_sound, Rewritten}
use Rattle.tree_nodes.proofs.CopyLemmas.{extended_then, front_less, rest_rising, slice_behind, take_behind}
use Rattle.tree_nodes.proofs.DepthLemmas.{headroom_less, extended_room}
use Rattle.tree_nodes.proofs.PushLemmas.{open_way, none_between}

-- a list with items, up to its last one
pub record Ended {X : Type 0} (xs : List X) : Type 0 where
  pub fore : List X
  pub end : X
  pub all : xs ≡ fore ++ end ∷ []

pub ended : {X : Type 0} (xs : List X) → 0 < length xs → Ended xs
ended [] h = absurd (omega (arith, h))
ended (x ∷ []) h = record { fore = []; end = x; all = refl }
ended (x ∷ y ∷ ys) h = let e = ended (y ∷ ys) (omega arith) in record { fore = x ∷ e.fore; end = e.end; all = ap (λ zs. x ∷ zs) e.all }

module _ {K V : Type 0} {cmp : K → K → Ordering} (o : IsTotalOrder cmp) where
  -- what comes before the last pair of an ascending list is below it
  pub before_end : (xs : List (K × V)) (p : K × V) → IsAscending cmp (xs ++ p ∷ []) → AllKeys (λ k. cmp k p.0 ≡ Less) xs
  before_end xs p up =
      let front : take (length xs) (xs ++ p ∷ []) ≡ xs = take_behind xs (p ∷ []) (length xs) 0 (omega arith) ∙ append-nil xs in
      subst (AllKeys (λ k. cmp k p.0 ≡ Less)) front (front_less o (length xs) (xs ++ p ∷ []) p up (slice_behind xs (p ∷ []) (length xs) 0 (omega arith)))

  -- keys behind one within a lower bound, and before one within an upper bound
  within_both : (low high : Option K) (f k : K) → IsOver cmp low f → IsUpTo cmp high k → (ps : List (K × V)) → AllKeys (λ x. cmp f x ≡ Less) ps → AllKeys (λ x. cmp x k ≡ Less) ps → AllKeys (IsWithin cmp low high) ps
  within_both low high f k over upto [] a b = tt
  within_both low high f k over upto (p ∷ ps) a b = ((over_trans o low f p.0 over a.0, upto_trans o high k p.0 (less_upto o p.0 k b.0) upto), within_both low high f k over upto ps a.1 b.1)

  -- where a leaf with pairs lies within bounds, so does what comes behind them, up to a key within these
  pub within_more : (low high : Option K) (ps qs : List (K × V)) (p : K × V) → 0 < length ps → IsAscending cmp (ps ++ (qs ++ p ∷ [])) → IsWithin cmp low high p.0 → AllKeys (IsWithin cmp low high) ps → AllKeys (IsWithin cmp low high) (ps ++ (qs ++ p ∷ []))
  within_more low high [] qs p some up is all = absurd (omega (arith, some))
  within_more low high (f ∷ ps) qs p some up is all =
      let behind = to_keys (λ y. cmp f.0 y ≡ Less) (ps ++ (qs ++ p ∷ [])) (sorted_head cmp f.0 (keys_of (ps ++ (qs ++ p ∷ []))) up) in
      let mine = (part_of (λ y. cmp f.0 y ≡ Less) qs (p ∷ []) (part_of (λ y. cmp f.0 y ≡ Less) ps (qs ++ p ∷ []) behind).1).0 in
      let line : (f ∷ ps) ++ (qs ++ p ∷ []) ≡ ((f ∷ ps) ++ qs) ++ p ∷ [] = sym (append_assoc (f ∷ ps) qs (p ∷ [])) in
      let less = (part_of (λ y. cmp y p.0 ≡ Less) (f ∷ ps) qs (before_end ((f ∷ ps) ++ qs) p (subst (IsAscending cmp) line up))).1 in
      all_append (IsWithin cmp low high) (f ∷ ps) (qs ++ p ∷ []) all (all_append (IsWithin cmp low high) qs (p ∷ []) (within_both low high f.0 p.0 all.0.0 is.1 qs mine less) (is, tt))

module _ {K V : Type 0} (cmp : K → K → Ordering) (o : IsTotalOrder cmp) where
  -- a back, and a front, of an ascending list rise
  pub back_rising : (xs ys : List (K × V)) → IsAscending cmp (xs ++ ys) → IsAscending cmp ys
  back_rising [] ys up = up
  back_rising (x ∷ xs) ys up = back_rising xs ys (sorted_tail cmp x.0 (keys_of (xs ++ ys)) up)

  pub front_rising : (xs ys : List (K × V)) → IsAscending cmp (xs ++ ys) → IsAscending cmp xs
  front_rising [] ys up = none_rising cmp
  front_rising (x ∷ xs) ys up =
      rising_cons o x xs
      (from_keys (λ y. cmp x.0 y ≡ Less) xs (part_of (λ y. cmp x.0 y ≡ Less) xs ys (to_keys (λ y. cmp x.0 y ≡ Less) (xs ++ ys) (sorted_head cmp x.0 (keys_of (xs ++ ys)) up))).0)
      (front_rising xs ys (sorted_tail cmp x.0 (keys_of (xs ++ ys)) up))

  -- a pair whose key is above those of an ascending list may come behind it
  pub end_rising : (key : K) (val : V) (ps : List (K × V)) → IsAscending cmp ps → AllKeys (λ k. cmp k key ≡ Less) ps → IsAscending cmp (ps ++ (key, val) ∷ [])
  end_rising key val [] up less = rising_cons o (key, val) [] tt (none_rising cmp)
  end_rising key val (x ∷ xs) up less =
      rising_cons o x (xs ++ (key, val) ∷ [])
      (from_keys (λ y. cmp x.0 y ≡ Less) (xs ++ (key, val) ∷ []) (all_append (λ y. cmp x.0 y ≡ Less) xs ((key, val) ∷ []) (to_keys (λ y. cmp x.0 y ≡ Less) xs (sorted_head cmp x.0 (keys_of xs) up)) (less.0, tt)))
      (end_rising key val xs (sorted_tail cmp x.0 (keys_of xs) up) less.1)

-- what has pairs isn't retired
pub living_of : {X : Type 0} (b : Bool) (xs : List X) → (b ≡ true → length xs ≡ 0) → 0 < length xs → b ≡ false
living_of true xs h some = absurd (omega (arith, h refl, some))
living_of false xs h some = refl

pub run_length : {X : Type 0} (from count : ℕ) (xs : List X) → from + count ≤ length xs → length (take count (drop from xs)) ≡ count
run_length from count xs h = simp (length-take, length-drop) (omega (arith, h))

-- the last leaf, which has room, as the leaf that was found
abbrev pub found_open : {K V : Type 0} (a : Arenas K V) (n : ℕ) (h : LastLeafHasRoom a n) (l : Leaf K V) → get a.leaves n ≡ Some l → LastLeafHasRoom a n
found_open a n h l here =
    let same = some_same (sym h.there ∙ here) in
    record { own = h.own; fore = h.fore; last = h.last; leaf = l; there = here; some = subst (λ (x : Leaf _ _). 0 < length x.array.pairs) same h.some; room = subst (λ (x : Leaf _ _). x.array.used < 15) same h.room }

module _ {K V : Type 0} (a : Arenas K V) (n room : ℕ) (t : LastLeafTakes a n room) (l : Leaf K V) (here : get a.leaves n ≡ Some l) where
  pub same_leaf : t.leaf ≡ l
  same_leaf = some_same (sym t.there ∙ here)

  -- the same, of the leaf that was found
  abbrev pub found_takes : LastLeafTakes a n room
  found_takes = record {
    own = t.own;
    fore = t.fore;
    last = t.last;
    leaf = l;
    there = here;
    some = subst (λ (x : Leaf K V). 0 < length x.array.pairs) same_leaf t.some;
    packed = subst (λ (x : Leaf K V). 0 < room → x.array.used ≡ length x.array.pairs) same_leaf t.packed;
    most = subst (λ (x : Leaf K V). x.array.used + room ≤ 15) same_leaf t.most;
    countable = t.countable;
  }

  -- what rises behind all pairs, rises behind those of the last leaf
  pub leaf_rising : (cmp : K → K → Ordering) (o : IsTotalOrder cmp) (ps : List (K × V)) → IsAscending cmp (pairs_of a ++ ps) → IsAscending cmp (l.array.pairs ++ ps)
  leaf_rising cmp o ps up =
      let f = pairs_in_leaf a in
      let all : pairs_of a ≡ joined_over f t.fore ++ l.array.pairs = all_held a ∙ ap (joined_over f) t.last ∙ joined_over_append f t.fore (n ∷ []) ∙ ap (λ qs. joined_over f t.fore ++ qs) (append-nil (f n) ∙ held_is a n l here) in
      back_rising cmp o (joined_over f t.fore) (l.array.pairs ++ ps) (subst (IsAscending cmp) (ap (λ qs. qs ++ ps) all ∙ append_assoc (joined_over f t.fore) l.array.pairs ps) up)

-- the last leaf with more pairs behind its own
pub record IsAppended {K V : Type 0} (cmp : K → K → Ordering) (a : Arenas K V) (n count : ℕ) (ps : List (K × V)) (m : Leaf K V) : Type 0 where
  pub total : IsTotalOrder cmp
  pub sound : IsSound cmp a
  pub last : LastLeafHasRoom a n
  pub fore : List (K × V)
  pub end : K × V
  pub all : ps ≡ fore ++ end ∷ []
  pub above : IsAbove cmp end.0 (pairs_of a)
  pub long : length ps ≡ count
  pub pairs : m.array.pairs ≡ last.leaf.array.pairs ++ ps
  pub rising : IsAscending cmp m.array.pairs
  pub used : m.array.used ≡ last.leaf.array.used + count
  pub frozen : m.array.frozen ≡ last.leaf.array.frozen
  pub prev : m.prev ≡ last.leaf.prev
  pub next : m.next ≡ last.leaf.next

-- so it is, where they rise behind all others
abbrev pub appended : {K V : Type 0} (cmp : K → K → Ordering) (o : IsTotalOrder cmp) (a : Arenas K V) → IsSound cmp a → (n count : ℕ) (t : LastLeafTakes a n count) → 0 < count → (ps : List (K × V)) → length ps ≡ count → IsAscending cmp (pairs_of a ++ ps)
    → (m : Leaf K V) → m.array.pairs ≡ t.leaf.array.pairs ++ ps → m.array.used ≡ t.leaf.array.used + count → m.array.frozen ≡ t.leaf.array.frozen → m.prev ≡ t.leaf.prev → m.next ≡ t.leaf.next → IsAppended cmp a n count ps m
appended cmp o a s n count t some ps long up m pairs used frozen prev next =
    let e = ended ps (omega (arith, long, some)) in
    let line : pairs_of a ++ ps ≡ (pairs_of a ++ e.fore) ++ e.end ∷ [] = ap (λ qs. pairs_of a ++ qs) e.all ∙ sym (append_assoc (pairs_of a) e.fore (e.end ∷ [])) in
    record {
      total = o;
      sound = s;
      last = record { own = t.own; fore = t.fore; last = t.last; leaf = t.leaf; there = t.there; some = t.some; room = (let x = t.most in omega (arith, x, some)) };
      fore = e.fore;
      end = e.end;
      all = e.all;
      above = (part_of (λ k. cmp k e.end.0 ≡ Less) (pairs_of a) e.fore (before_end o (pairs_of a ++ e.fore) e.end (subst (IsAscending cmp) line up))).0;
      long = long;
      pairs = pairs;
      rising = subst (IsAscending cmp) (sym pairs) (leaf_rising a n count t t.leaf t.there cmp o ps up);
      used = used;
      frozen = frozen;
      prev = prev;
      next = next;
    }

module _ {K V : Type 0} {cmp : K → K → Ordering} {a : Arenas K V} {n count : ℕ} {ps : List (K × V)} {m : Leaf K V} (t : IsAppended cmp a n count ps m) where
  abbrev l : Leaf K V
  l = t.last.leaf

  abbrev key : K
  key = t.end.0

  within : (low high : Option K) → IsWithin cmp low high key → AllKeys (IsWithin cmp low high) l.array.pairs → AllKeys (IsWithin cmp low high) m.array.pairs
  within low high is all =
      let line : m.array.pairs ≡ l.array.pairs ++ (t.fore ++ t.end ∷ []) = t.pairs ∙ ap (λ qs. l.array.pairs ++ qs) t.all in
      subst (AllKeys (IsWithin cmp low high)) (sym line) (within_more t.total low high l.array.pairs t.fore t.end t.last.some (subst (IsAscending cmp) line t.rising) is all)

  abbrev pub extended : Arenas K V
  extended = with_leaf a n m (a.len + count)

  abbrev here : IsOnWay cmp key a n l
  here = record { total = t.total; sound = t.sound; on = open_way cmp t.total key a t.sound n t.last t.above; here = t.last.there }

  w : (len : ℕ) → Rewritten here m len
  w len = rewritten here m len (t.frozen ∙ thawed_on_way here) t.rising within

  longer : length m.array.pairs ≡ length l.array.pairs + count
  longer = ap length t.pairs ∙ (let both : length (l.array.pairs ++ ps) ≡ length l.array.pairs + length ps = simp length-append refl in omega (arith, both, t.long))

  pub extended_sound : IsSound cmp extended
  extended_sound =
      let more : a.len - length l.array.pairs + length m.array.pairs ≡ a.len + count = omega (arith, leaf_counted here, longer) in
      subst (λ (k : ℕ). IsSound cmp (with_leaf a n m k)) more (still_sound here m (length l.array.pairs) (length m.array.pairs) t.prev t.next refl refl (w (a.len - length l.array.pairs + length m.array.pairs)))

  pub extended_pairs : pairs_of extended ≡ pairs_of a ++ ps
  extended_pairs =
      let r = w (a.len + count) in
      let less = (part_of (λ k. cmp k key ≡ Less) l.array.pairs r.back (part_of (λ k. cmp k key ≡ Less) r.front (l.array.pairs ++ r.back) (subst (AllKeys (λ k. cmp k key ≡ Less)) r.old t.above)).1).1 in
      let none : r.back ≡ [] = none_between cmp t.total key r.back less r.behind in
      let old : pairs_of a ≡ r.front ++ l.array.pairs = r.old ∙ ap (λ qs. r.front ++ (l.array.pairs ++ qs)) none ∙ ap (λ qs. r.front ++ qs) (append-nil l.array.pairs) in
      r.new ∙ ap (λ qs. r.front ++ (m.array.pairs ++ qs)) none ∙ ap (λ qs. r.front ++ qs) (append-nil m.array.pairs ∙ t.pairs) ∙ sym (append_assoc r.front l.array.pairs ps) ∙ sym (ap (λ qs. qs ++ ps) old)

  there : get extended.leaves n ≡ Some m
  there = (Updates-with_value a.leaves n m (rw t.last.there refl)).changed

  pub extended_headroom : ascending_headroom cmp a ≤ ascending_headroom cmp extended + count
  extended_headroom =
      headroom_less a.height (root_room cmp a) (root_room cmp extended) count
      (extended_room cmp t.total key a extended ps count t.above refl extended_pairs n here.on l m t.last.there there (omega (arith, t.used)))

  pub extended_takes : 0 < count → (more : ℕ) → LastLeafTakes a n (count + more) → LastLeafTakes extended n more
  extended_takes some more wide =
      let r = w (a.len + count) in
      let same : wide.leaf ≡ l = some_same (sym wide.there ∙ t.last.there) in
      let most : l.array.used + (count + more) ≤ 15 = subst (λ (x : Leaf K V). x.array.used + (count + more) ≤ 15) same wide.most in
      let packed : l.array.used ≡ length l.array.pairs = subst (λ (x : Leaf K V). x.array.used ≡ length x.array.pairs) same (wide.packed (omega (arith, some))) in
      let fit = wide.countable in
      record {
        own = (wide.own.0, subst (λ (ns : List ℕ). times n ns ≢ 0) (sym r.order) wide.own.1);
        fore = wide.fore;
        last = r.order ∙ wide.last;
        leaf = m;
        there = there;
        some = (let x = t.last.some in omega (arith, longer, x));
        packed = λ h. omega (arith, t.used, longer, packed);
        most = omega (arith, t.used, most);
        countable = omega (arith, fit);
      }

-- ---- a run of one leaf, within a run

module _ {K V : Type 0} {cmp : K → K → Ordering} (o : IsTotalOrder cmp) (a : Arenas K V) (s : IsSound cmp a) (base : List (K × V)) (start count room : ℕ) (b : Arenas K V) (r : Option (Position K V)) (left : ℕ) (e : IsExtended cmp a base start count room b r left) (up : IsAscending cmp (base ++ take count (drop start (pairs_of a))))
    (spot : Position K V) (at : r ≡ Some spot) (n : ℕ) (few : n ≤ left) (within : spot.place + n ≤ length spot.leaf.now.array.pairs) where
  is : IsPosition a spot
  is = subst (IsPositionOrEnd a) at e.spot

  stands : place a r ≡ position a spot
  stands = ap (place a) at

  -- it is the first that is left
  same : take n (drop (place a r) (pairs_of a)) ≡ take n (drop spot.place spot.leaf.now.array.pairs)
  same =
      let own = leaf_first cmp a s spot is in
      let long : length (drop spot.place spot.leaf.now.array.pairs) ≡ length spot.leaf.now.array.pairs - spot.place = length-drop spot.place spot.leaf.now.array.pairs in
      ap (λ (k : ℕ). take n (drop k (pairs_of a))) stands ∙ ap (take n) own.1 ∙ take_fore n (drop spot.place spot.leaf.now.array.pairs) own.0 (omega (arith, long, within))

  pub run_rising : IsAscending cmp (pairs_of b ++ take n (drop spot.place spot.leaf.now.array.pairs))
  run_rising =
      let whole = drop (place a r) (pairs_of a) in
      let all = rest_rising o a s base start count room b r left e up in
      let parts : take left whole ≡ take n whole ++ take (left - n) (drop n whole) = ap (λ (k : ℕ). take k whole) (let x : left ≡ n + (left - n) = omega (arith, few) in x) ∙ take-add n (left - n) whole in
      let line : pairs_of b ++ take left whole ≡ (pairs_of b ++ take n whole) ++ take (left - n) (drop n whole) = ap (λ qs. pairs_of b ++ qs) parts ∙ sym (append_assoc (pairs_of b) (take n whole) (take (left - n) (drop n whole))) in
      subst (IsAscending cmp) (ap (λ qs. pairs_of b ++ qs) same) (front_rising cmp o (pairs_of b ++ take n whole) (take (left - n) (drop n whole)) (subst (IsAscending cmp) line all))

  pub run_extended : (c : Arenas K V) (q : Option (Position K V)) → IsSound cmp c → IsPositionOrEnd a q → pairs_of c ≡ pairs_of b ++ take n (drop spot.place spot.leaf.now.array.pairs) → place a q ≡ position a spot + n → ascending_headroom cmp b ≤ ascending_headroom cmp c + n → IsExtended cmp a base start count room c q (left - n)
  run_extended c q sound more pairs next places' =
      let step : place a q - place a r ≡ n = omega (arith, next, stands) in
      extended_then o a s base start count room b r left e up c q (left - n) (record {
        sound = sound;
        spot = more;
        from = omega (arith, next, stands);
        upto = omega (arith, next, stands, few);
        pairs = pairs ∙ ap (λ qs. pairs_of b ++ qs) (sym same) ∙ sym (ap (λ (k : ℕ). pairs_of b ++ take k (drop (place a r) (pairs_of a))) step);
        places = omega (arith, places', step);
      })
