-- What insertions above all pairs leave of the places of a flat tree.
use Rattle.std.proofs.Common.{◌≡◌, ◌≢◌, ◌≤◌, ◌<◌, ◌⊎◌, inl, inr, ℕ, zero, suc, ◌+◌, ◌*◌, ◌-◌, ◌==◌, Bool, true, false, cond, ◌&&◌, ◌||◌, IsSome, List, [], ◌∷◌, ◌++◌, length, Option, Some, None, refl, sym, ap, ◌∙◌, subst, arith}
use Rattle.std.specs.Option.{option_map}
use Rattle.std.specs.Prelude.{OnErr, Result, Ok, Err}
use Rattle.std.specs.declared.cmp.Ordering.{Ordering}
use Rattle.std.specs.declared.cmp.Ordering.TheVariants.{Less, Equal, Greater}
use Rattle.std.specs.Ordering.{is_le, is_lt, is_eq, match_ordering}
use Rattle.std.specs.Cmp.{IsTotalOrder, tied_itself}
use Rattle.std.specs.List.{list_any}
use Rattle.std.specs.Map.{lookup}
use Rattle.std.specs.BTreeMap.{insert_entry, is_at}
use Rattle.slab.specs.Slab.{Slab, get, with_value, Updates}
use Rattle.slab.proofs.SlabLemmas.{Updates-with_value}
use Rattle.std.proofs.lemmas.Bool.Decides.{eqb_tells, leb_tells}
use Rattle.std.proofs.lemmas.Bool.{false≢true}
use Rattle.std.proofs.Math.Dec.{leb}
use Rattle.leaf_array.specs.Edits.{upserted}
use Rattle.leaf_array.specs.Results.{IsFull, IsDuplicate, given_back}
use Rattle.leaf_array.specs.declared.result.InsertResult.{InsertResult}
use Rattle.leaf_array.specs.declared.result.InsertResult.TheVariants.{Success, Duplicate, Full}
use Rattle.tree_nodes.specs.declared.leaf.Leaf.{Leaf}
use Rattle.tree_nodes.specs.declared.node.InnerNode.{InnerNode}
use Rattle.tree_nodes.specs.declared.arenas.Arenas.{Arenas}
use Rattle.tree_nodes.specs.Shape.{AllKeys, child_for, child_in, way}
use Rattle.tree_nodes.specs.Content.{content_of, pairs_of, LeafHasRoom, NodeHasRoom, IsLeafFull}
use Rattle.tree_nodes.specs.SplitPoints.{key_at}
use Rattle.tree_nodes.proofs.WayLemmas.{some_same}
use Rattle.tree_nodes.proofs.CopyLemmas.{upserted_behind}
use Rattle.tree_nodes.specs.Depth.{IsAbove, leaf_room, is_reached, node_room, root_room, headroom_for, ascending_headroom}

-- as many as before, or fewer by some
pub headroom_less : (height room more d : ℕ) → (height ≡ 1 → room ≤ more + d) → headroom_for height room ≤ headroom_for height more + d
headroom_less zero room more d h = omega arith
headroom_less (suc zero) room more d h = omega (arith, h refl)
headroom_less (suc (suc height)) room more d h = omega arith

-- what is above 0 has a depth of at most 1
pub headroom_flat : (height room : ℕ) → 0 < headroom_for height room → height ≤ 1
headroom_flat zero room h = omega arith
headroom_flat (suc zero) room h = omega arith
headroom_flat (suc (suc height)) room h = absurd (omega (arith, h))

module _ {X : Type 0} (f : X → Bool) where
  pub any_fore : (xs ys : List X) → list_any f xs ≡ true → list_any f (xs ++ ys) ≡ true
  any_fore [] ys h = absurd (let e : false ≡ true = h in cc)
  any_fore (x ∷ xs) ys h =
      (elim (f x) as (λ b. (b || list_any f xs) ≡ true → (b || list_any f (xs ++ ys)) ≡ true) [
        | true ↦ λ e. refl
        | false ↦ λ e. any_fore xs ys e
      ]) h

  pub any_rear : (xs ys : List X) → list_any f ys ≡ true → list_any f (xs ++ ys) ≡ true
  any_rear [] ys h = h
  any_rear (x ∷ xs) ys h =
      elim (f x) as (λ b. (b || list_any f (xs ++ ys)) ≡ true) [
        | true ↦ refl
        | false ↦ any_rear xs ys h
      ]

pub both_true : (a b : Bool) → (a && b) ≡ true → (a ≡ true) × (b ≡ true)
both_true true b h = (refl, h)
both_true false b h = absurd (let e : false ≡ true = h in cc)

module _ {K V : Type 0} (cmp : K → K → Ordering) where
  -- more pairs reach what fewer did
  pub reached_more : (few many : List (K × V)) → ((s : K) → list_any (λ (p : K × V). is_le (cmp s p.0)) few ≡ true → list_any (λ (p : K × V). is_le (cmp s p.0)) many ≡ true) → (es : List (K × ℕ)) → is_reached cmp few es ≡ true → is_reached cmp many es ≡ true
  reached_more few many more [] h = refl
  reached_more few many more (e ∷ es) h =
      let b = both_true (list_any (λ p. is_le (cmp e.0 p.0)) few) (is_reached cmp few es) h in
      rw (more e.0 b.0) (reached_more few many more es b.1)

  pub reached_entry : (pairs : List (K × V)) (sep : K) (fresh : ℕ) → list_any (λ (p : K × V). is_le (cmp sep p.0)) pairs ≡ true → (es : List (K × ℕ)) → is_reached cmp pairs es ≡ true → is_reached cmp pairs (insert_entry cmp es sep fresh) ≡ true
  reached_entry pairs sep fresh there [] h = rw there refl
  reached_entry pairs sep fresh there (e ∷ es) h =
      let b = both_true (list_any (λ p. is_le (cmp e.0 p.0)) pairs) (is_reached cmp pairs es) h in
      elim (cmp sep e.0) as (λ r. is_reached cmp pairs (match_ordering r ((sep, fresh) ∷ e ∷ es) ((e.0, fresh) ∷ es) (e ∷ insert_entry cmp es sep fresh)) ≡ true) [
        | Less ↦ rw there h
        | Equal ↦ h
        | Greater ↦ rw b.0 (reached_entry pairs sep fresh there es b.1)
      ]

module _ {K : Type 0} (cmp : K → K → Ordering) (o : IsTotalOrder cmp) (key : K) where
  le_less : (s k : K) (r : Ordering) → cmp s k ≡ r → is_le r ≡ true → cmp k key ≡ Less → cmp s key ≡ Less
  le_less s k Less e h l = o.trans s k key e l
  le_less s k Equal e h l = o.congr s k key e ∙ l
  le_less s k Greater e h l = cc

module _ {K V : Type 0} (cmp : K → K → Ordering) (o : IsTotalOrder cmp) (key : K) where
  any_less : (s : K) (pairs : List (K × V)) → list_any (λ (p : K × V). is_le (cmp s p.0)) pairs ≡ true → IsAbove cmp key pairs → cmp s key ≡ Less
  any_less s [] h above = absurd (let e : false ≡ true = h in cc)
  any_less s (p ∷ ps) h above =
      (elim (is_le (cmp s p.0)) as (λ b. is_le (cmp s p.0) ≡ b → (b || list_any (λ (q : K × V). is_le (cmp s q.0)) ps) ≡ true → cmp s key ≡ Less) [
        | true ↦ λ e t. le_less cmp o key s p.0 (cmp s p.0) refl e above.0
        | false ↦ λ e t. any_less s ps t above.1
      ]) refl h

  -- a key above all pairs goes to the last child
  pub last_child : (pairs : List (K × V)) → IsAbove cmp key pairs → (es : List (K × ℕ)) (last : ℕ) → is_reached cmp pairs es ≡ true → child_for cmp key es last ≡ last
  last_child pairs above [] last h = refl
  last_child pairs above (e ∷ es) last h =
      let b = both_true (list_any (λ p. is_le (cmp e.0 p.0)) pairs) (is_reached cmp pairs es) h in
      ap (λ c. cond c (child_for cmp key es last) e.1) (ap is_lt (any_less e.0 pairs b.0 above)) ∙ last_child pairs above es last b.1

  pub last_way : (a : Arenas K V) (n : InnerNode K) → a.height ≡ 1 → get a.nodes a.root ≡ Some n → IsAbove cmp key (pairs_of a) → is_reached cmp (pairs_of a) n.children.pairs ≡ true → way cmp (content_of a) key a.height a.root ≡ n.last
  last_way a n flat there above reached =
      ap (λ (h : ℕ). way cmp (content_of a) key h a.root) flat
      ∙ ap (λ (m : Option (InnerNode K)). child_in cmp key a.root (option_map (λ (b : InnerNode K). (b.children, b.last)) m)) there
      ∙ last_child (pairs_of a) above n.children.pairs n.last reached

-- the room of a root by whether it is there, and reached
module _ {K V : Type 0} (cmp : K → K → Ordering) (a : Arenas K V) where
  pub by_root : (P : ℕ → Type 0) → P 0 → ((n : InnerNode K) → get a.nodes a.root ≡ Some n → is_reached cmp (pairs_of a) n.children.pairs ≡ true → P (15 * (15 - n.children.used) + leaf_room (get a.leaves n.last))) → P (root_room cmp a)
  by_root P none some = split (get a.nodes a.root) refl
    where
      split : (m : Option (InnerNode K)) → get a.nodes a.root ≡ m → P (node_room cmp (pairs_of a) (λ n. leaf_room (get a.leaves n)) m)
      split None e = none
      split (Some n) e =
          (elim (is_reached cmp (pairs_of a) n.children.pairs) as (λ b. is_reached cmp (pairs_of a) n.children.pairs ≡ b → P (cond b (15 * (15 - n.children.used) + leaf_room (get a.leaves n.last)) 0)) [
            | true ↦ λ h. some n e h
            | false ↦ λ h. none
          ]) refl

  pub room_is : (n : InnerNode K) → get a.nodes a.root ≡ Some n → is_reached cmp (pairs_of a) n.children.pairs ≡ true → root_room cmp a ≡ 15 * (15 - n.children.used) + leaf_room (get a.leaves n.last)
  room_is n there reached = rw (there, reached) refl

-- as few as 1, or as many as before
pub headroom_more : (height room more : ℕ) → (height ≡ 1 → 0 < room → room ≤ more) → 1 < headroom_for height room → headroom_for height room ≤ headroom_for height more
headroom_more zero room more h u = omega arith
headroom_more (suc zero) room more h u = omega (arith, h refl (omega (arith, u)))
headroom_more (suc (suc height)) room more h u = absurd (omega (arith, u))

pub headroom_one : (height room : ℕ) → 1 < headroom_for height room → height ≢ 0 → (height ≡ 1) × (0 < room)
headroom_one zero room u h = absurd (h refl)
headroom_one (suc zero) room u h = (refl, omega (arith, u))
headroom_one (suc (suc height)) room u h = absurd (omega (arith, u))

module _ {K V : Type 0} (cmp : K → K → Ordering) (pairs : List (K × V)) (f g : ℕ → ℕ) where
  node_less : (d : ℕ) → ((n : ℕ) → f n ≤ g n) → (m : Option (InnerNode K)) → node_room cmp pairs f m ≤ node_room cmp pairs g m
  node_less d less None = omega arith
  node_less d less (Some n) =
      elim (is_reached cmp pairs n.children.pairs) as (λ b. cond b (15 * (15 - n.children.used) + f n.last) 0 ≤ cond b (15 * (15 - n.children.used) + g n.last) 0) [
        | true ↦ omega (arith, less n.last)
        | false ↦ omega arith
      ]

module _ {K V : Type 0} (cmp : K → K → Ordering) (a b : Arenas K V) (pairs : pairs_of b ≡ pairs_of a) (nodes : get b.nodes b.root ≡ get a.nodes a.root) where
  -- leaves with as much room or more leave the root as much
  pub root_less : ((n : ℕ) → leaf_room (get a.leaves n) ≤ leaf_room (get b.leaves n)) → root_room cmp a ≤ root_room cmp b
  root_less less =
      rw (pairs, nodes) (node_less cmp (pairs_of a) (λ n. leaf_room (get a.leaves n)) (λ n. leaf_room (get b.leaves n)) 0 less (get a.nodes a.root))

module _ {K V : Type 0} (s : Slab (Leaf K V)) (n : ℕ) (l m : Leaf K V) (here : get s n ≡ Some l) where
  u : Updates s (with_value s n m) n (Some m)
  u = Updates-with_value s n m (rw here refl)

  -- another leaf at a number with as much room or more
  pub room_less : m.array.used ≤ l.array.used → (k : ℕ) → leaf_room (get s k) ≤ leaf_room (get (with_value s n m) k)
  room_less h k = split (eqb_tells k n)
    where
      split : ((k == n) ≡ true × (k ≡ n)) ⊎ ((k == n) ≡ false × (k ≢ n)) → leaf_room (get s k) ≤ leaf_room (get (with_value s n m) k)
      split (inl e) =
          let old : leaf_room (get s k) ≡ 15 - l.array.used = ap (λ (j : ℕ). leaf_room (get s j)) e.1 ∙ ap leaf_room here in
          let new : leaf_room (get (with_value s n m) k) ≡ 15 - m.array.used = ap (λ (j : ℕ). leaf_room (get (with_value s n m) j)) e.1 ∙ ap leaf_room u.changed in
          omega (arith, old, new, h)
      split (inr e) = let same : leaf_room (get (with_value s n m) k) ≡ leaf_room (get s k) = ap leaf_room (u.others k e.1) in omega (arith, same)

  pub room_more : m.array.used ≡ l.array.used → (k : ℕ) → leaf_room (get (with_value s n m) k) ≤ leaf_room (get s k)
  room_more h k = split (eqb_tells k n)
    where
      split : ((k == n) ≡ true × (k ≡ n)) ⊎ ((k == n) ≡ false × (k ≢ n)) → leaf_room (get (with_value s n m) k) ≤ leaf_room (get s k)
      split (inl e) =
          let old : leaf_room (get s k) ≡ 15 - l.array.used = ap (λ (j : ℕ). leaf_room (get s j)) e.1 ∙ ap leaf_room here in
          let new : leaf_room (get (with_value s n m) k) ≡ 15 - m.array.used = ap (λ (j : ℕ). leaf_room (get (with_value s n m) j)) e.1 ∙ ap leaf_room u.changed in
          omega (arith, old, new, h)
      split (inr e) = let same : leaf_room (get (with_value s n m) k) ≡ leaf_room (get s k) = ap leaf_room (u.others k e.1) in omega (arith, same)

-- what pairs behind all others take
module _ {K V : Type 0} (cmp : K → K → Ordering) (o : IsTotalOrder cmp) (key : K) (a b : Arenas K V) (more : List (K × V)) (count : ℕ) (above : IsAbove cmp key (pairs_of a)) (nodes : get b.nodes b.root ≡ get a.nodes a.root) (pairs : pairs_of b ≡ pairs_of a ++ more)
    (n : ℕ) (on : n ≡ way cmp (content_of a) key a.height a.root) (l m : Leaf K V) (old : get a.leaves n ≡ Some l) (new : get b.leaves n ≡ Some m) (used : m.array.used ≤ l.array.used + count) where
  pub extended_room : a.height ≡ 1 → root_room cmp a ≤ root_room cmp b + count
  extended_room flat =
      by_root cmp a (λ r. r ≤ root_room cmp b + count) (omega arith) (λ t there reached.
      let last : n ≡ t.last = on ∙ last_way cmp o key a t flat there above reached in
      let still : is_reached cmp (pairs_of b) t.children.pairs ≡ true = reached_more cmp (pairs_of a) (pairs_of b) (λ s h. subst (λ ps. list_any (λ (p : K × V). is_le (cmp s p.0)) ps ≡ true) (sym pairs) (any_fore (λ p. is_le (cmp s p.0)) (pairs_of a) more h)) t.children.pairs reached in
      let room = room_is cmp b t (nodes ∙ there) still in
      let before : leaf_room (get a.leaves t.last) ≡ 15 - l.array.used = ap (λ (k : ℕ). leaf_room (get a.leaves k)) (sym last) ∙ ap leaf_room old in
      let after : leaf_room (get b.leaves t.last) ≡ 15 - m.array.used = ap (λ (k : ℕ). leaf_room (get b.leaves k)) (sym last) ∙ ap leaf_room new in
      omega (arith, room, before, after, used))

-- what one insertion above all pairs takes
module _ {K V : Type 0} (cmp : K → K → Ordering) (o : IsTotalOrder cmp) (key : K) (val : V) (a b : Arenas K V) (above : IsAbove cmp key (pairs_of a)) (nodes : get b.nodes b.root ≡ get a.nodes a.root) (pairs : pairs_of b ≡ upserted cmp key val (pairs_of a))
    (n : ℕ) (on : n ≡ way cmp (content_of a) key a.height a.root) (l m : Leaf K V) (old : get a.leaves n ≡ Some l) (new : get b.leaves n ≡ Some m) (used : m.array.used ≤ l.array.used + 1) where
  pub insert_room : a.height ≡ 1 → root_room cmp a ≤ root_room cmp b + 1
  insert_room flat = extended_room cmp o key a b ((key, val) ∷ []) 1 above nodes (pairs ∙ upserted_behind o key val (pairs_of a) above) n on l m old new used flat

-- an array that is full gives the pair back
pub full_back : {K V : Type 0} (r : InsertResult K V) → IsFull r → IsSome (given_back r)
full_back Success f = absurd f
full_back (Duplicate k v) f = absurd f
full_back (Full k v) f = refl

module _ {K V : Type 0} (cmp : K → K → Ordering) (o : IsTotalOrder cmp) where
  -- a key of a list is reached by it
  pub any_at : (ps : List (K × V)) (n : ℕ) (k : K) → key_at ps n ≡ Some k → list_any (λ (p : K × V). is_le (cmp k p.0)) ps ≡ true
  any_at [] n k h = absurd (let e : None ≡ Some k = h in cc)
  any_at (p ∷ ps) zero k h =
      let same : p.0 ≡ k = some_same h in
      let le : is_le (cmp k p.0) ≡ true = ap (λ x. is_le (cmp k x)) same ∙ ap is_le (tied_itself o k) in
      ap (λ b. b || list_any (λ (q : K × V). is_le (cmp k q.0)) ps) le
  any_at (p ∷ ps) (suc n) k h = any_rear (λ (q : K × V). is_le (cmp k q.0)) (p ∷ []) ps (any_at ps n k h)

pub length_entry : {K X : Type 0} (cmp : K → K → Ordering) (es : List (K × X)) (k : K) (x : X) → lookup (is_at (cmp k)) es ≡ None → length (insert_entry cmp es k x) ≡ suc (length es)
length_entry cmp [] k x h = refl
length_entry cmp (e ∷ es) k x h =
    (elim (cmp k e.0) as (λ r. cond (is_eq r) (Some e.1) (lookup (is_at (cmp k)) es) ≡ None → length (match_ordering r ((k, x) ∷ e ∷ es) ((e.0, x) ∷ es) (e ∷ insert_entry cmp es k x)) ≡ suc (suc (length es))) [
      | Less ↦ λ g. refl
      | Equal ↦ λ g. absurd (let i : Some e.1 ≡ None = g in cc)
      | Greater ↦ λ g. ap suc (length_entry cmp es k x g)
    ]) h

pub all_middle : {K V : Type 0} (P : K → Type 0) (xs ys zs : List (K × V)) → AllKeys P (xs ++ (ys ++ zs)) → AllKeys P ys
all_middle P (x ∷ xs) ys zs a = all_middle P xs ys zs a.1
all_middle P [] [] zs a = tt
all_middle P [] (y ∷ ys) zs a = (a.0, all_middle P [] ys zs a.1)

module _ {K V : Type 0} (cmp : K → K → Ordering) (o : IsTotalOrder cmp) (key : K) (a : Arenas K V) where
  -- a flat tree with places left, whose last leaf is full, has room in its node
  pub flat_node : 1 < ascending_headroom cmp a → a.height ≢ 0 → IsAbove cmp key (pairs_of a) → IsLeafFull cmp key a → NodeHasRoom cmp key a 1
  flat_node some planted above full =
      let one = headroom_one a.height (root_room cmp a) some planted in
      by_root cmp a (λ r. 0 < r → NodeHasRoom cmp key a 1) (λ z. absurd (omega (arith, z))) (λ t there reached room.
      let last = last_way cmp o key a t one.0 there above reached in
      let none : leaf_room (get a.leaves t.last) ≡ 0 = ap (λ (k : ℕ). leaf_room (get a.leaves k)) (sym last) ∙ ap leaf_room full.there ∙ ap (λ (k : ℕ). 15 - k) full.full in
      let top : a.height - 1 ≡ 0 = omega (arith, one.0) in
      record { node = t; there = ap (λ (k : ℕ). get a.nodes (way cmp (content_of a) key k a.root)) top ∙ there; room = omega (arith, room, none) }) one.1

  -- a leaf on the way without room that isn't retired is full
  pub full_of : (l : Leaf K V) → get a.leaves (way cmp (content_of a) key a.height a.root) ≡ Some l → l.array.used ≤ 15 → 12 ≤ length l.array.pairs → (l.array.retired ≡ true → length l.array.pairs ≡ 0) → (LeafHasRoom cmp key a → ⊥) → IsLeafFull cmp key a
  full_of l there most long living none =
      record { leaf = l; there = there; full = split (leb_tells 15 l.array.used) (is_living l.array.retired refl) }
    where
      is_living : (b : Bool) → l.array.retired ≡ b → l.array.retired ≡ false
      is_living true e = absurd (omega (arith, living e, long))
      is_living false e = e

      split : ((leb 15 l.array.used ≡ true) × (15 ≤ l.array.used)) ⊎ ((leb 15 l.array.used ≡ false) × (l.array.used < 15)) → l.array.retired ≡ false → l.array.used ≡ 15
      split (inl h) alive = omega (arith, h.1, most)
      split (inr h) alive = absurd (none (record { leaf = l; there = there; living = alive; room = h.1 }))

pub on_err : {T E P : Type 0} (r : Result T E) → P → OnErr r P
on_err (Ok x) p = tt
on_err (Err e) p = p

-- a bound that holds where there is more than one place holds anyhow, where one more is allowed
pub one_more : (h n : ℕ) → (1 < h → h ≤ n + 1) → h ≤ n + 1
one_more zero n f = omega arith
one_more (suc zero) n f = omega arith
one_more (suc (suc h)) n f = f (omega arith)

-- what is neither full nor a duplicate gives nothing back
pub not_back : {K V : Type 0} (r : InsertResult K V) → (IsFull r → ⊥) → (IsDuplicate r → ⊥) → IsSome (given_back r) → ⊥
not_back Success full there some = false≢true some
not_back (Duplicate k v) full there some = there tt
not_back (Full k v) full there some = full tt
