-- What stands in the arenas of a sound tree.
use Rattle.std.proofs.Common.{◌≡◌, ◌≢◌, ◌⊎◌, inl, inr, ℕ, ◌||◌, ◌+◌, ◌-◌, ◌≤◌, Bool, true, false, cond, not, IsSome, Option, Some, None, List, [], ◌∷◌, ◌++◌, refl, sym, ap, ◌∙◌, subst, arith}
use Rattle.std.specs.Prelude.{length}
use Rattle.std.specs.Option.{option_map}
use Rattle.std.specs.declared.cmp.Ordering.{Ordering}
use Rattle.std.specs.declared.cmp.Ordering.TheVariants.{Less, Equal, Greater}
use Rattle.std.specs.Ordering.{is_lt, is_gt, is_eq}
use Rattle.std.specs.List.{filter}
use Rattle.std.proofs.lemmas.List.{length-append}
use Rattle.std.specs.Cmp.{IsTotalOrder}
use Rattle.std.specs.BTreeMap.{is_at}
use Rattle.std.specs.Map.{lookup_entry}
use Rattle.slab.specs.Slab.{get, with_value}
use Rattle.slab.proofs.SlabLemmas.{Updates-with_value}
use Rattle.leaf_array.specs.Cells.{Cells}
use Rattle.leaf_array.specs.Edits.{above, below, removed, upserted}
use Rattle.leaf_array.specs.Pairs.{IsAscending, has_key}
use Rattle.leaf_array.specs.Results.{IsSuccess, given_back}
use Rattle.leaf_array.specs.declared.result.InsertResult.{InsertResult}
use Rattle.leaf_array.specs.declared.result.InsertResult.TheVariants.{Success, Duplicate, Full}
use Rattle.tree_nodes.specs.declared.leaf.Leaf.{Leaf}
use Rattle.tree_nodes.specs.declared.arenas.Arenas.{Arenas}
use Rattle.tree_nodes.specs.Shape.{IsWithin, AllKeys, way, leaf_pairs, pairs_under, Stands}
use Rattle.tree_nodes.specs.Chain.{leaf_links, IsLinked}
use Rattle.tree_nodes.proofs.ChainLemmas.{linked_kept}
use Rattle.tree_nodes.proofs.LinkLemmas.{links_kept}
use Rattle.tree_nodes.specs.Content.{content_of, pairs_of, leaves_of, leaf_on_way, HasNoTree, IsSound}
use Rattle.tree_nodes.proofs.WayLemmas.{around, leaf_thawed, lookup_way, leaf_there, Written, written, upserted_middle, removed_middle, has_middle}
use Rattle.tree_nodes.proofs.ShapeLemmas.{all_append}

module _ {K V : Type 0} (cmp : K → K → Ordering) (o : IsTotalOrder cmp) (key : K) (a : Arenas K V) where
  abbrev pub on_way : ℕ
  on_way = leaf_on_way cmp key a

  array_at : (n : ℕ) (l : Option (Leaf K V)) → get a.leaves n ≡ l → (content_of a).leaf n ≡ option_map (λ l. l.array) l
  array_at n l h = ap (option_map (λ (l : Leaf K V). l.array)) h

  -- where a leaf is found, the tree stands
  pub stands_with : (l : Leaf K V) → get a.leaves on_way ≡ Some l → IsSound cmp a → (a.height ≢ 0) × Stands cmp (content_of a) a.height a.root
  stands_with l here s = split s.stands
    where
      split : HasNoTree a ⊎ (a.height ≢ 0) × Stands cmp (content_of a) a.height a.root → (a.height ≢ 0) × Stands cmp (content_of a) a.height a.root
      split (inl bare) = absurd (let e : Some l ≡ None = sym here ∙ bare.empty on_way in cc)
      split (inr stands) = stands

  -- a look-up is one in the leaf on the way
  pub lookup_sound : (l : Leaf K V) → get a.leaves on_way ≡ Some l → IsSound cmp a → lookup_entry (is_at (cmp key)) (pairs_of a) ≡ lookup_entry (is_at (cmp key)) l.array.pairs
  lookup_sound l here s = lookup_way cmp o key (content_of a) a.height a.root l.array (stands_with l here s).1.tree (array_at on_way (Some l) here)

  -- where no leaf is found, there are no pairs
  pub none_sound : get a.leaves on_way ≡ None → IsSound cmp a → HasNoTree a
  none_sound here s = split s.stands
    where
      split : HasNoTree a ⊎ (a.height ≢ 0) × Stands cmp (content_of a) a.height a.root → HasNoTree a
      split (inl bare) = bare
      split (inr stands) =
          let t = leaf_there cmp o key (content_of a) a.height a.root stands.1.tree in
          absurd (let e : None ≡ Some t.0 = sym (array_at on_way None here) ∙ t.1 in cc)

  pub bare_pairs : HasNoTree a → pairs_of a ≡ []
  bare_pairs b = ap (λ n. pairs_under (content_of a) n a.root) b.flat ∙ ap leaf_pairs (array_at a.root None (b.empty a.root))

-- ---- what an edit of a leaf leaves

module _ {K V : Type 0} where
  pub all_filtered : (P : K → Type 0) (test : K → Bool) (ps : List (K × V)) → AllKeys P ps → AllKeys P (filter (λ p. test p.0) ps)
  all_filtered P test [] a = tt
  all_filtered P test (p ∷ ps) a =
      elim (test p.0) as (λ b. AllKeys P (cond b (p ∷ filter (λ p. test p.0) ps) (filter (λ p. test p.0) ps))) [
        | true ↦ (a.0, all_filtered P test ps a.1)
        | false ↦ all_filtered P test ps a.1
      ]

module _ {K V : Type 0} (cmp : K → K → Ordering) (key : K) (val : V) where
  -- the pairs of a leaf after an insertion
  abbrev pub IsPut : List (K × V) → List (K × V) → Type 0
  IsPut old new = (new ≡ upserted cmp key val old) ⊎ (new ≡ old)

  pub put_of : (r : InsertResult K V) (old new : Cells K V) → (IsSuccess r → new.pairs ≡ upserted cmp key val old.pairs) → (IsSome (given_back r) → new ≡ old) → IsPut old.pairs new.pairs
  put_of Success old new done kept = inl (done tt)
  put_of (Duplicate k v) old new done kept = inr (ap (λ (c : Cells K V). c.pairs) (kept refl))
  put_of (Full k v) old new done kept = inr (ap (λ (c : Cells K V). c.pairs) (kept refl))

  split_length : (ps : List (K × V)) → length (below cmp key ps) + length (above cmp key ps) ≤ length ps
  split_length [] = omega arith
  split_length (p ∷ ps) =
      elim (cmp key p.0) as (λ r. length (cond (is_gt r) (p ∷ below cmp key ps) (below cmp key ps)) + length (cond (is_lt r) (p ∷ above cmp key ps) (above cmp key ps)) ≤ length (p ∷ ps)) [
        | Less ↦ omega (arith, split_length ps)
        | Equal ↦ omega (arith, split_length ps)
        | Greater ↦ omega (arith, split_length ps)
      ]

  split_there : (ps : List (K × V)) → has_key cmp key ps ≡ true → length (below cmp key ps) + length (above cmp key ps) + 1 ≤ length ps
  split_there [] h = absurd (cc)
  split_there (p ∷ ps) h =
      (elim (cmp key p.0) as (λ r. (is_eq r || has_key cmp key ps) ≡ true → length (cond (is_gt r) (p ∷ below cmp key ps) (below cmp key ps)) + length (cond (is_lt r) (p ∷ above cmp key ps) (above cmp key ps)) + 1 ≤ length (p ∷ ps)) [
        | Less ↦ λ h. omega (arith, split_there ps h)
        | Equal ↦ λ h. omega (arith, split_length ps)
        | Greater ↦ λ h. omega (arith, split_there ps h)
      ]) h

  -- it is no longer where a pair had the key
  pub put_there : (old new : List (K × V)) → IsPut old new → has_key cmp key old ≡ true → length new ≤ length old
  put_there old new (inl p) h = rw p (simp length-append (omega (arith, split_there old h)))
  put_there old new (inr p) h = rw p (omega arith)

  -- it is longer by one at most
  pub put_length : (old new : List (K × V)) → IsPut old new → length new ≤ length old + 1
  put_length old new (inl p) = rw p (simp length-append (omega (arith, split_length old)))
  put_length old new (inr p) = rw p (omega arith)

  pub put_keys : (P : K → Type 0) (old new : List (K × V)) → IsPut old new → P key → AllKeys P old → AllKeys P new
  put_keys P old new (inl p) k a =
      subst (AllKeys P) (sym p) (all_append P (below cmp key old) ((key, val) ∷ above cmp key old) (all_filtered P (λ k. is_gt (cmp key k)) old a) (k, all_filtered P (λ k. is_lt (cmp key k)) old a))
  put_keys P old new (inr p) k a = subst (AllKeys P) (sym p) a

pub middle_length : {X : Type 0} (front old new back : List X) (len : ℕ) → len ≡ length (front ++ (old ++ back)) → (length old ≤ len) × (len - length old + length new ≡ length (front ++ (new ++ back)))
middle_length front old new back len h =
    let a : length (front ++ (old ++ back)) ≡ length front + (length old + length back) = simp length-append in
    let b : length (front ++ (new ++ back)) ≡ length front + (length new + length back) = simp length-append in
    (omega (arith, h, a), omega (arith, h, a, b))

-- the leaf that the way to a key leads to, in sound arenas
pub record IsOnWay {K V : Type 0} (cmp : K → K → Ordering) (key : K) (a : Arenas K V) (n : ℕ) (l : Leaf K V) : Type 0 where
  pub total : IsTotalOrder cmp
  pub sound : IsSound cmp a
  pub on : n ≡ leaf_on_way cmp key a
  pub here : get a.leaves n ≡ Some l

-- another leaf in the place of one
abbrev pub with_leaf : {K V : Type 0} → Arenas K V → ℕ → Leaf K V → ℕ → Arenas K V
with_leaf a n m len = record { leaves = with_value a.leaves n m; nodes = a.nodes; root = a.root; height = a.height; len = len }

module _ {K V : Type 0} {cmp : K → K → Ordering} {key : K} {a : Arenas K V} {n : ℕ} {l : Leaf K V} (t : IsOnWay cmp key a n l) where
  here_on_way : get a.leaves (leaf_on_way cmp key a) ≡ Some l
  here_on_way = rw (sym t.on) t.here

  tree : (a.height ≢ 0) × Stands cmp (content_of a) a.height a.root
  tree = stands_with cmp t.total key a l here_on_way t.sound

  array_here : (content_of a).leaf (leaf_on_way cmp key a) ≡ Some l.array
  array_here = array_at cmp t.total key a (leaf_on_way cmp key a) (Some l) here_on_way

  abbrev pub Rewritten : Leaf K V → ℕ → Type 0
  Rewritten m len = Written cmp t.total key (content_of a) (content_of (with_leaf a n m len)) a.height a.height a.root l.array m.array

  pub rewritten : (m : Leaf K V) (len : ℕ) → m.array.frozen ≡ false → IsAscending cmp m.array.pairs
      → ((low high : Option K) → IsWithin cmp low high key → AllKeys (IsWithin cmp low high) l.array.pairs → AllKeys (IsWithin cmp low high) m.array.pairs)
      → Rewritten m len
  rewritten m len thawed rising keys =
      let u = Updates-with_value a.leaves n m (rw t.here refl) in
      let array : Option (Leaf K V) → Option (Cells K V) = option_map (λ (l : Leaf K V). l.array) in
      let there : array (get (with_value a.leaves n m) (leaf_on_way cmp key a)) ≡ Some m.array = subst (λ (k : ℕ). array (get (with_value a.leaves n m) k) ≡ Some m.array) t.on (ap array u.changed) in
      written cmp t.total key (content_of a) (content_of (with_leaf a n m len)) a.height a.root l.array m.array tree.1 array_here there
      (λ k d. ap array (u.others k (λ e. d (e ∙ t.on)))) (λ k. refl) thawed rising keys

  still_linked : (m : Leaf K V) (len : ℕ) → m.prev ≡ l.prev → m.next ≡ l.next → Rewritten m len → a.height ≢ 0 → IsLinked (leaf_links (with_value a.leaves n m)) None (leaves_of (with_leaf a n m len)) None
  still_linked m len p q w h =
      subst (λ ns. IsLinked (leaf_links (with_value a.leaves n m)) None ns None) (sym w.order) (linked_kept (leaf_links a.leaves) (leaf_links (with_value a.leaves n m)) None (leaves_of a) None (λ k d. links_kept a.leaves n l m t.here p q k) (t.sound.linked h))

  pub still_sound : (m : Leaf K V) (before after : ℕ) → m.prev ≡ l.prev → m.next ≡ l.next → before ≡ length l.array.pairs → after ≡ length m.array.pairs → Rewritten m (a.len - before + after) → IsSound cmp (with_leaf a n m (a.len - before + after))
  still_sound m before after p q b f w =
      let more = (middle_length w.front l.array.pairs m.array.pairs w.back a.len (t.sound.count ∙ ap length w.old)).1 in
      record {
        stands = inr (tree.0, w.stands);
        linked = still_linked m (a.len - before + after) p q w;
        count = rw (b, f) (more ∙ sym (ap length w.new));
      }

  pub thawed_on_way : l.array.frozen ≡ false
  thawed_on_way = leaf_thawed cmp t.total key (content_of a) a.height a.root l.array tree.1.tree array_here

  -- the leaf's pairs are counted
  pub leaf_counted : length l.array.pairs ≤ a.len
  leaf_counted =
      let r = around cmp t.total key (content_of a) a.height a.root l.array tree.1.tree array_here in
      (middle_length r.front l.array.pairs l.array.pairs r.back a.len (t.sound.count ∙ ap length r.pairs)).0

  pub put_written : (val : V) (m : Leaf K V) (len : ℕ) → IsPut cmp key val l.array.pairs m.array.pairs → m.array.frozen ≡ false → IsAscending cmp m.array.pairs → Rewritten m len
  put_written val m len put thawed rising =
      rewritten m len thawed rising (λ low high within all. put_keys cmp key val (IsWithin cmp low high) l.array.pairs m.array.pairs put within all)

  -- a leaf with fewer pairs in the place of the one on the way
  pub taken_written : (m : Leaf K V) (len : ℕ) → (m.array.pairs ≡ removed cmp key l.array.pairs) ⊎ (m.array.pairs ≡ l.array.pairs) → m.array.frozen ≡ false → IsAscending cmp m.array.pairs → Rewritten m len
  taken_written m len taken thawed rising = rewritten m len thawed rising (λ low high within all. keys low high all taken)
    where
      keys : (low high : Option K) → AllKeys (IsWithin cmp low high) l.array.pairs → (m.array.pairs ≡ removed cmp key l.array.pairs) ⊎ (m.array.pairs ≡ l.array.pairs) → AllKeys (IsWithin cmp low high) m.array.pairs
      keys low high all (inl p) = subst (AllKeys (IsWithin cmp low high)) (sym p) (all_filtered (IsWithin cmp low high) (λ k. not (is_at (cmp key) k)) l.array.pairs all)
      keys low high all (inr p) = subst (AllKeys (IsWithin cmp low high)) (sym p) all

  pub lookup_written : lookup_entry (is_at (cmp key)) (pairs_of a) ≡ lookup_entry (is_at (cmp key)) l.array.pairs
  lookup_written = lookup_sound cmp t.total key a l here_on_way t.sound

  -- what a rewritten leaf leaves of the pairs, and of the arenas
  module _ (m : Leaf K V) (len : ℕ) (w : Rewritten m len) where
    pub has_written : has_key cmp key (pairs_of a) ≡ has_key cmp key l.array.pairs
    has_written = ap (has_key cmp key) w.old ∙ has_middle cmp t.total key w.front w.back w.before w.behind l.array.pairs

    pub upserted_written : (val : V) → m.array.pairs ≡ upserted cmp key val l.array.pairs → pairs_of (with_leaf a n m len) ≡ upserted cmp key val (pairs_of a)
    upserted_written val p = w.new ∙ ap (λ ps. w.front ++ (ps ++ w.back)) p ∙ sym (upserted_middle cmp t.total key w.front w.back w.before w.behind val l.array.pairs) ∙ sym (ap (upserted cmp key val) w.old)

    pub removed_written : m.array.pairs ≡ removed cmp key l.array.pairs → pairs_of (with_leaf a n m len) ≡ removed cmp key (pairs_of a)
    removed_written p = w.new ∙ ap (λ ps. w.front ++ (ps ++ w.back)) p ∙ sym (removed_middle cmp t.total key w.front w.back w.before w.behind l.array.pairs) ∙ sym (ap (removed cmp key) w.old)

    pub kept_written : m.array.pairs ≡ l.array.pairs → pairs_of (with_leaf a n m len) ≡ pairs_of a
    kept_written p = w.new ∙ ap (λ ps. w.front ++ (ps ++ w.back)) p ∙ sym w.old

    -- it stands on the way
    pub written_there : get (with_value a.leaves n m) (way cmp (content_of (with_leaf a n m len)) key a.height a.root) ≡ Some m
    written_there = ap (get (with_value a.leaves n m)) (w.same_way ∙ sym t.on) ∙ (Updates-with_value a.leaves n m (rw t.here refl)).changed

  -- a leaf with the same pairs in the place of the one on the way
  pub same_sound : (m : Leaf K V) → m.prev ≡ l.prev → m.next ≡ l.next → Rewritten m a.len → m.array.pairs ≡ l.array.pairs → IsSound cmp (with_leaf a n m a.len)
  same_sound m q r w p = record {
    stands = inr (tree.0, w.stands);
    linked = still_linked m a.len q r w;
    count = t.sound.count ∙ sym (ap length (kept_written m a.len w p));
  }

-- what a removal leaves
pub taken_of : {X : Type 0} (answer : Bool) (old new less : X) → (answer ≡ true → new ≡ less) → (answer ≡ false → new ≡ old) → (new ≡ less) ⊎ (new ≡ old)
taken_of true old new less t k = inl (t refl)
taken_of false old new less t k = inr (k refl)

pub removed_length : {K V : Type 0} (cmp : K → K → Ordering) (key : K) (old new : List (K × V)) → (new ≡ removed cmp key old) ⊎ (new ≡ old) → length new ≤ length old
removed_length {K} {V} cmp key old new (inl p) = rw p (shorter old)
  where
    shorter : (ps : List (K × V)) → length (removed cmp key ps) ≤ length ps
    shorter [] = omega arith
    shorter (p ∷ ps) =
        elim (is_at (cmp key) p.0) as (λ b. length (cond (not b) (p ∷ removed cmp key ps) (removed cmp key ps)) ≤ length (p ∷ ps)) [
          | true ↦ omega (arith, shorter ps)
          | false ↦ omega (arith, shorter ps)
        ]
removed_length cmp key old new (inr p) = rw p (omega arith)
