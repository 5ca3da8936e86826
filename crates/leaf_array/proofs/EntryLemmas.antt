-- The words of std's maps and those of the edits of lists agree where keys ascend.
use Rattle.std.proofs.Common.{arith, ◌≡◌, suc, ◌++◌, ◌∷◌, ◌||◌, [], List, true, false, cond, not, length, refl, sym, ap, ◌∙◌, Option, Some, None}
use Rattle.std.specs.declared.cmp.Ordering.{Ordering}
use Rattle.std.specs.declared.cmp.Ordering.TheVariants.{Less, Equal, Greater}
use Rattle.std.specs.Ordering.{is_lt, is_gt, is_eq, match_ordering}
use Rattle.std.specs.Borrow.{Bor}
use Rattle.std.specs.Option.{is_some, option_copied, option_map}
use Rattle.std.specs.Cmp.{IsTotalOrder}
use Rattle.std.specs.List.{AllByRecursion}
use Rattle.std.specs.List.Sorted.{IsStrictlySortedBy}
use Rattle.std.specs.Map.{keys_of, lookup, lookup_entry, remove_entry}
use Rattle.std.specs.BTreeMap.{insert_entry, is_at}
use Rattle.leaf_array.specs.Cells.{lesser}
use Rattle.leaf_array.specs.Edits.{above, below, removed, upserted}
use Rattle.leaf_array.specs.Pairs.{IsAscending, has_key, value_of_key}
use Rattle.leaf_array.proofs.ListLemmas.{IsAscending-removed}
use Rattle.leaf_slots.proofs.OrderLemmas.{turn_less}

module _ {K V : Type 0} (cmp : K → K → Ordering) (laws : IsTotalOrder cmp) (key : K) where
  none_below : (es : List (K × V)) → AllByRecursion (λ y. cmp key y ≡ Less) (keys_of es) → below cmp key es ≡ []
  none_below [] h = refl
  none_below (e ∷ es) h = let u = h.0 in rw u (none_below es h.1)

  all_above : (es : List (K × V)) → AllByRecursion (λ y. cmp key y ≡ Less) (keys_of es) → above cmp key es ≡ es
  all_above [] h = refl
  all_above (e ∷ es) h = let u = h.0 in rw u (ap (λ qs. e ∷ qs) (all_above es h.1))

  none_removed : (es : List (K × V)) → AllByRecursion (λ y. cmp key y ≡ Less) (keys_of es) → removed cmp key es ≡ es
  none_removed [] h = refl
  none_removed (e ∷ es) h = let u = h.0 in rw u (ap (λ qs. e ∷ qs) (none_removed es h.1))

  over_less : (k : K) (es : List (K × V)) → cmp key k ≡ Less → AllByRecursion (λ y. cmp k y ≡ Less) (keys_of es) → AllByRecursion (λ y. cmp key y ≡ Less) (keys_of es)
  over_less k [] l h = tt
  over_less k (e ∷ es) l h = (laws.trans key k e.0 l h.0, over_less k es l h.1)

  over_equal : (k : K) (es : List (K × V)) → cmp key k ≡ Equal → AllByRecursion (λ y. cmp k y ≡ Less) (keys_of es) → AllByRecursion (λ y. cmp key y ≡ Less) (keys_of es)
  over_equal k [] q h = tt
  over_equal k (e ∷ es) q h = (laws.congr key k e.0 q ∙ h.0, over_equal k es q h.1)

  pub insert_upserted : (val : V) (es : List (K × V)) → IsAscending cmp es → has_key cmp key es ≡ false → insert_entry cmp es key val ≡ upserted cmp key val es
  unfolding IsStrictlySortedBy
  insert_upserted val [] = λ so h. refl
  insert_upserted val (e ∷ es) =
      (elim (cmp key e.0) as (λ o. cmp key e.0 ≡ o → IsAscending cmp (e ∷ es) → (is_eq o || has_key cmp key es) ≡ false
      → match_ordering o ((key, val) ∷ e ∷ es) ((e.0, val) ∷ es) (e ∷ insert_entry cmp es key val) ≡ cond (is_gt o) (e ∷ below cmp key es) (below cmp key es) ++ (key, val) ∷ cond (is_lt o) (e ∷ above cmp key es) (above cmp key es)) [
        | Less ↦ λ o so h. let up = over_less e.0 es o so.0 in rw (none_below es up, all_above es up) refl
        | Equal ↦ λ o so h. absurd cc
        | Greater ↦ λ o so h. ap (λ qs. e ∷ qs) (insert_upserted val es so.1 h)
      ]) refl

  pub remove_removed : (es : List (K × V)) → IsAscending cmp es → remove_entry (is_at (cmp key)) es ≡ removed cmp key es
  unfolding IsStrictlySortedBy
  remove_removed [] = λ so. refl
  remove_removed (e ∷ es) =
      (elim (cmp key e.0) as (λ o. cmp key e.0 ≡ o → IsAscending cmp (e ∷ es) → cond (is_eq o) es (e ∷ remove_entry (is_at (cmp key)) es) ≡ cond (not (is_eq o)) (e ∷ removed cmp key es) (removed cmp key es)) [
        | Less ↦ λ o so. ap (λ qs. e ∷ qs) (remove_removed es so.1)
        | Equal ↦ λ o so. sym (none_removed es (over_equal e.0 es o so.0))
        | Greater ↦ λ o so. ap (λ qs. e ∷ qs) (remove_removed es so.1)
      ]) refl

  absent_removed : (es : List (K × V)) → has_key cmp key (removed cmp key es) ≡ false
  absent_removed [] = refl
  absent_removed (e ∷ es) =
      (elim (is_at (cmp key) e.0) as (λ b. is_at (cmp key) e.0 ≡ b → has_key cmp key (cond (not b) (e ∷ removed cmp key es) (removed cmp key es)) ≡ false) [
        | true ↦ λ b. absent_removed es
        | false ↦ λ b. rw b (absent_removed es)
      ]) refl

  upserted_removed : (val : V) (es : List (K × V)) → upserted cmp key val (removed cmp key es) ≡ upserted cmp key val es
  upserted_removed val es = rw (below_removed es, above_removed es) refl where
    below_removed : (es : List (K × V)) → below cmp key (removed cmp key es) ≡ below cmp key es
    below_removed [] = refl
    below_removed (e ∷ es) =
        (elim (cmp key e.0) as (λ o. cmp key e.0 ≡ o → below cmp key (cond (not (is_eq o)) (e ∷ removed cmp key es) (removed cmp key es)) ≡ cond (is_gt o) (e ∷ below cmp key es) (below cmp key es)) [
          | Less ↦ λ o. rw o (below_removed es)
          | Equal ↦ λ o. below_removed es
          | Greater ↦ λ o. rw o (ap (λ qs. e ∷ qs) (below_removed es))
        ]) refl

    above_removed : (es : List (K × V)) → above cmp key (removed cmp key es) ≡ above cmp key es
    above_removed [] = refl
    above_removed (e ∷ es) =
        (elim (cmp key e.0) as (λ o. cmp key e.0 ≡ o → above cmp key (cond (not (is_eq o)) (e ∷ removed cmp key es) (removed cmp key es)) ≡ cond (is_lt o) (e ∷ above cmp key es) (above cmp key es)) [
          | Less ↦ λ o. rw o (ap (λ qs. e ∷ qs) (above_removed es))
          | Equal ↦ λ o. above_removed es
          | Greater ↦ λ o. rw o (above_removed es)
        ]) refl

  pub exchange_upserted : (val : V) (es : List (K × V)) → IsAscending cmp es → insert_entry cmp (remove_entry (is_at (cmp key)) es) key val ≡ upserted cmp key val es
  exchange_upserted val es so = rw (remove_removed es so) (insert_upserted val (removed cmp key es) (IsAscending-removed laws key es so) (absent_removed es) ∙ upserted_removed val es)

  -- ---- behind all others

  pub entry_last : (val : V) (es : List (K × V)) → lesser cmp key es ≡ length es → insert_entry cmp es key val ≡ es ++ (key, val) ∷ []
  entry_last val [] = λ h. refl
  entry_last val (e ∷ es) =
      (elim (cmp e.0 key) as (λ o. cmp e.0 key ≡ o → cond (is_lt o) (suc (lesser cmp key es)) 0 ≡ suc (length es) → insert_entry cmp (e ∷ es) key val ≡ e ∷ (es ++ (key, val) ∷ [])) [
        | Less ↦ λ o h. let u = turn_less cmp laws e.0 key o in rw u (ap (λ qs. e ∷ qs) (entry_last val es (omega (arith, h))))
        | Equal ↦ λ o h. absurd (omega (arith, h))
        | Greater ↦ λ o h. absurd (omega (arith, h))
      ]) refl

  pub absent_behind : (es : List (K × V)) → lesser cmp key es ≡ length es → is_some (lookup (is_at (cmp key)) es) ≡ false
  absent_behind [] = λ h. refl
  absent_behind (e ∷ es) =
      (elim (cmp e.0 key) as (λ o. cmp e.0 key ≡ o → cond (is_lt o) (suc (lesser cmp key es)) 0 ≡ suc (length es) → is_some (lookup (is_at (cmp key)) (e ∷ es)) ≡ false) [
        | Less ↦ λ o h. let u = turn_less cmp laws e.0 key o in rw u (absent_behind es (omega (arith, h)))
        | Equal ↦ λ o h. absurd (omega (arith, h))
        | Greater ↦ λ o h. absurd (omega (arith, h))
      ]) refl

module _ {K V : Type 0} (cmp : K → K → Ordering) (key : K) where
  pub has_lookup : (es : List (K × V)) → has_key cmp key es ≡ is_some (lookup (is_at (cmp key)) es)
  has_lookup [] = refl
  has_lookup (e ∷ es) = elim (is_at (cmp key) e.0) as (λ b. (b || has_key cmp key es) ≡ is_some (cond b (Some e.1) (lookup (is_at (cmp key)) es))) [ true ↦ refl | false ↦ has_lookup es ]

  pub value_lookup : (es : List (K × V)) → value_of_key cmp key es ≡ option_map (λ e. e.1) (lookup_entry (is_at (cmp key)) es)
  value_lookup [] = refl
  value_lookup (e ∷ es) = elim (is_at (cmp key) e.0) as (λ b. cond b (Some e.1) (lookup (is_at (cmp key)) es) ≡ option_map (λ e. e.1) (cond b (Some e) (lookup_entry (is_at (cmp key)) es))) [ true ↦ refl | false ↦ value_lookup es ]

-- a copy is there where what was copied is
pub copied_some : {V : Type 0} (o : Option (Bor V)) → is_some (option_copied o) ≡ is_some o
copied_some None = refl
copied_some (Some v) = refl
