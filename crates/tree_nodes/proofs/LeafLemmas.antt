-- What an array answers in the words of maps, in the words of writes.
use Rattle.std.proofs.Common.{◌≡◌, ℕ, ◌<◌, ◌==◌, arith, Bool, true, false, cond, not, ◌||◌, ◌&&◌, IsTrue, List, [], ◌∷◌, Option, Some, None, refl, sym, ap, ◌∙◌}
use Rattle.std.proofs.lemmas.Bool.{eqb-true}
use Rattle.std.specs.List.{AllByRecursion, filter}
use Rattle.std.specs.BTreeMap.{is_at}
use Rattle.std.specs.Cmp.{IsTotalOrder}
use Rattle.std.specs.declared.cmp.Ordering.{Ordering}
use Rattle.std.specs.declared.cmp.Ordering.TheVariants.{Less}
use Rattle.std.specs.Map.{keys_of, lookup_entry}
use Rattle.std.specs.Option.{is_some, IfSome}
use Rattle.std.proofs.lemmas.Map.Keys.{sorted_head}
use Rattle.leaf_array.specs.Edits.{removed, upserted}
use Rattle.leaf_array.specs.Pairs.{IsAscending, has_key, value_of_key}
use Rattle.leaf_array.specs.declared.result.InsertResult.{InsertResult}
use Rattle.leaf_array.specs.declared.result.InsertResult.TheVariants.{Success, Duplicate, Full}
use Rattle.leaf_array.specs.Cells.{Cells, array_has_key, array_inserted, array_overwritten}
use Rattle.leaf_array.specs.Results.{IsSuccess, IsDuplicate, IsFull, is_closed, is_repeated}
use Rattle.leaf_array.proofs.EntryLemmas.{insert_upserted, exchange_upserted, has_lookup}
use Rattle.tree_nodes.specs.Shape.{AllKeys}

module _ {K V : Type 0} where
  all_of_keys : (P : K → Type 0) (ps : List (K × V)) → AllByRecursion P (keys_of ps) → AllKeys P ps
  all_of_keys P [] a = tt
  all_of_keys P (p ∷ ps) a = (a.0, all_of_keys P ps a.1)

  pub filter_all : (test : K → Bool) (ps : List (K × V)) → AllKeys (λ k. test k ≡ true) ps → filter (λ p. test p.0) ps ≡ ps
  filter_all test [] a = refl
  filter_all test (p ∷ ps) a = rw a.0 (ap (λ qs. p ∷ qs) (filter_all test ps a.1))

  pub filter_none : (test : K → Bool) (ps : List (K × V)) → AllKeys (λ k. test k ≡ false) ps → filter (λ p. test p.0) ps ≡ []
  filter_none test [] a = refl
  filter_none test (p ∷ ps) a = rw a.0 (filter_none test ps a.1)

  pub has_entry : (cmp : K → K → Ordering) (key : K) (ps : List (K × V)) → has_key cmp key ps ≡ is_some (lookup_entry (is_at (cmp key)) ps)
  has_entry cmp key [] = refl
  has_entry cmp key (p ∷ ps) =
      elim (is_at (cmp key) p.0) as (λ b. (b || has_key cmp key ps) ≡ is_some (cond b (Some p) (lookup_entry (is_at (cmp key)) ps))) [
        | true ↦ refl
        | false ↦ has_entry cmp key ps
      ]

module _ {K V : Type 0} (cmp : K → K → Ordering) (o : IsTotalOrder cmp) (key : K) where
  -- the keys behind the first of an ascending list
  pub over_head : (p : K × V) (ps : List (K × V)) → IsAscending cmp (p ∷ ps) → AllKeys (λ k. cmp p.0 k ≡ Less) ps
  over_head p ps up = all_of_keys (λ k. cmp p.0 k ≡ Less) ps (sorted_head cmp p.0 (keys_of ps) up)

-- ---- what an array answers to an insertion

last_of_three : (a b c : Bool) → IsTrue (a && b && c) → c ≡ true
last_of_three true true c h = h
last_of_three true false c h = cc
last_of_three false b c h = cc

pub repeated_has : {K V : Type 0} (upsert : Bool) (cmp : K → K → Ordering) (key : K) (a : Cells K V) → IsTrue (is_repeated upsert cmp key a) → array_has_key cmp key a ≡ true
repeated_has upsert cmp key a h = last_of_three (not (is_closed a)) (not upsert) (array_has_key cmp key a) h

unique_of : (closed full upsert there : Bool) → (IsTrue (closed || full && not there) → ⊥) → (IsTrue (not closed && not upsert && there) → ⊥) → upsert ≡ false → there ≡ false
unique_of true full upsert there a b e = absurd (a refl)
unique_of false full true there a b e = cc
unique_of false full false true a b e = absurd (b refl)
unique_of false full false false a b e = refl

pub unique : {K V : Type 0} (r : InsertResult K V) (closed full upsert there : Bool) → (IsTrue (closed || full && not there) → IsFull r) → (IsTrue (not closed && not upsert && there) → IsDuplicate r) → IsSuccess r → upsert ≡ false → there ≡ false
unique Success closed full upsert there a b s e = unique_of closed full upsert there a b e
unique (Duplicate k v) closed full upsert there a b s e = absurd s
unique (Full k v) closed full upsert there a b s e = absurd s

module _ {K V : Type 0} (cmp : K → K → Ordering) (o : IsTotalOrder cmp) (key : K) (val : V) where
  -- a pair that is put into an array is put into its list
  pub put_is : (old new : Cells K V) → IsAscending cmp old.pairs → (array_has_key cmp key old ≡ false → new ≡ array_inserted cmp key val old) → (array_has_key cmp key old ≡ true → new ≡ array_overwritten cmp key val old) → new.pairs ≡ upserted cmp key val old.pairs
  put_is old new up absent there =
      (elim (array_has_key cmp key old) as (λ b. array_has_key cmp key old ≡ b → new.pairs ≡ upserted cmp key val old.pairs) [
        | true ↦ λ b. ap (λ (c : Cells K V). c.pairs) (there b) ∙ exchange_upserted cmp o key val old.pairs up
        | false ↦ λ b. ap (λ (c : Cells K V). c.pairs) (absent b) ∙ insert_upserted cmp o key val old.pairs up (has_lookup cmp key old.pairs ∙ b)
      ]) refl

-- an array with room that is not retired
pub roomy : (retired : Bool) (used : ℕ) → retired ≡ false → used < 15 → IsTrue (retired || used == 15) → ⊥
roomy true used r u h = cc
roomy false used r u h = let e : used ≡ 15 = eqb-true used 15 h in omega (arith, e, u)

-- what a removal with a condition that holds answers
pub found_of : {X : Type 0} {Q : X → Type 0} (x : Option X) (r : Bool) → IfSome x Q → (x ≡ None → r ≡ false) → ((e : X) → Q e → r ≡ true) → r ≡ is_some x
found_of None r some none sure = none refl
found_of (Some e) r some none sure = sure e some

-- without a pair of the key a removal leaves the list
pub removed_none : {K V : Type 0} (cmp : K → K → Ordering) (key : K) (ps : List (K × V)) → has_key cmp key ps ≡ false → removed cmp key ps ≡ ps
removed_none cmp key [] h = refl
removed_none cmp key (p ∷ ps) h =
    (elim (is_at (cmp key) p.0) as (λ b. (b || has_key cmp key ps) ≡ false → cond (not b) (p ∷ removed cmp key ps) (removed cmp key ps) ≡ p ∷ ps) [
      | true ↦ λ h. cc
      | false ↦ λ h. ap (λ qs. p ∷ qs) (removed_none cmp key ps h)
    ]) h

pub removed_of : {K V : Type 0} (cmp : K → K → Ordering) (key : K) (old new : List (K × V)) (r : Bool) → (r ≡ true → new ≡ removed cmp key old) → (r ≡ false → new ≡ old) → r ≡ has_key cmp key old → new ≡ removed cmp key old
removed_of cmp key old new true there none h = there refl
removed_of cmp key old new false there none h = none refl ∙ sym (removed_none cmp key old (sym h))

pub value_none : {K V : Type 0} (cmp : K → K → Ordering) (key : K) (ps : List (K × V)) → value_of_key cmp key ps ≡ None → lookup_entry (is_at (cmp key)) ps ≡ None
value_none cmp key [] h = refl
value_none cmp key (p ∷ ps) h =
    (elim (is_at (cmp key) p.0) as (λ b. cond b (Some p.1) (value_of_key cmp key ps) ≡ None → cond b (Some p) (lookup_entry (is_at (cmp key)) ps) ≡ None) [
      | true ↦ λ h. cc
      | false ↦ λ h. value_none cmp key ps h
    ]) h

-- what holds of the value of the pair found holds of the value found
pub value_asked : {K V : Type 0} (cmp : K → K → Ordering) (key : K) (ps : List (K × V)) (P : V → Type 0) → IfSome (lookup_entry (is_at (cmp key)) ps) (λ e. P e.1) → IfSome (value_of_key cmp key ps) P
value_asked cmp key [] P h = h
value_asked cmp key (p ∷ ps) P h =
    (elim (is_at (cmp key) p.0) as (λ b. IfSome (cond b (Some p) (lookup_entry (is_at (cmp key)) ps)) (λ e. P e.1) → IfSome (cond b (Some p.1) (value_of_key cmp key ps)) P) [
      | true ↦ λ h. h
      | false ↦ λ h. value_asked cmp key ps P h
    ]) h

-- and the other way round
pub entry_asked : {K V : Type 0} (cmp : K → K → Ordering) (key : K) (ps : List (K × V)) (P : V → Type 0) → IfSome (value_of_key cmp key ps) P → IfSome (lookup_entry (is_at (cmp key)) ps) (λ e. P e.1)
entry_asked cmp key [] P h = h
entry_asked cmp key (p ∷ ps) P h =
    (elim (is_at (cmp key) p.0) as (λ b. IfSome (cond b (Some p.1) (value_of_key cmp key ps)) P → IfSome (cond b (Some p) (lookup_entry (is_at (cmp key)) ps)) (λ e. P e.1)) [
      | true ↦ λ h. h
      | false ↦ λ h. entry_asked cmp key ps P h
    ]) h
