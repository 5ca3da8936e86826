-- how often cells and items hold an item, and what a change of one cell or item makes of that
use Rattle.std.proofs.Common.{◌≡◌, ◌≢◌, ◌⊎◌, true, ℕ, zero, suc, ◌+◌, ◌-◌, ◌^◌, ◌<◌, ◌≤◌, ◌==◌, cond, List, [], ◌∷◌, ◌++◌, map, length, get_or, set, sym, refl, ap, ◌∙◌, subst, ⊎_elim, inl, inr, arith, eq-eqb, ne_eqb, eqb-true, ltb-true, leb-true, nat_lt, nat_le, ◌&&◌, Option, Some, None, length-set, length-append}
use lib.ListN.{length-map}
use mathlib.Core.Logic.{dite}
use mathlib.Core.Option.{some, some-injective, some-ne-none}
use native.Mathlib.Decide.{ℕ_discrete}
use Rattle.sdd_steps.specs.declared.item.Item.{Item}
use Rattle.sdd_steps.specs.declared.item.Cell.{Cell}
use Rattle.sdd_steps.specs.declared.item.ItemState.{ItemState}
use Rattle.sdd_steps.specs.declared.item.ItemState.TheVariants.{Live, Reclaimed}
use Rattle.sdd_steps.specs.State.{At, Has, has, one_if_same, times, without, no_item, empty_cell}
use Rattle.sdd_steps.specs.Steps.{handed, unhanded, paid, new_item, taken_up, all_have_loose_owners}
use Rattle.sdd_steps.specs.Invariant.{points, uses, held, names_of, Owned, AllOwnersCounted}
use Rattle.sdd_steps.proofs.ListLemmas.{set_all, set_here, set_else, same_at, find_at, at_inside, at_mapped, at_end, get_at, either, both}

pub uses_set : (i : ℕ) (names : List (Option ℕ)) (c : ℕ) (o o' : Option ℕ) → At names c o → uses i (set names c o') + points i o ≡ uses i names + points i o'
uses_set i [] c o o' at = absurd (some-ne-none o (sym at))
uses_set i (x ∷ l) zero o o' at = let e : points i x ≡ points i o = ap (points i) (some-injective x o at) in omega arith
uses_set i (x ∷ l) (suc c) o o' at = let h = uses_set i l c o o' at in omega arith

pub points_self : (i : ℕ) → points i (Some i) ≡ 1
points_self i = ap (λ b. cond b 1 0) (eq-eqb i i refl)

pub points_other : (i j : ℕ) → j ≢ i → points i (Some j) ≡ 0
points_other i j other = ap (λ b. cond b 1 0) (ne_eqb j i other)

pub uses_some : (i : ℕ) (names : List (Option ℕ)) (c : ℕ) → At names c (Some i) → 0 < uses i names
uses_some i [] c at = absurd (some-ne-none (Some i) (sym at))
uses_some i (x ∷ l) zero at = let e : points i x ≡ 1 = ap (points i) (some-injective x (Some i) at) ∙ points_self i in omega arith
uses_some i (x ∷ l) (suc c) at = let h = uses_some i l c at in omega arith

points_not : (i : ℕ) (o : Option ℕ) → o ≢ Some i → points i o ≡ 0
points_not i None n = refl
points_not i (Some j) n = points_other i j (λ e. n (ap (λ k. Some k) e))

pub uses_none : (i : ℕ) (names : List (Option ℕ)) → ((c : ℕ) → ¬ At names c (Some i)) → uses i names ≡ 0
uses_none i [] n = refl
uses_none i (x ∷ l) n = let t = uses_none i l (λ c. n (suc c)) in let e = points_not i x (λ h. n 0 (ap some h)) in omega arith

-- one number at the front of a list
count_here : (i j : ℕ) → j ≡ i → one_if_same i j ≡ 1
count_here i j e = ap (λ b. cond b 1 0) (eq-eqb j i e)

count_else : (i j : ℕ) → j ≢ i → one_if_same i j ≡ 0
count_else i j e = ap (λ b. cond b 1 0) (ne_eqb j i e)

pub has_has : (i : ℕ) (l : List ℕ) → has i l ≡ true → Has l i
has_has i [] h = absurd (cc)
has_has i (j ∷ l) h = ⊎_elim (λ e. inl (eqb-true j i e)) (λ t. inr (has_has i l t)) (either (j == i) (has i l) h)

pub times_has : (i : ℕ) (l : List ℕ) → Has l i → 0 < times i l
times_has i [] h = absurd h
times_has i (j ∷ l) h = ⊎_elim (λ (e : j ≡ i). let k = count_here i j e in omega arith) (λ (t : Has l i). let k = times_has i l t in omega arith) h

pub times_none : (i : ℕ) (l : List ℕ) → ¬ Has l i → times i l ≡ 0
times_none i [] n = refl
times_none i (j ∷ l) n = let k = count_else i j (λ e. n (inl e)) in let t = times_none i l (λ h. n (inr h)) in omega arith

without_here : (i j : ℕ) (l : List ℕ) → j ≡ i → without i (j ∷ l) ≡ l
without_here i j l e = ap (λ b. cond b l (j ∷ without i l)) (eq-eqb j i e)

without_else : (i j : ℕ) (l : List ℕ) → j ≢ i → without i (j ∷ l) ≡ j ∷ without i l
without_else i j l e = ap (λ b. cond b l (j ∷ without i l)) (ne_eqb j i e)

pub times_without : (i : ℕ) (l : List ℕ) → Has l i → times i (without i l) + 1 ≡ times i l
times_without i [] h = absurd h
times_without i (j ∷ l) h = dite (ℕ_discrete j i)
    (λ e. let k = count_here i j e in let z = ap (times i) (without_here i j l e) in omega arith)
    (λ e. let k = count_else i j e in let z = ap (times i) (without_else i j l e) in
    let t = times_without i l (⊎_elim (λ (x : j ≡ i). absurd (e x)) (λ (y : Has l i). y) h) in omega arith)

pub times_else : (i k : ℕ) (l : List ℕ) → k ≢ i → times k (without i l) ≡ times k l
times_else i k [] n = refl
times_else i k (j ∷ l) n = dite (ℕ_discrete j i)
    (λ e. let c = count_else k j (λ h. n (sym h ∙ e)) in let z = ap (times k) (without_here i j l e) in omega arith)
    (λ e. let z = ap (times k) (without_else i j l e) in let t = times_else i k l n in omega arith)

pub has_without : (i k : ℕ) (l : List ℕ) → Has (without i l) k → Has l k
has_without i k [] h = absurd h
has_without i k (j ∷ l) h = dite (ℕ_discrete j i)
    (λ e. inr (subst (λ z. Has z k) (without_here i j l e) h))
    (λ e. ⊎_elim (λ (x : j ≡ k). inl x) (λ (y : Has (without i l) k). inr (has_without i k l y)) (subst (λ z. Has z k) (without_else i j l e) h))

pub held_set : (i : ℕ) (items : List Item) (j : ℕ) (w w' : Item) → At items j w → held i (set items j w') + times i w.holds ≡ held i items + times i w'.holds
held_set i [] j w w' at = absurd (some-ne-none w (sym at))
held_set i (x ∷ l) zero w w' at = let e : times i x.holds ≡ times i w.holds = ap (λ (z : Item). times i z.holds) (some-injective x w at) in omega arith
held_set i (x ∷ l) (suc j) w w' at = let h = held_set i l j w w' at in omega arith

pub held_some : (i : ℕ) (items : List Item) (j : ℕ) (w : Item) → At items j w → times i w.holds ≤ held i items
held_some i [] j w at = absurd (some-ne-none w (sym at))
held_some i (x ∷ l) zero w at = let e : times i x.holds ≡ times i w.holds = ap (λ (z : Item). times i z.holds) (some-injective x w at) in omega arith
held_some i (x ∷ l) (suc j) w at = let h = held_some i l j w at in omega arith

held_same : (j : ℕ) (items : List Item) (i : ℕ) (it it' : Item) → At items i it → it'.holds ≡ it.holds → held j (set items i it') ≡ held j items
held_same j items i it it' at same = let h = held_set j items i it it' at in let e : times j it'.holds ≡ times j it.holds = ap (times j) same in omega arith

-- an item changes, but not what it holds
pub counted_step : (names names' : List (Option ℕ)) (items : List Item) (k : AllOwnersCounted names items) (i : ℕ) (it it' : Item) → At items i it → it'.holds ≡ it.holds
    → ((j : ℕ) → j ≢ i → uses j names' ≡ uses j names)
    → (it'.owners ≡ it'.hand + uses i names' + held i items) × (it'.state ≡ Live → 0 < it'.owners) × (0 < it'.owners → it'.state ≡ Live) × (it'.owners ≤ 2 ^ 32 - 1)
    → ((c : ℕ) (j : ℕ) → At names' c (Some j) → j < length items)
    → AllOwnersCounted names' (set items i it')
counted_step names names' items k i it it' at same others now named = let l = length-set items i it' in record {
  owned = set_all (λ j z. Owned j names' (set items i it') z) items i it'
      (let h = held_same i items i it it' at same in let n = now.0 in record { counted = omega arith; has_owner = now.1; is_live = now.2; limit = now.3 })
      (λ j z other here. let o = k.owned j z here in let u = others j other in let h = held_same j items i it it' at same in let c = o.counted in record { counted = omega arith; has_owner = o.has_owner; is_live = o.is_live; limit = o.limit });
  named = λ c j here. let h = named c j here in omega arith;
  holding = λ j w m here has. let h = set_all (λ j' z. Has z.holds m → m < length items) items i it' (λ has'. k.holding i it m at (subst (λ z. Has z m) same has')) (λ j' z other here' has'. k.holding j' z m here' has') j w here has in omega arith;
}

-- a reclaimed item gives one owner up, to the hand
pub counted_give_up : (names : List (Option ℕ)) (items : List Item) (k : AllOwnersCounted names items) (p j i : ℕ) (w it : Item) → At items j w → w.state ≡ Reclaimed p → Has w.holds i → At items i it
    → (i ≢ j) × AllOwnersCounted names (set (set items j (record w { holds = without i w.holds })) i (handed it))
counted_give_up names items k p j i w it at_j gone has at_i =
    let w' : Item = record w { holds = without i w.holds } in let it' : Item = handed it in let one = set items j w' in let all = set one i it' in
    let oi = k.owned i it at_i in let ci = oi.counted in let some_held = held_some i items j w at_j in let some_times = times_has i w.holds has in let alive : it.state ≡ Live = oi.is_live (omega arith) in
    let apart : i ≢ j = (λ e. let same : it ≡ w = same_at items j it w (subst (λ z. At items z it) e at_i) at_j in let bad : Live ≡ Reclaimed p = sym alive ∙ (ap (λ (z : Item). z.state) same ∙ gone) in cc) in
    let at_i' : At one i it = set_else items j i w' apart ∙ at_i in
    let l1 = length-set items j w' in let l2 = length-set one i it' in (
      apart,
      record {
        owned = λ m z here. let h1 = held_set m items j w w' at_j in let h2 = held_same m one i it it' at_i' refl in set_all (λ m' z'. (held m' all + times m' w.holds ≡ held m' items + times m' w'.holds) → Owned m' names all z') one i it'
            (λ h. let t = times_without i w.holds has in record { counted = omega arith; has_owner = oi.has_owner; is_live = oi.is_live; limit = oi.limit })
            (λ m' z' other here' h. let t = times_else i m' w.holds other in set_all (λ m'' z''. (held m'' all ≡ held m'' items) → Owned m'' names all z'') items j w'
            (λ h'. let o = k.owned j w at_j in let c = o.counted in record { counted = omega arith; has_owner = o.has_owner; is_live = o.is_live; limit = o.limit })
            (λ m'' z'' other' here'' h'. let o = k.owned m'' z'' here'' in let c = o.counted in record { counted = omega arith; has_owner = o.has_owner; is_live = o.is_live; limit = o.limit }) m' z' here' (omega arith))
            m z here (omega arith);
        named = λ c m here. let h = k.named c m here in omega arith;
        holding = λ m z q here has'. let h = set_all (λ m' z'. Has z'.holds q → q < length items) one i it' (λ x. k.holding i it q at_i x)
            (λ m' z' other here' x. set_all (λ m'' z''. Has z''.holds q → q < length items) items j w' (λ y. k.holding j w q at_j (has_without i q w.holds y)) (λ m'' z'' o h'' y. k.holding m'' z'' q h'' y) m' z' here' x) m z here has' in omega arith;
      },
    )

-- what becomes of items changes, but none comes to life or to its end
module _ (f : ItemState → ItemState) (items : List Item) where
  abbrev changed : Item → Item
  changed it = record it { state = f it.state }

  held_changed : (i : ℕ) (l : List Item) → held i (map changed l) ≡ held i l
  held_changed i [] = refl
  held_changed i (x ∷ l) = let h = held_changed i l in omega arith

  pub counted_states : (names : List (Option ℕ)) → f Live ≡ Live → ((z : ItemState) → f z ≡ Live → z ≡ Live) → AllOwnersCounted names items → AllOwnersCounted names (map changed items)
  counted_states names stays back k = let l = length-map items changed in record {
    owned = λ i it at. let t = at_mapped changed items i it at in let o = k.owned i t.0 t.1 in let c = o.counted in let h = held_changed i items in
        subst (Owned i names (map changed items)) t.2 (record { counted = omega arith; has_owner = λ l. o.has_owner (back t.0.state l); is_live = λ h. ap f (o.is_live h) ∙ stays; limit = o.limit });
    named = λ c i here. let h = k.named c i here in omega arith;
    holding = λ j w i at has. let t = at_mapped changed items j w at in let h = k.holding j t.0 i t.1 (subst (λ (z : Item). Has z.holds i) (sym t.2) has) in omega arith;
  }

-- what an item is after the owners of a list left the hand
pub paid_length : (hs : List ℕ) (items : List Item) → length (paid hs items) ≡ length items
paid_length [] items = refl
paid_length (k ∷ hs) items = paid_length hs (set items k (unhanded (get_or items k no_item))) ∙ length-set items k (unhanded (get_or items k no_item))

pub paid_at : (hs : List ℕ) (items : List Item) (k : ℕ) (it : Item) → At items k it → At (paid hs items) k (record it { hand = it.hand - times k hs })
paid_at [] items k it at = let same : it.hand ≡ it.hand - 0 = omega arith in subst (λ n. At items k (record it { hand = n })) same at
paid_at (h ∷ hs) items k it at = let x = get_or items h no_item in let items' = set items h (unhanded x) in dite (ℕ_discrete h k)
    (λ e. let c = count_here k h e in let here : At items h it = subst (λ m. At items m it) (sym e) at in let same : x ≡ it = get_at items h no_item it here in
    let at' : At items' k (unhanded it) = subst (λ m. At items' m (unhanded it)) e (subst (λ (z : Item). At items' h (unhanded z)) same (set_here items h (unhanded x) it here)) in
    let less : it.hand - 1 - times k hs ≡ it.hand - (one_if_same k h + times k hs) = omega arith in
    subst (λ n. At (paid hs items') k (record it { hand = n })) less (paid_at hs items' k (unhanded it) at'))
    (λ e. let c = count_else k h e in let at' : At items' k it = set_else items h k (unhanded x) (λ z. e (sym z)) ∙ at in
    let less : it.hand - times k hs ≡ it.hand - (one_if_same k h + times k hs) = omega arith in
    subst (λ n. At (paid hs items') k (record it { hand = n })) less (paid_at hs items' k it at'))

pub held_paid : (i : ℕ) (hs : List ℕ) (items : List Item) → held i (paid hs items) ≡ held i items
held_paid i [] items = refl
held_paid i (h ∷ hs) items = held_paid i hs (set items h (unhanded (get_or items h no_item))) ∙ held_once i items h
  where
    held_once : (i : ℕ) (items : List Item) (h : ℕ) → held i (set items h (unhanded (get_or items h no_item))) ≡ held i items
    held_once i [] h = refl
    held_once i (x ∷ l) zero = refl
    held_once i (x ∷ l) (suc h) = let r = held_once i l h in omega arith

held_end : (i : ℕ) (items : List Item) (new : Item) → held i (items ++ new ∷ []) ≡ held i items + times i new.holds
held_end i [] new = omega arith
held_end i (x ∷ l) new = let h = held_end i l new in omega arith

held_none : (n : ℕ) (items : List Item) → ((j : ℕ) (w : Item) → At items j w → ¬ Has w.holds n) → held n items ≡ 0
held_none n [] never = refl
held_none n (x ∷ l) never = let a = times_none n x.holds (never 0 x refl) in let b = held_none n l (λ j. never (suc j)) in omega arith

-- each item after a placing is an old one that paid, or the new one
pub placed_all : (v : ℕ) (hs : List ℕ) (items : List Item) (P : ℕ → Item → Type 0) → P (length items) (new_item v hs) → ((k : ℕ) (it : Item) → At items k it → P k (record it { hand = it.hand - times k hs }))
    → (k : ℕ) (z : Item) → At (paid hs items ++ new_item v hs ∷ []) k z → P k z
placed_all v hs items P here old k z at = let n = paid_length hs items in ⊎_elim
    (λ (h : At (paid hs items) k z). let inside = at_inside (paid hs items) k z h in let t = find_at items k (omega arith) in
    subst (P k) (same_at (paid hs items) k (record t.0 { hand = t.0.hand - times k hs }) z (paid_at hs items k t.0 t.1) h) (old k t.0 t.1))
    (λ (h : (k ≡ length (paid hs items)) × (new_item v hs ≡ z)). subst (λ (x : ℕ × Item). P x.0 x.1) (λ u. (sym (h.0 ∙ n) u, h.1 u)) here)
    (at_end (paid hs items) (new_item v hs) k z at)

pub counted_placed : (v : ℕ) (hs : List ℕ) (names : List (Option ℕ)) (items : List Item) → ((k : ℕ) → Has hs k → k < length items) → ((k : ℕ) (it : Item) → At items k it → times k hs ≤ it.hand)
    → AllOwnersCounted names items → AllOwnersCounted names (paid hs items ++ new_item v hs ∷ [])
counted_placed v hs names items had fits c = let all = paid hs items ++ new_item v hs ∷ [] in
    let n : length all ≡ length items + 1 = (let a = length-append (paid hs items) (new_item v hs ∷ []) in let b = paid_length hs items in omega arith) in
    let more : (k : ℕ) → held k all ≡ held k items + times k hs = (λ k. let a = held_end k (paid hs items) (new_item v hs) in let b = held_paid k hs items in omega arith) in record {
      owned = placed_all v hs items (λ k z. Owned k names all z)
          (let u = uses_none (length items) names (λ d at. let h = c.named d (length items) at in omega arith) in
          let h = held_none (length items) items (λ j w at has. let h = c.holding j w (length items) at has in omega arith) in
          let t = times_none (length items) hs (λ has. let h = had (length items) has in omega arith) in let m = more (length items) in
          record { counted = omega arith; has_owner = λ _. omega arith; is_live = λ _. refl; limit = omega arith })
          (λ k it at. let o = c.owned k it at in let b = o.counted in let f = fits k it at in let m = more k in record { counted = omega arith; has_owner = o.has_owner; is_live = o.is_live; limit = o.limit });
      named = λ d k at. let h = c.named d k at in omega arith;
      holding = λ j w m at has. placed_all v hs items (λ j' z. Has z.holds m → m < length all) (λ h. let b = had m h in omega arith) (λ j' it at' h. let b = c.holding j' it m at' h in omega arith) j w at has;
    }

-- who holds a cell changes, but not what it names
pub names_reheld : (h : Option ℕ) (cells : List Cell) (c : ℕ) → names_of (set cells c (record (get_or cells c empty_cell) { holder = h })) ≡ names_of cells
names_reheld h [] c = refl
names_reheld h (x ∷ l) zero = refl
names_reheld h (x ∷ l) (suc c) = ap (λ m. x.names ∷ m) (names_reheld h l c)

pub names_taken_up : (i : ℕ) (cs : List ℕ) (cells : List Cell) → names_of (taken_up i cs cells) ≡ names_of cells
names_taken_up i [] cells = refl
names_taken_up i (c ∷ cs) cells = names_taken_up i cs (set cells c (record (get_or cells c empty_cell) { holder = Some i })) ∙ names_reheld (Some i) cells c

pub names_set : (cells : List Cell) (c : ℕ) (o' : Cell) → names_of (set cells c o') ≡ set (names_of cells) c o'.names
names_set [] c o' = refl
names_set (x ∷ l) zero o' = refl
names_set (x ∷ l) (suc c) o' = ap (λ m. x.names ∷ m) (names_set l c o')

pub names_kept : (f : Cell → Cell) (cells : List Cell) → ((o : Cell) → (f o).names ≡ o.names) → names_of (map f cells) ≡ names_of cells
names_kept f [] e = refl
names_kept f (x ∷ l) e = λ i. e x i ∷ names_kept f l e i

-- as many owners are in hand as a list names
pub times_some : (k : ℕ) (l : List ℕ) → (times k l ≡ 0) ⊎ Has l k
times_some k [] = inl refl
times_some k (j ∷ l) = dite (ℕ_discrete j k) (λ e. inr (inl e)) (λ n. ⊎_elim (λ (e : times k l ≡ 0). let c = count_else k j n in inl (omega arith)) (λ (h : Has l k). inr (inr h)) (times_some k l))

pub loose_has : (items : List Item) (all l : List ℕ) → all_have_loose_owners items all l ≡ true → (k : ℕ) → Has l k → (k < length items) × (times k all ≤ (get_or items k no_item).hand)
loose_has items all [] h k has = absurd has
loose_has items all (j ∷ l) h k has = let b = both (nat_lt j (length items) && nat_le (times j all) (get_or items j no_item).hand) (all_have_loose_owners items all l) h in
    let c = both (nat_lt j (length items)) (nat_le (times j all) (get_or items j no_item).hand) b.0 in
    ⊎_elim (λ (e : j ≡ k). subst (λ m. (m < length items) × (times m all ≤ (get_or items m no_item).hand)) e (ltb-true j (length items) c.0, leb-true (times j all) (get_or items j no_item).hand c.1))
    (λ (t : Has l k). loose_has items all l b.1 k t) has
