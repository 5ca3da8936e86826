-- how many entries hang from the cells of a row
use Rattle.world_containers.proofs.Names.{◌≡◌, ◌⊎◌, ◌++◌, ℕ, suc, ◌+◌, ◌<◌, ◌≤◌, true, false, Option, List, [], ◌∷◌, length, get_or, drop, refl, sym, ap, ◌∙◌, arith, subst, cond, inl, inr, map, length-map, shared_cell, AtomicShared, State, in_use, drop_more, drop_all, Tag, Status, Entry, slots, IsOut, IsList, Hangs, deleted, undeleted, AreApart, AreOwn, IsRow, IsSomeRow, cell_of, joined, AreUsed, used_slots, length-slots, hung_used}
use Rattle.sdd_world.specs.declared.tag.Tag.TheVariants as tag

out_both : (j : ℕ) (xs ys : List ℕ) → IsOut j xs → IsOut j ys → IsOut j (xs ++ ys)
out_both j [] ys h k = k
out_both j (x ∷ xs) ys h k = (h.0, out_both j xs ys h.1 k)

used_both : (ss : List Status) (xs ys : List ℕ) → AreUsed ss xs → AreUsed ss ys → AreApart xs ys → AreUsed ss (xs ++ ys)
used_both ss [] ys h k apart = k
used_both ss (x ∷ xs) ys h k apart = (
  h.0,
  out_both x xs ys h.1 (elim (apart x) [ inl out ↦ absurd (out.0 refl) | inr out ↦ out ]),
  used_both ss xs ys h.2 k (λ j. elim (apart j) as (λ _. IsOut j xs ⊎ IsOut j ys) [ inl out ↦ inl out.1 | inr out ↦ inr out ]),
)

module _ {L : Type 0} where
  slots_append : (es fs : List (Entry L)) → slots (es ++ fs) ≡ slots es ++ slots fs
  slots_append [] fs = refl
  slots_append (e ∷ es) fs = ap (λ (is : List ℕ). e.slot ∷ is) (slots_append es fs)

  apart_all : (xs : List ℕ) (rows : List (List (Entry L))) → ((m : ℕ) → m < length rows → AreApart xs (slots (get_or rows m []))) → AreApart xs (slots (joined rows))
  apart_all xs [] h = λ j. inr tt
  apart_all xs (es ∷ rows) h = λ j.
      elim (h 0 (omega arith) j) as (λ _. IsOut j xs ⊎ IsOut j (slots (es ++ joined rows))) [
        | inl out ↦ inl out
        | inr here ↦ elim (apart_all xs rows (λ m lt. h (suc m) (omega (arith, lt))) j) as (λ _. IsOut j xs ⊎ IsOut j (slots (es ++ joined rows))) [
          | inl out ↦ inl out
          | inr there ↦ inr (subst (λ (is : List ℕ). IsOut j is) (sym (slots_append es (joined rows))) (out_both j (slots es) (slots (joined rows)) here there))
        ]
      ]

  pub fewer_undeleted : (es : List (Entry L)) → length (undeleted es) ≤ length es
  fewer_undeleted [] = omega arith
  fewer_undeleted (e ∷ es) = let r = fewer_undeleted es in elim (deleted e.tag) as (λ v. length (cond v (undeleted es) (e ∷ undeleted es)) ≤ length (e ∷ es)) [ true ↦ omega (arith, r) | false ↦ omega (arith, r) ]

  undeleted_both : (es fs : List (Entry L)) → length (undeleted (es ++ fs)) ≡ length (undeleted es) + length (undeleted fs)
  undeleted_both [] fs = omega arith
  undeleted_both (e ∷ es) fs = let r = undeleted_both es fs in elim (deleted e.tag) as (λ v. length (cond v (undeleted (es ++ fs)) (e ∷ undeleted (es ++ fs))) ≡ length (cond v (undeleted es) (e ∷ undeleted es)) + length (undeleted fs)) [ true ↦ r | false ↦ omega (arith, r) ]

  pub own_undeleted : (w : State L) (es : List (Entry L)) → AreOwn w es → undeleted es ≡ es
  own_undeleted w [] h = refl
  own_undeleted w (e ∷ es) h = subst (λ (t : Tag). cond (deleted t) (undeleted es) (e ∷ undeleted es) ≡ e ∷ es) (sym h.0) (ap (λ (fs : List (Entry L)). e ∷ fs) (own_undeleted w es h.2))

  -- the lists from place n on
  pub count_more : (rows : List (List (Entry L))) (n : ℕ) → n < length rows → length (undeleted (joined (drop n rows))) ≡ length (undeleted (get_or rows n [])) + length (undeleted (joined (drop (n + 1) rows)))
  count_more rows n lt = ap (λ (rs : List (List (Entry L))). length (undeleted (joined rs))) (drop_more rows n [] lt) ∙ undeleted_both (get_or rows n []) (joined (drop (n + 1) rows))

  pub count_end : (rows : List (List (Entry L))) (n : ℕ) → length rows ≤ n → length (undeleted (joined (drop n rows))) ≡ 0
  count_end rows n enough = ap (λ (rs : List (List (Entry L))). length (undeleted (joined rs))) (drop_all n rows enough)

module _ {L : Type 0} (link : L → Option ℕ) where
  behind : (w : State L) (c : ℕ) (cs : List ℕ) (es : List (Entry L)) (rows : List (List (Entry L))) → IsRow link w (c ∷ cs) (es ∷ rows) → IsRow link w cs rows
  behind w c cs es rows row = record {
    hung = λ k lt. row.hung (suc k) (omega (arith, lt));
    cells = λ k m lk lm ne. row.cells (suc k) (suc m) (omega (arith, lk)) (omega (arith, lm)) (λ e. ne (omega (arith, e)));
    items = λ k m lk lm ne. row.items (suc k) (suc m) (omega (arith, lk)) (omega (arith, lm)) (λ e. ne (omega (arith, e)));
  }

  pub row_used : (w : State L) (cs : List ℕ) (rows : List (List (Entry L))) → length rows ≡ length cs → IsRow link w cs rows → AreUsed w.states (slots (joined rows))
  row_used w cs [] size row = tt
  row_used w [] (es ∷ rows) size row = absurd (omega (arith, size))
  row_used w (c ∷ cs) (es ∷ rows) size row =
      let rest = row_used w cs rows (omega (arith, size)) (behind w c cs es rows row) in
      let here = hung_used link w c tag.None es (row.hung 0 (omega arith)) in
      let apart = apart_all (slots es) rows (λ m lt. row.items 0 (suc m) (omega arith) (omega (arith, lt, size)) (λ e. absurd (omega (arith, e)))) in
      subst (λ (is : List ℕ). AreUsed w.states is) (sym (slots_append es (joined rows))) (used_both w.states (slots es) (slots (joined rows)) here rest apart)

  -- no more than the items that there are
  pub row_length : (w : State L) (cs : List ℕ) (rows : List (List (Entry L))) → length rows ≡ length cs → IsRow link w cs rows → length (joined rows) ≤ in_use w
  row_length w cs rows size row = let r = used_slots w.states (slots (joined rows)) (row_used w cs rows size row) in let l = length-slots (joined rows) in omega (arith, r, l)

  pub row_hangs : (w : State L) (cs : List ℕ) (c k : ℕ) → k < length cs → c ≡ get_or cs k 0 → (r : IsSomeRow link w cs) → Hangs link w c
  row_hangs w cs c k lt at r = record { tag = tag.None; entries = get_or r.rows k []; is = subst (λ (i : ℕ). IsList link w i tag.None (get_or r.rows k [])) (sym at) (r.is.hung k lt) }

  -- the lists at the next place are counted
  pub count_step : (w : State L) (cs : List ℕ) (rows : List (List (Entry L))) (n total here : ℕ) → length rows ≡ length cs → IsRow link w cs rows → n < length cs → total + length (undeleted (joined (drop n rows))) ≡ length (undeleted (joined rows)) → here ≡ length (undeleted (get_or rows n [])) → ((total + here) + length (undeleted (joined (drop (n + 1) rows))) ≡ length (undeleted (joined rows))) × (total + here ≤ in_use w)
  count_step w cs rows n total here size row lt so_far is =
      let m = count_more rows n (omega (arith, lt, size)) in
      let f = fewer_undeleted (joined rows) in
      let l = row_length w cs rows size row in
      (omega (arith, m, so_far, is), omega (arith, m, so_far, is, f, l))

  -- the same, for a row of tokens
  pub count_next : (w : State L) (ts : List (AtomicShared L)) (rows : List (List (Entry L))) (n c total here : ℕ) → length rows ≡ length ts → IsRow link w (map shared_cell ts) rows → n < length ts → c ≡ cell_of ts n → total + length (undeleted (joined (drop n rows))) ≡ length (undeleted (joined rows)) → ((t : Tag) (es : List (Entry L)) → IsList link w c t es → here ≡ length (undeleted es)) → ((total + here) + length (undeleted (joined (drop (n + 1) rows))) ≡ length (undeleted (joined rows))) × (total + here ≤ in_use w)
  count_next w ts rows n c total here size row lt at so_far counts =
      let e = length-map ts shared_cell in
      let inside : n < length (map shared_cell ts) = omega (arith, e, lt) in
      let h = subst (λ (i : ℕ). IsList link w i tag.None (get_or rows n [])) (sym at) (row.hung n inside) in
      count_step w (map shared_cell ts) rows n total here (omega (arith, size, e)) row inside so_far (counts tag.None (get_or rows n []) h)
