-- rows of cells and lists, as one of them changes
use Rattle.world_containers.proofs.Names.{◌≡◌, ◌≢◌, ◌⊎◌, ◌++◌, ℕ, zero, suc, ◌+◌, ◌<◌, ◌≤◌, Option, None, List, [], ◌∷◌, length, get_or, set, refl, sym, ap, ◌∙◌, arith, subst, get_or-set_same, get_or-set_other, length-set, map, inl, inr, not, Bool, true, false, append_assoc, set-get_or, get_or-map, cases_eq, false≢true, shared_cell, AtomicShared, State, status_at, cell_at, with_cell, vacancy, emptiness, Tag, Status, Cell, Entry, slots, links, IsOut, AreOut, IsList, Hangs, Leaves, IsNull, cell_of, freed, AreEmpty, AreApart, IsRow, joined, AreSingle, AreOwn, Adds, hung_left, free_cell_out, free_slot_out, wrote_other, leaves_all, leaves_then, leaves_more, same_use}
use mathlib.Core.Bool.{beq}
use Rattle.sdd_world.specs.declared.tag.Tag.TheVariants as tag
use Rattle.sdd_world.specs.declared.status.Status.TheVariants as status
use Rattle.sdd_world.specs.declared.status.Cell.TheVariants as cell

-- lists of lists
module _ {X : Type 0} where
  pub adds_at : (x : X) (r : List X) (rows : List (List X)) (k : ℕ) → k < length rows → Adds x (joined (set rows k r)) (joined (set rows k (x ∷ r)))
  adds_at x r [] k lt = absurd (omega (arith, lt))
  adds_at x r (xs ∷ rows) zero lt = record { before = []; after = r ++ joined rows; was = refl; now = refl }
  adds_at x r (xs ∷ rows) (suc k) lt =
      let a = adds_at x r rows k (omega (arith, lt)) in
      record {
        before = xs ++ a.before;
        after = a.after;
        was = ap (λ (ys : List X). xs ++ ys) a.was ∙ sym (append_assoc xs a.before a.after);
        now = ap (λ (ys : List X). xs ++ ys) a.now ∙ sym (append_assoc xs a.before (x ∷ a.after));
      }

  -- one more in the list at place k
  pub adds_more : (x : X) (rows : List (List X)) (k : ℕ) → k < length rows → Adds x (joined rows) (joined (set rows k (x ∷ get_or rows k [])))
  adds_more x rows k lt = subst (λ (rs : List (List X)). Adds x (joined rs) (joined (set rows k (x ∷ get_or rows k [])))) (set-get_or rows k []) (adds_at x (get_or rows k []) rows k lt)

  -- the first one of the list at place k is taken
  pub adds_less : (x : X) (r : List X) (rows : List (List X)) (k : ℕ) → k < length rows → get_or rows k [] ≡ x ∷ r → Adds x (joined (set rows k r)) (joined rows)
  adds_less x r rows k lt is = subst (λ (rs : List (List X)). Adds x (joined (set rows k r)) (joined rs)) (ap (λ (ys : List X). set rows k ys) (sym is) ∙ set-get_or rows k []) (adds_at x r rows k lt)

  pub single_set : (r : List X) (rows : List (List X)) (k : ℕ) → length r ≤ 1 → AreSingle rows → AreSingle (set rows k r)
  single_set r [] k one h = h
  single_set r (xs ∷ rows) zero one h = (one, h.1)
  single_set r (xs ∷ rows) (suc k) one h = (h.0, single_set r rows k one h.1)

  pub single_at : (rows : List (List X)) (k : ℕ) → AreSingle rows → length (get_or rows k []) ≤ 1
  single_at [] k h = omega arith
  single_at (xs ∷ rows) zero h = h.0
  single_at (xs ∷ rows) (suc k) h = single_at rows k h.1

  length_both : (xs ys : List X) → length (xs ++ ys) ≡ length xs + length ys
  length_both [] ys = omega arith
  length_both (x ∷ xs) ys = let r = length_both xs ys in omega (arith, r)

  pub single_length : (rows : List (List X)) → AreSingle rows → length (joined rows) ≤ length rows
  single_length [] h = omega arith
  single_length (xs ∷ rows) h = let r = single_length rows h.1 in let b = length_both xs (joined rows) in let one = h.0 in omega (arith, r, b, one)

  pub some_length : (xs : List X) → xs ≢ [] → 1 ≤ length xs
  some_length [] some = absurd (some refl)
  some_length (x ∷ xs) some = omega arith

  -- one is empty
  pub room_length : (rows : List (List X)) (k : ℕ) → k < length rows → get_or rows k [] ≡ [] → AreSingle rows → length (joined rows) < length rows
  room_length [] k lt none h = absurd (omega (arith, lt))
  room_length (xs ∷ rows) zero lt none h =
      let r = single_length rows h.1 in
      let b = length_both xs (joined rows) in
      let z : length xs ≡ 0 = ap length none in
      omega (arith, r, b, z)
  room_length (xs ∷ rows) (suc k) lt none h = let r = room_length rows k (omega (arith, lt)) none h.1 in let b = length_both xs (joined rows) in let one = h.0 in omega (arith, r, b, one)

  -- none is empty
  pub full_length : (rows : List (List X)) → ((k : ℕ) → k < length rows → get_or rows k [] ≢ []) → AreSingle rows → length (joined rows) ≡ length rows
  full_length [] full h = refl
  full_length (xs ∷ rows) full h =
      let r = full_length rows (λ k lt. full (suc k) (omega (arith, lt))) h.1 in
      let b = length_both xs (joined rows) in
      let some = some_length xs (full 0 (omega arith)) in
      let one = h.0 in
      omega (arith, r, b, some, one)

  -- all are empty
  pub none_joined : (rows : List (List X)) → ((k : ℕ) → k < length rows → get_or rows k [] ≡ []) → joined rows ≡ []
  none_joined [] none = refl
  none_joined (xs ∷ rows) none = rw (none 0 (omega arith)) (none_joined rows (λ k lt. none (suc k) (omega (arith, lt))))

  pub joined_some : (rows : List (List X)) (k : ℕ) → k < length rows → get_or rows k [] ≢ [] → joined rows ≢ []
  joined_some [] k lt some = absurd (omega (arith, lt))
  joined_some (xs ∷ rows) zero lt some = λ e. let l = some_length xs some in let b = length_both xs (joined rows) in let z : length (xs ++ joined rows) ≡ 0 = ap length e in omega (arith, l, b, z)
  joined_some (xs ∷ rows) (suc k) lt some = λ e.
      let l = some_length (joined rows) (joined_some rows k (omega (arith, lt)) some) in
      let b = length_both xs (joined rows) in
      let z : length (xs ++ joined rows) ≡ 0 = ap length e in
      omega (arith, l, b, z)

-- what is in two lists
pub out_append : (j : ℕ) (xs ys : List ℕ) → IsOut j (xs ++ ys) → IsOut j xs × IsOut j ys
out_append j [] ys out = (tt, out)
out_append j (x ∷ xs) ys out = let r = out_append j xs ys out.1 in ((out.0, r.0), r.1)

pub are_out : (xs ys : List ℕ) → AreApart xs ys → AreOut xs ys
are_out [] ys apart = tt
are_out (x ∷ xs) ys apart = (
  elim (apart x) [ inl out ↦ absurd (out.0 refl) | inr out ↦ out ],
  are_out xs ys (λ j. elim (apart j) as (λ _. IsOut j xs ⊎ IsOut j ys) [ inl out ↦ inl out.1 | inr out ↦ inr out ]),
)

pub apart_other : (xs ys : List ℕ) → AreApart xs ys → AreApart ys xs
apart_other xs ys apart = λ j. elim (apart j) as (λ _. IsOut j ys ⊎ IsOut j xs) [ inl out ↦ inr out | inr out ↦ inl out ]

-- a list gets more, but none that the other one has
apart_more : (uses : ℕ → ℕ) (xs xs' ys : List ℕ) → ((j : ℕ) → uses j ≡ 0 → IsOut j xs → IsOut j xs') → ((j : ℕ) → uses j ≢ 0 → IsOut j ys) → AreApart xs ys → AreApart xs' ys
apart_more uses xs xs' ys more none apart = λ j.
    elim (cases_eq (uses j) 0) as (λ _. IsOut j xs' ⊎ IsOut j ys) [
      | inl used ↦ elim (apart j) as (λ _. IsOut j xs' ⊎ IsOut j ys) [ inl out ↦ inl (more j used out) | inr out ↦ inr out ]
      | inr free ↦ inr (none j free)
    ]

free_of : (k : Cell) → emptiness k ≢ 0 → k ≡ cell.Free
free_of cell.Free h = refl
free_of (cell.OfOwned o t) h = absurd (h refl)
free_of (cell.OfShared o t) h = absurd (h refl)
free_of (cell.OfRaw o t) h = absurd (h refl)

vacant_of : (s : Status) → vacancy s ≢ 0 → s ≡ status.Free
vacant_of status.Free h = refl
vacant_of status.Owned h = absurd (h refl)
vacant_of (status.Shared n) h = absurd (h refl)
vacant_of status.Raw h = absurd (h refl)
vacant_of (status.Collected n b) h = absurd (h refl)
vacant_of status.Retired h = absurd (h refl)
vacant_of status.Idle h = absurd (h refl)
vacant_of status.Deferred h = absurd (h refl)

-- owners
module _ {L : Type 0} (w : State L) where
  pub own_both : (es fs : List (Entry L)) → AreOwn w es → AreOwn w fs → AreOwn w (es ++ fs)
  own_both [] fs h k = k
  own_both (e ∷ es) fs h k = (h.0, h.1, own_both es fs h.2 k)

  pub own_first : (es fs : List (Entry L)) → AreOwn w (es ++ fs) → AreOwn w es
  own_first [] fs h = tt
  own_first (e ∷ es) fs h = (h.0, h.1, own_first es fs h.2)

  pub own_second : (es fs : List (Entry L)) → AreOwn w (es ++ fs) → AreOwn w fs
  own_second [] fs h = h
  own_second (e ∷ es) fs h = own_second es fs h.2

  pub own_at : (rows : List (List (Entry L))) (k : ℕ) → AreOwn w (joined rows) → AreOwn w (get_or rows k [])
  own_at [] k h = tt
  own_at (es ∷ rows) zero h = own_first es (joined rows) h
  own_at (es ∷ rows) (suc k) h = own_at rows k (own_second es (joined rows) h)

  pub own_set : (r : List (Entry L)) (rows : List (List (Entry L))) (k : ℕ) → AreOwn w r → AreOwn w (joined rows) → AreOwn w (joined (set rows k r))
  own_set r [] k h k' = k'
  own_set r (es ∷ rows) zero h k' = own_both r (joined rows) h (own_second es (joined rows) k')
  own_set r (es ∷ rows) (suc k) h k' = own_both es (joined (set rows k r)) (own_first es (joined rows) k') (own_set r rows k h (own_second es (joined rows) k'))

pub own_left : {L : Type 0} (w w' : State L) (cs : List ℕ) (es : List (Entry L)) → Leaves cs [] w w' → AreOwn w es → AreOwn w' es
own_left w w' cs [] l h = tt
own_left w w' cs (e ∷ es) l h = (h.0, same_use w w' cs e.slot 1 l h.1, own_left w w' cs es l h.2)

module _ {L : Type 0} (link : L → Option ℕ) where
  pub cells_used : (w : State L) (c : ℕ) (t : Tag) (es : List (Entry L)) → IsList link w c t es → (j : ℕ) → emptiness (cell_at w j) ≢ 0 → IsOut j (c ∷ links es)
  cells_used w c t es h j free = free_cell_out link w j c t es (free_of (cell_at w j) free) h

  pub slots_used : (w : State L) (c : ℕ) (t : Tag) (es : List (Entry L)) → IsList link w c t es → (j : ℕ) → vacancy (status_at w j) ≢ 0 → IsOut j (slots es)
  slots_used w c t es h j free = free_slot_out link w j c t es (vacant_of (status_at w j) free) h

  -- the list at place k changes, and with it what is its own and what was free
  module _ (w w' : State L) (cs : List ℕ) (rows : List (List (Entry L))) (k : ℕ) (r : List (Entry L))
      (row : IsRow link w cs rows)
      (inside : k < length cs)
      (there : k < length rows)
      (hung : IsList link w' (get_or cs k 0) tag.None r)
      (l : Leaves (get_or cs k 0 ∷ links (get_or rows k [])) (slots (get_or rows k [])) w w')
      (more_links : (j : ℕ) → emptiness (cell_at w j) ≡ 0 → IsOut j (links (get_or rows k [])) → IsOut j (links r))
      (more_slots : (j : ℕ) → vacancy (status_at w j) ≡ 0 → IsOut j (slots (get_or rows k [])) → IsOut j (slots r))
    where
      at_k : (m : ℕ) → m ≡ k → get_or (set rows k r) m [] ≡ r
      at_k m e = ap (λ (i : ℕ). get_or (set rows k r) i []) e ∙ get_or-set_same rows k r [] there

      other : (m : ℕ) → m ≢ k → get_or (set rows k r) m [] ≡ get_or rows m []
      other m ne = get_or-set_other rows k m r [] ne

      hung_set : (m : ℕ) → m < length cs → IsList link w' (get_or cs m 0) tag.None (get_or (set rows k r) m [])
      hung_set m lt = elim (cases_eq m k) as (λ _. IsList link w' (get_or cs m 0) tag.None (get_or (set rows k r) m [])) [
        | inl e ↦ subst (λ (i : ℕ). IsList link w' (get_or cs i 0) tag.None (get_or (set rows k r) i [])) (sym e) (subst (λ (es : List (Entry L)). IsList link w' (get_or cs k 0) tag.None es) (sym (at_k k refl)) hung)
        | inr ne ↦
            let out = are_out (get_or cs m 0 ∷ links (get_or rows m [])) (get_or cs k 0 ∷ links (get_or rows k [])) (row.cells m k lt inside ne) in
            let outs = are_out (slots (get_or rows m [])) (slots (get_or rows k [])) (row.items m k lt inside ne) in
            subst (λ (es : List (Entry L)). IsList link w' (get_or cs m 0) tag.None es) (sym (other m ne)) (hung_left link (get_or cs k 0 ∷ links (get_or rows k [])) (slots (get_or rows k [])) w w' (get_or cs m 0) tag.None (get_or rows m []) l out.0 out.1 outs (row.hung m lt))
      ]

      cells_grow : (m : ℕ) → m ≡ k → (j : ℕ) → emptiness (cell_at w j) ≡ 0 → IsOut j (get_or cs m 0 ∷ links (get_or rows m [])) → IsOut j (get_or cs m 0 ∷ links (get_or (set rows k r) m []))
      cells_grow m e j used out = (out.0, subst (λ (es : List (Entry L)). IsOut j (links es)) (sym (at_k m e)) (more_links j used (subst (λ (i : ℕ). IsOut j (links (get_or rows i []))) e out.1)))

      slots_grow : (m : ℕ) → m ≡ k → (j : ℕ) → vacancy (status_at w j) ≡ 0 → IsOut j (slots (get_or rows m [])) → IsOut j (slots (get_or (set rows k r) m []))
      slots_grow m e j used out = subst (λ (es : List (Entry L)). IsOut j (slots es)) (sym (at_k m e)) (more_slots j used (subst (λ (i : ℕ). IsOut j (slots (get_or rows i []))) e out))

      -- one of two is that at place k
      cells_one : (a b : ℕ) → a < length cs → b < length cs → a ≡ k → b ≢ k → AreApart (get_or cs a 0 ∷ links (get_or (set rows k r) a [])) (get_or cs b 0 ∷ links (get_or (set rows k r) b []))
      cells_one a b la lb e ne =
          let old = row.cells a b la lb (λ q. ne (sym q ∙ e)) in
          subst (λ (es : List (Entry L)). AreApart (get_or cs a 0 ∷ links (get_or (set rows k r) a [])) (get_or cs b 0 ∷ links es)) (sym (other b ne)) (apart_more (λ j. emptiness (cell_at w j)) (get_or cs a 0 ∷ links (get_or rows a [])) (get_or cs a 0 ∷ links (get_or (set rows k r) a [])) (get_or cs b 0 ∷ links (get_or rows b [])) (cells_grow a e) (cells_used w (get_or cs b 0) tag.None (get_or rows b []) (row.hung b lb)) old)

      slots_one : (a b : ℕ) → a < length cs → b < length cs → a ≡ k → b ≢ k → AreApart (slots (get_or (set rows k r) a [])) (slots (get_or (set rows k r) b []))
      slots_one a b la lb e ne =
          let old = row.items a b la lb (λ q. ne (sym q ∙ e)) in
          subst (λ (es : List (Entry L)). AreApart (slots (get_or (set rows k r) a [])) (slots es)) (sym (other b ne)) (apart_more (λ j. vacancy (status_at w j)) (slots (get_or rows a [])) (slots (get_or (set rows k r) a [])) (slots (get_or rows b [])) (slots_grow a e) (slots_used w (get_or cs b 0) tag.None (get_or rows b []) (row.hung b lb)) old)

      cells_none : (a b : ℕ) → a < length cs → b < length cs → a ≢ b → a ≢ k → b ≢ k → AreApart (get_or cs a 0 ∷ links (get_or (set rows k r) a [])) (get_or cs b 0 ∷ links (get_or (set rows k r) b []))
      cells_none a b la lb ne na nb =
          subst (λ (es : List (Entry L)). AreApart (get_or cs a 0 ∷ links es) (get_or cs b 0 ∷ links (get_or (set rows k r) b []))) (sym (other a na)) (subst (λ (es : List (Entry L)). AreApart (get_or cs a 0 ∷ links (get_or rows a [])) (get_or cs b 0 ∷ links es)) (sym (other b nb)) (row.cells a b la lb ne))

      slots_none : (a b : ℕ) → a < length cs → b < length cs → a ≢ b → a ≢ k → b ≢ k → AreApart (slots (get_or (set rows k r) a [])) (slots (get_or (set rows k r) b []))
      slots_none a b la lb ne na nb =
          subst (λ (es : List (Entry L)). AreApart (slots es) (slots (get_or (set rows k r) b []))) (sym (other a na)) (subst (λ (es : List (Entry L)). AreApart (slots (get_or rows a [])) (slots es)) (sym (other b nb)) (row.items a b la lb ne))

      cells_set : (a b : ℕ) → a < length cs → b < length cs → a ≢ b → AreApart (get_or cs a 0 ∷ links (get_or (set rows k r) a [])) (get_or cs b 0 ∷ links (get_or (set rows k r) b []))
      cells_set a b la lb ne = elim (cases_eq a k) [
        | inl ea ↦ cells_one a b la lb ea (λ q. ne (ea ∙ sym q))
        | inr na ↦ elim (cases_eq b k) [
          | inl eb ↦ apart_other (get_or cs b 0 ∷ links (get_or (set rows k r) b [])) (get_or cs a 0 ∷ links (get_or (set rows k r) a [])) (cells_one b a lb la eb na)
          | inr nb ↦ cells_none a b la lb ne na nb
        ]
      ]

      slots_set : (a b : ℕ) → a < length cs → b < length cs → a ≢ b → AreApart (slots (get_or (set rows k r) a [])) (slots (get_or (set rows k r) b []))
      slots_set a b la lb ne = elim (cases_eq a k) [
        | inl ea ↦ slots_one a b la lb ea (λ q. ne (ea ∙ sym q))
        | inr na ↦ elim (cases_eq b k) [
          | inl eb ↦ apart_other (slots (get_or (set rows k r) b [])) (slots (get_or (set rows k r) a [])) (slots_one b a lb la eb na)
          | inr nb ↦ slots_none a b la lb ne na nb
        ]
      ]

      pub row_set : IsRow link w' cs (set rows k r)
      row_set = record { hung = hung_set; cells = cells_set; items = slots_set }

-- the number of the cell at a place
pub numbered : {L : Type 0} (ts : List (AtomicShared L)) (k : ℕ) (t : AtomicShared L) → k < length ts → t ≡ get_or ts k t → shared_cell t ≡ cell_of ts k
numbered ts k t lt is = ap shared_cell is ∙ sym (get_or-map shared_cell ts k t 0 lt)

pub null_at : {L : Type 0} (w : State L) (c d : ℕ) (b b' : Bool) → c ≡ d → b ≡ b' → IsNull w c b → IsNull w d b'
null_at w c d b b' e e' h = subst (λ (j : ℕ). IsNull w j b') e (subst (λ (v : Bool). IsNull w c v) e' h)

pub told_not : (a b : Bool) → beq a b ≡ false → a ≡ not b
told_not true true h = absurd (false≢true (sym h))
told_not true false h = refl
told_not false true h = refl
told_not false false h = absurd (false≢true (sym h))

-- the cells and the items of one list of a row are among all of them
links_both : {L : Type 0} (j : ℕ) (es fs : List (Entry L)) → IsOut j (links (es ++ fs)) → IsOut j (links es) × IsOut j (links fs)
links_both j [] fs out = (tt, out)
links_both j (e ∷ es) fs out = let r = links_both j es fs out.1 in ((out.0, r.0), r.1)

slots_both : {L : Type 0} (j : ℕ) (es fs : List (Entry L)) → IsOut j (slots (es ++ fs)) → IsOut j (slots es) × IsOut j (slots fs)
slots_both j [] fs out = (tt, out)
slots_both j (e ∷ es) fs out = let r = slots_both j es fs out.1 in ((out.0, r.0), r.1)

pub links_at : {L : Type 0} (j : ℕ) (rows : List (List (Entry L))) (k : ℕ) → IsOut j (links (joined rows)) → IsOut j (links (get_or rows k []))
links_at j [] k out = tt
links_at j (es ∷ rows) zero out = (links_both j es (joined rows) out).0
links_at j (es ∷ rows) (suc k) out = links_at j rows k (links_both j es (joined rows) out).1

pub slots_at : {L : Type 0} (j : ℕ) (rows : List (List (Entry L))) (k : ℕ) → IsOut j (slots (joined rows)) → IsOut j (slots (get_or rows k []))
slots_at j [] k out = tt
slots_at j (es ∷ rows) zero out = (slots_both j es (joined rows) out).0
slots_at j (es ∷ rows) (suc k) out = slots_at j rows k (slots_both j es (joined rows) out).1

pub out_at : (cs : List ℕ) (k j : ℕ) → k < length cs → IsOut j cs → j ≢ get_or cs k 0
out_at [] k j lt out = absurd (omega (arith, lt))
out_at (c ∷ cs) zero j lt out = out.0
out_at (c ∷ cs) (suc k) j lt out = out_at cs k j (omega (arith, lt)) out.1

slots_join : {L : Type 0} (j : ℕ) (es fs : List (Entry L)) → IsOut j (slots es) → IsOut j (slots fs) → IsOut j (slots (es ++ fs))
slots_join j [] fs h k = k
slots_join j (e ∷ es) fs h k = (h.0, slots_join j es fs h.1 k)

pub out_joined : {L : Type 0} (j : ℕ) (rows : List (List (Entry L))) → ((m : ℕ) → m < length rows → IsOut j (slots (get_or rows m []))) → IsOut j (slots (joined rows))
out_joined j [] h = tt
out_joined j (es ∷ rows) h = slots_join j es (joined rows) (h 0 (omega arith)) (out_joined j rows (λ m lt. h (suc m) (omega (arith, lt))))

links_join : {L : Type 0} (j : ℕ) (es fs : List (Entry L)) → IsOut j (links es) → IsOut j (links fs) → IsOut j (links (es ++ fs))
links_join j [] fs h k = k
links_join j (e ∷ es) fs h k = (h.0, links_join j es fs h.1 k)

pub links_joined : {L : Type 0} (j : ℕ) (rows : List (List (Entry L))) → ((m : ℕ) → m < length rows → IsOut j (links (get_or rows m []))) → IsOut j (links (joined rows))
links_joined j [] h = tt
links_joined j (es ∷ rows) h = links_join j es (joined rows) (h 0 (omega arith)) (links_joined j rows (λ m lt. h (suc m) (omega (arith, lt))))

pub out_all : (j : ℕ) (cs : List ℕ) → ((m : ℕ) → m < length cs → j ≢ get_or cs m 0) → IsOut j cs
out_all j [] h = tt
out_all j (c ∷ cs) h = (h 0 (omega arith), out_all j cs (λ m lt. h (suc m) (omega (arith, lt))))

pub out_append_both : (j : ℕ) (xs ys : List ℕ) → IsOut j xs → IsOut j ys → IsOut j (xs ++ ys)
out_append_both j [] ys h k = k
out_append_both j (x ∷ xs) ys h k = (h.0, out_append_both j xs ys h.1 k)

pub are_both : (xs ys zs : List ℕ) → AreOut (xs ++ ys) zs → AreOut xs zs × AreOut ys zs
are_both [] ys zs h = (tt, h)
are_both (x ∷ xs) ys zs h = let r = are_both xs ys zs h.1 in ((h.0, r.0), r.1)

are_at : (xs zs : List ℕ) (k : ℕ) → k < length xs → AreOut xs zs → IsOut (get_or xs k 0) zs
are_at [] zs k lt h = absurd (omega (arith, lt))
are_at (x ∷ xs) zs zero lt h = h.0
are_at (x ∷ xs) zs (suc k) lt h = are_at xs zs k (omega (arith, lt)) h.1

module _ {L : Type 0} where
  links_are : (es fs : List (Entry L)) (zs : List ℕ) → AreOut (links (es ++ fs)) zs → AreOut (links es) zs × AreOut (links fs) zs
  links_are [] fs zs h = (tt, h)
  links_are (e ∷ es) fs zs h = let r = links_are es fs zs h.1 in ((h.0, r.0), r.1)

  slots_are : (es fs : List (Entry L)) (zs : List ℕ) → AreOut (slots (es ++ fs)) zs → AreOut (slots es) zs × AreOut (slots fs) zs
  slots_are [] fs zs h = (tt, h)
  slots_are (e ∷ es) fs zs h = let r = slots_are es fs zs h.1 in ((h.0, r.0), r.1)

  links_are_at : (rows : List (List (Entry L))) (zs : List ℕ) (k : ℕ) → AreOut (links (joined rows)) zs → AreOut (links (get_or rows k [])) zs
  links_are_at [] zs k h = tt
  links_are_at (es ∷ rows) zs zero h = (links_are es (joined rows) zs h).0
  links_are_at (es ∷ rows) zs (suc k) h = links_are_at rows zs k (links_are es (joined rows) zs h).1

  slots_are_at : (rows : List (List (Entry L))) (zs : List ℕ) (k : ℕ) → AreOut (slots (joined rows)) zs → AreOut (slots (get_or rows k [])) zs
  slots_are_at [] zs k h = tt
  slots_are_at (es ∷ rows) zs zero h = (slots_are es (joined rows) zs h).0
  slots_are_at (es ∷ rows) zs (suc k) h = slots_are_at rows zs k (slots_are es (joined rows) zs h).1

  pub own_kept : (cs is : List ℕ) (w w' : State L) (es : List (Entry L)) → Leaves cs is w w' → AreOut (slots es) is → AreOwn w es → AreOwn w' es
  own_kept cs is w w' [] l out h = tt
  own_kept cs is w w' (e ∷ es) l out h = (h.0, l.uses e.slot out.0 (ap vacancy h.1) ∙ h.1, own_kept cs is w w' es l out.1 h.2)

-- a row stays where its cells and items are left
pub row_left : {L : Type 0} (link : L → Option ℕ) (cs is : List ℕ) (w w' : State L) (ds : List ℕ) (rows : List (List (Entry L))) → Leaves cs is w w' → AreOut ds cs → AreOut (links (joined rows)) cs → AreOut (slots (joined rows)) is → IsRow link w ds rows → IsRow link w' ds rows
row_left link cs is w w' ds rows l out outs apart row = record {
  hung = λ k lt. hung_left link cs is w w' (get_or ds k 0) tag.None (get_or rows k []) l (are_at ds cs k lt out) (links_are_at rows cs k outs) (slots_are_at rows is k apart) (row.hung k lt);
  cells = row.cells;
  items = row.items;
}

-- the lists of a row are given back, one after another
module _ {L : Type 0} (link : L → Option ℕ) where
  -- lists that are the same at each place of the row
  pub row_same : (w : State L) (cs : List ℕ) (rows rows' : List (List (Entry L))) → ((k : ℕ) → k < length cs → get_or rows k [] ≡ get_or rows' k []) → IsRow link w cs rows → IsRow link w cs rows'
  row_same w cs rows rows' same row = record {
    hung = λ k lt. subst (λ (es : List (Entry L)). IsList link w (get_or cs k 0) tag.None es) (same k lt) (row.hung k lt);
    cells = λ a b la lb ne. subst (λ (es : List (Entry L)). AreApart (get_or cs a 0 ∷ links es) (get_or cs b 0 ∷ links (get_or rows' b []))) (same a la) (subst (λ (es : List (Entry L)). AreApart (get_or cs a 0 ∷ links (get_or rows a [])) (get_or cs b 0 ∷ links es)) (same b lb) (row.cells a b la lb ne));
    items = λ a b la lb ne. subst (λ (es : List (Entry L)). AreApart (slots es) (slots (get_or rows' b []))) (same a la) (subst (λ (es : List (Entry L)). AreApart (slots (get_or rows a [])) (slots es)) (same b lb) (row.items a b la lb ne));
  }

  -- the first n of them were given back
  pub record Emptied (w w' : State L) (cs : List ℕ) (rows : List (List (Entry L))) (n : ℕ) : Type 0 where
    pub rest : List (List (Entry L))
    pub row : IsRow link w' cs rest
    pub size : length rest ≡ length rows
    pub done : (k : ℕ) → k < n → get_or rest k [] ≡ []
    pub kept : (k : ℕ) → n ≤ k → get_or rest k [] ≡ get_or rows k []
    pub leaves : Leaves (cs ++ links (joined rows)) (slots (joined rows)) w w'

  pub emptied_start : (w : State L) (cs : List ℕ) (rows : List (List (Entry L))) → IsRow link w cs rows → Emptied w w cs rows 0
  emptied_start w cs rows row = record { rest = rows; row = row; size = refl; done = λ k lt. absurd (omega (arith, lt)); kept = λ k from. refl; leaves = leaves_all (cs ++ links (joined rows)) (slots (joined rows)) w }

  pub emptied_next : (w w1 w2 : State L) (cs : List ℕ) (rows : List (List (Entry L))) (n c : ℕ) → n < length cs → length cs ≤ length rows → c ≡ get_or cs n 0 → (k : Emptied w w1 cs rows n) → ((t : Tag) (es : List (Entry L)) → IsList link w1 c t es → IsList link w2 c t []) → ((t : Tag) (es : List (Entry L)) → IsList link w1 c t es → Leaves (c ∷ links es) (slots es) w1 w2) → Emptied w w2 cs rows (n + 1)
  emptied_next w w1 w2 cs rows n c inside enough at k cleared leaves =
      let es = get_or k.rest n [] in
      let hung = subst (λ (i : ℕ). IsList link w1 i tag.None es) (sym at) (k.row.hung n inside) in
      let there : n < length k.rest = (let s = k.size in omega (arith, inside, enough, s)) in
      let l = subst (λ (i : ℕ). Leaves (i ∷ links es) (slots es) w1 w2) at (leaves tag.None es hung) in
      let is = k.kept n (omega arith) in
      record {
        rest = set k.rest n [];
        row = row_set link w1 w2 cs k.rest n [] k.row inside there (subst (λ (i : ℕ). IsList link w2 i tag.None []) at (cleared tag.None es hung)) l (λ j used out. tt) (λ j used out. tt);
        size = length-set k.rest n [] ∙ k.size;
        done = λ m lt. elim (cases_eq m n) as (λ _. get_or (set k.rest n []) m [] ≡ []) [
          | inl e ↦ ap (λ (i : ℕ). get_or (set k.rest n []) i []) e ∙ get_or-set_same k.rest n [] [] there
          | inr ne ↦ get_or-set_other k.rest n m [] [] ne ∙ k.done m (omega (arith, lt, ne))
        ];
        kept = λ m from. get_or-set_other k.rest n m [] [] (omega (arith, from)) ∙ k.kept m (omega (arith, from));
        leaves = leaves_then (cs ++ links (joined rows)) (slots (joined rows)) w w1 w2 k.leaves (leaves_more (get_or cs n 0 ∷ links es) (slots es) (cs ++ links (joined rows)) (slots (joined rows)) w1 w2 (λ j out.
            let both = out_append j cs (links (joined rows)) out in
            (out_at cs n j inside both.0, subst (λ (fs : List (Entry L)). IsOut j (links fs)) (sym is) (links_at j rows n both.1))) (λ j out. subst (λ (fs : List (Entry L)). IsOut j (slots fs)) (sym is) (slots_at j rows n out)) l);
      }

  pub emptied_hangs : (w w1 : State L) (cs : List ℕ) (rows : List (List (Entry L))) (n c : ℕ) → n < length cs → c ≡ get_or cs n 0 → Emptied w w1 cs rows n → Hangs link w1 c
  emptied_hangs w w1 cs rows n c inside at k = record { tag = tag.None; entries = get_or k.rest n []; is = subst (λ (i : ℕ). IsList link w1 i tag.None (get_or k.rest n [])) (sym at) (k.row.hung n inside) }

  pub emptied_all : (w w1 : State L) (cs : List ℕ) (rows : List (List (Entry L))) (n : ℕ) → length cs ≤ n → Emptied w w1 cs rows n → IsRow link w1 cs []
  emptied_all w w1 cs rows n all k = row_same w1 cs k.rest [] (λ m lt. k.done m (omega (arith, lt, all))) k.row

-- cells end, the last one first
pub freed_last : {L : Type 0} (ts : List (AtomicShared L)) (t : AtomicShared L) (w : State L) → freed (map shared_cell (ts ++ t ∷ [])) w ≡ freed (map shared_cell ts) (with_cell (shared_cell t) cell.Free w)
freed_last [] t w = refl
freed_last (s ∷ ts) t w = ap (λ (v : State _). with_cell (shared_cell s) cell.Free v) (freed_last ts t w)

out_last : {L : Type 0} (j : ℕ) (ts : List (AtomicShared L)) (t : AtomicShared L) → IsOut j (map shared_cell (ts ++ t ∷ [])) → (j ≢ shared_cell t) × IsOut j (map shared_cell ts)
out_last j [] t out = (out.0, tt)
out_last j (s ∷ ts) t out = let r = out_last j ts t out.1 in (r.0, (out.0, r.1))

pub empty_last : {L : Type 0} (ts : List (AtomicShared L)) (t : AtomicShared L) (w : State L) → AreEmpty w (map shared_cell (ts ++ t ∷ [])) → (cell_at w (shared_cell t) ≡ cell.OfShared None tag.None) × AreEmpty (with_cell (shared_cell t) cell.Free w) (map shared_cell ts)
empty_last [] t w h = (h.0, tt)
empty_last (s ∷ ts) t w h =
    let r = empty_last ts t w h.2 in
    let o = out_last (shared_cell s) ts t h.1 in
    (r.0, (wrote_other w (shared_cell t) (shared_cell s) cell.Free o.0 ∙ h.0, o.1, r.1))
