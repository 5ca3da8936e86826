-- rows of cells that keep nothing: made, and ended
use Rattle.world_containers.proofs.Names.{◌≡◌, ◌≢◌, ◌⊎◌, ◌++◌, ℕ, zero, suc, ◌+◌, ◌<◌, Option, None, List, [], ◌∷◌, length, get_or, set, map, refl, sym, ap, ◌∙◌, arith, subst, length-set, inl, inr, replicate, cases_eq, State, cell_at, with_cell, emptiness, IsFreeCell, NoCellFree, shared_cell, AtomicShared, Cell, Entry, IsOut, Leaves, AreApart, AreEmpty, AreFreeCells, AreSingle, IsClaimed, IsRow, freed, joined, wrote_same, wrote_other, inside_cells, leaves_all, leaves_then, leaves_write, freed_again, leaves_free}
use Rattle.std.specs.List.{sum_by}
use Rattle.std.proofs.lemmas.List.Sums.{sum_by-set}
use Rattle.sdd_world.specs.declared.tag.Tag.TheVariants as tag
use Rattle.sdd_world.specs.declared.status.Cell.TheVariants as cell
use Rattle.world_containers.proofs.RowLemmas.{row_same}

-- cells that keep nothing are a row of empty lists
pub out_all : (c : ℕ) (cs : List ℕ) → ((k : ℕ) → k < length cs → c ≢ get_or cs k 0) → IsOut c cs
out_all c [] ne = tt
out_all c (d ∷ cs) ne = (ne 0 (omega arith), out_all c cs (λ k lt. ne (suc k) (omega (arith, lt))))

all_empty : {L : Type 0} (w : State L) (cs : List ℕ) → ((k : ℕ) → k < length cs → cell_at w (get_or cs k 0) ≡ cell.OfShared None tag.None) → ((k m : ℕ) → k < length cs → m < length cs → k ≢ m → get_or cs k 0 ≢ get_or cs m 0) → AreEmpty w cs
all_empty w [] null apart = tt
all_empty w (c ∷ cs) null apart = (
  null 0 (omega arith),
  out_all c cs (λ k lt. apart 0 (suc k) (omega arith) (omega (arith, lt)) (λ e. absurd (omega (arith, e)))),
  all_empty w cs (λ k lt. null (suc k) (omega (arith, lt))) (λ k m lk lm ne. apart (suc k) (suc m) (omega (arith, lk)) (omega (arith, lm)) (λ e. ne (omega (arith, e)))),
)

pub row_empty : {L : Type 0} (link : L → Option ℕ) (w : State L) (cs : List ℕ) → IsRow link w cs [] → AreEmpty w cs
row_empty link w cs row = all_empty w cs row.hung (λ k m lk lm ne e. elim (row.cells k m lk lm ne (get_or cs k 0)) [ inl out ↦ out.0 refl | inr out ↦ out.0 e ])

pub empty_at : {L : Type 0} (w : State L) (cs : List ℕ) (k : ℕ) → AreEmpty w cs → k < length cs → cell_at w (get_or cs k 0) ≡ cell.OfShared None tag.None
empty_at w [] k h lt = absurd (omega (arith, lt))
empty_at w (c ∷ cs) zero h lt = h.0
empty_at w (c ∷ cs) (suc k) h lt = empty_at w cs k h.2 (omega (arith, lt))

at_out : (c : ℕ) (cs : List ℕ) (k : ℕ) → IsOut c cs → k < length cs → c ≢ get_or cs k 0
at_out c [] k out lt = absurd (omega (arith, lt))
at_out c (d ∷ cs) zero out lt = out.0
at_out c (d ∷ cs) (suc k) out lt = at_out c cs k out.1 (omega (arith, lt))

empty_apart : {L : Type 0} (w : State L) (cs : List ℕ) (k m : ℕ) → AreEmpty w cs → k < length cs → m < length cs → k ≢ m → get_or cs k 0 ≢ get_or cs m 0
empty_apart w [] k m h lk lm ne = absurd (omega (arith, lk))
empty_apart w (c ∷ cs) zero zero h lk lm ne = absurd (ne refl)
empty_apart w (c ∷ cs) zero (suc m) h lk lm ne = at_out c cs m h.1 (omega (arith, lm))
empty_apart w (c ∷ cs) (suc k) zero h lk lm ne = λ e. at_out c cs k h.1 (omega (arith, lk)) (sym e)
empty_apart w (c ∷ cs) (suc k) (suc m) h lk lm ne = empty_apart w cs k m h.2 (omega (arith, lk)) (omega (arith, lm)) (λ e. ne (omega (arith, e)))

two_apart : (c d : ℕ) → c ≢ d → AreApart (c ∷ []) (d ∷ [])
two_apart c d ne = λ j. elim (cases_eq j c) as (λ _. IsOut j (c ∷ []) ⊎ IsOut j (d ∷ [])) [ inl e ↦ inr (λ q. ne (sym e ∙ q), tt) | inr other ↦ inl (other, tt) ]

pub empty_row : {L : Type 0} (link : L → Option ℕ) (w : State L) (cs : List ℕ) → AreEmpty w cs → IsRow link w cs []
empty_row link w cs h = record {
  hung = λ k lt. empty_at w cs k h lt;
  cells = λ k m lk lm ne. two_apart (get_or cs k 0) (get_or cs m 0) (empty_apart w cs k m h lk lm ne);
  items = λ k m lk lm ne j. inl tt;
}

-- empty lists
module _ (X : Type 0) where
  blank_at : (n k : ℕ) → ◌≡◌ {A = List X} (get_or (replicate n []) k []) []
  blank_at zero k = refl
  blank_at (suc n) zero = refl
  blank_at (suc n) (suc k) = blank_at n k

  pub blanks_joined : (n : ℕ) → ◌≡◌ {A = List X} (joined (replicate n [])) []
  blanks_joined zero = refl
  blanks_joined (suc n) = blanks_joined n

  pub blanks_single : (n : ℕ) → AreSingle {X = X} (replicate n [])
  blanks_single zero = tt
  blanks_single (suc n) = (omega arith, blanks_single n)

  pub blanks_length : (n : ℕ) → length {A = List X} (replicate n []) ≡ n
  blanks_length zero = refl
  blanks_length (suc n) = let r = blanks_length n in omega (arith, r)

pub blank_row : {L : Type 0} (link : L → Option ℕ) (w : State L) (cs : List ℕ) (n : ℕ) → AreEmpty w cs → IsRow link w cs ([] ∷ replicate n [])
blank_row {L} link w cs n h = row_same link w cs [] ([] ∷ replicate n []) (λ k lt. sym (blank_at (Entry L) (suc n) k)) (empty_row link w cs h)

-- cells that end
module _ {L : Type 0} where
  freed_size : (cs : List ℕ) (w : State L) → length (freed cs w).cells ≡ length w.cells
  freed_size [] w = refl
  freed_size (c ∷ cs) w = length-set (freed cs w).cells c cell.Free ∙ freed_size cs w

  free_more : (cs : List ℕ) (c : ℕ) (w : State L) → AreFreeCells w cs → AreFreeCells (with_cell c cell.Free w) cs
  free_more [] c w h = tt
  free_more (d ∷ cs) c w h =
      let inside : d < length (set w.cells c cell.Free) = (let e = length-set w.cells c cell.Free in let i = h.0.0 in omega (arith, e, i)) in
      let now : cell_at (with_cell c cell.Free w) d ≡ cell.Free = elim (cases_eq d c) [ inl e ↦ ap (λ (i : ℕ). cell_at (with_cell c cell.Free w) i) e ∙ wrote_same w c cell.Free (subst (λ (i : ℕ). i < length w.cells) e h.0.0) | inr ne ↦ wrote_other w c d cell.Free ne ∙ h.0.1 ] in
      ((inside, now), free_more cs c w h.1)

  pub freed_free : (cs : List ℕ) (w : State L) → AreEmpty w cs → AreFreeCells (freed cs w) cs
  freed_free [] w h = tt
  freed_free (c ∷ cs) w h =
      let at : c < length (freed cs w).cells = (let e = freed_size cs w in let i = inside_cells w.cells c None tag.None h.0 in omega (arith, e, i)) in
      let inside : c < length (set (freed cs w).cells c cell.Free) = (let e = length-set (freed cs w).cells c cell.Free in omega (arith, e, at)) in
      ((inside, wrote_same (freed cs w) c cell.Free at), free_more cs c (freed cs w) (freed_free cs w h.2))

  pub freed_leaves : (cs ds is : List ℕ) (w : State L) → ((j : ℕ) → IsOut j ds → IsOut j cs) → Leaves ds is w (freed cs w)
  freed_leaves [] ds is w inside = leaves_all ds is w
  freed_leaves (c ∷ cs) ds is w inside = leaves_write ds is w (freed cs w) c cell.Free (λ j out. (inside j out).0) (freed_leaves cs ds is w (λ j out. (inside j out).1))

-- cells that are made
abbrev null : Cell
null = cell.OfShared None tag.None

module _ {L : Type 0} where
  pub claimed_last : (ts : List (AtomicShared L)) (t : AtomicShared L) (w v : State L) → IsClaimed w (map shared_cell ts) v → IsFreeCell v (shared_cell t) → IsClaimed w (map shared_cell (ts ++ t ∷ [])) (with_cell (shared_cell t) (cell.OfShared None tag.None) v)
  claimed_last [] t w v h free = (subst (λ (s : State L). IsFreeCell s (shared_cell t)) h free, ap (λ (s : State L). with_cell (shared_cell t) (cell.OfShared None tag.None) s) h)
  claimed_last (s ∷ ts) t w v h free = (h.0, claimed_last ts t (with_cell (shared_cell s) (cell.OfShared None tag.None) w) v h.1 free)

  used_not : (w : State L) (c j : ℕ) → IsFreeCell w c → emptiness (cell_at w j) ≡ 0 → j ≢ c
  used_not w c j free used e = absurd (let a : emptiness (cell_at w j) ≡ 1 = ap (λ (i : ℕ). emptiness (cell_at w i)) e ∙ ap emptiness free.1 in omega (arith, a, used))

  -- a cell in use stays, and isn't among them
  claimed_kept : (cs : List ℕ) (w v : State L) (j : ℕ) → IsClaimed w cs v → emptiness (cell_at w j) ≡ 0 → (cell_at v j ≡ cell_at w j) × IsOut j cs
  claimed_kept [] w v j h used = (ap (λ (s : State L). cell_at s j) h, tt)
  claimed_kept (c ∷ cs) w v j h used =
      let ne = used_not w c j h.0 used in
      let same = wrote_other w c j null ne in
      let r = claimed_kept cs (with_cell c null w) v j h.1 (ap emptiness same ∙ used) in
      (r.0 ∙ same, (ne, r.1))

  pub claimed_empty : (cs : List ℕ) (w v : State L) → IsClaimed w cs v → AreEmpty v cs
  claimed_empty [] w v h = tt
  claimed_empty (c ∷ cs) w v h =
      let now = wrote_same w c null h.0.0 in
      let r = claimed_kept cs (with_cell c null w) v c h.1 (ap emptiness now) in
      (r.0 ∙ now, r.1, claimed_empty cs (with_cell c null w) v h.1)

  pub claimed_freed : (cs : List ℕ) (w v : State L) → IsClaimed w cs v → freed cs v ≡ w
  claimed_freed [] w v h = h
  claimed_freed (c ∷ cs) w v h = ap (λ (s : State L). with_cell c cell.Free s) (claimed_freed cs (with_cell c null w) v h.1) ∙ freed_again w c null h.0.1

  pub claimed_leaves : (cs : List ℕ) (w v : State L) → IsClaimed w cs v → Leaves [] [] w v
  claimed_leaves [] w v h = subst (λ (s : State L). Leaves [] [] w s) (sym h) (leaves_all [] [] w)
  claimed_leaves (c ∷ cs) w v h = leaves_then [] [] w (with_cell c null w) v (leaves_free [] [] c w (with_cell c null w) h.0.1 (leaves_write (c ∷ []) [] w w c null (λ j out. out.0) (leaves_all (c ∷ []) [] w))) (claimed_leaves cs (with_cell c null w) v h.1)

  free_before : (w : State L) (c j : ℕ) → c < length w.cells → IsFreeCell (with_cell c null w) j → IsFreeCell w j
  free_before w c j inside free = elim (cases_eq j c) [
    | inl e ↦ absurd (let a : emptiness (cell_at (with_cell c null w) j) ≡ 0 = ap (λ (i : ℕ). emptiness (cell_at (with_cell c null w) i)) e ∙ ap emptiness (wrote_same w c null inside) in let b : emptiness (cell_at (with_cell c null w) j) ≡ 1 = ap emptiness free.1 in omega (arith, a, b))
    | inr ne ↦ (omega (arith, free.0, length-set w.cells c null), sym (wrote_other w c j null ne) ∙ free.1)
  ]

  all_before : (cs : List ℕ) (w : State L) (c : ℕ) → c < length w.cells → AreFreeCells (with_cell c null w) cs → AreFreeCells w cs
  all_before [] w c inside h = tt
  all_before (d ∷ cs) w c inside h = (free_before w c d inside h.0, all_before cs w c inside h.1)

  pub claimed_free : (cs : List ℕ) (w v : State L) → IsClaimed w cs v → AreFreeCells w cs
  claimed_free [] w v h = tt
  claimed_free (c ∷ cs) w v h = (h.0, all_before cs w c h.0.0 (claimed_free cs (with_cell c null w) v h.1))

  -- as many fewer are free
  pub claimed_count : (cs : List ℕ) (w v : State L) → IsClaimed w cs v → sum_by emptiness w.cells ≡ length cs + sum_by emptiness v.cells
  claimed_count [] w v h = let e : sum_by emptiness v.cells ≡ sum_by emptiness w.cells = ap (λ (s : State L). sum_by emptiness s.cells) h in omega (arith, e)
  claimed_count (c ∷ cs) w v h =
      let less = sum_by-set emptiness w.cells c null cell.Free h.0.0 in
      let r = claimed_count cs (with_cell c null w) v h.1 in
      let one : emptiness (cell_at w c) ≡ 1 = ap emptiness h.0.1 in
      omega (arith, less, r, one)

full_cells : (ks : List Cell) → ((c : ℕ) → c < length ks → get_or ks c cell.Free ≢ cell.Free) → sum_by emptiness ks ≡ 0
full_cells [] h = refl
full_cells (cell.Free ∷ ks) h = absurd (h 0 (omega arith) refl)
full_cells (cell.OfOwned o t ∷ ks) h = full_cells ks (λ c lt. h (suc c) (omega (arith, lt)))
full_cells (cell.OfShared o t ∷ ks) h = full_cells ks (λ c lt. h (suc c) (omega (arith, lt)))
full_cells (cell.OfRaw o t ∷ ks) h = full_cells ks (λ c lt. h (suc c) (omega (arith, lt)))

pub none_free : {L : Type 0} (w : State L) → NoCellFree w → sum_by emptiness w.cells ≡ 0
none_free w h = full_cells w.cells h
