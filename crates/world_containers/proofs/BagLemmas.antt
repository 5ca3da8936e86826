-- bags, as entries come and go
use Rattle.world_containers.proofs.Names.{◌≡◌, ◌≢◌, ◌⊎◌, ◌++◌, ℕ, zero, suc, ◌+◌, ◌<◌, ◌≤◌, true, false, Option, None, Some, List, [], ◌∷◌, length, get_or, set, refl, sym, ap, ◌∙◌, arith, subst, inl, inr, length-set, get_or-set_same, get_or-set_other, map, Result, Ok, Err, OnOk, IfErr, MatchOption, replicate, length-map, IsSharedCell, shared_cell, shared_slot, shared_slots, AtomicShared, false≢true, cases_eq, State, status_at, cell_at, vacancy, emptiness, NoneFree, NoCellFree, Tag, Entry, slots, links, IsOut, AreOut, IsList, Hangs, Leaves, first_slot, undeleted, TookFirst, entry_link, IsNew, IsStack, IsSomeStack, IsClaimed, IsNull, cell_of, IsSomeRow, IsRow, IsBag, IsSomeBag, joined, AreOwn, Adds, Puts, PutsPrimary, PutsOverflow, TakesOne, LinkedEntry, hung_first, head_cell, leaves_more, out_of_none, leaves_released, out_of_one, released, first_none, TookSome, took_some, took_nothing}
use Rattle.sdd_world.specs.declared.owner.Shared.{Shared}
use Rattle.sdd_world.specs.declared.tag.Tag.TheVariants as tag
use Rattle.world_containers.proofs.BagLenLemmas.{own_undeleted}
use Rattle.world_containers.proofs.BagInitLemmas.{claimed_empty, blank_row, blanks_joined, blanks_length, blanks_single}
use Rattle.world_containers.proofs.RowLemmas.{adds_more, adds_less, single_set, single_at, room_length, full_length, none_joined, joined_some, own_both, own_first, own_second, own_at, own_set, own_left, row_set, row_left, out_append, out_at, out_joined, out_all, out_append_both, links_joined, links_at, are_both, own_kept}

-- what a cell tells of the list that hangs from it
module _ {L : Type 0} (link : L → Option ℕ) (w : State L) (c : ℕ) (es : List (Entry L)) (h : IsList link w c tag.None es) where
  pub null_empty : IsNull w c true → es ≡ []
  null_empty null = first_none es ((null (first_slot es) tag.None (hung_first link w c tag.None es h)).0 refl)

  pub null_not : IsNull w c false → es ≢ []
  null_not null = λ e. false≢true ((null (first_slot es) tag.None (hung_first link w c tag.None es h)).1 (ap first_slot e))

-- the cells of a bag, by the tokens
module _ {T : Type 0} (n : ℕ) (w : State (LinkedEntry T)) (ts : List (AtomicShared (LinkedEntry T))) (b : IsSomeBag n w (map shared_cell ts)) where
  pub cells_there : (k : ℕ) → k < length ts → IsSharedCell w (cell_of ts k)
  cells_there k lt = head_cell entry_link w (cell_of ts k) tag.None (get_or (b.overflow ∷ b.is.rows) k []) (b.is.row.hung k (let e = length-map ts shared_cell in omega (arith, e, lt)))

  -- a list hangs from the cell that was found
  pub stack_there : (k c : ℕ) → k < length ts → c ≡ cell_of ts k → IsSomeStack w c
  stack_there k c lt at = record { entries = get_or (b.overflow ∷ b.is.rows) k []; is = subst (λ (i : ℕ). IsStack w i (get_or (b.overflow ∷ b.is.rows) k [])) (sym at) (b.is.row.hung k (let e = length-map ts shared_cell in omega (arith, e, lt))) }

  pub hangs_there : (k c : ℕ) → k < length ts → c ≡ cell_of ts k → Hangs entry_link w c
  hangs_there k c lt at = let s = stack_there k c lt at in record { tag = tag.None; entries = s.entries; is = s.is }

-- what a cell of a row leaves, the row leaves
pub leaves_at : {L : Type 0} (w w' : State L) (cs : List ℕ) (k c : ℕ) → k < length cs → c ≡ get_or cs k 0 → Leaves (c ∷ []) [] w w' → Leaves cs [] w w'
leaves_at w w' cs k c lt at l = leaves_more (c ∷ []) [] cs [] w w' (λ j out. (subst (λ (i : ℕ). j ≢ i) (sym at) (out_at cs k j lt out), tt)) (λ j out. out) l

module _ {T : Type 0} (w : State (LinkedEntry T)) (v : T) (e : Entry (LinkedEntry T)) (new : IsNew w v e) where
  pub new_link : (es : List (Entry (LinkedEntry T))) (j : ℕ) → emptiness (cell_at w j) ≡ 0 → IsOut j (links es) → IsOut j (links (e ∷ es))
  new_link es j used out = (λ q. absurd (let a : emptiness (cell_at w j) ≡ 1 = ap (λ (i : ℕ). emptiness (cell_at w i)) q ∙ ap emptiness new.link.1 in omega (arith, a, used)), out)

  pub new_slot : (es : List (Entry (LinkedEntry T))) (j : ℕ) → vacancy (status_at w j) ≡ 0 → IsOut j (slots es) → IsOut j (slots (e ∷ es))
  new_slot es j used out = (λ q. absurd (let a : vacancy (status_at w j) ≡ 1 = ap (λ (i : ℕ). vacancy (status_at w i)) q ∙ ap vacancy new.slot.1 in omega (arith, a, used)), out)

module _ {T : Type 0} (n : ℕ) (w w' : State (LinkedEntry T)) (cs : List ℕ) (ps os : List (Entry (LinkedEntry T))) (b : IsBag n w cs ps os) where
  abbrev all : List (List (Entry (LinkedEntry T)))
  all = os ∷ b.rows

  inside_all : (k : ℕ) → k < length cs → k < length all
  inside_all k lt = let s = b.size in let c = b.cells in omega (arith, lt, s, c)

  pub primary_own : AreOwn w (joined b.rows)
  primary_own = subst (λ (es : List (Entry (LinkedEntry T))). AreOwn w es) (sym b.is) (own_second w os ps b.own)

  pub overflow_own : AreOwn w os
  overflow_own = own_first w os ps b.own

  -- an entry was put before what hangs from cell number k
  module _ (v : T) (k c : ℕ) (inside : k < length cs) (at : c ≡ get_or cs k 0) (p : Puts w w' v c) (l : Leaves (c ∷ []) [] w w') where
    put_row : IsRow entry_link w' cs (set all k (p.entry ∷ get_or all k []))
    put_row =
        let hung = subst (λ (i : ℕ). IsList entry_link w' i tag.None (p.entry ∷ get_or all k [])) at (p.puts (get_or all k []) (subst (λ (i : ℕ). IsList entry_link w i tag.None (get_or all k [])) (sym at) (b.row.hung k inside))) in
        let left = leaves_more (get_or cs k 0 ∷ []) [] (get_or cs k 0 ∷ links (get_or all k [])) (slots (get_or all k [])) w w' (λ j out. (out.0, tt)) (λ j out. tt) (subst (λ (i : ℕ). Leaves (i ∷ []) [] w w') at l) in
        row_set entry_link w w' cs all k (p.entry ∷ get_or all k []) b.row inside (inside_all k inside) hung left (new_link w v p.entry p.new (get_or all k [])) (new_slot w v p.entry p.new (get_or all k []))

    put_own : (es : List (Entry (LinkedEntry T))) → AreOwn w es → AreOwn w' (p.entry ∷ es)
    put_own es h = (p.new.clear, p.owners, own_left w w' (c ∷ []) es l h)

  pub put_overflow : (v : T) (c : ℕ) → c ≡ get_or cs 0 0 → (p : Puts w w' v c) → Leaves (c ∷ []) [] w w' → PutsOverflow n w w' v cs ps os
  put_overflow v c at p l = record {
    entry = p.entry;
    new = p.new;
    more = p.entry ∷ os;
    adds = record { before = []; after = os; was = refl; now = refl };
    left = record {
      rows = b.rows;
      row = put_row v 0 c (let e = b.cells in omega (arith, e)) at p l;
      cells = b.cells;
      size = b.size;
      single = b.single;
      is = b.is;
      own = put_own v 0 c (let e = b.cells in omega (arith, e)) at p l (os ++ ps) b.own;
    };
  }

  put_single : (k : ℕ) (e : Entry (LinkedEntry T)) (es : List (Entry (LinkedEntry T))) → es ≡ [] → length (e ∷ es) ≤ 1
  put_single k e es none = let z : length es ≡ 0 = ap length none in omega (arith, z)

  put_at : (v : T) (k c : ℕ) → suc k < length cs → c ≡ get_or cs (suc k) 0 → get_or b.rows k [] ≡ [] → (p : Puts w w' v c) → Leaves (c ∷ []) [] w w' → PutsPrimary n w w' v cs ps os
  put_at v k c inside at none p l =
      let lt : k < length b.rows = (let e = inside_all (suc k) inside in omega (arith, e)) in
      record {
        entry = p.entry;
        new = p.new;
        more = joined (set b.rows k (p.entry ∷ get_or b.rows k []));
        adds = subst (λ (es : List (Entry (LinkedEntry T))). Adds p.entry es (joined (set b.rows k (p.entry ∷ get_or b.rows k [])))) b.is (adds_more p.entry b.rows k lt);
        left = record {
          rows = set b.rows k (p.entry ∷ get_or b.rows k []);
          row = put_row v (suc k) c inside at p l;
          cells = b.cells;
          size = length-set b.rows k (p.entry ∷ get_or b.rows k []) ∙ b.size;
          single = single_set (p.entry ∷ get_or b.rows k []) b.rows k (put_single k p.entry (get_or b.rows k []) none) b.single;
          is = refl;
          own = own_both w' os (joined (set b.rows k (p.entry ∷ get_or b.rows k []))) (own_left w w' (c ∷ []) os l overflow_own) (own_set w' (p.entry ∷ get_or b.rows k []) b.rows k (put_own v (suc k) c inside at p l (get_or b.rows k []) (own_at w b.rows k primary_own)) (own_left w w' (c ∷ []) (joined b.rows) l primary_own));
        };
      }

  -- an entry was put where a cell of the primary kept none
  pub put_primary : (v : T) (k c : ℕ) → 1 ≤ k → k < length cs → c ≡ get_or cs k 0 → IsNull w (get_or cs k 0) true → (p : Puts w w' v c) → Leaves (c ∷ []) [] w w' → (length ps < n) × PutsPrimary n w w' v cs ps os
  put_primary v zero c from inside at null p l = absurd (omega (arith, from))
  put_primary v (suc k) c from inside at null p l =
      let none : get_or b.rows k [] ≡ [] = null_empty entry_link w (get_or cs (suc k) 0) (get_or b.rows k []) (b.row.hung (suc k) inside) null in
      let lt : k < length b.rows = (let e = inside_all (suc k) inside in omega (arith, e)) in
      let room = room_length b.rows k lt none b.single in
      let same : length (joined b.rows) ≡ length ps = ap length b.is in
      (let s = b.size in omega (arith, room, same, s), put_at v k c inside at none p l)

  -- no cell of the primary keeps nothing
  pub primary_full : ((k : ℕ) → 1 ≤ k → k < length cs → IsNull w (get_or cs k 0) false) → length ps ≡ n
  primary_full full = sym (ap length b.is) ∙ full_length b.rows (λ k lt. let inside : suc k < length cs = (let s = b.size in let c = b.cells in omega (arith, lt, s, c)) in null_not entry_link w (get_or cs (suc k) 0) (get_or b.rows k []) (b.row.hung (suc k) inside) (full (suc k) (omega arith) inside)) b.single ∙ b.size

  -- no cell keeps anything
  pub all_none : ((k : ℕ) → k < length cs → IsNull w (get_or cs k 0) true) → (ps ≡ []) × (os ≡ [])
  all_none none = (
    sym b.is ∙ none_joined b.rows (λ k lt. let inside : suc k < length cs = (let s = b.size in let c = b.cells in omega (arith, lt, s, c)) in null_empty entry_link w (get_or cs (suc k) 0) (get_or b.rows k []) (b.row.hung (suc k) inside) (none (suc k) inside)),
    (let inside : 0 < length cs = (let c = b.cells in omega (arith, c)) in null_empty entry_link w (get_or cs 0 0) os (b.row.hung 0 inside) (none 0 inside)),
  )

  pub all_empty : ((k : ℕ) → k < length cs → IsNull w (get_or cs k 0) true) → IsBag n w cs [] []
  all_empty none = let e = all_none none in subst (λ (xs : List (Entry (LinkedEntry T))). IsBag n w cs xs []) e.0 (subst (λ (ys : List (Entry (LinkedEntry T))). IsBag n w cs ps ys) e.1 b)

  -- the first entry that hangs from cell number k was taken
  module _ (k c i : ℕ) (inside : k < length cs) (at : c ≡ get_or cs k 0) (t : TookSome entry_link w w' c i tag.None (get_or all k [])) where
    take_row : IsRow entry_link w' cs (set all k t.rest)
    take_row =
        let hung = subst (λ (j : ℕ). IsList entry_link w' j tag.None t.rest) at t.left in
        let links_of : (j : ℕ) → IsOut j (links (get_or all k [])) → IsOut j (links (t.entry ∷ t.rest)) = λ j out. subst (λ (es : List (Entry (LinkedEntry T))). IsOut j (links es)) t.is out in
        let slots_of : (j : ℕ) → IsOut j (slots (get_or all k [])) → IsOut j (slots (t.entry ∷ t.rest)) = λ j out. subst (λ (es : List (Entry (LinkedEntry T))). IsOut j (slots es)) t.is out in
        let left = leaves_more (get_or cs k 0 ∷ t.entry.link ∷ []) [] (get_or cs k 0 ∷ links (get_or all k [])) (slots (get_or all k [])) w w' (λ j out. (out.0, ((links_of j out.1).0, tt))) (λ j out. tt) (subst (λ (j : ℕ). Leaves (j ∷ t.entry.link ∷ []) [] w w') at t.leaves) in
        row_set entry_link w w' cs all k t.rest b.row inside (inside_all k inside) hung left (λ j used out. (links_of j out).1) (λ j used out. (slots_of j out).1)

    take_left : (es : List (Entry (LinkedEntry T))) → AreOwn w es → AreOwn w' es
    take_left es h = own_left w w' (c ∷ t.entry.link ∷ []) es t.leaves h

    -- it is none of those that are left
    take_apart : IsOut t.entry.slot (slots (joined (set all k t.rest)))
    take_apart = out_joined t.entry.slot (set all k t.rest) (λ m lt. elim (cases_eq m k) as (λ _. IsOut t.entry.slot (slots (get_or (set all k t.rest) m []))) [
      | inl e ↦ subst (λ (es : List (Entry (LinkedEntry T))). IsOut t.entry.slot (slots es)) (sym (ap (λ (j : ℕ). get_or (set all k t.rest) j []) e ∙ get_or-set_same all k t.rest [] (inside_all k inside))) t.alone
      | inr ne ↦
          let size = length-set all k t.rest in
          let inside_m : m < length cs = (let s = b.size in let e = b.cells in omega (arith, lt, size, s, e)) in
          let mine : IsOut t.entry.slot (slots (get_or all m [])) = elim (b.row.items k m inside inside_m (λ q. ne (sym q)) t.entry.slot) [
            | inl out ↦ absurd ((subst (λ (es : List (Entry (LinkedEntry T))). IsOut t.entry.slot (slots es)) t.is out).0 refl)
            | inr out ↦ out
          ] in
          subst (λ (es : List (Entry (LinkedEntry T))). IsOut t.entry.slot (slots es)) (sym (get_or-set_other all k m t.rest [] ne)) mine
    ])

  module _ (k c i : ℕ) (inside : k < length cs) (at : c ≡ get_or cs k 0) (t : TookSome entry_link w w' c i tag.None (get_or all k [])) where
    -- its link is none of the cells, and none of the links that are left
    links_other : (m : ℕ) → m < length cs → m ≢ k → (t.entry.link ≢ get_or cs m 0) × IsOut t.entry.link (links (get_or all m []))
    links_other m lt ne = elim (b.row.cells k m inside lt (λ q. ne (sym q)) t.entry.link) [
      | inl out ↦ absurd ((subst (λ (es : List (Entry (LinkedEntry T))). IsOut t.entry.link (links es)) t.is out.1).0 refl)
      | inr out ↦ out
    ]

    take_cells : IsOut t.entry.link cs
    take_cells = out_all t.entry.link cs (λ m lt. elim (cases_eq m k) as (λ _. t.entry.link ≢ get_or cs m 0) [
      | inl e ↦ λ q. t.apart (at ∙ sym (ap (λ (j : ℕ). get_or cs j 0) e) ∙ sym q)
      | inr ne ↦ (links_other m lt ne).0
    ])

    take_links : IsOut t.entry.link (cs ++ links (joined (set all k t.rest)))
    take_links = out_append_both t.entry.link cs (links (joined (set all k t.rest))) take_cells (links_joined t.entry.link (set all k t.rest) (λ m lt. elim (cases_eq m k) as (λ _. IsOut t.entry.link (links (get_or (set all k t.rest) m []))) [
      | inl e ↦ subst (λ (es : List (Entry (LinkedEntry T))). IsOut t.entry.link (links es)) (sym (ap (λ (j : ℕ). get_or (set all k t.rest) j []) e ∙ get_or-set_same all k t.rest [] (inside_all k inside))) t.out
      | inr ne ↦
          let size = length-set all k t.rest in
          let inside_m : m < length cs = (let s = b.size in let e = b.cells in omega (arith, lt, size, s, e)) in
          subst (λ (es : List (Entry (LinkedEntry T))). IsOut t.entry.link (links es)) (sym (get_or-set_other all k m t.rest [] ne)) (links_other m inside_m ne).1
    ]))

  take_overflow : (c i : ℕ) → c ≡ get_or cs 0 0 → TookSome entry_link w w' c i tag.None os → TakesOne n w' cs i ps os
  take_overflow c i at t =
      let inside : 0 < length cs = (let e = b.cells in omega (arith, e)) in
      let own : AreOwn w' (t.entry ∷ t.rest) = subst (λ (es : List (Entry (LinkedEntry T))). AreOwn w' es) t.is (take_left 0 c i inside at t os overflow_own) in
      record {
        entry = t.entry;
        at = t.at;
        loose = t.loose;
        clear = own.0;
        owners = own.1;
        rest = t.rest;
        left = inl (
          record { before = []; after = t.rest; was = refl; now = t.is },
          record {
            rows = b.rows;
            row = take_row 0 c i inside at t;
            cells = b.cells;
            size = b.size;
            single = b.single;
            is = b.is;
            own = own_both w' t.rest ps own.2 (take_left 0 c i inside at t ps (own_second w os ps b.own));
          },
          subst (λ (es : List (Entry (LinkedEntry T))). IsOut t.entry.slot (slots (t.rest ++ es))) b.is (take_apart 0 c i inside at t),
          subst (λ (es : List (Entry (LinkedEntry T))). IsOut t.entry.link (cs ++ links (t.rest ++ es))) b.is (take_links 0 c i inside at t),
        );
      }

  take_primary : (k c i : ℕ) → suc k < length cs → c ≡ get_or cs (suc k) 0 → os ≡ [] → TookSome entry_link w w' c i tag.None (get_or b.rows k []) → TakesOne n w' cs i ps os
  take_primary k c i inside at none t =
      let lt : k < length b.rows = (let e = inside_all (suc k) inside in omega (arith, e)) in
      let own : AreOwn w' (t.entry ∷ t.rest) = subst (λ (es : List (Entry (LinkedEntry T))). AreOwn w' es) t.is (take_left (suc k) c i inside at t (get_or b.rows k []) (own_at w b.rows k primary_own)) in
      let one : length t.rest ≤ 1 = (let s = single_at b.rows k b.single in let e : length (get_or b.rows k []) ≡ length (t.entry ∷ t.rest) = ap length t.is in omega (arith, s, e)) in
      let own' = own_set w' t.rest b.rows k own.2 (take_left (suc k) c i inside at t (joined b.rows) primary_own) in
      record {
        entry = t.entry;
        at = t.at;
        loose = t.loose;
        clear = own.0;
        owners = own.1;
        rest = joined (set b.rows k t.rest);
        left = inr (
          none,
          subst (λ (es : List (Entry (LinkedEntry T))). Adds t.entry (joined (set b.rows k t.rest)) es) b.is (adds_less t.entry t.rest b.rows k lt t.is),
          record {
            rows = set b.rows k t.rest;
            row = subst (λ (es : List (Entry (LinkedEntry T))). IsRow entry_link w' cs (es ∷ set b.rows k t.rest)) none (take_row (suc k) c i inside at t);
            cells = b.cells;
            size = length-set b.rows k t.rest ∙ b.size;
            single = single_set t.rest b.rows k one b.single;
            is = refl;
            own = own';
          },
          subst (λ (es : List (Entry (LinkedEntry T))). IsOut t.entry.slot (slots (es ++ joined (set b.rows k t.rest)))) none (take_apart (suc k) c i inside at t),
          subst (λ (es : List (Entry (LinkedEntry T))). IsOut t.entry.link (cs ++ links (es ++ joined (set b.rows k t.rest)))) none (take_links (suc k) c i inside at t),
        );
      }

  -- it was taken from the first cell that keeps one
  pub take_one : (k c i : ℕ) → k < length cs → c ≡ get_or cs k 0 → ((j : ℕ) → j < k → IsNull w (get_or cs j 0) true) → TookSome entry_link w w' c i tag.None (get_or all k []) → TakesOne n w' cs i ps os
  take_one zero c i inside at before t = take_overflow c i at t
  take_one (suc k) c i inside at before t =
      let first : 0 < length cs = omega (arith, inside) in
      take_primary k c i inside at (null_empty entry_link w (get_or cs 0 0) os (b.row.hung 0 first) (before 0 (omega arith))) t

-- what putting an entry into a bag makes of it
module _ {T : Type 0} (n : ℕ) (w w' : State (LinkedEntry T)) (ts : List (AtomicShared (LinkedEntry T))) (v : T) (k c : ℕ) (lt : k < length ts) (at : c ≡ cell_of ts k) (l : Leaves (c ∷ []) [] w w') where
  inside : k < length (map shared_cell ts)
  inside = let e = length-map ts shared_cell in omega (arith, e, lt)

  pub bag_leaves : Leaves (map shared_cell ts) [] w w'
  bag_leaves = leaves_at w w' (map shared_cell ts) k c inside at l

  pub bag_primary : (r : Result (Unit {0}) T) → OnOk r (Puts w w' v c) → 1 ≤ k → IsNull w (cell_of ts k) true → OnOk r ((ps os : List (Entry (LinkedEntry T))) → IsBag n w (map shared_cell ts) ps os → (length ps < n) × PutsPrimary n w w' v (map shared_cell ts) ps os)
  bag_primary (Ok u) p from null = λ ps os b. put_primary n w w' (map shared_cell ts) ps os b v k c from inside at null p l
  bag_primary (Err e) p from null = tt

  pub bag_either : (r : Result (Unit {0}) T) → OnOk r (Puts w w' v c) → 1 ≤ k → IsNull w (cell_of ts k) true → OnOk r ((ps os : List (Entry (LinkedEntry T))) → IsBag n w (map shared_cell ts) ps os → ((length ps < n) × PutsPrimary n w w' v (map shared_cell ts) ps os) ⊎ ((length ps ≡ n) × PutsOverflow n w w' v (map shared_cell ts) ps os))
  bag_either (Ok u) p from null = λ ps os b. inl (put_primary n w w' (map shared_cell ts) ps os b v k c from inside at null p l)
  bag_either (Err e) p from null = tt

  pub bag_list : (r : Result (Unit {0}) T) → OnOk r (Puts w w' v c) → IfErr r (λ e. (e ≡ v) × (w' ≡ w) × (NoneFree w ⊎ NoCellFree w)) → (k ≢ 0 → IsNull w (cell_of ts k) true) → IsSomeBag n w (map shared_cell ts) → IsSomeBag n w' (map shared_cell ts)
  bag_list (Ok u) p e null b = put_some k lt at p null
    where
      put_some : (m : ℕ) → m < length ts → c ≡ cell_of ts m → Puts w w' v c → (m ≢ 0 → IsNull w (cell_of ts m) true) → IsSomeBag n w' (map shared_cell ts)
      put_some zero mlt mat q mnull =
          let r = put_overflow n w w' (map shared_cell ts) b.primary b.overflow b.is v c mat q l in
          record { primary = b.primary; overflow = r.more; is = r.left }
      put_some (suc m) mlt mat q mnull =
          let r = (put_primary n w w' (map shared_cell ts) b.primary b.overflow b.is v (suc m) c (omega arith) (let e = length-map ts shared_cell in omega (arith, e, mlt)) mat (mnull (λ z. absurd (omega (arith, z)))) q l).1 in
          record { primary = r.more; overflow = b.overflow; is = r.left }
  bag_list (Err x) p e null b = subst (λ (s : State (LinkedEntry T)). IsSomeBag n s (map shared_cell ts)) (sym e.1) b

pub row_full : {T : Type 0} (n : ℕ) (w : State (LinkedEntry T)) (ts : List (AtomicShared (LinkedEntry T))) (ps os : List (Entry (LinkedEntry T))) → IsBag n w (map shared_cell ts) ps os → ((k : ℕ) → 1 ≤ k → k < length ts → IsNull w (cell_of ts k) false) → length ps ≡ n
row_full n w ts ps os b full = primary_full n w w (map shared_cell ts) ps os b (λ k from lt. full k from (let e = length-map ts shared_cell in omega (arith, e, lt)))

pub some_cell : {T : Type 0} (n : ℕ) (w : State (LinkedEntry T)) (ts : List (AtomicShared (LinkedEntry T))) → IsSomeBag n w (map shared_cell ts) → 0 < length ts
some_cell n w ts b = let e = length-map ts shared_cell in let c = b.is.cells in omega (arith, e, c)

pub bag_overflow : {T : Type 0} (n : ℕ) (w w' : State (LinkedEntry T)) (ts : List (AtomicShared (LinkedEntry T))) (v : T) (c : ℕ) → c ≡ cell_of ts 0 → Leaves (c ∷ []) [] w w' → (r : Result (Unit {0}) T) → OnOk r (Puts w w' v c) → ((k : ℕ) → 1 ≤ k → k < length ts → IsNull w (cell_of ts k) false) → OnOk r ((ps os : List (Entry (LinkedEntry T))) → IsBag n w (map shared_cell ts) ps os → ((length ps < n) × PutsPrimary n w w' v (map shared_cell ts) ps os) ⊎ ((length ps ≡ n) × PutsOverflow n w w' v (map shared_cell ts) ps os))
bag_overflow n w w' ts v c at l (Ok u) p full = λ ps os b. inr (row_full n w ts ps os b full, put_overflow n w w' (map shared_cell ts) ps os b v c at p l)
bag_overflow n w w' ts v c at l (Err e) p full = tt

pub some_left : {T : Type 0} {n : ℕ} {w' : State (LinkedEntry T)} {cs : List ℕ} (i : ℕ) (ps os : List (Entry (LinkedEntry T))) → TakesOne n w' cs i ps os → IsSomeBag n w' cs
some_left i ps os t = elim t.left [
  | inl l ↦ record { primary = ps; overflow = t.rest; is = l.1 }
  | inr l ↦ record { primary = t.rest; overflow = []; is = l.2 }
]

-- what taking the first entry of the first cell that keeps one makes of a bag
module _ {T : Type 0} (n : ℕ) (w w' : State (LinkedEntry T)) (ts : List (AtomicShared (LinkedEntry T))) (k c : ℕ) (lt : k < length ts) (at : c ≡ cell_of ts k) (some : IsNull w (cell_of ts k) false) (before : (j : ℕ) → j < k → IsNull w (cell_of ts j) true) where
  abbrev Tried : Option (Shared (LinkedEntry T)) → Type 0
  Tried o = (t : Tag) (es : List (Entry (LinkedEntry T))) → IsList entry_link w c t es → TookFirst entry_link w w' c t es (shared_slots o)

  within : k < length (map shared_cell ts)
  within = let e = length-map ts shared_cell in omega (arith, e, lt)

  here : (ps os : List (Entry (LinkedEntry T))) (b : IsBag n w (map shared_cell ts) ps os) → IsList entry_link w c tag.None (get_or (os ∷ b.rows) k [])
  here ps os b = subst (λ (i : ℕ). IsList entry_link w i tag.None (get_or (os ∷ b.rows) k [])) (sym at) (b.row.hung k within)

  never : (ps os : List (Entry (LinkedEntry T))) (b : IsBag n w (map shared_cell ts) ps os) → Tried None → ⊥
  never ps os b took = null_not entry_link w (cell_of ts k) (get_or (os ∷ b.rows) k []) (b.row.hung k within) some (took_nothing entry_link w w' c tag.None (get_or (os ∷ b.rows) k []) (took tag.None (get_or (os ∷ b.rows) k []) (here ps os b))).0

  taken : (s : Shared (LinkedEntry T)) (ps os : List (Entry (LinkedEntry T))) (b : IsBag n w (map shared_cell ts) ps os) → Tried (Some s) → TookSome entry_link w w' c (shared_slot s) tag.None (get_or (os ∷ b.rows) k [])
  taken s ps os b took = took_some entry_link w w' c (shared_slot s) tag.None (get_or (os ∷ b.rows) k []) (here ps os b) (took tag.None (get_or (os ∷ b.rows) k []) (here ps os b))

  pub bag_taken : (o : Option (Shared (LinkedEntry T))) → Tried o → (ps os : List (Entry (LinkedEntry T))) → IsBag n w (map shared_cell ts) ps os → MatchOption o ((ps ≡ []) × (os ≡ []) × IsBag n w' (map shared_cell ts) [] []) (λ s. TakesOne n w' (map shared_cell ts) (shared_slot s) ps os)
  bag_taken None took ps os b = absurd (never ps os b took)
  bag_taken (Some s) took ps os b = take_one n w w' (map shared_cell ts) ps os b k c (shared_slot s) within at before (taken s ps os b took)

  pub bag_left : (o : Option (Shared (LinkedEntry T))) → Tried o → IsSomeBag n w (map shared_cell ts) → IsSomeBag n w' (map shared_cell ts)
  bag_left None took b = absurd (never b.primary b.overflow b.is took)
  bag_left (Some s) took b = some_left (shared_slot s) b.primary b.overflow (take_one n w w' (map shared_cell ts) b.primary b.overflow b.is k c (shared_slot s) within at before (taken s b.primary b.overflow b.is took))

  pub bag_leaves_taken : (o : Option (Shared (LinkedEntry T))) → Tried o → (ps os : List (Entry (LinkedEntry T))) → IsBag n w (map shared_cell ts) ps os → Leaves (map shared_cell ts ++ links (os ++ ps)) [] w w'
  bag_leaves_taken None took ps os b = absurd (never ps os b took)
  bag_leaves_taken (Some s) took ps os b =
      let k' = taken s ps os b took in
      leaves_more (c ∷ k'.entry.link ∷ []) [] (map shared_cell ts ++ links (os ++ ps)) [] w w' (λ j out.
      let both = out_append j (map shared_cell ts) (links (os ++ ps)) out in
      let mine = links_at j (os ∷ b.rows) k (subst (λ (es : List (Entry (LinkedEntry T))). IsOut j (links (os ++ es))) (sym b.is) both.1) in
      (subst (λ (i : ℕ). j ≢ i) (sym at) (out_at (map shared_cell ts) k j within both.0), ((subst (λ (es : List (Entry (LinkedEntry T))). IsOut j (links es)) k'.is mine).0, tt))) (λ j out. out) k'.leaves

pub row_none : {T : Type 0} (n : ℕ) (w : State (LinkedEntry T)) (ts : List (AtomicShared (LinkedEntry T))) (ps os : List (Entry (LinkedEntry T))) → IsBag n w (map shared_cell ts) ps os → ((k : ℕ) → k < length ts → IsNull w (cell_of ts k) true) → (ps ≡ []) × (os ≡ []) × IsBag n w (map shared_cell ts) [] []
row_none n w ts ps os b none =
    let all : (k : ℕ) → k < length (map shared_cell ts) → IsNull w (get_or (map shared_cell ts) k 0) true = λ k lt. none k (let e = length-map ts shared_cell in omega (arith, e, lt)) in
    let r = all_none n w w (map shared_cell ts) ps os b all in
    (r.0, r.1, all_empty n w w (map shared_cell ts) ps os b all)

-- a cell keeps something
pub row_some : {T : Type 0} (n : ℕ) (w : State (LinkedEntry T)) (ts : List (AtomicShared (LinkedEntry T))) (k : ℕ) (ps os : List (Entry (LinkedEntry T))) → k < length ts → IsNull w (cell_of ts k) false → IsBag n w (map shared_cell ts) ps os → os ++ ps ≢ []
row_some n w ts k ps os lt some b =
    let inside : k < length (map shared_cell ts) = (let e = length-map ts shared_cell in omega (arith, e, lt)) in
    let there : k < length (os ∷ b.rows) = (let s = b.size in let c = b.cells in omega (arith, inside, s, c)) in
    subst (λ (es : List (Entry (LinkedEntry _))). os ++ es ≢ []) b.is (joined_some (os ∷ b.rows) k there (null_not entry_link w (cell_of ts k) (get_or (os ∷ b.rows) k []) (b.row.hung k inside) some))

pub both_none : {X : Type 0} (xs ys : List X) → xs ≡ [] → ys ≡ [] → ys ++ xs ≡ []
both_none xs ys e f = rw f e

pub bag_row : {T : Type 0} (n : ℕ) (w : State (LinkedEntry T)) (cs : List ℕ) (ps os : List (Entry (LinkedEntry T))) → IsBag n w cs ps os → IsSomeRow entry_link w cs
bag_row n w cs ps os b = record { rows = os ∷ b.rows; size = (let s = b.size in let c = b.cells in omega (arith, s, c)); is = b.row }

pub bag_size : {T : Type 0} (n : ℕ) (w : State (LinkedEntry T)) (ts : List (AtomicShared (LinkedEntry T))) (ps os : List (Entry (LinkedEntry T))) → (b : IsBag n w (map shared_cell ts) ps os) → length (os ∷ b.rows) ≡ length ts
bag_size n w ts ps os b = let s = b.size in let c = b.cells in let e = length-map ts shared_cell in omega (arith, s, c, e)

-- no entry of a bag is deleted
pub bag_undeleted : {T : Type 0} (n : ℕ) (w : State (LinkedEntry T)) (cs : List ℕ) (ps os : List (Entry (LinkedEntry T))) → (b : IsBag n w cs ps os) → length (undeleted (os ++ joined b.rows)) ≡ length (os ++ ps)
bag_undeleted n w cs ps os b = ap (λ (es : List (Entry (LinkedEntry _))). length (undeleted (os ++ es))) b.is ∙ ap (λ (es : List (Entry (LinkedEntry _))). length es) (own_undeleted w (os ++ ps) b.own)

pub bag_enough : {T : Type 0} (n : ℕ) (w : State (LinkedEntry T)) (ts : List (AtomicShared (LinkedEntry T))) (ps os : List (Entry (LinkedEntry T))) → (b : IsBag n w (map shared_cell ts) ps os) → length ts ≤ length (os ∷ b.rows)
bag_enough n w ts ps os b = let s = b.size in let c = b.cells in let e = length-map ts shared_cell in omega (arith, s, c, e)

-- a new bag
pub claimed_bag : {T : Type 0} (n : ℕ) (w w' : State (LinkedEntry T)) (ts : List (AtomicShared (LinkedEntry T))) → length ts ≡ n + 1 → IsClaimed w (map shared_cell ts) w' → IsBag n w' (map shared_cell ts) [] []
claimed_bag n w w' ts size h = record {
  rows = replicate n [];
  row = blank_row entry_link w' (map shared_cell ts) n (claimed_empty (map shared_cell ts) w w' h);
  cells = length-map ts shared_cell ∙ size;
  size = blanks_length (Entry (LinkedEntry _)) n;
  single = blanks_single (Entry (LinkedEntry _)) n;
  is = blanks_joined (Entry (LinkedEntry _)) n;
  own = tt;
}

-- a bag stays where a call leaves its cells and its items
pub bag_stays : {T : Type 0} (n : ℕ) (cs is ds : List ℕ) (w w' : State (LinkedEntry T)) (ps os : List (Entry (LinkedEntry T))) → Leaves cs is w w' → AreOut (ds ++ links (os ++ ps)) cs → AreOut (slots (os ++ ps)) is → IsBag n w ds ps os → IsBag n w' ds ps os
bag_stays n cs is ds w w' ps os l out outs b =
    let both = are_both ds (links (os ++ ps)) cs out in
    let out' = subst (λ (es : List (Entry (LinkedEntry _))). AreOut (links (os ++ es)) cs) (sym b.is) both.1 in
    let outs' = subst (λ (es : List (Entry (LinkedEntry _))). AreOut (slots (os ++ es)) is) (sym b.is) outs in
    record {
      rows = b.rows;
      row = row_left entry_link cs is w w' ds (os ∷ b.rows) l both.0 out' outs' b.row;
      cells = b.cells;
      size = b.size;
      single = b.single;
      is = b.is;
      own = own_kept cs is w w' (os ++ ps) l outs b.own;
    }

-- the owner of an entry that was taken is given back
pub released_bag : {T : Type 0} (n p i : ℕ) (w : State (LinkedEntry T)) (cs : List ℕ) (ps os : List (Entry (LinkedEntry T))) → TakesOne n w cs i ps os → IsSomeBag n (released p i w) cs
released_bag {T} n p i w cs ps os t = elim t.left [
  | inl l ↦ record { primary = ps; overflow = t.rest; is = stays ps t.rest l.1 l.2 }
  | inr l ↦ record { primary = t.rest; overflow = []; is = stays t.rest [] l.2 l.3 }
]
  where
    stays : (ps' os' : List (Entry (LinkedEntry T))) → IsBag n w cs ps' os' → IsOut t.entry.slot (slots (os' ++ ps')) → IsBag n (released p i w) cs ps' os'
    stays ps' os' b out = bag_stays n [] (i ∷ []) cs w (released p i w) ps' os' (leaves_released p i w) (out_of_none (cs ++ links (os' ++ ps'))) (out_of_one (slots (os' ++ ps')) i (subst (λ (j : ℕ). IsOut j (slots (os' ++ ps'))) (sym t.at) out)) b
