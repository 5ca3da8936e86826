-- walks along a bag, and the values that are written along them
use Rattle.world_containers.proofs.Names.{◌≡◌, ◌⊎◌, ◌++◌, ◌==◌, ℕ, zero, suc, ◌+◌, ◌<◌, ◌≤◌, true, false, Option, None, Some, List, [], ◌∷◌, length, get_or, drop, map, refl, sym, ap, ◌∙◌, arith, subst, get_or-set_same, get_or-set_other, cond, inl, inr, Err, IsErrOf, OnSome, IfNone, length-map, map-append, drop_more, drop_all, State, status_at, value_at, cell_at, NoneOpen, IsOpen, IsSharedCell, HasOneOwner, shared_cell, AtomicShared, Tag, Status, Cell, Entry, slots, links, IsOut, IsItem, IsList, Hangs, Leaves, AreApart, AreOwn, AreSingle, IsBag, IsNull, IsRow, IsSomeBag, joined, cell_of, entry_link, entry_value, entry_with_value, AreHung, AreOnce, IsLeft, IsSomeLeft, Finds, Gives, Revalues, Visits, revalue, revalued, walk_bag, walk_cells, walk_name, walk_place, LinkedEntry, LinkedEntry', None', Some', head_cell, hung_left, inside_cells, item_left, item_shared, out_of_none, some_same, starts_link, the_same, Starts, out_of_one, AreUsed}
use Rattle.std.proofs.lemmas.Bool.Decides.{eqb_tells}
use Rattle.sdd_world.specs.State.{with_value as with_item}
use Rattle.sdd_world.specs.Filled.{IsFilled, slot_in}
use Rattle.sdd_world.specs.declared.tag.Tag.TheVariants as tag
use Rattle.sdd_world.specs.declared.refusal.NotLent.{NotLent}
use Rattle.sdd_world.specs.declared.refusal.NotLent.TheVariants as not_lent
use Rattle.sdd_world.specs.declared.status.Status.TheVariants as status
use Rattle.sdd_world.specs.declared.status.Cell.TheVariants as cell
use Rattle.world_containers.specs.Iters.{first_value}
use Rattle.world_containers.specs.declared.bag.IterMut.{IterMut}
use Rattle.world_containers.proofs.BagLenLemmas.{row_used}
use Rattle.world_containers.proofs.BagLemmas.{null_empty, null_not}

-- a refusal has one of two reasons
pub never_refused : {X : Type 0} (e : NotLent) → (IsErrOf {T = X} (Err e) not_lent.NotSole → ⊥) → (IsErrOf {T = X} (Err e) not_lent.GuardsOpen → ⊥) → ⊥
never_refused not_lent.GuardsOpen sole closed = closed refl
never_refused not_lent.NotSole sole closed = sole refl

inside_values : {X : Type 0} (vs : List (Option X)) (i : ℕ) (x : X) → get_or vs i None ≡ Some x → i < length vs
inside_values [] i x h = cc
inside_values (v ∷ vs) zero x h = omega arith
inside_values (v ∷ vs) (suc i) x h = let r = inside_values vs i x h in omega (arith, r)

link_kept : {T : Type 0} (v : T) (e : LinkedEntry T) → entry_link (entry_with_value v e) ≡ entry_link e
unfolding Rattle.sdd_lists.specs.declared.linked_entry.LinkedEntry.TheViews.roll-LinkedEntry denote.Hole.Carrier.roll Rattle.sdd_lists.specs.declared.linked_entry.LinkedEntry.TheViews.out-LinkedEntry denote.Hole.Carrier.out
link_kept v (LinkedEntry' i None') = refl
link_kept v (LinkedEntry' i (Some' c)) = refl

-- an item with another value
module _ {T : Type 0} (i : ℕ) (v : T) where
  slot_same : (e : Entry (LinkedEntry T)) → (revalue i v e).slot ≡ e.slot
  slot_same e = elim (e.slot == i) as (λ b. (cond b (record e { item = entry_with_value v e.item }) e).slot ≡ e.slot) [ true ↦ refl | false ↦ refl ]

  link_same : (e : Entry (LinkedEntry T)) → (revalue i v e).link ≡ e.link
  link_same e = elim (e.slot == i) as (λ b. (cond b (record e { item = entry_with_value v e.item }) e).link ≡ e.link) [ true ↦ refl | false ↦ refl ]

  tag_same : (e : Entry (LinkedEntry T)) → (revalue i v e).tag ≡ e.tag
  tag_same e = elim (e.slot == i) as (λ b. (cond b (record e { item = entry_with_value v e.item }) e).tag ≡ e.tag) [ true ↦ refl | false ↦ refl ]

  slots_same : (es : List (Entry (LinkedEntry T))) → slots (revalued i v es) ≡ slots es
  slots_same [] = refl
  slots_same (e ∷ es) = rw (slot_same e, slots_same es) refl

  links_same : (es : List (Entry (LinkedEntry T))) → links (revalued i v es) ≡ links es
  links_same [] = refl
  links_same (e ∷ es) = rw (link_same e, links_same es) refl

  nth_revalued : (rows : List (List (Entry (LinkedEntry T)))) (k : ℕ) → get_or (map (revalued i v) rows) k [] ≡ revalued i v (get_or rows k [])
  nth_revalued [] k = refl
  nth_revalued (es ∷ rows) zero = refl
  nth_revalued (es ∷ rows) (suc k) = nth_revalued rows k

  joined_revalued : (rows : List (List (Entry (LinkedEntry T)))) → joined (map (revalued i v) rows) ≡ revalued i v (joined rows)
  joined_revalued [] = refl
  joined_revalued (es ∷ rows) = ap (λ (fs : List (Entry (LinkedEntry T))). revalued i v es ++ fs) (joined_revalued rows) ∙ sym (map-append (revalue i v) es (joined rows))

  single_revalued : (rows : List (List (Entry (LinkedEntry T)))) → AreSingle rows → AreSingle (map (revalued i v) rows)
  single_revalued [] h = tt
  single_revalued (es ∷ rows) h = ((let l = length-map es (revalue i v) in let one = h.0 in omega (arith, l, one)), single_revalued rows h.1)

  -- it is written into a place
  module _ (w : State (LinkedEntry T)) (x : LinkedEntry T) (here : value_at w i ≡ Some x) where
    abbrev written : State (LinkedEntry T)
    written = with_item i (entry_with_value v x) w

    pub leaves_written : Leaves [] (i ∷ []) w written
    leaves_written = record { cells = λ c out used. refl; uses = λ j out used. refl; values = λ j out used. get_or-set_other w.values i j (Some (entry_with_value v x)) None out.0 }

    now_there : value_at written i ≡ Some (entry_with_value v x)
    now_there = get_or-set_same w.values i (Some (entry_with_value v x)) None (inside_values w.values i x here)

    item_revalued : (e : Entry (LinkedEntry T)) → IsItem entry_link w e → IsItem entry_link written (revalue i v e)
    item_revalued e h = elim (eqb_tells e.slot i) [
      | inl q ↦ subst (λ b. IsItem entry_link written (cond b (record e { item = entry_with_value v e.item }) e)) (sym q.0) (record {
        owners = h.owners;
        shared = h.shared;
        owned = h.owned;
        here = ap (λ (j : ℕ). value_at written j) q.1 ∙ now_there ∙ ap (λ (y : LinkedEntry T). Some (entry_with_value v y)) (the_same x e.item (sym here ∙ ap (λ (j : ℕ). value_at w j) (sym q.1) ∙ h.here));
        linked = link_kept v e.item ∙ h.linked;
      })
      | inr q ↦ subst (λ b. IsItem entry_link written (cond b (record e { item = entry_with_value v e.item }) e)) (sym q.0) (item_left entry_link [] (i ∷ []) w written e leaves_written (q.1, tt) h)
    ]

    pub hung_revalued : (c : ℕ) (t : Tag) (es : List (Entry (LinkedEntry T))) → IsList entry_link w c t es → IsList entry_link written c t (revalued i v es)
    hung_revalued c t [] h = h
    hung_revalued c t (e ∷ es) h = (
      subst (λ (j : ℕ). cell_at w c ≡ cell.OfShared (Some j) t) (sym (slot_same e)) h.0,
      item_revalued e h.1,
      subst (λ (js : List ℕ). IsOut c js) (sym (links_same (e ∷ es))) h.2,
      subst (λ (j : ℕ). IsOut j (slots (revalued i v es))) (sym (slot_same e)) (subst (λ (js : List ℕ). IsOut e.slot js) (sym (slots_same es)) h.3),
      subst (λ (j : ℕ). IsList entry_link written j (revalue i v e).tag (revalued i v es)) (sym (link_same e)) (subst (λ (u : Tag). IsList entry_link written e.link u (revalued i v es)) (sym (tag_same e)) (hung_revalued e.link e.tag es h.4)),
    )

    own_revalued : (es : List (Entry (LinkedEntry T))) → AreOwn w es → AreOwn written (revalued i v es)
    own_revalued [] h = tt
    own_revalued (e ∷ es) h = (tag_same e ∙ h.0, subst (λ (j : ℕ). status_at w j ≡ status.Shared 1) (sym (slot_same e)) h.1, own_revalued es h.2)

    row_revalued : (cs : List ℕ) (rows : List (List (Entry (LinkedEntry T)))) → IsRow entry_link w cs rows → IsRow entry_link written cs (map (revalued i v) rows)
    row_revalued cs rows row =
        let ls : (k : ℕ) → links (get_or (map (revalued i v) rows) k []) ≡ links (get_or rows k []) = λ k. ap links (nth_revalued rows k) ∙ links_same (get_or rows k []) in
        let ss : (k : ℕ) → slots (get_or (map (revalued i v) rows) k []) ≡ slots (get_or rows k []) = λ k. ap slots (nth_revalued rows k) ∙ slots_same (get_or rows k []) in
        record {
          hung = λ k lt. subst (λ (es : List (Entry (LinkedEntry T))). IsList entry_link written (get_or cs k 0) tag.None es) (sym (nth_revalued rows k)) (hung_revalued (get_or cs k 0) tag.None (get_or rows k []) (row.hung k lt));
          cells = λ k m lk lm ne. subst (λ (xs : List ℕ). AreApart (get_or cs k 0 ∷ xs) (get_or cs m 0 ∷ links (get_or (map (revalued i v) rows) m []))) (sym (ls k)) (subst (λ (xs : List ℕ). AreApart (get_or cs k 0 ∷ links (get_or rows k [])) (get_or cs m 0 ∷ xs)) (sym (ls m)) (row.cells k m lk lm ne));
          items = λ k m lk lm ne. subst (λ (xs : List ℕ). AreApart xs (slots (get_or (map (revalued i v) rows) m []))) (sym (ss k)) (subst (λ (xs : List ℕ). AreApart (slots (get_or rows k [])) xs) (sym (ss m)) (row.items k m lk lm ne));
        }

    pub bag_revalued : (n : ℕ) (cs : List ℕ) (ps os : List (Entry (LinkedEntry T))) → IsBag n w cs ps os → IsBag n written cs (revalued i v ps) (revalued i v os)
    bag_revalued n cs ps os b = record {
      rows = map (revalued i v) b.rows;
      row = row_revalued cs (os ∷ b.rows) b.row;
      cells = b.cells;
      size = length-map b.rows (revalued i v) ∙ b.size;
      single = single_revalued b.rows b.single;
      is = joined_revalued b.rows ∙ ap (revalued i v) b.is;
      own = subst (λ (es : List (Entry (LinkedEntry T))). AreOwn written es) (map-append (revalue i v) os ps) (own_revalued (os ++ ps) b.own);
    }

    -- lists without it stay
    are_hung : (cs : List ℕ) (rows : List (List (Entry (LinkedEntry T)))) → IsOut i (slots (joined rows)) → AreHung w cs rows → AreHung written cs rows
    are_hung [] [] out h = h
    are_hung [] (es ∷ rows) out h = h
    are_hung (c ∷ cs) [] out h = h
    are_hung (c ∷ cs) (es ∷ rows) out h =
        let both = out_joint es (joined rows) out in
        (hung_left entry_link [] (i ∷ []) w written c tag.None es leaves_written tt (out_of_none (links es)) (out_of_one (slots es) i both.0) h.0, are_hung cs rows both.1 h.1)
      where
        out_joint : (es fs : List (Entry (LinkedEntry T))) → IsOut i (slots (es ++ fs)) → IsOut i (slots es) × IsOut i (slots fs)
        out_joint [] fs out = (tt, out)
        out_joint (e ∷ es) fs out = let r = out_joint es fs out.1 in ((out.0, r.0), r.1)

    own_written : (es : List (Entry (LinkedEntry T))) → AreOwn w es → AreOwn written es
    own_written [] h = tt
    own_written (e ∷ es) h = (h.0, h.1, own_written es h.2)

    pub left_written : (cs : List ℕ) (es : List (Entry (LinkedEntry T))) → IsOut i (slots es) → IsLeft w cs es → IsLeft written cs es
    left_written cs es out l = record {
      rows = l.rows;
      hung = are_hung cs l.rows (subst (λ (fs : List (Entry (LinkedEntry T))). IsOut i (slots fs)) (sym l.is) out) l.hung;
      is = l.is;
      once = l.once;
      own = own_written es l.own;
      quiet = l.quiet;
    }

    pub revalues : Revalues w written i v
    revalues = record { lists = hung_revalued; bags = bag_revalued }

-- what is found, in the same place by another name
pub found_at : {T : Type 0} (w w' : State (LinkedEntry T)) (c c' : ℕ) (cs : List ℕ) (es : List (Entry (LinkedEntry T))) → w ≡ w' → c ≡ c' → Finds w c cs es → Finds w' c' cs es
found_at w w' c c' cs es e at f = subst (λ (j : ℕ). Finds w' j cs es) at (subst (λ (v : State (LinkedEntry _)). Finds v c cs es) e f)

pub given_at : {T : Type 0} (w w0 w' : State (LinkedEntry T)) (cs : List ℕ) (v : T) (es : List (Entry (LinkedEntry T))) → w ≡ w0 → Gives w w' cs v es → Gives w0 w' cs v es
given_at w w0 w' cs v es e k = subst (λ (u : State (LinkedEntry _)). Gives u w' cs v es) e k

-- a walk begins
once_used : (ss : List Status) (is : List ℕ) → AreUsed ss is → AreOnce is
once_used ss [] h = tt
once_used ss (i ∷ is) h = (h.1, once_used ss is h.2)

module _ {T : Type 0} (w : State (LinkedEntry T)) where
  all_hung : (cs : List ℕ) (rows : List (List (Entry (LinkedEntry T)))) → length rows ≡ length cs → ((k : ℕ) → k < length cs → IsList entry_link w (get_or cs k 0) tag.None (get_or rows k [])) → AreHung w cs rows
  all_hung [] [] size h = tt
  all_hung [] (es ∷ rows) size h = absurd (omega (arith, size))
  all_hung (c ∷ cs) [] size h = absurd (omega (arith, size))
  all_hung (c ∷ cs) (es ∷ rows) size h = (h 0 (omega arith), all_hung cs rows (omega (arith, size)) (λ k lt. h (suc k) (omega (arith, lt))))

  pub walk_starts : (n : ℕ) (cs : List ℕ) (ps os : List (Entry (LinkedEntry T))) → NoneOpen w → IsBag n w cs ps os → IsLeft w cs (os ++ ps)
  walk_starts n cs ps os quiet b =
      let size : length (os ∷ b.rows) ≡ length cs = (let s = b.size in let c = b.cells in omega (arith, s, c)) in
      let is : joined (os ∷ b.rows) ≡ os ++ ps = ap (λ (es : List (Entry (LinkedEntry T))). os ++ es) b.is in
      record {
        rows = os ∷ b.rows;
        hung = all_hung cs (os ∷ b.rows) size b.row.hung;
        is = is;
        once = subst (λ (es : List (Entry (LinkedEntry T))). AreOnce (slots es)) is (once_used w.states (slots (joined (os ∷ b.rows))) (row_used entry_link w cs (os ∷ b.rows) size b.row));
        own = b.own;
        quiet = quiet;
      }

  pub walk_begins : (n c : ℕ) (ts : List (AtomicShared (LinkedEntry T))) (ps os : List (Entry (LinkedEntry T))) → 0 < length ts → c ≡ cell_of ts 0 → NoneOpen w → IsBag n w (map shared_cell ts) ps os → IsLeft w (c ∷ drop 1 (map shared_cell ts)) (os ++ ps)
  walk_begins n c ts ps os lt at quiet b =
      let inside : 0 < length (map shared_cell ts) = (let e = length-map ts shared_cell in omega (arith, e, lt)) in
      subst (λ (ds : List ℕ). IsLeft w ds (os ++ ps)) (drop_more (map shared_cell ts) 0 0 inside ∙ ap (λ (j : ℕ). j ∷ drop 1 (map shared_cell ts)) (sym at)) (walk_starts n (map shared_cell ts) ps os quiet b)

  -- a list hangs from the first cell
  pub left_hangs : (c : ℕ) (cs : List ℕ) → IsSomeLeft w (c ∷ cs) → Hangs entry_link w c
  left_hangs c cs s = hangs s.is.rows s.is.hung
    where
      hangs : (rows : List (List (Entry (LinkedEntry T)))) → AreHung w (c ∷ cs) rows → Hangs entry_link w c
      hangs [] h = absurd h
      hangs (es ∷ rows) h = record { tag = tag.None; entries = es; is = h.0 }

  -- an empty list is passed
  pub pass_empty : (c : ℕ) (cs : List ℕ) (es : List (Entry (LinkedEntry T))) → IsNull w c true → IsLeft w (c ∷ cs) es → IsLeft w cs es
  pass_empty c cs es null l = pass l.rows l.hung l.is
    where
      pass : (rows : List (List (Entry (LinkedEntry T)))) → AreHung w (c ∷ cs) rows → joined rows ≡ es → IsLeft w cs es
      pass [] h is = absurd h
      pass (r ∷ rows) h is = record {
        rows = rows;
        hung = h.1;
        is = subst (λ (fs : List (Entry (LinkedEntry T))). fs ++ joined rows ≡ es) (null_empty entry_link w c r h.0 null) is;
        once = l.once;
        own = l.own;
        quiet = l.quiet;
      }

  -- nothing is left where the one list that is left has nothing
  pub left_none : (c : ℕ) (cs : List ℕ) (es : List (Entry (LinkedEntry T))) → (((t : Tag) (fs : List (Entry (LinkedEntry T))) → IsList entry_link w c t fs → fs ≡ [])) → (cs ≡ []) ⊎ IsNull w c false → IsLeft w (c ∷ cs) es → es ≡ []
  left_none c cs es none last l = elim last [
    | inl end ↦ nothing l.rows (subst (λ (ds : List ℕ). AreHung w (c ∷ ds) l.rows) end l.hung) l.is
    | inr some ↦ never l.rows l.hung some
  ]
    where
      nothing : (rows : List (List (Entry (LinkedEntry T)))) → AreHung w (c ∷ []) rows → joined rows ≡ es → es ≡ []
      nothing [] h is = absurd h
      nothing (r ∷ []) h is = sym is ∙ ap (λ (fs : List (Entry (LinkedEntry T))). fs ++ []) (none tag.None r h.0)
      nothing (r ∷ s ∷ rows) h is = absurd h.1

      never : (rows : List (List (Entry (LinkedEntry T)))) → AreHung w (c ∷ cs) rows → IsNull w c false → es ≡ []
      never [] h some = absurd h
      never (r ∷ rows) h some = absurd (null_not entry_link w c r h.0 some (none tag.None r h.0))

  -- the first of the lists that are left
  pub left_shared : (c d : ℕ) (cs : List ℕ) → d ≡ c → IsSomeLeft w (c ∷ cs) → IsSharedCell w d
  left_shared c d cs at s = let h = left_hangs c cs s in subst (λ (j : ℕ). IsSharedCell w j) (sym at) (head_cell entry_link w c h.tag h.entries h.is)

  -- an empty list is passed, and the next one comes from the row
  pub pass_on : (c d : ℕ) (cs : List ℕ) (k : ℕ) (es : List (Entry (LinkedEntry T))) → k < length cs → d ≡ get_or cs k 0 → IsNull w c true → IsLeft w (c ∷ drop k cs) es → IsLeft w (d ∷ drop (k + 1) cs) es
  pass_on c d cs k es lt at null l =
      let is : drop k cs ≡ d ∷ drop (k + 1) cs = drop_more cs k 0 lt ∙ ap (λ (j : ℕ). j ∷ drop (k + 1) cs) (sym at) in
      subst (λ (ds : List ℕ). IsLeft w ds es) is (pass_empty c (drop k cs) es null l)

  -- no list of the row is left
  pub none_after : (c : ℕ) (cs : List ℕ) (k m : ℕ) (es : List (Entry (LinkedEntry T))) → length cs ≤ k → length cs ≤ m → IsLeft w (c ∷ drop k cs) es → IsLeft w (c ∷ drop m cs) es
  none_after c cs k m es over over' l = subst (λ (ds : List ℕ). IsLeft w (c ∷ ds) es) (drop_all k cs over ∙ sym (drop_all m cs over')) l

  pub hangs_at : (c d : ℕ) (cs : List ℕ) → d ≡ c → IsSomeLeft w (c ∷ cs) → Hangs entry_link w d
  hangs_at c d cs at s = let h = left_hangs c cs s in record { tag = h.tag; entries = h.entries; is = subst (λ (j : ℕ). IsList entry_link w j h.tag h.entries) (sym at) h.is }

  -- the first entry of the first list is passed
  pub find_first : (c d : ℕ) (cs : List ℕ) (item : LinkedEntry T) (es : List (Entry (LinkedEntry T))) → ((t : Tag) (fs : List (Entry (LinkedEntry T))) → IsList entry_link w c t fs → Starts entry_link w c t fs item) → entry_link item ≡ Some d → IsLeft w (c ∷ cs) es → Finds w c (d ∷ cs) es
  find_first c d cs item es begins linked l = found l.rows l.hung l.is
    where
      after : (r : List (Entry (LinkedEntry T))) (rows : List (List (Entry (LinkedEntry T)))) → AreHung w cs rows → r ++ joined rows ≡ es → Starts entry_link w c tag.None r item → Finds w c (d ∷ cs) es
      after r rows hs is b =
          let is' : es ≡ b.first ∷ (b.rest ++ joined rows) = sym is ∙ ap (λ (fs : List (Entry (LinkedEntry T))). fs ++ joined rows) b.is in
          let own = subst (λ (fs : List (Entry (LinkedEntry T))). AreOwn w fs) is' l.own in
          let once = subst (λ (fs : List (Entry (LinkedEntry T))). AreOnce (slots fs)) is' l.once in
          let at : d ≡ b.first.link = some_same d b.first.link (sym linked ∙ starts_link entry_link w c tag.None r item b) in
          record {
            first = b.first;
            rest = b.rest ++ joined rows;
            is = is';
            here = b.hung.0;
            item = b.hung.1;
            left = record {
              rows = b.rest ∷ rows;
              hung = (subst (λ (j : ℕ). IsList entry_link w j tag.None b.rest) (sym at) (subst (λ (t : Tag). IsList entry_link w b.first.link t b.rest) own.0 b.hung.4), hs);
              is = refl;
              once = once.1;
              own = own.2;
              quiet = l.quiet;
            };
          }

      found : (rows : List (List (Entry (LinkedEntry T)))) → AreHung w (c ∷ cs) rows → joined rows ≡ es → Finds w c (d ∷ cs) es
      found [] h is = absurd h
      found (r ∷ rows) h is = after r rows h.1 is (begins tag.None r h.0)

  pub found_shut : NoneOpen w → (p : ℕ) → IsOpen w p → ⊥
  found_shut quiet p o = let q = quiet p in omega (arith, q, o)

  -- what was found can be lent
  module _ (c : ℕ) (cs ds : List ℕ) (es : List (Entry (LinkedEntry T))) (f : Finds w c ds es) where
    pub found_slot : slot_in w c ≡ f.first.slot
    found_slot = ap (λ (k : Cell). Rattle.sdd_world.specs.Filled.cell_slot k) f.here

    pub found_filled : IsFilled w c
    found_filled = record { inside = inside_cells w.cells c (Some f.first.slot) tag.None f.here; item = f.first.slot; tag = tag.None; is = f.here; shared = item_shared entry_link w f.first f.item }

    pub found_sole : IsLeft w cs es → HasOneOwner w (slot_in w c)
    found_sole l = (1, subst (λ (j : ℕ). status_at w j ≡ status.Shared 1) (sym found_slot) (subst (λ (fs : List (Entry (LinkedEntry T))). AreOwn w fs) f.is l.own).1, omega arith)

    pub found_closed : IsLeft w cs es → (p : ℕ) → IsOpen w p → ⊥
    found_closed l = found_shut l.quiet

    pub found_out : IsLeft w cs es → IsOut f.first.slot (slots f.rest)
    found_out l = (subst (λ (fs : List (Entry (LinkedEntry T))). AreOnce (slots fs)) f.is l.once).0

    same_item : (x : LinkedEntry T) → value_at w (slot_in w c) ≡ Some x → x ≡ f.first.item
    same_item x there = the_same x f.first.item (sym there ∙ ap (λ (j : ℕ). value_at w j) found_slot ∙ f.item.here)

    pub found_value : (x : LinkedEntry T) (v : T) → value_at w (slot_in w c) ≡ Some x → v ≡ entry_value x → first_value es ≡ Some v
    found_value x v there is = ap first_value f.is ∙ ap (λ (u : T). Some u) (sym (is ∙ ap entry_value (same_item x there)))

    -- it is given, and v is written
    pub found_given : (x : LinkedEntry T) (v : T) (w' : State (LinkedEntry T)) → IsLeft w cs es → value_at w (slot_in w c) ≡ Some x → w' ≡ with_item (slot_in w c) (entry_with_value v x) w → Gives w w' ds v es
    found_given x v w' l there is =
        let same : x ≡ f.first.item = same_item x there in
        let is' : w' ≡ with_item f.first.slot (entry_with_value v f.first.item) w = is ∙ ap (λ (j : ℕ). with_item j (entry_with_value v x) w) found_slot ∙ ap (λ (y : LinkedEntry T). with_item f.first.slot (entry_with_value v y) w) same in
        record {
          first = f.first;
          rest = f.rest;
          is = f.is;
          now = is';
          left = subst (λ (s : State (LinkedEntry T)). IsLeft s ds f.rest) (sym is') (left_written f.first.slot v w f.first.item f.item.here ds f.rest (found_out l) f.left);
          revalues = subst (λ (s : State (LinkedEntry T)). Revalues w s f.first.slot v) (sym is') (revalues f.first.slot v w f.first.item f.item.here);
        }

-- what holds after an entry was given, of whatever was left
pub visited : {T W : Type 0} (state : W → State (LinkedEntry T)) (s s' : IterMut T W) (v : T) → walk_name s' ≡ walk_name s → walk_bag s' ≡ walk_bag s → IsSomeLeft (state (walk_place s)) (walk_cells s) → ((es : List (Entry (LinkedEntry T))) → IsLeft (state (walk_place s)) (walk_cells s) es → Gives (state (walk_place s)) (state (walk_place s')) (walk_cells s') v es) → Visits state s s' v
visited state s s' v same bag left gives =
    let k = gives left.entries left.is in
    record {
      same = same;
      bag = bag;
      left = record { entries = k.rest; is = k.left };
      bags = λ n ds b. record { primary = revalued k.first.slot v b.primary; overflow = revalued k.first.slot v b.overflow; is = k.revalues.bags n ds b.primary b.overflow b.is };
      participants = ap (λ (w : State (LinkedEntry _)). w.participants) k.now;
      gives = gives;
    }

-- the same in a place by another name
pub left_at : {T : Type 0} (cs : List ℕ) (w w' : State (LinkedEntry T)) → w' ≡ w → IsSomeLeft w cs → IsSomeLeft w' cs
left_at cs w w' e l = subst (λ (s : State (LinkedEntry _)). IsSomeLeft s cs) (sym e) l

pub bag_at : {T : Type 0} (n : ℕ) (ds : List ℕ) (w w' : State (LinkedEntry T)) → w' ≡ w → IsSomeBag n w ds → IsSomeBag n w' ds
bag_at n ds w w' e b = subst (λ (s : State (LinkedEntry _)). IsSomeBag n s ds) (sym e) b

-- what is told of a value that is there, and of one that isn't
pub told_some : {X P : Type 0} (o : Option X) (x : X) → o ≡ Some x → OnSome o P → P
told_some {P = P} o x e h = subst (λ (q : Option _). OnSome q P) e h

pub told_none : {X P : Type 0} (o : Option X) → o ≡ None → IfNone o P → P
told_none {P = P} o e h = subst (λ (q : Option _). IfNone q P) e h

pub participant_at : {T : Type 0} (w w' : State (LinkedEntry T)) → w' ≡ w → 0 < length w.participants → 0 < length w'.participants
participant_at w w' e h = subst (λ (s : State (LinkedEntry _)). 0 < length s.participants) (sym e) h
