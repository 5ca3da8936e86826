-- lists that hang in a place, as the place changes
use Rattle.std.proofs.Common.{◌≡◌, ◌≢◌, ℕ, zero, suc, ◌<◌, Bool, true, false, Option, None, Some, List, [], ◌∷◌, length, get_or, set, refl, sym, ap, ◌∙◌, arith, length-set, subst, get_or-set_same, get_or-set_other}
use Rattle.std.proofs.lemmas.List.{set-get_or, set-set}
use Rattle.std.proofs.lemmas.Bool.{false≢true}
use Rattle.sdd_world.specs.State.{State, status_at, value_at, cell_at, vacancy, emptiness, with_cell, IsFree, IsFreeCell, is_used}
use Rattle.sdd_world.specs.Place.{IsShared, IsSharedCell, IsReadable}
use Rattle.sdd_world.specs.declared.tag.Tag.{Tag}
use Rattle.sdd_world.specs.declared.status.Status.{Status}
use Rattle.sdd_world.specs.declared.status.Status.TheVariants as status
use Rattle.sdd_world.specs.declared.status.Cell.{Cell}
use Rattle.sdd_world.specs.declared.status.Cell.TheVariants as cell
use Rattle.sdd_lists.specs.Chain.{Entry, slots, links, IsOut, AreOut, IsItem, IsList, IsDetached, FitsBefore, TookFirst, first_slot, Leaves, Stays, HasLink, BeginsWithItem, deleted}

-- what isn't the default lies within the list
pub inside_cells : (cs : List Cell) (c : ℕ) (o : Option ℕ) (t : Tag) → get_or cs c cell.Free ≡ cell.OfShared o t → c < length cs
inside_cells [] c o t h = absurd (let e : 0 ≡ 1 = sym (ap emptiness h) in omega (arith, e))
inside_cells (k ∷ ks) zero o t h = omega arith
inside_cells (k ∷ ks) (suc c) o t h = let r = inside_cells ks c o t h in omega (arith, r)

pub inside_states : (ss : List Status) (i n : ℕ) → get_or ss i status.Free ≡ status.Shared n → i < length ss
inside_states [] i n h = absurd (let e : 0 ≡ 1 = sym (ap vacancy h) in omega (arith, e))
inside_states (s ∷ ss) zero n h = omega arith
inside_states (s ∷ ss) (suc i) n h = let r = inside_states ss i n h in omega (arith, r)

some_none : (i : ℕ) → ◌≡◌ {A = Option ℕ} (Some i) None → ⊥
some_none i e = cc

none_some : (i : ℕ) → ◌≡◌ {A = Option ℕ} None (Some i) → ⊥
none_some i e = cc

pub some_same : (i j : ℕ) → ◌≡◌ {A = Option ℕ} (Some i) (Some j) → i ≡ j
some_same i j e = cc

-- writing what a cell keeps changes nothing
same_cell : {L : Type 0} (w : State L) (c : ℕ) (o : Option ℕ) (t : Tag) → cell_at w c ≡ cell.OfShared o t → with_cell c (cell.OfShared o t) w ≡ w
same_cell {L} w c o t h = ap (λ (cs : List Cell). record w { cells = cs }) (rw (sym h) (set-get_or w.cells c cell.Free))

-- reading a cell after a write
pub wrote_same : {L : Type 0} (w : State L) (c : ℕ) (k : Cell) → c < length w.cells → cell_at (with_cell c k w) c ≡ k
wrote_same w c k inside = get_or-set_same w.cells c k cell.Free inside

pub wrote_other : {L : Type 0} (w : State L) (c j : ℕ) (k : Cell) → j ≢ c → cell_at (with_cell c k w) j ≡ cell_at w j
wrote_other w c j k ne = get_or-set_other w.cells c j k cell.Free ne

-- what a change leaves
pub leaves_all : {L : Type 0} (cs is : List ℕ) (w : State L) → Leaves cs is w w
leaves_all cs is w = record { cells = λ c out used. refl; uses = λ i out used. refl; values = λ i out used. refl }

pub leaves_write : {L : Type 0} (cs is : List ℕ) (w w' : State L) (c : ℕ) (k : Cell) → ((j : ℕ) → IsOut j cs → j ≢ c) → Leaves cs is w w' → Leaves cs is w (with_cell c k w')
leaves_write cs is w w' c k among l = record {
  cells = λ j out used. wrote_other w' c j k (among j out) ∙ l.cells j out used;
  uses = l.uses;
  values = l.values;
}

-- what each step leaves
pub stays_refl : {L : Type 0} (w : State L) → Stays w w
stays_refl w = record { states = refl; cells = refl; participants = refl; values = λ i u. refl; used = λ i u. u; nests = λ q. refl; protects = λ q i o h. h }

pub stays_then : {L : Type 0} (w w1 w2 : State L) → Stays w w1 → Stays w1 w2 → Stays w w2
stays_then w w1 w2 a b = record {
  states = b.states ∙ a.states;
  cells = b.cells ∙ a.cells;
  participants = b.participants ∙ a.participants;
  values = λ i u. b.values i (a.used i u) ∙ a.values i u;
  used = λ i u. b.used i (a.used i u);
  nests = λ q. b.nests q ∙ a.nests q;
  protects = λ q i o h. b.protects q i (let n = a.nests q in omega (arith, o, n)) (a.protects q i o h);
}

pub stays_write : {L : Type 0} (w : State L) (c : ℕ) (k : Cell) → Stays w (with_cell c k w)
stays_write w c k = record {
  states = refl;
  cells = length-set w.cells c k;
  participants = refl;
  values = λ i u. refl;
  used = λ i u. u;
  nests = λ q. refl;
  protects = λ q i o h. record { used = h.used; prior = h.prior; oldest = h.oldest; noted = h.noted };
}

pub leaves_then : {L : Type 0} (cs is : List ℕ) (w w1 w2 : State L) → Leaves cs is w w1 → Leaves cs is w1 w2 → Leaves cs is w w2
leaves_then cs is w w1 w2 a b = record {
  cells = λ j out used. let e = a.cells j out used in b.cells j out (ap emptiness e ∙ used) ∙ e;
  uses = λ i out used. let e = a.uses i out used in b.uses i out (ap vacancy e ∙ used) ∙ e;
  values = λ i out used. let e = a.uses i out used in b.values i out (ap vacancy e ∙ used) ∙ a.values i out used;
}

pub leaves_more : {L : Type 0} (cs is ds js : List ℕ) (w w' : State L) → ((j : ℕ) → IsOut j ds → IsOut j cs) → ((j : ℕ) → IsOut j js → IsOut j is) → Leaves cs is w w' → Leaves ds js w w'
leaves_more cs is ds js w w' inc ins l = record {
  cells = λ j out used. l.cells j (inc j out) used;
  uses = λ i out used. l.uses i (ins i out) used;
  values = λ i out used. l.values i (ins i out) used;
}

pub shared_write : {L : Type 0} (w : State L) (c i : ℕ) (k : Cell) → IsShared w i → IsShared (with_cell c k w) i
shared_write w c i k h = record { inside = h.inside; owners = h.owners; is = h.is }

pub free_other : {L : Type 0} (w : State L) (a b : ℕ) (k : Cell) → IsFreeCell w a → a ≢ b → IsFreeCell (with_cell b k w) a
free_other w a b k free ne = (omega (arith, free.0, length-set w.cells b k), wrote_other w b a k ne ∙ free.1)

pub out_of_none : (xs : List ℕ) → AreOut xs []
out_of_none [] = tt
out_of_none (x ∷ xs) = (tt, out_of_none xs)

pub out_of_two : (xs : List ℕ) (c d : ℕ) → IsOut c xs → IsOut d xs → AreOut xs (c ∷ d ∷ [])
out_of_two [] c d out out' = tt
out_of_two (x ∷ xs) c d out out' = ((λ q. out.0 (sym q), (λ q. out'.0 (sym q), tt)), out_of_two xs c d out.1 out'.1)

-- a cell is written, then another, then the first one again
pub written2 : {L : Type 0} (w : State L) (c d : ℕ) (k k' k0 : Cell) → Leaves (c ∷ d ∷ []) [] w (with_cell c k (with_cell d k' (with_cell c k0 w)))
written2 w c d k k' k0 =
    let one = leaves_write (c ∷ d ∷ []) [] w w c k0 (λ j out. out.0) (leaves_all (c ∷ d ∷ []) [] w) in
    let two = leaves_write (c ∷ d ∷ []) [] w (with_cell c k0 w) d k' (λ j out. out.1.0) one in
    leaves_write (c ∷ d ∷ []) [] w (with_cell d k' (with_cell c k0 w)) c k (λ j out. out.0) two

pub wrote_last : {L : Type 0} (w : State L) (c d : ℕ) (k k' k0 : Cell) → c < length w.cells → cell_at (with_cell c k (with_cell d k' (with_cell c k0 w))) c ≡ k
wrote_last w c d k k' k0 inside = wrote_same (with_cell d k' (with_cell c k0 w)) c k (omega (arith, inside, length-set w.cells c k0, length-set (set w.cells c k0) d k'))

pub wrote_second : {L : Type 0} (w : State L) (c d : ℕ) (k k' k0 : Cell) → d < length w.cells → d ≢ c → cell_at (with_cell c k (with_cell d k' (with_cell c k0 w))) d ≡ k'
wrote_second w c d k k' k0 inside ne = wrote_other (with_cell d k' (with_cell c k0 w)) c d k ne ∙ wrote_same (with_cell c k0 w) d k' (omega (arith, inside, length-set w.cells c k0))

module _ {L : Type 0} (link : L → Option ℕ) where
  pub item_shared : (w : State L) (e : Entry L) → IsItem link w e → IsShared w e.slot
  item_shared w e h = record { inside = inside_states w.states e.slot h.owners h.shared; owners = h.owners; is = h.shared }

  -- the cell from which a list hangs
  pub head_cell : (w : State L) (c : ℕ) (t : Tag) (es : List (Entry L)) → IsList link w c t es → IsSharedCell w c
  head_cell w c t [] h = record { inside = inside_cells w.cells c None t h; item = None; tag = t; is = h }
  head_cell w c t (e ∷ es) h = record { inside = inside_cells w.cells c (Some e.slot) t h.0; item = Some e.slot; tag = t; is = h.0 }

  -- an item stays where its slot is left alone
  pub item_left : (cs is : List ℕ) (w w' : State L) (e : Entry L) → Leaves cs is w w' → IsOut e.slot is → IsItem link w e → IsItem link w' e
  item_left cs is w w' e l out h =
      let used : vacancy (status_at w e.slot) ≡ 0 = ap vacancy h.shared in
      record { owners = h.owners; shared = l.uses e.slot out used ∙ h.shared; owned = h.owned; here = l.values e.slot out used ∙ h.here; linked = h.linked }

  pub cell_left : (cs is : List ℕ) (w w' : State L) (c : ℕ) (o : Option ℕ) (t : Tag) → Leaves cs is w w' → IsOut c cs → cell_at w c ≡ cell.OfShared o t → cell_at w' c ≡ cell.OfShared o t
  cell_left cs is w w' c o t l out h = l.cells c out (ap emptiness h) ∙ h

  -- a list stays where its cells and items are left alone
  pub hung_left : (cs is : List ℕ) (w w' : State L) (c : ℕ) (t : Tag) (es : List (Entry L)) → Leaves cs is w w' → IsOut c cs → AreOut (links es) cs → AreOut (slots es) is → IsList link w c t es → IsList link w' c t es
  hung_left cs is w w' c t [] l out outs apart h = cell_left cs is w w' c None t l out h
  hung_left cs is w w' c t (e ∷ es) l out outs apart h = (
    cell_left cs is w w' c (Some e.slot) t l out h.0,
    item_left cs is w w' e l apart.0 h.1,
    h.2,
    h.3,
    hung_left cs is w w' e.link e.tag es l outs.0 outs.1 apart.1 h.4,
  )

  -- what is free isn't in a list
  pub free_cell_out : (w : State L) (j c : ℕ) (t : Tag) (es : List (Entry L)) → cell_at w j ≡ cell.Free → IsList link w c t es → (j ≢ c) × IsOut j (links es)
  free_cell_out w j c t [] free h = (λ e. absurd (let a : emptiness (cell_at w c) ≡ 1 = subst (λ (i : ℕ). emptiness (cell_at w i) ≡ 1) e (ap emptiness free) in let b : emptiness (cell_at w c) ≡ 0 = ap emptiness h in omega (arith, a, b)), tt)
  free_cell_out w j c t (e ∷ es) free h =
      let rest = free_cell_out w j e.link e.tag es free h.4 in (
        λ q. absurd (let a : emptiness (cell_at w c) ≡ 1 = subst (λ (i : ℕ). emptiness (cell_at w i) ≡ 1) q (ap emptiness free) in let b : emptiness (cell_at w c) ≡ 0 = ap emptiness h.0 in omega (arith, a, b)),
        rest,
      )

  pub free_slot_out : (w : State L) (i c : ℕ) (t : Tag) (es : List (Entry L)) → status_at w i ≡ status.Free → IsList link w c t es → IsOut i (slots es)
  free_slot_out w i c t [] free h = tt
  free_slot_out w i c t (e ∷ es) free h = (
    λ q. absurd (let a : vacancy (status_at w e.slot) ≡ 1 = subst (λ (j : ℕ). vacancy (status_at w j) ≡ 1) q (ap vacancy free) in let b : vacancy (status_at w e.slot) ≡ 0 = ap vacancy h.1.shared in omega (arith, a, b)),
    free_slot_out w i e.link e.tag es free h.4,
  )

  pub hung_first : (w : State L) (c : ℕ) (t : Tag) (es : List (Entry L)) → IsList link w c t es → cell_at w c ≡ cell.OfShared (first_slot es) t
  hung_first w c t [] h = h
  hung_first w c t (e ∷ es) h = h.0

  pub hung_out : (w : State L) (c : ℕ) (t : Tag) (es : List (Entry L)) → IsList link w c t es → IsOut c (links es)
  hung_out w c t [] h = tt
  hung_out w c t (e ∷ es) h = h.2

  -- entries that hang from cell c hang from cell d as well once that keeps the first of them
  pub rehung : (cs is : List ℕ) (w w' : State L) (c d : ℕ) (t u : Tag) (es : List (Entry L)) → IsList link w c t es → cell_at w' d ≡ cell.OfShared (first_slot es) u → Leaves cs is w w' → AreOut (links es) cs → AreOut (slots es) is → IsOut d (links es) → IsList link w' d u es
  rehung cs is w w' c d t u [] h now l outs apart out = now
  rehung cs is w w' c d t u (e ∷ es) h now l outs apart out = (now, item_left cs is w w' e l apart.0 h.1, out, h.3, hung_left cs is w w' e.link e.tag es l outs.0 outs.1 apart.1 h.4)

  module _ (w : State L) (c : ℕ) (t : Tag) (e : Entry L) (es : List (Entry L)) where
    -- the first entry is taken off: its cell and its link are emptied, then the cell keeps the next
    abbrev pub taking : State L
    taking = with_cell c (cell.OfShared (first_slot es) t) (with_cell e.link (cell.OfShared None e.tag) (with_cell c (cell.OfShared None t) w))

    pub took_first : IsList link w c t (e ∷ es) → TookFirst link w taking c t (e ∷ es) (Some e.slot)
    took_first h =
        let l = written2 w c e.link (cell.OfShared (first_slot es) t) (cell.OfShared None e.tag) (cell.OfShared None t) in
        let out : IsOut e.link (links es) = hung_out w e.link e.tag es h.4 in
        let inside : c < length w.cells = inside_cells w.cells c (Some e.slot) t h.0 in
        let inside' : e.link < length w.cells = (head_cell w e.link e.tag es h.4).inside in
        let now = wrote_last w c e.link (cell.OfShared (first_slot es) t) (cell.OfShared None e.tag) (cell.OfShared None t) inside in
        let now' = wrote_second w c e.link (cell.OfShared (first_slot es) t) (cell.OfShared None e.tag) (cell.OfShared None t) inside' (λ q. h.2.0 (sym q)) in (
          refl,
          rehung (c ∷ e.link ∷ []) [] w taking e.link c e.tag t es h.4 now l (out_of_two (links es) c e.link h.2.1 out) (out_of_none (slots es)) h.2.1,
          record { item = item_left (c ∷ e.link ∷ []) [] w taking e l tt h.1; empty = now' },
          l,
        )

    -- an entry is put first: its link keeps what the cell kept, and the cell keeps it
    abbrev pub putting : State L
    putting = with_cell c (cell.OfShared (Some e.slot) t) (with_cell e.link (cell.OfShared (first_slot es) e.tag) (with_cell c (cell.OfShared None t) w))

    pub put_first : IsList link w c t es → IsDetached link w e → FitsBefore c es e → IsList link putting c t (e ∷ es) × Leaves (c ∷ e.link ∷ []) [] w putting
    put_first h k f =
        let l = written2 w c e.link (cell.OfShared (Some e.slot) t) (cell.OfShared (first_slot es) e.tag) (cell.OfShared None t) in
        let inside : c < length w.cells = (head_cell w c t es h).inside in
        let inside' : e.link < length w.cells = inside_cells w.cells e.link None e.tag k.empty in
        let now = wrote_last w c e.link (cell.OfShared (Some e.slot) t) (cell.OfShared (first_slot es) e.tag) (cell.OfShared None t) inside in
        let now' = wrote_second w c e.link (cell.OfShared (Some e.slot) t) (cell.OfShared (first_slot es) e.tag) (cell.OfShared None t) inside' (λ q. f.cell.0 (sym q)) in (
          (
            now,
            item_left (c ∷ e.link ∷ []) [] w putting e l tt k.item,
            f.cell,
            f.slot,
            rehung (c ∷ e.link ∷ []) [] w putting c e.link t e.tag es h now' l (out_of_two (links es) c e.link f.cell.1 f.link) (out_of_none (slots es)) f.link,
          ),
          l,
        )

  -- what the steps of taking the first entry off say, in the order of the code
  abbrev pub Took : State L → State L → ℕ → Option ℕ → Type 0
  Took w w1 c r = (o : Option ℕ) (t : Tag) → cell_at w c ≡ cell.OfShared o t → (r ≡ o) × (w1 ≡ with_cell c (cell.OfShared None t) w)

  abbrev pub Filled : State L → State L → ℕ → Option ℕ → Type 0
  Filled w w1 c r = (t : Tag) → cell_at w c ≡ cell.OfShared None t → w1 ≡ with_cell c (cell.OfShared r t) w

  abbrev pub Names : State L → ℕ → ℕ → Type 0
  Names w i d = (e : Entry L) → IsItem link w e → i ≡ e.slot → d ≡ e.link

  pub record Takes (w w1 : State L) (c i : ℕ) (t : Tag) (all : List (Entry L)) : Type 0 where
    entry : Entry L
    rest : List (Entry L)
    is : all ≡ entry ∷ rest
    hung : IsList link w c t (entry ∷ rest)
    at : i ≡ entry.slot
    now : w1 ≡ with_cell c (cell.OfShared None t) w

  pub takes : (w w1 : State L) (c i : ℕ) (t : Tag) (es : List (Entry L)) → IsList link w c t es → Took w w1 c (Some i) → Takes w w1 c i t es
  takes w w1 c i t [] h k = absurd (some_none i (k None t h).0)
  takes w w1 c i t (e ∷ es) h k = let r = k (Some e.slot) t h.0 in record { entry = e; rest = es; is = refl; hung = h; at = some_same i e.slot r.0; now = r.1 }

  took_item : (w w1 : State L) (c i : ℕ) (t : Tag) (es : List (Entry L)) → (k : Takes w w1 c i t es) → IsItem link w1 k.entry
  took_item w w1 c i t es k = rw k.now (item_left (c ∷ []) [] w (with_cell c (cell.OfShared None t) w) k.entry (leaves_write (c ∷ []) [] w w c (cell.OfShared None t) (λ j out. out.0) (leaves_all (c ∷ []) [] w)) tt k.hung.1)

  -- the item taken off is there, with its link, which keeps the next one
  pub took_linked : (w w1 : State L) (c i : ℕ) (t : Tag) (es : List (Entry L)) → Takes w w1 c i t es → HasLink link w1 i
  took_linked w w1 c i t es k = record { entry = k.entry; at = k.at; is = took_item w w1 c i t es k }

  took_link : (w w1 : State L) (c i d d' : ℕ) (t : Tag) (es : List (Entry L)) → Takes w w1 c i t es → Names w1 i d → d' ≡ d → (k : Takes w w1 c i t es) → (d' ≡ k.entry.link) × (cell_at w1 d' ≡ cell.OfShared (first_slot k.rest) k.entry.tag)
  took_link w w1 c i d d' t es _ named same k =
      let is : d' ≡ k.entry.link = same ∙ named k.entry (took_item w w1 c i t es k) k.at in
      let ne : k.entry.link ≢ c = λ q. k.hung.2.0 (sym q) in (
        is,
        rw (is, k.now) (wrote_other w c k.entry.link (cell.OfShared None t) ne ∙ hung_first w k.entry.link k.entry.tag k.rest k.hung.4),
      )

  pub took_cell : (w w1 : State L) (c i d d' : ℕ) (t : Tag) (es : List (Entry L)) → Takes w w1 c i t es → Names w1 i d → d' ≡ d → IsSharedCell w1 d'
  took_cell w w1 c i d d' t es k named same =
      let l = took_link w w1 c i d d' t es k named same k in
      record { inside = inside_cells w1.cells d' (first_slot k.rest) k.entry.tag l.1; item = first_slot k.rest; tag = k.entry.tag; is = l.1 }

  module _ (w w1 w2 : State L) (c i d d' : ℕ) (r : Option ℕ) (t : Tag) (es : List (Entry L)) (k : Takes w w1 c i t es) (named : Names w1 i d) (same : d' ≡ d) (took : Took w1 w2 d' r) where
    second : (r ≡ first_slot k.rest) × (w2 ≡ with_cell k.entry.link (cell.OfShared None k.entry.tag) (with_cell c (cell.OfShared None t) w))
    second =
        let l = took_link w w1 c i d d' t es k named same k in
        let e = took (first_slot k.rest) k.entry.tag l.1 in
        (e.0, e.1 ∙ ap (λ (j : ℕ). with_cell j (cell.OfShared None k.entry.tag) w1) l.0 ∙ ap (λ (v : State L). with_cell k.entry.link (cell.OfShared None k.entry.tag) v) k.now)

    pub took_back : cell_at w2 c ≡ cell.OfShared None t
    took_back =
        rw second.1 (wrote_other (with_cell c (cell.OfShared None t) w) k.entry.link c (cell.OfShared None k.entry.tag) k.hung.2.0 ∙ wrote_same w c (cell.OfShared None t) (inside_cells w.cells c (Some k.entry.slot) t k.hung.0))

    pub took_all : (w3 : State L) → Filled w2 w3 c r → TookFirst link w w3 c t es (Some i)
    took_all w3 filled =
        let e : w3 ≡ taking w c t k.entry k.rest = filled t took_back ∙ ap (λ (o : Option ℕ). with_cell c (cell.OfShared o t) w2) second.0 ∙ ap (λ (v : State L). with_cell c (cell.OfShared (first_slot k.rest) t) v) second.1 in
        rw (k.is, k.at, e) (took_first w c t k.entry k.rest k.hung)

  -- there was none
  pub took_none : (w w1 : State L) (c : ℕ) (t : Tag) (es : List (Entry L)) → IsList link w c t es → Took w w1 c None → TookFirst link w w1 c t es None
  took_none w w1 c t [] h k =
      let e : w1 ≡ w = (k None t h).1 ∙ same_cell w c None t h in
      (refl, rw e h, rw e (leaves_all [] [] w))
  took_none w w1 c t (e ∷ es) h k = absurd (none_some e.slot (k (Some e.slot) t h.0).0)

  module _ (w w1 : State L) (c i d d' : ℕ) (r : Option ℕ) (t : Tag) (es : List (Entry L)) (e : Entry L) (h : IsList link w c t es) (k : IsDetached link w e) (f : FitsBefore c es e) (at : i ≡ e.slot) (named : Names w i d) (same : d' ≡ d) (took : Took w w1 c r) where
    emptied : (r ≡ first_slot es) × (w1 ≡ with_cell c (cell.OfShared None t) w)
    emptied = took (first_slot es) t (hung_first w c t es h)

    is_link : d' ≡ e.link
    is_link = same ∙ named e k.item at

    pub put_link : cell_at w1 d' ≡ cell.OfShared None e.tag
    put_link = rw (is_link, emptied.1) (wrote_other w c e.link (cell.OfShared None t) (λ q. f.cell.0 (sym q)) ∙ k.empty)

    module _ (w2 : State L) (filled : Filled w1 w2 d' r) where
      linked : w2 ≡ with_cell e.link (cell.OfShared (first_slot es) e.tag) (with_cell c (cell.OfShared None t) w)
      linked = filled e.tag put_link ∙ ap (λ (j : ℕ). with_cell j (cell.OfShared r e.tag) w1) is_link ∙ ap (λ (o : Option ℕ). with_cell e.link (cell.OfShared o e.tag) w1) emptied.0 ∙ ap (λ (v : State L). with_cell e.link (cell.OfShared (first_slot es) e.tag) v) emptied.1

      pub put_back : cell_at w2 c ≡ cell.OfShared None t
      put_back = rw linked (wrote_other (with_cell c (cell.OfShared None t) w) e.link c (cell.OfShared (first_slot es) e.tag) f.cell.0 ∙ wrote_same w c (cell.OfShared None t) (head_cell w c t es h).inside)

      pub put_all : (w3 : State L) → Filled w2 w3 c (Some i) → IsList link w3 c t (e ∷ es) × Leaves (c ∷ e.link ∷ []) [] w w3
      put_all w3 filled2 =
          let q : w3 ≡ putting w c t e es = filled2 t put_back ∙ ap (λ (j : ℕ). with_cell c (cell.OfShared (Some j) t) w2) at ∙ ap (λ (v : State L). with_cell c (cell.OfShared (Some e.slot) t) v) linked in
          subst (λ (v : State L). IsList link v c t (e ∷ es) × Leaves (c ∷ e.link ∷ []) [] w v) (sym q) (put_first w c t e es h k f)

-- a cell that was free, filled and freed again
pub freed_again : {L : Type 0} (w : State L) (c : ℕ) (k : Cell) → cell_at w c ≡ cell.Free → with_cell c cell.Free (with_cell c k w) ≡ w
freed_again {L} w c k free = ap (λ (cs : List Cell). record w { cells = cs }) (set-set w.cells c k cell.Free ∙ rw (sym free) (set-get_or w.cells c cell.Free))

pub some_nothing : {Y : Type 0} (y : Y) → ◌≡◌ {A = Option Y} (Some y) None → ⊥
some_nothing y e = cc

pub the_same : {Y : Type 0} (y z : Y) → ◌≡◌ {A = Option Y} (Some y) (Some z) → y ≡ z
the_same y z e = cc

pub full_empty : (o : Option ℕ) (i : ℕ) (t u : Tag) → cell.OfShared None t ≡ cell.OfShared (Some i) u → ⊥
full_empty o i t u e = cc

pub kept_same : (o o' : Option ℕ) (t u : Tag) → cell.OfShared o t ≡ cell.OfShared o' u → o ≡ o'
kept_same o o' t u e = cc

pub kept_tag : (o o' : Option ℕ) (t u : Tag) → cell.OfShared o t ≡ cell.OfShared o' u → t ≡ u
kept_tag o o' t u e = cc

same_kept : (i j : ℕ) (t u : Tag) → cell.OfShared (Some i) t ≡ cell.OfShared (Some j) u → i ≡ j
same_kept i j t u e = cc

module _ {L : Type 0} (link : L → Option ℕ) where
  -- an item with an owner can be read
  pub item_readable : (w : State L) (e : Entry L) → IsItem link w e → IsReadable w (Some e.slot)
  item_readable w e h = (inside_states w.states e.slot h.owners h.shared, ap is_used h.shared)

  pub hung_there : (w : State L) (c : ℕ) (t : Tag) (es : List (Entry L)) → IsList link w c t es → (i : ℕ) (u : Tag) → cell_at w c ≡ cell.OfShared (Some i) u → IsReadable w (Some i)
  hung_there w c t [] h i u k = absurd (full_empty None i t u (sym h ∙ k))
  hung_there w c t (e ∷ es) h i u k = subst (λ (j : ℕ). IsReadable w (Some j)) (same_kept e.slot i t u (sym h.0 ∙ k)) (item_readable w e h.1)

  -- a list that isn't empty, and its first item
  pub record Starts (w : State L) (c : ℕ) (t : Tag) (es : List (Entry L)) (item : L) : Type 0 where
    pub first : Entry L
    pub rest : List (Entry L)
    pub is : es ≡ first ∷ rest
    pub hung : IsList link w c t (first ∷ rest)
    pub item_is : item ≡ first.item

  pub starts : {Y : Type 0} (y : Y) (w : State L) (c : ℕ) (t : Tag) (es : List (Entry L)) (item : L) → IsList link w c t es → ((u : Tag) → cell_at w c ≡ cell.OfShared None u → ◌≡◌ {A = Option Y} (Some y) None) → ((i : ℕ) (u : Tag) → cell_at w c ≡ cell.OfShared (Some i) u → Some item ≡ value_at w i) → Starts w c t es item
  starts y w c t [] item h null value = absurd (some_nothing y (null t h))
  starts y w c t (e ∷ es) item h null value = record { first = e; rest = es; is = refl; hung = h; item_is = the_same item e.item (value e.slot t h.0 ∙ h.1.here) }

  pub starts_not : (w : State L) (c : ℕ) (t : Tag) (es : List (Entry L)) → IsList link w c t es → ((i : ℕ) (u : Tag) → cell_at w c ≡ cell.OfShared (Some i) u → false ≡ true) → es ≡ []
  starts_not w c t [] h value = refl
  starts_not w c t (e ∷ es) h value = absurd (false≢true (value e.slot t h.0))

  pub starts_link : (w : State L) (c : ℕ) (t : Tag) (es : List (Entry L)) (item : L) → (k : Starts w c t es item) → link item ≡ Some k.first.link
  starts_link w c t es item k = ap link k.item_is ∙ k.hung.1.linked

  pub starts_cell : (w : State L) (c d : ℕ) (t : Tag) (es : List (Entry L)) (item : L) → Starts w c t es item → link item ≡ Some d → IsSharedCell w d
  starts_cell w c d t es item k e = subst (λ (j : ℕ). IsSharedCell w j) (some_same k.first.link d (sym (starts_link w c t es item k) ∙ e)) (head_cell link w k.first.link k.first.tag k.rest k.hung.4)

  pub begins : (w : State L) (c d : ℕ) (t u : Tag) (gone : Bool) (es : List (Entry L)) (item : L) → Starts w c t es item → link item ≡ Some d → ((o : Option ℕ) (v : Tag) → cell_at w d ≡ cell.OfShared o v → u ≡ v) → gone ≡ deleted u → BeginsWithItem es item d gone
  begins w c d t u gone es item k e tagged is =
      let at : d ≡ k.first.link = some_same d k.first.link (sym e ∙ starts_link w c t es item k) in
      let tag : u ≡ k.first.tag = tagged (first_slot k.rest) k.first.tag (ap (λ (j : ℕ). cell_at w j) at ∙ hung_first link w k.first.link k.first.tag k.rest k.hung.4) in
      record { first = k.first; rest = k.rest; is = k.is; item_is = k.item_is; link_is = at; gone_is = is ∙ ap deleted tag }

-- what is in use is none of those that are free
pub used_cell : {L : Type 0} (w : State L) (c j : ℕ) → IsFreeCell w c → emptiness (cell_at w j) ≡ 0 → j ≢ c
used_cell w c j free used q = let a : emptiness (cell_at w j) ≡ emptiness (cell_at w c) = ap (λ (i : ℕ). emptiness (cell_at w i)) q in let b : emptiness (cell_at w c) ≡ 1 = ap emptiness free.1 in absurd (omega (arith, a, b, used))

pub used_slot : {L : Type 0} (w : State L) (i j : ℕ) → IsFree w i → vacancy (status_at w j) ≡ 0 → j ≢ i
used_slot w i j free used q = let a : vacancy (status_at w j) ≡ vacancy (status_at w i) = ap (λ (k : ℕ). vacancy (status_at w k)) q in let b : vacancy (status_at w i) ≡ 1 = ap vacancy free.1 in absurd (omega (arith, a, b, used))
