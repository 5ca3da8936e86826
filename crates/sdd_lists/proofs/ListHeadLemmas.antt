-- the front of a list: what is skipped, taken off and put there
use Rattle.std.proofs.Common.{◌≡◌, ◌≢◌, ℕ, ◌<◌, true, false, Option, None, Some, IfSome, List, [], ◌∷◌, length, refl, sym, ap, ◌∙◌, arith, subst, cond}
use Rattle.sdd_world.specs.State.{State, status_at, cell_at, with_cell, emptiness, vacancy}
use Rattle.sdd_world.specs.Place.{IsSharedCell}
use Rattle.sdd_world.specs.declared.tag.Tag.{Tag}
use Rattle.sdd_world.specs.declared.tag.Tag.TheVariants as tag
use Rattle.sdd_world.specs.declared.status.Status.TheVariants as status
use Rattle.sdd_world.specs.declared.status.Cell.TheVariants as cell
use Rattle.sdd_lists.specs.Chain.{Entry, slots, links, IsOut, IsList, IsDetached, Leaves, SameUses, TookFirst, FitsBefore, CanHang, first_item, first_slot, skip, undeleted, deleted}
use Rattle.sdd_lists.specs.Entries.{entry_link}
use Rattle.sdd_lists.specs.Making.{IsNew, IsMade}
use Rattle.sdd_lists.specs.declared.linked_entry.LinkedEntry.{LinkedEntry}
use Rattle.sdd_lists.proofs.ReleaseLemmas.{out_of_one}
use Rattle.sdd_lists.proofs.ChainLemmas.{hung_left, hung_first, hung_out, leaves_then, leaves_more, leaves_all, leaves_write, out_of_none, free_cell_out, free_slot_out, item_left, wrote_same, inside_cells, some_same, some_nothing, Took, Filled, written2, wrote_last, wrote_second, wrote_other, rehung, out_of_two}

-- the first entry of a list, if there is one, has a slot
pub no_first : {L : Type 0} (es : List (Entry L)) → first_item es ≡ None → first_slot es ≡ None
no_first [] h = refl
no_first (e ∷ es) h = absurd (some_nothing e.item h)

-- what is skipped is deleted
pub first_skipped : {L : Type 0} (es : List (Entry L)) → first_slot (skip es) ≡ first_slot (undeleted es)
first_skipped [] = refl
first_skipped (e ∷ es) = elim (deleted e.tag) as (λ v. first_slot (cond v (skip es) (e ∷ es)) ≡ first_slot (cond v (undeleted es) (e ∷ undeleted es))) [ true ↦ first_skipped es | false ↦ refl ]

-- the use of the first undeleted entry is as it was before what was skipped was given back
pub first_use : {L : Type 0} (n : ℕ) (es : List (Entry L)) (w w' : State L) → SameUses w w' (slots (skip es)) → IfSome (first_slot (skip es)) (λ i. status_at w' i ≡ status.Shared n) → IfSome (first_slot (undeleted es)) (λ i. status_at w i ≡ status.Shared n)
first_use {L} n es w w' same h = subst (λ o. IfSome o (λ i. status_at w i ≡ status.Shared n)) (first_skipped es) (before (skip es) same h)
  where
    before : (fs : List (Entry L)) → SameUses w w' (slots fs) → IfSome (first_slot fs) (λ i. status_at w' i ≡ status.Shared n) → IfSome (first_slot fs) (λ i. status_at w i ≡ status.Shared n)
    before [] s k = tt
    before (f ∷ fs) s k = sym s.0 ∙ k

pub none_skipped : {L : Type 0} (es : List (Entry L)) → skip es ≡ [] → undeleted es ≡ []
none_skipped [] h = refl
none_skipped {L} (e ∷ es) h = (elim (deleted e.tag) as (λ v. cond v (skip es) (e ∷ es) ≡ [] → cond v (undeleted es) (e ∷ undeleted es) ≡ []) [ true ↦ none_skipped es | false ↦ λ k. absurd (cons_nil k) ]) h
  where
    cons_nil : ◌≡◌ {A = List (Entry L)} (e ∷ es) [] → ⊥
    cons_nil k = cc

pub some_skipped : {L : Type 0} (f : Entry L) (fs es : List (Entry L)) → skip es ≡ f ∷ fs → undeleted es ≡ f ∷ undeleted fs
some_skipped {L} f fs [] h = absurd (nil_cons h)
  where
    nil_cons : ◌≡◌ {A = List (Entry L)} [] (f ∷ fs) → ⊥
    nil_cons k = cc
some_skipped {L} f fs (e ∷ es) h = (elim (deleted e.tag) as (λ v. cond v (skip es) (e ∷ es) ≡ f ∷ fs → cond v (undeleted es) (e ∷ undeleted es) ≡ f ∷ undeleted fs) [ true ↦ some_skipped f fs es | false ↦ same_cons ]) h
  where
    same_cons : ◌≡◌ {A = List (Entry L)} (e ∷ es) (f ∷ fs) → ◌≡◌ {A = List (Entry L)} (e ∷ undeleted es) (f ∷ undeleted fs)
    same_cons k = cc

pub skipped_links : {L : Type 0} (j : ℕ) (es : List (Entry L)) → IsOut j (links es) → IsOut j (links (skip es))
skipped_links j [] out = tt
skipped_links j (e ∷ es) out = elim (deleted e.tag) as (λ v. IsOut j (links (cond v (skip es) (e ∷ es)))) [ true ↦ skipped_links j es out.1 | false ↦ out ]

pub first_none : {L : Type 0} (es : List (Entry L)) → first_slot es ≡ None → es ≡ []
first_none [] h = refl
first_none (e ∷ es) h = absurd (some_nothing e.slot h)

-- a new entry fits before any list
pub new_fits : {T : Type 0} (w : State (LinkedEntry T)) (c : ℕ) (t : Tag) (v : T) (e : Entry (LinkedEntry T)) (es : List (Entry (LinkedEntry T))) → IsList entry_link w c t es → IsNew w v e → FitsBefore c es e
new_fits w c t v e es h n =
    let out = free_cell_out entry_link w e.link c t es n.link.1 h in
    record { cell = (λ q. out.0 (sym q), hung_out entry_link w c t es h); link = out.1; slot = free_slot_out entry_link w e.slot c t es n.slot.1 h }

module _ {T : Type 0} (w w1 : State (LinkedEntry T)) (l : Leaves [] [] w w1) where
  pub still_hung : (c : ℕ) (t : Tag) (es : List (Entry (LinkedEntry T))) → IsList entry_link w c t es → IsList entry_link w1 c t es
  still_hung c t es h = hung_left entry_link [] [] w w1 c t es l tt (out_of_none (links es)) (out_of_none (slots es)) h

  pub can_hang : (c i i' : ℕ) (t : Tag) (v : T) (es : List (Entry (LinkedEntry T))) → IsList entry_link w c t es → IsMade w w1 v i → i' ≡ i → CanHang entry_link w1 c i'
  can_hang c i i' t v es h m same = record { tag = t; entries = es; entry = m.entry; hung = still_hung c t es h; loose = m.loose; fits = new_fits w c t v m.entry es h m.new; at = same ∙ m.at }

  -- what else was written is the link of the new entry
  pub put_leaves : (w2 : State (LinkedEntry T)) (c d : ℕ) → Leaves (c ∷ d ∷ []) [] w1 w2 → cell_at w d ≡ cell.Free → Leaves (c ∷ []) [] w w2
  put_leaves w2 c d k free = record {
    cells = λ j out used.
        let ne : j ≢ d = λ q. absurd (let a : emptiness (cell_at w j) ≡ 1 = ap (λ (i : ℕ). emptiness (cell_at w i)) q ∙ ap emptiness free in omega (arith, a, used)) in
        let e = l.cells j tt used in
        k.cells j (out.0, (ne, tt)) (ap emptiness e ∙ used) ∙ e;
    uses = λ i out used. let e = l.uses i tt used in k.uses i tt (ap vacancy e ∙ used) ∙ e;
    values = λ i out used. let e = l.uses i tt used in k.values i tt (ap vacancy e ∙ used) ∙ l.values i tt used;
  }

module _ {L : Type 0} (link : L → Option ℕ) where
  -- an entry was taken off
  pub record TookSome (w w1 : State L) (c i : ℕ) (t : Tag) (es : List (Entry L)) : Type 0 where
    pub entry : Entry L
    pub rest : List (Entry L)
    pub is : es ≡ entry ∷ rest
    pub at : i ≡ entry.slot
    pub left : IsList link w1 c t rest
    pub loose : IsDetached link w1 entry
    pub leaves : Leaves (c ∷ entry.link ∷ []) [] w w1
    pub apart : c ≢ entry.link
    pub out : IsOut entry.link (links rest)
    pub alone : IsOut entry.slot (slots rest)

  pub took_some : (w w1 : State L) (c i : ℕ) (t : Tag) (es : List (Entry L)) → IsList link w c t es → TookFirst link w w1 c t es (Some i) → TookSome w w1 c i t es
  took_some w w1 c i t [] h k = absurd (some_nothing i k.0)
  took_some w w1 c i t (e ∷ es) h k = record {
    entry = e;
    rest = es;
    is = refl;
    at = some_same i e.slot k.0;
    left = k.1;
    loose = k.2;
    leaves = k.3;
    apart = h.2.0;
    out = hung_out link w e.link e.tag es h.4;
    alone = h.3;
  }

  pub took_nothing : (w w1 : State L) (c : ℕ) (t : Tag) (es : List (Entry L)) → TookFirst link w w1 c t es None → (es ≡ []) × IsList link w1 c t [] × Leaves [] [] w w1
  took_nothing w w1 c t [] k = (refl, k.1, k.2)
  took_nothing w w1 c t (e ∷ es) k = absurd (nothing_some e.slot k.0)
    where
      nothing_some : (j : ℕ) → ◌≡◌ {A = Option ℕ} None (Some j) → ⊥
      nothing_some j q = cc

  module _ (w1 w2 w3 : State L) (c i : ℕ) (t : Tag) (xs : List (Entry L)) (k : TookSome w1 w2 c i t xs) (is : w3 ≡ with_cell k.entry.link (cell.OfShared None tag.Second) w2) where
    marked : Leaves (k.entry.link ∷ []) [] w2 w3
    marked = subst (λ (v : State L). Leaves (k.entry.link ∷ []) [] w2 v) (sym is) (leaves_write (k.entry.link ∷ []) [] w2 w2 k.entry.link (cell.OfShared None tag.Second) (λ j out. out.0) (leaves_all (k.entry.link ∷ []) [] w2))

    pub popped_left : IsList link w3 c t k.rest
    popped_left = hung_left link (k.entry.link ∷ []) [] w2 w3 c t k.rest marked (k.apart, tt) (out_of_one (links k.rest) k.entry.link k.out) (out_of_none (slots k.rest)) k.left

    pub popped_gone : IsDetached link w3 (record k.entry { tag = tag.Second })
    popped_gone =
        let item = item_left link (k.entry.link ∷ []) [] w2 w3 k.entry marked tt k.loose.item in
        record {
          item = record { owners = item.owners; shared = item.shared; owned = item.owned; here = item.here; linked = item.linked };
          empty = ap (λ (v : State L). cell_at v k.entry.link) is ∙ wrote_same w2 k.entry.link (cell.OfShared None tag.Second) (inside_cells w2.cells k.entry.link None k.entry.tag k.loose.empty);
        }

    pub popped_leaves : (w : State L) (es : List (Entry L)) → xs ≡ skip es → Leaves (c ∷ links es) (slots es) w w1 → Leaves (c ∷ links es) (slots es) w w3
    popped_leaves w es from l =
        let inside : (j : ℕ) → IsOut j (links es) → IsOut j (links (k.entry ∷ k.rest)) = λ j out. subst (λ (ys : List (Entry L)). IsOut j (links ys)) k.is (subst (λ (ys : List (Entry L)). IsOut j (links ys)) (sym from) (skipped_links j es out)) in
        let two = leaves_more (c ∷ k.entry.link ∷ []) [] (c ∷ links es) (slots es) w1 w2 (λ j out. (out.0, ((inside j out.1).0, tt))) (λ j out. tt) k.leaves in
        let three = leaves_more (k.entry.link ∷ []) [] (c ∷ links es) (slots es) w2 w3 (λ j out. ((inside j out.1).0, tt)) (λ j out. tt) marked in
        leaves_then (c ∷ links es) (slots es) w w1 w3 l (leaves_then (c ∷ links es) (slots es) w1 w2 w3 two three)

  -- what the cell behind the deleted entries keeps
  pub skipped_first : (w : State L) (d : ℕ) (u : Tag) (es : List (Entry L)) → IsList link w d u (skip es) → cell_at w d ≡ cell.OfShared (first_slot (undeleted es)) u
  skipped_first w d u es h = hung_first link w d u (skip es) h ∙ ap (λ (o : Option ℕ). cell.OfShared o u) (first_skipped es)

-- a cell that was free needn't be named
pub leaves_free : {L : Type 0} (cs is : List ℕ) (d : ℕ) (w w' : State L) → cell_at w d ≡ cell.Free → Leaves (d ∷ cs) is w w' → Leaves cs is w w'
leaves_free cs is d w w' free l = record {
  cells = λ j out used. l.cells j (λ q. absurd (let a : emptiness (cell_at w j) ≡ 1 = ap (λ (i : ℕ). emptiness (cell_at w i)) q ∙ ap emptiness free in omega (arith, a, used)), out) used;
  uses = l.uses;
  values = l.values;
}

-- all entries move to a new cell
module _ {L : Type 0} (link : L → Option ℕ) (w w1 : State L) (c d : ℕ) (t u : Tag) (es : List (Entry L)) (h : IsList link w c t es) (free : cell_at w d ≡ cell.Free) (inside : d < length w.cells) (e1 : w1 ≡ with_cell d (cell.OfShared None u) w) where
  apart_cells : (d ≢ c) × IsOut d (links es)
  apart_cells = free_cell_out link w d c t es free h

  pub moving_kept : cell_at w1 c ≡ cell.OfShared (first_slot es) t
  moving_kept = ap (λ (v : State L). cell_at v c) e1 ∙ wrote_other w d c (cell.OfShared None u) (λ q. apart_cells.0 (sym q)) ∙ hung_first link w c t es h

  pub moving_cell : IsSharedCell w1 c
  moving_cell = record { inside = inside_cells w1.cells c (first_slot es) t moving_kept; item = first_slot es; tag = t; is = moving_kept }

  module _ (w2 : State L) (r : Option ℕ) (took : Took link w1 w2 c r) where
    emptied_cell : (r ≡ first_slot es) × (w2 ≡ with_cell c (cell.OfShared None t) (with_cell d (cell.OfShared None u) w))
    emptied_cell = let e = took (first_slot es) t moving_kept in (e.0, e.1 ∙ ap (λ (v : State L). with_cell c (cell.OfShared None t) v) e1)

    pub moving_empty : cell_at w2 d ≡ cell.OfShared None u
    moving_empty = ap (λ (v : State L). cell_at v d) emptied_cell.1 ∙ wrote_other (with_cell d (cell.OfShared None u) w) c d (cell.OfShared None t) apart_cells.0 ∙ wrote_same w d (cell.OfShared None u) inside

    module _ (w3 : State L) (filled : Filled link w2 w3 d r) where
      third : w3 ≡ with_cell d (cell.OfShared (first_slot es) u) (with_cell c (cell.OfShared None t) (with_cell d (cell.OfShared None u) w))
      third = filled u moving_empty ∙ ap (λ (o : Option ℕ). with_cell d (cell.OfShared o u) w2) emptied_cell.0 ∙ ap (λ (v : State L). with_cell d (cell.OfShared (first_slot es) u) v) emptied_cell.1

      all_leaves : Leaves (d ∷ c ∷ []) [] w w3
      all_leaves = subst (λ (v : State L). Leaves (d ∷ c ∷ []) [] w v) (sym third) (written2 w d c (cell.OfShared (first_slot es) u) (cell.OfShared None t) (cell.OfShared None u))

      pub moved_leaves : Leaves (c ∷ []) [] w w3
      moved_leaves = leaves_free (c ∷ []) [] d w w3 free all_leaves

      now_kept : cell_at w3 d ≡ cell.OfShared (first_slot es) u
      now_kept = ap (λ (v : State L). cell_at v d) third ∙ wrote_last w d c (cell.OfShared (first_slot es) u) (cell.OfShared None t) (cell.OfShared None u) inside

      pub moved_all : IsList link w3 d u es
      moved_all = rehung link (d ∷ c ∷ []) [] w w3 c d t u es h now_kept all_leaves (out_of_two (links es) d c apart_cells.1 (hung_out link w c t es h)) (out_of_none (slots es)) apart_cells.1

      pub moved_from : cell_at w3 c ≡ cell.OfShared None t
      moved_from = ap (λ (v : State L). cell_at v c) third ∙ wrote_second w d c (cell.OfShared (first_slot es) u) (cell.OfShared None t) (cell.OfShared None u) (inside_cells w.cells c (first_slot es) t (hung_first link w c t es h)) (λ q. apart_cells.0 (sym q))

pub same_use : {L : Type 0} (w w' : State L) (cs : List ℕ) (i n : ℕ) → Leaves cs [] w w' → status_at w i ≡ status.Shared n → status_at w' i ≡ status.Shared n
same_use w w' cs i n l is = l.uses i tt (ap vacancy is) ∙ is
