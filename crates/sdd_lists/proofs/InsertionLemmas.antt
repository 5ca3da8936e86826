-- entries that are put behind others
use Rattle.std.proofs.Common.{◌≡◌, ◌≢◌, ◌==◌, ℕ, Bool, true, false, Option, None, Some, List, [], ◌∷◌, refl, sym, ap, ◌∙◌, subst, cond, inl, inr}
use Rattle.std.proofs.lemmas.Bool.Decides.{eqb_tells}
use Rattle.sdd_world.specs.State.{State, cell_at, vacancy, emptiness}
use Rattle.sdd_world.specs.Place.{IsShared}
use Rattle.sdd_world.specs.declared.tag.Tag.{Tag}
use Rattle.sdd_world.specs.declared.status.Cell.TheVariants as cell
use Rattle.sdd_lists.specs.Chain.{Entry, slots, links, IsOut, IsItem, IsList, IsDetached, Leaves, FitsBefore, CanHang}
use Rattle.sdd_lists.specs.Nodes.{NamesEntry, CanInsert, Inserts, IsApart, Retags, retagged, inserted_behind, HasSlot}
use Rattle.sdd_lists.specs.Entries.{entry_link}
use Rattle.sdd_lists.specs.Making.{IsMade}
use Rattle.sdd_lists.specs.declared.linked_entry.LinkedEntry.{LinkedEntry}
use Rattle.sdd_lists.proofs.ChainLemmas.{cell_left, item_left, hung_out, leaves_then, leaves_more, item_shared, used_cell, used_slot}
use Rattle.sdd_lists.proofs.NodeLemmas.{same_link, link_in, retagged_links, retagged_slots}

inserted_links : {L : Type 0} (i j : ℕ) (x : Entry L) (es : List (Entry L)) → IsOut j (links es) → j ≢ x.link → IsOut j (links (inserted_behind i x es))
inserted_links i j x [] out ne = tt
inserted_links i j x (e ∷ es) out ne = elim (e.slot == i) as (λ v. IsOut j (links (cond v (e ∷ x ∷ es) (e ∷ inserted_behind i x es)))) [ true ↦ (out.0, (ne, out.1)) | false ↦ (out.0, inserted_links i j x es out.1 ne) ]

inserted_slots : {L : Type 0} (i j : ℕ) (x : Entry L) (es : List (Entry L)) → IsOut j (slots es) → j ≢ x.slot → IsOut j (slots (inserted_behind i x es))
inserted_slots i j x [] out ne = tt
inserted_slots i j x (e ∷ es) out ne = elim (e.slot == i) as (λ v. IsOut j (slots (cond v (e ∷ x ∷ es) (e ∷ inserted_behind i x es)))) [ true ↦ (out.0, (ne, out.1)) | false ↦ (out.0, inserted_slots i j x es out.1 ne) ]

slots_retagged : {L : Type 0} (i : ℕ) (u : Tag) (es : List (Entry L)) → slots (retagged i u es) ≡ slots es
slots_retagged i u [] = refl
slots_retagged i u (e ∷ es) = elim (e.slot == i) as (λ v. slots (cond v (record e { tag = u } ∷ es) (e ∷ retagged i u es)) ≡ slots (e ∷ es)) [ true ↦ refl | false ↦ ap (λ (is : List ℕ). e.slot ∷ is) (slots_retagged i u es) ]

module _ {L : Type 0} (link : L → Option ℕ) where
  -- an entry is put first into the cell that is the link of e
  abbrev pub Put : State L → State L → ℕ → Entry L → Type 0
  Put w w' d x = (t : Tag) (es : List (Entry L)) (y : Entry L) → IsList link w d t es → IsDetached link w y → FitsBefore d es y → x.slot ≡ y.slot → IsList link w' d t (y ∷ es) × Leaves (d ∷ y.link ∷ []) [] w w'

  module _ (w w' : State L) (e x : Entry L) (k : IsItem link w e) (loose : IsDetached link w x) (put : Put w w' e.link x) (l : Leaves (e.link ∷ x.link ∷ []) [] w w') where
    fit : (fs : List (Entry L)) (t : Tag) → IsList link w e.link t fs → IsApart e.link fs x → FitsBefore e.link fs x
    fit fs t h a = record { cell = (a.cell, hung_out link w e.link t fs h); link = a.link; slot = a.slot }

    insert_here : (c : ℕ) (t : Tag) (f : Entry L) (fs : List (Entry L)) → IsList link w c t (f ∷ fs) → f.slot ≡ e.slot → IsApart c (f ∷ fs) x → IsList link w' c t (f ∷ x ∷ fs)
    insert_here c t f fs h at a =
        let same : f.link ≡ e.link = same_link link w e k f h.1 at in
        let behind : IsList link w e.link f.tag fs = subst (λ (j : ℕ). IsList link w j f.tag fs) same h.4 in
        let apart : IsApart e.link fs x = record { cell = subst (λ (j : ℕ). j ≢ x.link) same (λ q. a.link.0 (sym q)); link = a.link.1; slot = a.slot.1 } in
        let now = (put f.tag fs x behind loose (fit fs f.tag behind apart) refl).0 in (
          cell_left link (e.link ∷ x.link ∷ []) [] w w' c (Some f.slot) t l (subst (λ (j : ℕ). c ≢ j) same h.2.0, (a.cell, tt)) h.0,
          item_left link (e.link ∷ x.link ∷ []) [] w w' f l tt h.1,
          (h.2.0, (a.cell, h.2.1)),
          ((λ q. a.slot.0 (sym q)), h.3),
          subst (λ (j : ℕ). IsList link w' j f.tag (x ∷ fs)) (sym same) now,
        )

    insert_in : (c : ℕ) (t : Tag) (es : List (Entry L)) → IsList link w c t es → HasSlot e.slot es → IsApart c es x → IsList link w' c t (inserted_behind e.slot x es)
    insert_in c t [] h has a = absurd (has tt)
    insert_in c t (f ∷ fs) h has a = elim (eqb_tells f.slot e.slot) [
      | inl q ↦ subst (λ (b : Bool). IsList link w' c t (cond b (f ∷ x ∷ fs) (f ∷ inserted_behind e.slot x fs))) (sym q.0) (insert_here c t f fs h q.1 a)
      | inr q ↦
          let rest : HasSlot e.slot fs = λ out. has (λ p. q.1 (sym p), out) in
          let ne : c ≢ e.link = link_in link w e k c f.link f.tag fs h.4 rest h.2.1 in
          let all : IsList link w' c t (f ∷ inserted_behind e.slot x fs) = (
            cell_left link (e.link ∷ x.link ∷ []) [] w w' c (Some f.slot) t l (ne, (a.cell, tt)) h.0,
            item_left link (e.link ∷ x.link ∷ []) [] w w' f l tt h.1,
            (h.2.0, inserted_links e.slot c x fs h.2.1 a.cell),
            inserted_slots e.slot f.slot x fs h.3 (λ p. a.slot.0 (sym p)),
            insert_in f.link f.tag fs h.4 rest (record { cell = λ p. a.link.0 (sym p); link = a.link.1; slot = a.slot.1 }),
          ) in
          subst (λ (b : Bool). IsList link w' c t (cond b (f ∷ x ∷ fs) (f ∷ inserted_behind e.slot x fs))) (sym q.0) all
    ]

  -- the entry has another tag, and then another one is put behind it
  module _ (w w1 w2 : State L) (e x : Entry L) (u : Tag) (o : Option ℕ) (n : NamesEntry link w o e) (loose : IsDetached link w x) (r : Retags link w w1 e u) (l : Leaves (e.link ∷ []) [] w w1) (ne : e.link ≢ x.link) where
    pub loose_still : IsDetached link w1 x
    loose_still = record { item = item_left link (e.link ∷ []) [] w w1 x l tt loose.item; empty = cell_left link (e.link ∷ []) [] w w1 x.link None x.tag l (λ q. ne (sym q), tt) loose.empty }

    pub hangs_behind : (rest : List (Entry L)) → IsList link w e.link e.tag rest → IsApart e.link rest x → (d i : ℕ) → d ≡ e.link → i ≡ x.slot → CanHang link w1 d i
    hangs_behind rest h a d i same at =
        let h1 = r.behind rest h in
        record { tag = u; entries = rest; entry = x; hung = subst (λ (j : ℕ). IsList link w1 j u rest) (sym same) h1; loose = loose_still; fits = subst (λ (j : ℕ). FitsBefore j rest x) (sym same) (record { cell = (a.cell, hung_out link w1 e.link u rest h1); link = a.link; slot = a.slot }); at = at }

    module _ (put : Put w1 w2 e.link x) (rest : List (Entry L)) (h : IsList link w e.link e.tag rest) (a : IsApart e.link rest x) where
      put_behind : (es : List (Entry L)) → IsList link w e.link e.tag es → IsApart e.link es x → IsList link w2 e.link u (x ∷ es) × Leaves (e.link ∷ x.link ∷ []) [] w1 w2
      put_behind es k b = let k1 = r.behind es k in put u es x k1 loose_still (record { cell = (b.cell, hung_out link w1 e.link u es k1); link = b.link; slot = b.slot }) refl

      retagged_apart : (c : ℕ) (es : List (Entry L)) → IsApart c es x → IsApart c (retagged e.slot u es) x
      retagged_apart c es b = record { cell = b.cell; link = retagged_links e.slot x.link u es b.link; slot = retagged_slots e.slot x.slot u es b.slot }

      pub inserts : Inserts link w w2 e u x
      inserts = record {
        lists = λ c t es k has b.
            insert_in w1 w2 (record e { tag = u }) x r.node.item loose_still put (put_behind rest h a).1 c t (retagged e.slot u es) (r.lists c t es k has) (λ out. has (subst (λ (is : List ℕ). IsOut e.slot is) (slots_retagged e.slot u es) out)) (retagged_apart c es b);
        behind = λ es k b. (put_behind es k b).0;
      }

      pub kept_behind : cell_at w2 e.link ≡ cell.OfShared (Some x.slot) u
      kept_behind = (put_behind rest h a).0.0

      pub inserts_leaves : Leaves (e.link ∷ x.link ∷ []) [] w w2
      inserts_leaves = leaves_then (e.link ∷ x.link ∷ []) [] w w1 w2 (leaves_more (e.link ∷ []) [] (e.link ∷ x.link ∷ []) [] w w1 (λ j out. (out.0, tt)) (λ j out. out) l) (put_behind rest h a).1

  -- the same of a cell and a slot that are known to be these
  pub put_at : (w w' : State L) (d i k : ℕ) (x : Entry L) → d ≡ k → i ≡ x.slot → ((t : Tag) (es : List (Entry L)) (y : Entry L) → IsList link w d t es → IsDetached link w y → FitsBefore d es y → i ≡ y.slot → IsList link w' d t (y ∷ es) × Leaves (d ∷ y.link ∷ []) [] w w') → Put w w' k x
  put_at w w' d i k x same at put = λ t es y h l f s. subst (λ (j : ℕ). IsList link w' j t (y ∷ es) × Leaves (j ∷ y.link ∷ []) [] w w') same (put t es y (subst (λ (j : ℕ). IsList link w j t es) (sym same) h) l (subst (λ (j : ℕ). FitsBefore j es y) (sym same) f) (at ∙ s))

pub tag_same : (o o' : Option ℕ) (t u : Tag) → cell.OfShared o t ≡ cell.OfShared o' u → t ≡ u
tag_same o o' t u e = cc

-- an entry that was made after another can be put behind it
pub can_insert_made : {T : Type 0} (w w1 w2 : State (LinkedEntry T)) (u v : T) (i j : ℕ) (o : Option ℕ) → IsMade w w1 u i → IsMade w1 w2 v j → Leaves [] [] w1 w2 → o ≡ Some i → CanInsert entry_link w2 o j
can_insert_made w w1 w2 u v i j o a b l at =
    let kept = cell_left entry_link [] [] w1 w2 a.entry.link None a.entry.tag l tt a.loose.empty in
    record {
      entry = a.entry;
      rest = [];
      is = record { names = at ∙ ap (λ (k : ℕ). Some k) a.at; item = item_left entry_link [] [] w1 w2 a.entry l tt a.loose.item; next = None; kept = kept };
      hung = kept;
      new = b.entry;
      at = b.at;
      loose = b.loose;
      clear = b.new.clear;
      other = λ q. used_slot w1 b.entry.slot a.entry.slot b.new.slot (ap vacancy a.loose.item.shared) (sym q);
      apart = record { cell = used_cell w1 b.entry.link a.entry.link b.new.link (ap emptiness a.loose.empty); link = tt; slot = tt };
    }

-- an entry can be put behind another one still where that has another tag
pub can_insert_retagged : {L : Type 0} (link : L → Option ℕ) (w w' : State L) (u : Tag) (o o' : Option ℕ) (i : ℕ) (k : CanInsert link w o i) → o' ≡ o → Retags link w w' k.entry u → Leaves (k.entry.link ∷ []) [] w w' → CanInsert link w' o' i
can_insert_retagged link w w' u o o' i k same r l = record {
  entry = record k.entry { tag = u };
  rest = k.rest;
  is = record { names = same ∙ k.is.names; item = r.node.item; next = r.node.next; kept = r.node.kept };
  hung = r.behind k.rest k.hung;
  new = k.new;
  at = k.at;
  loose = record { item = item_left link (k.entry.link ∷ []) [] w w' k.new l tt k.loose.item; empty = cell_left link (k.entry.link ∷ []) [] w w' k.new.link None k.new.tag l (λ q. k.apart.cell (sym q), tt) k.loose.empty };
  clear = k.clear;
  other = k.other;
  apart = k.apart;
}

pub new_shared : {L : Type 0} (link : L → Option ℕ) (w w' : State L) (o : Option ℕ) (i j : ℕ) (k : CanInsert link w o i) → j ≡ i → w' ≡ w → IsShared w' j
new_shared link w w' o i j k at same = subst (λ (v : State _). IsShared v j) (sym same) (subst (λ (n : ℕ). IsShared w n) (sym (at ∙ k.at)) (item_shared link w k.new k.loose.item))
