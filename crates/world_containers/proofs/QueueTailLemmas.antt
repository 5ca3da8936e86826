-- the end of a list, and the cell that keeps its last entry
use Rattle.world_containers.proofs.Names.{◌≡◌, ◌≢◌, ℕ, Option, None, Some, List, [], ◌∷◌, ◌++◌, refl, sym, ap, ◌∙◌, subst, State, status_at, cell_at, with_cell, vacancy, released, IsShared, Tag, Entry, slots, links, IsOut, IsItem, IsList, IsDetached, HasLink, Leaves, FitsBefore, CanHang, end_cell, last_slot, HasTwo, IsQueue, Follows, hung_left, cell_left, item_left, leaves_then, leaves_more, leaves_all, leaves_write, out_of_none, wrote_same, inside_cells, inside_states, some_same, some_nothing, kept_same, Names, leaves_released, spare_owner, out_of_one}
use Rattle.sdd_world.specs.declared.tag.Tag.TheVariants as tag
use Rattle.sdd_world.specs.declared.status.Status.TheVariants as status
use Rattle.sdd_world.specs.declared.status.Cell.TheVariants as cell

-- the tag of the cell at the end of a list
abbrev pub end_tag : {L : Type 0} → Tag → List (Entry L) → Tag
end_tag t [] = t
end_tag t (e ∷ es) = end_tag e.tag es

end_out : {L : Type 0} (j c : ℕ) (es : List (Entry L)) → j ≢ c → IsOut j (links es) → j ≢ end_cell c es
end_out j c [] ne out = ne
end_out j c (e ∷ es) ne out = end_out j e.link es out.0 out.1

out_append : {L : Type 0} (j : ℕ) (es : List (Entry L)) (e : Entry L) → IsOut j (links es) → j ≢ e.link → IsOut j (links (es ++ e ∷ []))
out_append j [] e out ne = (ne, tt)
out_append j (f ∷ es) e out ne = (out.0, out_append j es e out.1 ne)

slot_append : {L : Type 0} (j : ℕ) (es : List (Entry L)) (e : Entry L) → IsOut j (slots es) → j ≢ e.slot → IsOut j (slots (es ++ e ∷ []))
slot_append j [] e out ne = (ne, tt)
slot_append j (f ∷ es) e out ne = (out.0, slot_append j es e out.1 ne)

pub last_append : {L : Type 0} (es : List (Entry L)) (e : Entry L) → last_slot (es ++ e ∷ []) ≡ Some e.slot
last_append [] e = refl
last_append (f ∷ []) e = refl
last_append (f ∷ g ∷ es) e = last_append (g ∷ es) e

pub last_none : {L : Type 0} (es : List (Entry L)) → last_slot es ≡ None → es ≡ []
last_none [] h = refl
last_none (e ∷ []) h = absurd (some_nothing e.slot h)
last_none {L} (e ∷ f ∷ es) h = absurd (more_nil (last_none (f ∷ es) h))
  where
    more_nil : ◌≡◌ {A = List (Entry L)} (f ∷ es) [] → ⊥
    more_nil q = cc

last_out : {L : Type 0} (j k : ℕ) (es : List (Entry L)) → last_slot es ≡ Some j → IsOut k (slots es) → k ≢ j
last_out j k [] h out = λ q. absurd (some_nothing j (sym h))
last_out j k (e ∷ []) h out = subst (λ (i : ℕ). k ≢ i) (some_same e.slot j h) out.0
last_out j k (e ∷ f ∷ es) h out = last_out j k (f ∷ es) h out.1

module _ {L : Type 0} (link : L → Option ℕ) where
  pub hung_end : (w : State L) (c : ℕ) (t : Tag) (es : List (Entry L)) → IsList link w c t es → IsList link w (end_cell c es) (end_tag t es) []
  hung_end w c t [] h = h
  hung_end w c t (e ∷ es) h = hung_end w e.link e.tag es h.4

  -- the last entry: its link is the cell at the end
  pub record Last (w : State L) (c j : ℕ) (es : List (Entry L)) : Type 0 where
    pub entry : Entry L
    pub item : IsItem link w entry
    pub at : j ≡ entry.slot
    pub end : entry.link ≡ end_cell c es

  last_of : (w : State L) (c j : ℕ) (t : Tag) (es : List (Entry L)) → IsList link w c t es → last_slot es ≡ Some j → Last w c j es
  last_of w c j t [] h is = absurd (some_nothing j (sym is))
  last_of w c j t (e ∷ []) h is = record { entry = e; item = h.1; at = sym (some_same e.slot j is); end = refl }
  last_of w c j t (e ∷ f ∷ es) h is = let r = last_of w e.link j e.tag (f ∷ es) h.4 is in record { entry = r.entry; item = r.item; at = r.at; end = r.end }

  -- what hangs from the cell at the end is part of the list
  pub hung_append : (w w' : State L) (c : ℕ) (t : Tag) (es : List (Entry L)) (e : Entry L) → IsList link w c t es → IsList link w' (end_cell c es) (end_tag t es) (e ∷ []) → Leaves (end_cell c es ∷ e.link ∷ []) [] w w' → e.link ≢ c → IsOut e.link (links es) → IsOut e.slot (slots es) → IsList link w' c t (es ++ e ∷ [])
  hung_append w w' c t [] e h now l ne out alone = now
  hung_append w w' c t (f ∷ es) e h now l ne out alone =
      let cs : List ℕ = end_cell f.link es ∷ e.link ∷ [] in
      let fresh : c ≢ e.link = λ q. ne (sym q) in (
        cell_left link cs [] w w' c (Some f.slot) t l (end_out c f.link es h.2.0 h.2.1, (fresh, tt)) h.0,
        item_left link cs [] w w' f l tt h.1,
        out_append c (f ∷ es) e h.2 fresh,
        slot_append f.slot es e h.3 (λ q. alone.0 (sym q)),
        hung_append w w' f.link f.tag es e h.4 now l out.0 out.1 alone.1,
      )

  module _ (w w1 : State L) (c d i : ℕ) (es : List (Entry L)) (e : Entry L) (q : IsQueue link w c d es) (k : IsDetached link w e) (f : Follows c d es e) (at : i ≡ e.slot) (e1 : w1 ≡ with_cell d (cell.OfShared (Some i) tag.None) w) where
    newest_left : Leaves (d ∷ []) [] w w1
    newest_left = subst (λ (v : State L). Leaves (d ∷ []) [] w v) (sym e1) (leaves_write (d ∷ []) [] w w d (cell.OfShared (Some i) tag.None) (λ j out. out.0) (leaves_all (d ∷ []) [] w))

    hung1 : IsList link w1 c tag.None es
    hung1 = hung_left link (d ∷ []) [] w w1 c tag.None es newest_left (λ p. q.apart (sym p), tt) (out_of_one (links es) d q.out) (out_of_none (slots es)) q.hung

    loose1 : IsDetached link w1 e
    loose1 = record { item = item_left link (d ∷ []) [] w w1 e newest_left tt k.item; empty = cell_left link (d ∷ []) [] w w1 e.link None e.tag newest_left (f.newest, tt) k.empty }

    newest1 : cell_at w1 d ≡ cell.OfShared (Some i) tag.None
    newest1 = ap (λ (v : State L). cell_at v d) e1 ∙ wrote_same w d (cell.OfShared (Some i) tag.None) (inside_cells w.cells d (last_slot es) tag.None q.newest)

    -- the list was empty
    first_hung : es ≡ [] → IsList link w1 c tag.None []
    first_hung none = subst (λ (xs : List (Entry L)). IsList link w1 c tag.None xs) none hung1

    first_fit : FitsBefore c [] e
    first_fit = record { cell = (λ p. f.oldest (sym p), tt); link = tt; slot = tt }

    pub first_fits : es ≡ [] → CanHang link w1 c i
    first_fits none = record { tag = tag.None; entries = []; entry = e; hung = first_hung none; loose = loose1; fits = first_fit; at = at }

    use_kept : (w2 : State L) (cs : List ℕ) → Leaves cs [] w1 w2 → (j n : ℕ) → status_at w j ≡ status.Shared n → status_at w2 j ≡ status.Shared n
    use_kept w2 cs l j n is =
        let one = newest_left.uses j tt (ap vacancy is) ∙ is in
        l.uses j tt (ap vacancy one) ∙ one

    two_kept : (w2 : State L) (cs : List ℕ) → Leaves cs [] w1 w2 → (j : ℕ) → HasTwo w j → HasTwo w2 j
    two_kept w2 cs l j h = record { owners = h.owners; is = use_kept w2 cs l j h.owners h.is; two = h.two }

    to_two : (w2 : State L) → HasTwo w2 i → (j : ℕ) → last_slot (es ++ e ∷ []) ≡ Some j → HasTwo w2 j
    to_two w2 h j is = subst (λ (m : ℕ). HasTwo w2 m) (at ∙ some_same e.slot j (sym (last_append es e) ∙ is)) h

    newest_slot : Some i ≡ last_slot (es ++ e ∷ [])
    newest_slot = ap (λ (m : ℕ). Some m) at ∙ sym (last_append es e)

    pub first_appended : (w2 : State L) → es ≡ [] → HasTwo w i → ((t : Tag) (xs : List (Entry L)) (x : Entry L) → IsList link w1 c t xs → IsDetached link w1 x → FitsBefore c xs x → i ≡ x.slot → IsList link w2 c t (x ∷ xs) × Leaves (c ∷ x.link ∷ []) [] w1 w2) → IsQueue link w2 c d (es ++ e ∷ []) × Leaves (e.link ∷ c ∷ d ∷ links es) (slots es) w w2
    first_appended w2 none two put =
        let r = put tag.None [] e (first_hung none) loose1 first_fit at in
        let ne : d ≢ e.link = λ p. f.newest (sym p) in (
          record {
            hung = subst (λ (xs : List (Entry L)). IsList link w2 c tag.None (xs ++ e ∷ [])) (sym none) r.0;
            newest = cell_left link (c ∷ e.link ∷ []) [] w1 w2 d (Some i) tag.None r.1 (q.apart, (ne, tt)) newest1 ∙ ap (λ (o : Option ℕ). cell.OfShared o tag.None) newest_slot;
            apart = q.apart;
            out = out_append d es e q.out ne;
            spare = to_two w2 (two_kept w2 (c ∷ e.link ∷ []) r.1 i two);
          },
          leaves_then (e.link ∷ c ∷ d ∷ links es) (slots es) w w1 w2 (leaves_more (d ∷ []) [] (e.link ∷ c ∷ d ∷ links es) (slots es) w w1 (λ j out. (out.1.1.0, tt)) (λ j out. tt) newest_left) (leaves_more (c ∷ e.link ∷ []) [] (e.link ∷ c ∷ d ∷ links es) (slots es) w1 w2 (λ j out. (out.1.0, (out.0, tt))) (λ j out. tt) r.1),
        )

    -- the list had a last entry
    module _ (j : ℕ) (is : last_slot es ≡ Some j) where
      last1 : Last w1 c j es
      last1 = last_of w1 c j tag.None es hung1 is

      pub last_linked : HasLink link w1 j
      last_linked = record { entry = last1.entry; at = last1.at; is = last1.item }

      module _ (d0 d' : ℕ) (named : Names link w1 j d0) (same : d' ≡ d0) where
        at_end : d' ≡ end_cell c es
        at_end = same ∙ named last1.entry last1.item last1.at ∙ last1.end

        last_hung : IsList link w1 d' (end_tag tag.None es) []
        last_hung = subst (λ (m : ℕ). IsList link w1 m (end_tag tag.None es) []) (sym at_end) (hung_end w1 c tag.None es hung1)

        last_fit : FitsBefore d' [] e
        last_fit = record { cell = (λ p. end_out e.link c es f.oldest f.link (sym p ∙ at_end), tt); link = tt; slot = tt }

        pub last_fits : CanHang link w1 d' i
        last_fits = record { tag = end_tag tag.None es; entries = []; entry = e; hung = last_hung; loose = loose1; fits = last_fit; at = at }

        module _ (w2 : State L) (put : (t : Tag) (xs : List (Entry L)) (x : Entry L) → IsList link w1 d' t xs → IsDetached link w1 x → FitsBefore d' xs x → i ≡ x.slot → IsList link w2 d' t (x ∷ xs) × Leaves (d' ∷ x.link ∷ []) [] w1 w2) where
          put2 : IsList link w2 (end_cell c es) (end_tag tag.None es) (e ∷ []) × Leaves (end_cell c es ∷ e.link ∷ []) [] w1 w2
          put2 = subst (λ (m : ℕ). IsList link w2 m (end_tag tag.None es) (e ∷ []) × Leaves (m ∷ e.link ∷ []) [] w1 w2) at_end (put (end_tag tag.None es) [] e last_hung loose1 last_fit at)

          hung2 : IsList link w2 c tag.None (es ++ e ∷ [])
          hung2 = hung_append w1 w2 c tag.None es e hung1 put2.0 put2.1 f.oldest f.link f.slot

          two2 : HasTwo w2 j
          two2 = two_kept w2 (end_cell c es ∷ e.link ∷ []) put2.1 j (q.spare j is)

          pub last_shared : IsShared w2 j
          last_shared = record { inside = inside_states w2.states j two2.owners two2.is; owners = two2.owners; is = two2.is }

          pub last_appended : (w3 : State L) → HasTwo w i → w3 ≡ released 0 j w2 → IsQueue link w3 c d (es ++ e ∷ []) × Leaves (e.link ∷ c ∷ d ∷ links es) (slots es) w w3
          last_appended w3 two e3 =
              let all : List ℕ = e.link ∷ c ∷ d ∷ links es in
              let v : State L = released 0 j w2 in
              let l = leaves_released 0 j w2 in
              let ne : d ≢ e.link = λ p. f.newest (sym p) in
              let other : i ≢ j = subst (λ (m : ℕ). m ≢ j) (sym at) (last_out j e.slot es is f.slot) in
              let mine = two_kept w2 (end_cell c es ∷ e.link ∷ []) put2.1 i two in
              let newest2 = cell_left link (end_cell c es ∷ e.link ∷ []) [] w1 w2 d (Some i) tag.None put2.1 (end_out d c es q.apart q.out, (ne, tt)) newest1 in
              let one = leaves_more (d ∷ []) [] all (slots es) w w1 (λ m out. (out.1.1.0, tt)) (λ m out. tt) newest_left in
              let second = leaves_more (end_cell c es ∷ e.link ∷ []) [] all (slots es) w1 w2 (λ m out. (end_out m c es out.1.0 out.1.1.1, (out.0, tt))) (λ m out. tt) put2.1 in
              let third = leaves_more [] (j ∷ []) all (slots es) w2 v (λ m out. tt) (λ m out. (last_out j m es is out, tt)) l in
              let result : IsQueue link v c d (es ++ e ∷ []) × Leaves all (slots es) w v = (
                record {
                  hung = spare_owner link 0 j two2.owners c tag.None (es ++ e ∷ []) w2 two2.is two2.two hung2;
                  newest = cell_left link [] (j ∷ []) w2 v d (Some i) tag.None l tt newest2 ∙ ap (λ (o : Option ℕ). cell.OfShared o tag.None) newest_slot;
                  apart = q.apart;
                  out = out_append d es e q.out ne;
                  spare = to_two v (record { owners = mine.owners; is = l.uses i (other, tt) (ap vacancy mine.is) ∙ mine.is; two = mine.two });
                },
                leaves_then all (slots es) w w2 v (leaves_then all (slots es) w w1 w2 one second) third,
              ) in
              subst (λ (s : State L). IsQueue link s c d (es ++ e ∷ []) × Leaves all (slots es) w s) (sym e3) result

-- what a cell that was swapped had kept
pub was_none : (o : Option ℕ) (t : Tag) (L : Type 0) (w : State L) (d : ℕ) (es : List (Entry L)) → cell_at w d ≡ cell.OfShared (last_slot es) tag.None → cell_at w d ≡ cell.OfShared o t → o ≡ None → es ≡ []
was_none o t L w d es q was none = last_none es (kept_same (last_slot es) o tag.None t (sym q ∙ was) ∙ none)

pub was_some : (o : Option ℕ) (t : Tag) (L : Type 0) (w : State L) (d j : ℕ) (es : List (Entry L)) → cell_at w d ≡ cell.OfShared (last_slot es) tag.None → cell_at w d ≡ cell.OfShared o t → o ≡ Some j → last_slot es ≡ Some j
was_some o t L w d j es q was some = kept_same (last_slot es) o tag.None t (sym q ∙ was) ∙ some
