-- entries whose tag changes
use Rattle.std.proofs.Common.{◌≡◌, ◌≢◌, ◌==◌, ℕ, Bool, true, false, Option, None, Some, List, [], ◌∷◌, refl, sym, ap, ◌∙◌, subst, cond, inl, inr, IfSome, is_some}
use Rattle.std.proofs.lemmas.List.{set-set}
use Rattle.std.proofs.lemmas.Bool.{false≢true}
use Rattle.std.proofs.lemmas.Bool.Decides.{eqb_tells}
use Rattle.sdd_world.specs.State.{State, value_at, cell_at, with_cell}
use Rattle.sdd_world.specs.Place.{IsSharedCell}
use Rattle.sdd_world.specs.declared.tag.Tag.{Tag}
use Rattle.sdd_world.specs.declared.status.Cell.{Cell}
use Rattle.sdd_world.specs.declared.status.Cell.TheVariants as cell
use Rattle.sdd_lists.specs.Chain.{Entry, slots, links, IsOut, IsItem, IsList, Leaves, first_slot, undeleted, deleted}
use Rattle.sdd_lists.specs.Nodes.{NamesEntry, NamesSomeEntry, IsListed, Retags, retagged, HasSlot}
use Rattle.sdd_lists.proofs.ChainLemmas.{cell_left, item_left, leaves_write, leaves_all, out_of_none, wrote_same, inside_cells, some_same, the_same, hung_out, hung_first, kept_same, rehung, some_nothing}
use Rattle.sdd_lists.proofs.ReleaseLemmas.{out_of_one}

pub retagged_links : {L : Type 0} (i j : ℕ) (u : Tag) (es : List (Entry L)) → IsOut j (links es) → IsOut j (links (retagged i u es))
retagged_links i j u [] out = tt
retagged_links i j u (e ∷ es) out = elim (e.slot == i) as (λ v. IsOut j (links (cond v (record e { tag = u } ∷ es) (e ∷ retagged i u es)))) [ true ↦ out | false ↦ (out.0, retagged_links i j u es out.1) ]

pub retagged_slots : {L : Type 0} (i j : ℕ) (u : Tag) (es : List (Entry L)) → IsOut j (slots es) → IsOut j (slots (retagged i u es))
retagged_slots i j u [] out = tt
retagged_slots i j u (e ∷ es) out = elim (e.slot == i) as (λ v. IsOut j (slots (cond v (record e { tag = u } ∷ es) (e ∷ retagged i u es)))) [ true ↦ out | false ↦ (out.0, retagged_slots i j u es out.1) ]

module _ {L : Type 0} (link : L → Option ℕ) where
  -- what is read there is the entry's item
  pub node_item : (w : State L) (o : Option ℕ) (e : Entry L) (item : L) → NamesEntry link w o e → ((i : ℕ) → o ≡ Some i → Some item ≡ value_at w i) → link item ≡ Some e.link
  node_item w o e item n read = ap link (the_same item e.item (read e.slot n.names ∙ n.item.here)) ∙ n.item.linked

  pub node_cell : (w : State L) (o : Option ℕ) (e : Entry L) (d : ℕ) → NamesEntry link w o e → d ≡ e.link → IsSharedCell w d
  node_cell w o e d n at = subst (λ (j : ℕ). IsSharedCell w j) (sym at) (record { inside = inside_cells w.cells e.link n.next e.tag n.kept; item = n.next; tag = e.tag; is = n.kept })

  -- an item has one link
  module _ (w : State L) (e : Entry L) (k : IsItem link w e) where
    pub same_link : (f : Entry L) → IsItem link w f → f.slot ≡ e.slot → f.link ≡ e.link
    same_link f h at = some_same f.link e.link (sym h.linked ∙ ap link (the_same f.item e.item (sym h.here ∙ ap (λ (i : ℕ). value_at w i) at ∙ k.here)) ∙ k.linked)

    -- a cell that no link of a list with the entry is, isn't the entry's link
    pub link_in : (a b : ℕ) (t : Tag) (es : List (Entry L)) → IsList link w b t es → HasSlot e.slot es → IsOut a (links es) → a ≢ e.link
    link_in a b t [] h has out = absurd (has tt)
    link_in a b t (f ∷ fs) h has out = elim (eqb_tells f.slot e.slot) [
      | inl q ↦ subst (λ (j : ℕ). a ≢ j) (same_link f h.1 q.1) out.0
      | inr q ↦ link_in a f.link f.tag fs h.4 (λ rest. has (λ p. q.1 (sym p), rest)) out.1
    ]

  module _ (w w' : State L) (e : Entry L) (u : Tag) (o : Option ℕ) (n : NamesEntry link w o e) (is : w' ≡ with_cell e.link (cell.OfShared n.next u) w) where
    pub retag_leaves : Leaves (e.link ∷ []) [] w w'
    retag_leaves = subst (λ (v : State L). Leaves (e.link ∷ []) [] w v) (sym is) (leaves_write (e.link ∷ []) [] w w e.link (cell.OfShared n.next u) (λ j out. out.0) (leaves_all (e.link ∷ []) [] w))

    now_kept : cell_at w' e.link ≡ cell.OfShared n.next u
    now_kept = ap (λ (v : State L). cell_at v e.link) is ∙ wrote_same w e.link (cell.OfShared n.next u) (inside_cells w.cells e.link n.next e.tag n.kept)

    item_now : (f : Entry L) → IsItem link w f → IsItem link w' f
    item_now f h = item_left link (e.link ∷ []) [] w w' f retag_leaves tt h

    retag_first : (c : ℕ) (t : Tag) (f : Entry L) (fs : List (Entry L)) → IsList link w c t (f ∷ fs) → f.slot ≡ e.slot → IsList link w' c t (record f { tag = u } ∷ fs)
    retag_first c t f fs h at =
        let same = same_link w e n.item f h.1 at in
        let next : n.next ≡ first_slot fs = kept_same n.next (first_slot fs) e.tag f.tag (sym n.kept ∙ ap (λ (j : ℕ). cell_at w j) (sym same) ∙ hung_first link w f.link f.tag fs h.4) in
        let out : IsOut f.link (links fs) = hung_out link w f.link f.tag fs h.4 in
        let now : cell_at w' f.link ≡ cell.OfShared (first_slot fs) u = ap (λ (j : ℕ). cell_at w' j) same ∙ now_kept ∙ ap (λ (p : Option ℕ). cell.OfShared p u) next in
        let i = item_now f h.1 in (
          cell_left link (e.link ∷ []) [] w w' c (Some f.slot) t retag_leaves (subst (λ (j : ℕ). c ≢ j) same h.2.0, tt) h.0,
          record { owners = i.owners; shared = i.shared; owned = i.owned; here = i.here; linked = i.linked },
          h.2,
          h.3,
          rehung link (e.link ∷ []) [] w w' f.link f.link f.tag u fs h.4 now retag_leaves (out_of_one (links fs) e.link (subst (λ (j : ℕ). IsOut j (links fs)) same out)) (out_of_none (slots fs)) out,
        )

    pub retag_hung : (c : ℕ) (t : Tag) (es : List (Entry L)) → IsList link w c t es → HasSlot e.slot es → IsList link w' c t (retagged e.slot u es)
    retag_hung c t [] h has = absurd (has tt)
    retag_hung c t (f ∷ fs) h has = elim (eqb_tells f.slot e.slot) [
      | inl q ↦ subst (λ (b : Bool). IsList link w' c t (cond b (record f { tag = u } ∷ fs) (f ∷ retagged e.slot u fs))) (sym q.0) (retag_first c t f fs h q.1)
      | inr q ↦
          let rest : HasSlot e.slot fs = λ out. has (λ p. q.1 (sym p), out) in
          let ne : c ≢ e.link = link_in w e n.item c f.link f.tag fs h.4 rest h.2.1 in
          let all : IsList link w' c t (f ∷ retagged e.slot u fs) = (
            cell_left link (e.link ∷ []) [] w w' c (Some f.slot) t retag_leaves (ne, tt) h.0,
            item_now f h.1,
            (h.2.0, retagged_links e.slot c u fs h.2.1),
            retagged_slots e.slot f.slot u fs h.3,
            retag_hung f.link f.tag fs h.4 rest,
          ) in
          subst (λ (b : Bool). IsList link w' c t (cond b (record f { tag = u } ∷ fs) (f ∷ retagged e.slot u fs))) (sym q.0) all
    ]

    pub retag_behind : (es : List (Entry L)) → IsList link w e.link e.tag es → IsList link w' e.link u es
    retag_behind es h =
        let next : n.next ≡ first_slot es = kept_same n.next (first_slot es) e.tag e.tag (sym n.kept ∙ hung_first link w e.link e.tag es h) in
        let out : IsOut e.link (links es) = hung_out link w e.link e.tag es h in
        rehung link (e.link ∷ []) [] w w' e.link e.link e.tag u es h (now_kept ∙ ap (λ (p : Option ℕ). cell.OfShared p u) next) retag_leaves (out_of_one (links es) e.link out) (out_of_none (slots es)) out

    pub retags : Retags link w w' e u
    retags =
        let i = item_now e n.item in
        record { node = record { names = refl; item = record { owners = i.owners; shared = i.shared; owned = i.owned; here = i.here; linked = i.linked }; next = n.next; kept = now_kept }; lists = retag_hung; behind = retag_behind }

-- a cell was emptied with a new tag, and filled again
pub set_state : {L : Type 0} (w w1 w2 : State L) (d d2 l : ℕ) (o r : Option ℕ) (t t' u : Tag) → d ≡ l → d2 ≡ l → cell_at w l ≡ cell.OfShared o t → cell_at w d ≡ cell.OfShared r t' → w1 ≡ with_cell d (cell.OfShared None u) w → ((v : Tag) → cell_at w1 d2 ≡ cell.OfShared None v → w2 ≡ with_cell d2 (cell.OfShared r v) w1) → w2 ≡ with_cell l (cell.OfShared o u) w
set_state {L} w w1 w2 d d2 l o r t t' u at at2 kept was e1 filled =
    let same : r ≡ o = kept_same r o t' t (sym was ∙ ap (λ (j : ℕ). cell_at w j) at ∙ kept) in
    let e : w1 ≡ with_cell l (cell.OfShared None u) w = e1 ∙ ap (λ (j : ℕ). with_cell j (cell.OfShared None u) w) at in
    let empty : cell_at w1 d2 ≡ cell.OfShared None u = ap (λ (j : ℕ). cell_at w1 j) at2 ∙ ap (λ (v : State L). cell_at v l) e ∙ wrote_same w l (cell.OfShared None u) (inside_cells w.cells l o t kept) in
    let twice : with_cell l (cell.OfShared o u) (with_cell l (cell.OfShared None u) w) ≡ with_cell l (cell.OfShared o u) w = ap (λ (cs : List Cell). record w { cells = cs }) (set-set w.cells l (cell.OfShared None u) (cell.OfShared o u)) in
    filled u empty ∙ ap (λ (j : ℕ). with_cell j (cell.OfShared r u) w1) at2 ∙ ap (λ (p : Option ℕ). with_cell l (cell.OfShared p u) w1) same ∙ ap (λ (v : State L). with_cell l (cell.OfShared o u) v) e ∙ twice

-- the first entry of a list is one that a pointer may name
module _ {L : Type 0} (link : L → Option ℕ) where
  first_node : (w : State L) (c i : ℕ) (t : Tag) (es : List (Entry L)) → IsList link w c t es → first_slot es ≡ Some i → NamesSomeEntry link w (Some i)
  first_node w c i t [] h is = absurd (some_nothing i (sym is))
  first_node w c i t (e ∷ es) h is = record { entry = e; is = record { names = sym is; item = h.1; next = first_slot es; kept = hung_first link w e.link e.tag es h.4 } }

  node_by : (w : State L) (c : ℕ) (t : Tag) (es : List (Entry L)) → IsList link w c t es → (o : Option ℕ) → first_slot es ≡ o → IfSome o (λ i. NamesSomeEntry link w (Some i))
  node_by w c t es h None is = tt
  node_by w c t es h (Some i) is = first_node w c i t es h is

  pub hung_node : (w : State L) (c : ℕ) (t u : Tag) (es : List (Entry L)) → IsList link w c t es → (o : Option ℕ) → cell_at w c ≡ cell.OfShared o u → IfSome o (λ i. NamesSomeEntry link w (Some i))
  hung_node w c t u es h o kept = node_by w c t es h o (kept_same (first_slot es) o t u (sym (hung_first link w c t es h) ∙ kept))

-- some list hangs behind the first entry of a list
module _ {L : Type 0} (link : L → Option ℕ) where
  first_listed : (w : State L) (c i : ℕ) (t : Tag) (es : List (Entry L)) → IsList link w c t es → first_slot es ≡ Some i → IsListed link w (Some i)
  first_listed w c i t [] h is = absurd (some_nothing i (sym is))
  first_listed w c i t (e ∷ es) h is = record { entry = e; rest = es; is = record { names = sym is; item = h.1; next = first_slot es; kept = hung_first link w e.link e.tag es h.4 }; hung = h.4 }

  listed_by : (w : State L) (c : ℕ) (t : Tag) (es : List (Entry L)) → IsList link w c t es → (o : Option ℕ) → first_slot es ≡ o → IfSome o (λ i. IsListed link w (Some i))
  listed_by w c t es h None is = tt
  listed_by w c t es h (Some i) is = first_listed w c i t es h is

  pub hung_listed : (w : State L) (c : ℕ) (t u : Tag) (es : List (Entry L)) → IsList link w c t es → (o : Option ℕ) → cell_at w c ≡ cell.OfShared o u → IfSome o (λ i. IsListed link w (Some i))
  hung_listed w c t u es h o kept = listed_by w c t es h o (kept_same (first_slot es) o t u (sym (hung_first link w c t es h) ∙ kept))

pub has_first : {L : Type 0} (i : ℕ) (es : List (Entry L)) → first_slot (undeleted es) ≡ Some i → HasSlot i es
has_first i [] is = absurd (some_nothing i (sym is))
has_first i (e ∷ es) is = (elim (deleted e.tag) as (λ v. first_slot (cond v (undeleted es) (e ∷ undeleted es)) ≡ Some i → HasSlot i (e ∷ es)) [ true ↦ λ k out. has_first i es k out.1 | false ↦ λ k out. out.0 (sym (some_same e.slot i k)) ]) is

-- the first undeleted entry was given another tag, or not: some list hangs there still
module _ {L : Type 0} (link : L → Option ℕ) (w w' : State L) (c : ℕ) (t u : Tag) (es : List (Entry L)) (h : IsList link w c t es) where
  pub record Hung : Type 0 where
    pub entries : List (Entry L)
    pub is : IsList link w' c t entries

  retagged_by : (o : Option ℕ) (i : ℕ) → o ≡ Some i → o ≡ first_slot (undeleted es) → (n : NamesSomeEntry link w (Some i)) → (r : Bool) → (r ≡ true → (e : Entry L) → NamesEntry link w o e → Retags link w w' e u) → (r ≡ false → w' ≡ w) → Hung
  retagged_by o i is first n true did kept =
      let m = n.is in
      let node : NamesEntry link w o n.entry = record { names = is ∙ m.names; item = m.item; next = m.next; kept = m.kept } in
      let at : first_slot (undeleted es) ≡ Some n.entry.slot = sym first ∙ is ∙ m.names in
      record { entries = retagged n.entry.slot u es; is = (did refl n.entry node).lists c t es h (has_first n.entry.slot es at) }
  retagged_by o i is first n false did kept = record { entries = es; is = subst (λ (v : State L). IsList link v c t es) (sym (kept refl)) h }

  pub retagged_first : (o : Option ℕ) → o ≡ first_slot (undeleted es) → IfSome o (λ i. NamesSomeEntry link w (Some i)) → true ≡ is_some o → (r : Bool) → (r ≡ true → (e : Entry L) → NamesEntry link w o e → Retags link w w' e u) → (r ≡ false → w' ≡ w) → Hung
  retagged_first None first n some r did kept = absurd (false≢true (sym some))
  retagged_first (Some i) first n some r did kept = retagged_by (Some i) i refl first n r did kept

-- what holds of the pointer of a list that isn't null
pub not_null : (P : Option ℕ → Type 0) (o : Option ℕ) → true ≡ is_some o → IfSome o (λ i. P (Some i)) → P o
not_null P None some h = absurd (false≢true (sym some))
not_null P (Some i) some h = h
