-- queues, as their calls change them
use Rattle.world_containers.proofs.Names.{◌≡◌, ◌≢◌, ◌≤◌, ℕ, ◌<◌, ◌+◌, ◌-◌, true, false, Option, None, Some, List, [], ◌∷◌, length, refl, sym, ap, ◌∙◌, arith, subst, cond, length-set, inl, inr, get_or-set_same, State, status_at, cell_at, with_cell, emptiness, vacancy, IsFreeCell, released, IsShared, IsSharedCell, Tag, Entry, slots, links, IsOut, AreOut, IsItem, IsList, IsDetached, Leaves, SameUses, skip, undeleted, deleted, first_slot, MoreOwners, OneMore, last_slot, HasTwo, IsQueue, Follows, CanFollow, cell_vacated, IsNew, IsMade, entry_link, LinkedEntry, hung_left, cell_left, item_left, leaves_then, leaves_more, leaves_all, leaves_write, out_of_none, wrote_same, wrote_other, inside_cells, inside_states, some_same, head_cell, kept_same, free_cell_out, free_slot_out, leaves_free, first_skipped, first_none, TookSome, popped_left, popped_gone, popped_leaves, skipped_links, none_skipped, leaves_released, spare_owner, spare_item, spare_state, out_of_one}
use Rattle.std.proofs.lemmas.Bool.Decides.{eqb_tells}
use Rattle.sdd_world.specs.declared.tag.Tag.TheVariants as tag
use Rattle.sdd_world.specs.declared.status.Status.TheVariants as status
use Rattle.sdd_world.specs.declared.status.Cell.TheVariants as cell
use Rattle.sdd_lists.proofs.ShareLemmas.{shared_same}

pub two_shared : {L : Type 0} (w : State L) (i : ℕ) → HasTwo w i → IsShared w i
two_shared w i h = record { inside = inside_states w.states i h.owners h.is; owners = h.owners; is = h.is }

nothing_some : (j : ℕ) → ◌≡◌ {A = Option ℕ} None (Some j) → ⊥
nothing_some j q = cc

last_in : {L : Type 0} (es : List (Entry L)) (i j : ℕ) → last_slot es ≡ Some i → IsOut j (slots es) → j ≢ i
last_in [] i j is out = λ q. absurd (nothing_some i is)
last_in (e ∷ []) i j is out = subst (λ (k : ℕ). j ≢ k) (some_same e.slot i is) out.0
last_in (e ∷ f ∷ es) i j is out = last_in (f ∷ es) i j is out.1

last_apart : {L : Type 0} (es : List (Entry L)) (i : ℕ) (is : List ℕ) → last_slot es ≡ Some i → AreOut (slots es) is → IsOut i is
last_apart [] i is at out = absurd (nothing_some i at)
last_apart (e ∷ []) i is at out = subst (λ (k : ℕ). IsOut k is) (some_same e.slot i at) out.0
last_apart (e ∷ f ∷ es) i is at out = last_apart (f ∷ es) i is at out.1

module _ {L : Type 0} (link : L → Option ℕ) where
  -- what a queue needs where its list is empty
  pub empty_queue : (w : State L) (c d : ℕ) → cell_at w c ≡ cell.OfShared None tag.None → cell_at w d ≡ cell.OfShared None tag.None → d ≢ c → IsQueue link w c d []
  empty_queue w c d h k ne = record { hung = h; newest = k; apart = ne; out = tt; spare = λ i q. absurd (nothing_some i q) }

  -- a queue stays where its cells and items are left alone
  pub queue_stays : (cs is : List ℕ) (c d : ℕ) (es : List (Entry L)) (w w1 : State L) → Leaves cs is w w1 → IsOut c cs → IsOut d cs → AreOut (links es) cs → AreOut (slots es) is → IsQueue link w c d es → IsQueue link w1 c d es
  queue_stays cs is c d es w w1 l out out' outs apart q = record {
    hung = hung_left link cs is w w1 c tag.None es l out outs apart q.hung;
    newest = cell_left link cs is w w1 d (last_slot es) tag.None l out' q.newest;
    apart = q.apart;
    out = q.out;
    spare = λ i at. let h = q.spare i at in record { owners = h.owners; is = l.uses i (last_apart es i is at apart) (ap vacancy h.is) ∙ h.is; two = h.two };
  }

  pub queue_left : (w w1 : State L) (c d : ℕ) (es : List (Entry L)) → Leaves [] [] w w1 → IsQueue link w c d es → IsQueue link w1 c d es
  queue_left w w1 c d es l q = queue_stays [] [] c d es w w1 l tt tt (out_of_none (links es)) (out_of_none (slots es)) q

  newest_shared : (w : State L) (c d : ℕ) (es : List (Entry L)) → IsQueue link w c d es → (i : ℕ) → cell_at w d ≡ cell.OfShared (Some i) tag.None → HasTwo w i
  newest_shared w c d es q i k = q.spare i (kept_same (last_slot es) (Some i) tag.None tag.None (sym q.newest ∙ k))

  pub newest_live : (w : State L) (c d : ℕ) (es : List (Entry L)) → IsQueue link w c d es → (i : ℕ) → cell_at w d ≡ cell.OfShared (Some i) tag.None → IsShared w i
  newest_live w c d es q i k = two_shared w i (newest_shared w c d es q i k)

  -- the newest cell was emptied
  forgot_as : (p c d : ℕ) (o : Option ℕ) (es : List (Entry L)) (w : State L) → IsQueue link w c d es → last_slot es ≡ o → IsList link (cell_vacated p d o w) c tag.None es × (cell_at (cell_vacated p d o w) d ≡ cell.OfShared None tag.None) × Leaves (d ∷ []) (slots es) w (cell_vacated p d o w)
  forgot_as p c d None es w q is =
      let v : State L = with_cell d (cell.OfShared None tag.None) w in
      let l : Leaves (d ∷ []) [] w v = leaves_write (d ∷ []) [] w w d (cell.OfShared None tag.None) (λ j out. out.0) (leaves_all (d ∷ []) [] w) in
      let inside : d < length w.cells = inside_cells w.cells d (last_slot es) tag.None q.newest in (
        hung_left link (d ∷ []) [] w v c tag.None es l (λ e. q.apart (sym e), tt) (out_of_one (links es) d q.out) (out_of_none (slots es)) q.hung,
        wrote_same w d (cell.OfShared None tag.None) inside,
        leaves_more (d ∷ []) [] (d ∷ []) (slots es) w v (λ j out. out) (λ j out. tt) l,
      )
  forgot_as p c d (Some i) es w q is =
      let v : State L = with_cell d (cell.OfShared None tag.None) w in
      let two = q.spare i is in
      let l : Leaves (d ∷ []) [] w v = leaves_write (d ∷ []) [] w w d (cell.OfShared None tag.None) (λ j out. out.0) (leaves_all (d ∷ []) [] w) in
      let inside : d < length w.cells = inside_cells w.cells d (last_slot es) tag.None q.newest in
      let hung : IsList link v c tag.None es = hung_left link (d ∷ []) [] w v c tag.None es l (λ e. q.apart (sym e), tt) (out_of_one (links es) d q.out) (out_of_none (slots es)) q.hung in
      let r = leaves_released p i v in (
        spare_owner link p i two.owners c tag.None es v two.is two.two hung,
        cell_left link [] (i ∷ []) v (released p i v) d None tag.None r tt (wrote_same w d (cell.OfShared None tag.None) inside),
        leaves_then (d ∷ []) (slots es) w v (released p i v) (leaves_more (d ∷ []) [] (d ∷ []) (slots es) w v (λ j out. out) (λ j out. tt) l) (leaves_more [] (i ∷ []) (d ∷ []) (slots es) v (released p i v) (λ j out. tt) (λ j out. (last_in es i j is out, tt)) r),
      )

  pub record Forgot (w w1 : State L) (c d : ℕ) (es : List (Entry L)) : Type 0 where
    pub hung : IsList link w1 c tag.None es
    pub newest : cell_at w1 d ≡ cell.OfShared None tag.None
    pub leaves : Leaves (d ∷ []) (slots es) w w1

  pub forgot : (p c d : ℕ) (es : List (Entry L)) (w w1 : State L) → IsQueue link w c d es → w1 ≡ cell_vacated p d (last_slot es) w → Forgot w w1 c d es
  forgot p c d es w w1 q e =
      let r = forgot_as p c d (last_slot es) es w q refl in
      subst (λ (v : State L). Forgot w v c d es) (sym e) (record { hung = r.0; newest = r.1; leaves = r.2 })

  -- nothing undeleted was left, and the rest was given back too
  pub emptied : (w w1 w2 : State L) (c d : ℕ) (es : List (Entry L)) → IsQueue link w c d es → Forgot w w1 c d es → undeleted es ≡ [] → IsList link w2 c tag.None (skip es) → Leaves (c ∷ links es) (slots es) w1 w2 → IsQueue link w2 c d []
  emptied w w1 w2 c d es q f none h l =
      let e : skip es ≡ [] = first_none (skip es) (first_skipped es ∙ ap first_slot none) in
      empty_queue w2 c d (subst (λ (xs : List (Entry L)). IsList link w2 c tag.None xs) e h) (cell_left link (c ∷ links es) (slots es) w1 w2 d None tag.None l (q.apart, q.out) f.newest) q.apart

  pub emptied_leaves : (w w1 w2 : State L) (c d : ℕ) (es : List (Entry L)) → Forgot w w1 c d es → Leaves (c ∷ links es) (slots es) w1 w2 → Leaves (c ∷ d ∷ links es) (slots es) w w2
  emptied_leaves w w1 w2 c d es f l = leaves_then (c ∷ d ∷ links es) (slots es) w w1 w2 (leaves_more (d ∷ []) (slots es) (c ∷ d ∷ links es) (slots es) w w1 (λ j out. (out.1.0, tt)) (λ j out. out) f.leaves) (leaves_more (c ∷ links es) (slots es) (c ∷ d ∷ links es) (slots es) w1 w2 (λ j out. (out.0, out.1.1)) (λ j out. out) l)

-- a new entry can come behind any queue
module _ {T : Type 0} (w w1 : State (LinkedEntry T)) (c d : ℕ) (v : T) where
  pub new_follows : (e : Entry (LinkedEntry T)) (es : List (Entry (LinkedEntry T))) → IsQueue entry_link w c d es → IsNew w v e → Follows c d es e
  new_follows e es q n =
      let out = free_cell_out entry_link w e.link c tag.None es n.link.1 q.hung in
      record {
        oldest = out.0;
        newest = λ p. absurd (let a : emptiness (cell_at w d) ≡ 1 = ap (λ (i : ℕ). emptiness (cell_at w i)) (sym p) ∙ ap emptiness n.link.1 in let b : emptiness (cell_at w d) ≡ 0 = ap emptiness q.newest in omega (arith, a, b));
        link = out.1;
        slot = free_slot_out entry_link w e.slot c tag.None es n.slot.1 q.hung;
      }

  pub can_follow : (i i' : ℕ) (es : List (Entry (LinkedEntry T))) → IsQueue entry_link w c d es → IsMade w w1 v i → i' ≡ i → Leaves [] [] w w1 → CanFollow entry_link w1 c d i'
  can_follow i i' es q m same l = record { entries = es; entry = m.entry; queue = queue_left entry_link w w1 c d es l q; loose = m.loose; follows = new_follows m.entry es q m.new; at = same ∙ m.at }

  pub append_leaves : (w2 : State (LinkedEntry T)) (e : ℕ) (cs is : List ℕ) → Leaves [] [] w w1 → Leaves (e ∷ cs) is w1 w2 → cell_at w e ≡ cell.Free → Leaves cs is w w2
  append_leaves w2 e cs is l k free = leaves_free cs is e w w2 free (leaves_then (e ∷ cs) is w w1 w2 (leaves_more [] [] (e ∷ cs) is w w1 (λ j out. tt) (λ j out. tt) l) k)

-- the second of two cells wasn't free
module _ {L : Type 0} (w w1 : State L) (c : ℕ) (t : Tag) (e : w1 ≡ with_cell c (cell.OfShared None t) w) (none : (d : ℕ) → d < length w1.cells → cell_at w1 d ≢ cell.Free) where
  only_cell : (a : ℕ) → IsFreeCell w a → a ≡ c
  only_cell a free = elim (eqb_tells a c) [
    | inl q ↦ q.1
    | inr q ↦
        let cells : length w1.cells ≡ length w.cells = ap (λ (s : State L). length s.cells) e ∙ length-set w.cells c (cell.OfShared None t) in
        absurd (none a (omega (arith, cells, free.0)) (ap (λ (s : State L). cell_at s a) e ∙ wrote_other w c a (cell.OfShared None t) q.1 ∙ free.1))
  ]

  pub one_cell : (a b : ℕ) → IsFreeCell w a → IsFreeCell w b → a ≡ b
  one_cell a b fa fb = only_cell a fa ∙ sym (only_cell b fb)

last_skipped : {L : Type 0} (f : Entry L) (fs es : List (Entry L)) → skip es ≡ f ∷ fs → last_slot es ≡ last_slot (f ∷ fs)
last_skipped {L} f fs [] h = absurd (nil_cons h)
  where
    nil_cons : ◌≡◌ {A = List (Entry L)} [] (f ∷ fs) → ⊥
    nil_cons k = cc
last_skipped {L} f fs (e ∷ []) h = (elim (deleted e.tag) as (λ v. cond v [] (e ∷ []) ≡ f ∷ fs → Some e.slot ≡ last_slot (f ∷ fs)) [ true ↦ λ k. absurd (nil_cons k) | false ↦ λ k. ap last_slot k ]) h
  where
    nil_cons : ◌≡◌ {A = List (Entry L)} [] (f ∷ fs) → ⊥
    nil_cons k = cc
last_skipped {L} f fs (e ∷ g ∷ es) h = (elim (deleted e.tag) as (λ v. cond v (skip (g ∷ es)) (e ∷ g ∷ es) ≡ f ∷ fs → last_slot (g ∷ es) ≡ last_slot (f ∷ fs)) [ true ↦ last_skipped f fs (g ∷ es) | false ↦ λ k. ap last_slot k ]) h

same_last : {L : Type 0} (w w1 : State L) (j : ℕ) (xs : List (Entry L)) → SameUses w w1 (slots xs) → last_slot xs ≡ Some j → status_at w1 j ≡ status_at w j
same_last w w1 j [] s is = absurd (nothing_some j is)
same_last w w1 j (e ∷ []) s is = subst (λ (i : ℕ). status_at w1 i ≡ status_at w i) (some_same e.slot j is) s.0
same_last w w1 j (e ∷ f ∷ es) s is = same_last w w1 j (f ∷ es) s.1 is

-- after a queue's first undeleted entry was taken off and marked
module _ {L : Type 0} (link : L → Option ℕ) (w w1 w2 w3 : State L) (c d i p : ℕ) (es : List (Entry L)) (q : IsQueue link w c d es) (same : SameUses w w1 (slots (skip es))) (l : Leaves (c ∷ links es) (slots es) w w1) (k : TookSome link w1 w2 c i tag.None (skip es)) (is : w3 ≡ with_cell k.entry.link (cell.OfShared None tag.Second) w2) where
  before3 : Leaves (c ∷ links es) (slots es) w w3
  before3 = popped_leaves link w1 w2 w3 c i tag.None (skip es) k is w es refl l

  pub newest3 : cell_at w3 d ≡ cell.OfShared (last_slot es) tag.None
  newest3 = cell_left link (c ∷ links es) (slots es) w w3 d (last_slot es) tag.None before3 (q.apart, q.out) q.newest

  left3 : IsList link w3 c tag.None k.rest
  left3 = popped_left link w1 w2 w3 c i tag.None (skip es) k is

  gone3 : IsDetached link w3 (record k.entry { tag = tag.Second })
  gone3 = popped_gone link w1 w2 w3 c i tag.None (skip es) k is

  last3 : last_slot es ≡ last_slot (k.entry ∷ k.rest)
  last3 = last_skipped k.entry k.rest es k.is

  out3 : IsOut d (links (k.entry ∷ k.rest))
  out3 = subst (λ (xs : List (Entry L)). IsOut d (links xs)) k.is (skipped_links d es q.out)

  two3 : (j : ℕ) → last_slot es ≡ Some j → HasTwo w3 j
  two3 j at =
      let h = q.spare j at in
      let one = same_last w w1 j (skip es) same (ap last_slot k.is ∙ sym last3 ∙ at) ∙ h.is in
      let second = k.leaves.uses j tt (ap vacancy one) ∙ one in
      record { owners = h.owners; is = ap (λ (v : State L). status_at v j) is ∙ second; two = h.two }

  pub live3 : (j : ℕ) → cell_at w3 d ≡ cell.OfShared (Some j) tag.None → IsShared w3 j
  live3 j at = two_shared w3 j (two3 j (kept_same (last_slot es) (Some j) tag.None tag.None (sym newest3 ∙ at)))

  pub head3 : IsSharedCell w3 c
  head3 = head_cell link w3 c tag.None k.rest left3

  pub record Settled (w4 : State L) : Type 0 where
    pub queue : IsQueue link w4 c d k.rest
    pub gone : IsDetached link w4 (record k.entry { tag = tag.Second })
    pub leaves : Leaves (c ∷ d ∷ links es) (slots es) w w4

  wider : Leaves (c ∷ d ∷ links es) (slots es) w w3
  wider = leaves_more (c ∷ links es) (slots es) (c ∷ d ∷ links es) (slots es) w w3 (λ j out. (out.0, out.1.1)) (λ j out. out) before3

  -- there are more
  settled_more : (f : Entry L) (fs : List (Entry L)) → k.rest ≡ f ∷ fs → Settled w3
  settled_more f fs more =
      let last : last_slot es ≡ last_slot k.rest = last3 ∙ ap (λ (xs : List (Entry L)). last_slot (k.entry ∷ xs)) more ∙ ap last_slot (sym more) in
      record {
        queue = record { hung = left3; newest = newest3 ∙ ap (λ (o : Option ℕ). cell.OfShared o tag.None) last; apart = q.apart; out = out3.1; spare = λ j at. two3 j (last ∙ at) };
        gone = gone3;
        leaves = wider;
      }

  -- that was the last one
  settled_none : k.rest ≡ [] → Settled (cell_vacated p d (last_slot es) w3)
  settled_none none =
      let last : last_slot es ≡ Some k.entry.slot = last3 ∙ ap (λ (xs : List (Entry L)). last_slot (k.entry ∷ xs)) none in
      let v : State L = with_cell d (cell.OfShared None tag.None) w3 in
      let w4 : State L = released p k.entry.slot v in
      let two = two3 k.entry.slot last in
      let wrote : Leaves (d ∷ []) [] w3 v = leaves_write (d ∷ []) [] w3 w3 d (cell.OfShared None tag.None) (λ j out. out.0) (leaves_all (d ∷ []) [] w3) in
      let l4 = leaves_released p k.entry.slot v in
      let empty : cell_at w3 c ≡ cell.OfShared None tag.None = subst (λ (xs : List (Entry L)). IsList link w3 c tag.None xs) none left3 in
      let c4 = cell_left link [] (k.entry.slot ∷ []) v w4 c None tag.None l4 tt (cell_left link (d ∷ []) [] w3 v c None tag.None wrote (λ e. q.apart (sym e), tt) empty) in
      let d4 = cell_left link [] (k.entry.slot ∷ []) v w4 d None tag.None l4 tt (wrote_same w3 d (cell.OfShared None tag.None) (inside_cells w3.cells d (last_slot es) tag.None newest3)) in
      let e : Entry L = record k.entry { tag = tag.Second } in
      let gone4 = cell_left link [] (k.entry.slot ∷ []) v w4 e.link None tag.Second l4 tt (cell_left link (d ∷ []) [] w3 v e.link None tag.Second wrote (λ j. out3.0 (sym j), tt) gone3.empty) in
      let item : IsItem link v e = item_left link (d ∷ []) [] w3 v e wrote tt gone3.item in
      let result : Settled w4 = record {
        queue = subst (λ (xs : List (Entry L)). IsQueue link w4 c d xs) (sym none) (empty_queue link w4 c d c4 d4 q.apart);
        gone = record { item = spare_item link p k.entry.slot two.owners v e two.is two.two item; empty = gone4 };
        leaves = leaves_then (c ∷ d ∷ links es) (slots es) w v w4 (leaves_then (c ∷ d ∷ links es) (slots es) w w3 v wider (leaves_more (d ∷ []) [] (c ∷ d ∷ links es) (slots es) w3 v (λ j out. (out.1.0, tt)) (λ j out. tt) wrote)) (leaves_more [] (k.entry.slot ∷ []) (c ∷ d ∷ links es) (slots es) v w4 (λ j out. tt) (λ j out. (last_in es k.entry.slot j last out, tt)) l4);
      } in
      subst (λ (o : Option ℕ). Settled (cell_vacated p d o w3)) (sym last) result

  settled_by : (w4 : State L) → ((j : ℕ) (t : Tag) → cell_at w3 c ≡ cell.OfShared (Some j) t → w4 ≡ w3) → ((o : Option ℕ) (t : Tag) → cell_at w3 c ≡ cell.OfShared None t → cell_at w3 d ≡ cell.OfShared o tag.None → w4 ≡ cell_vacated p d o w3) → (xs : List (Entry L)) → k.rest ≡ xs → Settled w4
  settled_by w4 some none [] e = subst Settled (sym (none (last_slot es) tag.None (subst (λ (xs : List (Entry L)). IsList link w3 c tag.None xs) e left3) newest3)) (settled_none e)
  settled_by w4 some none (f ∷ fs) e = subst Settled (sym (some f.slot tag.None (subst (λ (xs : List (Entry L)). IsList link w3 c tag.None xs) e left3).0)) (settled_more f fs e)

  pub settled : (w4 : State L) → ((j : ℕ) (t : Tag) → cell_at w3 c ≡ cell.OfShared (Some j) t → w4 ≡ w3) → ((o : Option ℕ) (t : Tag) → cell_at w3 c ≡ cell.OfShared None t → cell_at w3 d ≡ cell.OfShared o tag.None → w4 ≡ cell_vacated p d o w3) → Settled w4
  settled w4 some none = settled_by w4 some none k.rest refl

-- one owner of at least three is given back
module _ {L : Type 0} (link : L → Option ℕ) where
  spare_two : (p i n j : ℕ) (w : State L) → status_at w i ≡ status.Shared n → 3 ≤ n → HasTwo w j → HasTwo (released p i w) j
  spare_two p i n j w is more h = elim (eqb_tells j i) [
    | inl q ↦
        let at : status_at (released p i w) i ≡ status.Shared (n - 1) = ap (λ (v : State L). status_at v i) (spare_state p i n w is (omega (arith, more))) ∙ get_or-set_same w.states i (status.Shared (n - 1)) status.Free (inside_states w.states i n is) in
        record { owners = n - 1; is = ap (λ (k : ℕ). status_at (released p i w) k) q.1 ∙ at; two = omega (arith, more) }
    | inr q ↦ record { owners = h.owners; is = (leaves_released p i w).uses j (q.1, tt) (ap vacancy h.is) ∙ h.is; two = h.two }
  ]

  pub spare_queue_owner : (p i n c d : ℕ) (es : List (Entry L)) (w : State L) → status_at w i ≡ status.Shared n → 3 ≤ n → IsQueue link w c d es → IsQueue link (released p i w) c d es
  spare_queue_owner p i n c d es w is more q = record {
    hung = spare_owner link p i n c tag.None es w is (omega (arith, more)) q.hung;
    newest = cell_left link [] (i ∷ []) w (released p i w) d (last_slot es) tag.None (leaves_released p i w) tt q.newest;
    apart = q.apart;
    out = q.out;
    spare = λ j at. spare_two p i n j w is more (q.spare j at);
  }

  -- an owner that was given comes back
  back_two : (p i j : ℕ) (w w' : State L) → OneMore w w' i → HasTwo w j → HasTwo w' j → HasTwo (released p i w') j
  back_two p i j w w' m h h' = elim (eqb_tells j i) [
    | inl q ↦
        let same : m.owners ≡ h.owners = shared_same m.owners h.owners (sym m.was ∙ ap (λ (k : ℕ). status_at w k) (sym q.1) ∙ h.is) in
        let at : status_at (released p i w') i ≡ status.Shared (m.owners + 1 - 1) = ap (λ (v : State L). status_at v i) (spare_state p i (m.owners + 1) w' m.now (let some = m.had in omega (arith, some))) ∙ get_or-set_same w'.states i (status.Shared (m.owners + 1 - 1)) status.Free (inside_states w'.states i (m.owners + 1) m.now) in
        record { owners = m.owners + 1 - 1; is = ap (λ (k : ℕ). status_at (released p i w') k) q.1 ∙ at; two = let t = h.two in omega (arith, same, t) }
    | inr q ↦ record { owners = h'.owners; is = (leaves_released p i w').uses j (q.1, tt) (ap vacancy h'.is) ∙ h'.is; two = h'.two }
  ]

  pub queue_back : (p i c d : ℕ) (es : List (Entry L)) (w w' : State L) → OneMore w w' i → IsQueue link w c d es → IsQueue link w' c d es → IsQueue link (released p i w') c d es
  queue_back p i c d es w w' m q q' = record {
    hung = spare_owner link p i (m.owners + 1) c tag.None es w' m.now (let some = m.had in omega (arith, some)) q'.hung;
    newest = cell_left link [] (i ∷ []) w' (released p i w') d (last_slot es) tag.None (leaves_released p i w') tt q'.newest;
    apart = q'.apart;
    out = q'.out;
    spare = λ j at. back_two p i j w w' m (q.spare j at) (q'.spare j at);
  }

  -- an owner of an item that isn't in the queue is given back
  pub queue_apart : (p i c d : ℕ) (es : List (Entry L)) (w : State L) → IsOut i (slots es) → IsQueue link w c d es → IsQueue link (released p i w) c d es
  queue_apart p i c d es w out q =
      let l = leaves_released p i w in
      record {
        hung = hung_left link [] (i ∷ []) w (released p i w) c tag.None es l tt (out_of_none (links es)) (out_of_one (slots es) i out) q.hung;
        newest = cell_left link [] (i ∷ []) w (released p i w) d (last_slot es) tag.None l tt q.newest;
        apart = q.apart;
        out = q.out;
        spare = λ j at. let h = q.spare j at in record { owners = h.owners; is = l.uses j (λ e. last_in es j i at out (sym e), tt) (ap vacancy h.is) ∙ h.is; two = h.two };
      }

-- a queue without the deleted entries at its front, and one whose entries got more owners
module _ {L : Type 0} (link : L → Option ℕ) (w w1 : State L) (c d : ℕ) (es : List (Entry L)) (q : IsQueue link w c d es) (l : Leaves (c ∷ links es) (slots es) w w1) where
  kept_newest : cell_at w1 d ≡ cell.OfShared (last_slot es) tag.None
  kept_newest = cell_left link (c ∷ links es) (slots es) w w1 d (last_slot es) tag.None l (q.apart, q.out) q.newest

  skipped_by : IsList link w1 c tag.None (skip es) → SameUses w w1 (slots (skip es)) → (xs : List (Entry L)) → skip es ≡ xs → undeleted es ≢ [] → IsQueue link w1 c d (skip es)
  skipped_by h same [] is some = absurd (some (none_skipped es is))
  skipped_by h same (f ∷ fs) is some =
      let last : last_slot es ≡ last_slot (skip es) = last_skipped f fs es is ∙ ap last_slot (sym is) in
      record {
        hung = h;
        newest = kept_newest ∙ ap (λ (o : Option ℕ). cell.OfShared o tag.None) last;
        apart = q.apart;
        out = skipped_links d es q.out;
        spare = λ j at. let k = q.spare j (last ∙ at) in record { owners = k.owners; is = same_last w w1 j (skip es) same at ∙ k.is; two = k.two };
      }

  pub skipped_queue : IsList link w1 c tag.None (skip es) → SameUses w w1 (slots (skip es)) → undeleted es ≢ [] → IsQueue link w1 c d (skip es)
  skipped_queue h same some = skipped_by h same (skip es) refl some

  pub owned_queue : IsList link w1 c tag.None es → MoreOwners w w1 → IsQueue link w1 c d es
  owned_queue h more = record {
    hung = h;
    newest = kept_newest;
    apart = q.apart;
    out = q.out;
    spare = λ j at. let k = q.spare j at in let m = more j k.owners k.is in record { owners = m.0; is = m.1; two = let a = k.two in let b = m.2 in omega (arith, a, b) };
  }
