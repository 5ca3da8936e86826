-- owners that are given back
use Rattle.std.proofs.Common.{◌≡◌, ℕ, zero, suc, ◌+◌, ◌-◌, ◌<◌, ◌≤◌, Bool, true, false, Option, None, Some, List, [], ◌∷◌, length, get_or, set, refl, sym, ap, ◌∙◌, arith, subst, get_or-set_same, get_or-set_other, cond, leb, inl, inr}
use Rattle.std.proofs.lemmas.Bool.Decides.{eqb_tells, nat_tests}
use Rattle.sdd_world.specs.State.{State, status_at, value_at, local_at, with_status, retired, is_used, vacancy, in_use}
use Rattle.sdd_world.specs.Steps.{released, released_as}
use Rattle.sdd_world.specs.Frame.{Frame}
use Rattle.sdd_world.specs.Place.{IsShared, IsSharedCell}
use Rattle.sdd_world.specs.declared.tag.Tag.{Tag}
use Rattle.sdd_world.specs.declared.status.Status.{Status}
use Rattle.sdd_world.specs.declared.status.Status.TheVariants as status
use Rattle.sdd_world.specs.declared.status.Cell.TheVariants as cell
use Rattle.sdd_lists.specs.Chain.{Entry, slots, links, IsOut, AreOut, IsItem, IsList, IsDetached, Leaves, Stays, TookFirst, Hangs, BeginsWithItem, Cut, CutDeleted, SameUses, OneMore, skip}
use Rattle.sdd_lists.proofs.ChainLemmas.{hung_left, leaves_then, leaves_more, leaves_all, out_of_none, some_same, inside_cells, inside_states}
use Rattle.sdd_lists.proofs.WalkLemmas.{skipped_first, hung_length}
use Rattle.std.proofs.lemmas.List.{nil_from_length, set-get_or, set-set}

-- a use that has an item stays one
set_used : (ss : List Status) (i j : ℕ) (s : Status) → is_used s ≡ true → is_used (get_or ss j status.Free) ≡ true → is_used (get_or (set ss i s) j status.Free) ≡ true
set_used [] i j s new old = old
set_used (x ∷ xs) zero zero s new old = new
set_used (x ∷ xs) zero (suc j) s new old = old
set_used (x ∷ xs) (suc i) zero s new old = old
set_used (x ∷ xs) (suc i) (suc j) s new old = set_used xs i j s new old

-- another number of owners leaves what every call leaves
pub stays_owners : {L : Type 0} (w w' : State L) (i m : ℕ) → w' ≡ with_status i (status.Shared m) w → Frame w w' → Stays w w'
stays_owners {L} w w' i m e k =
    let nests : (q : ℕ) → (local_at w' q).nesting ≡ (local_at w q).nesting = λ q. ap (λ (v : State L). (local_at v q).nesting) e in
    record {
      states = k.states;
      cells = k.cells;
      participants = k.participants;
      values = λ j u. ap (λ (v : State L). value_at v j) e;
      used = λ j u. subst (λ (v : State L). is_used (status_at v j) ≡ true) (sym e) (set_used w.states i j (status.Shared m) refl u);
      nests = nests;
      protects = λ q j o h. (k.protects q j o (let n = nests q in omega (arith, o, n)) h).1;
    }

not_one : (n : ℕ) → 2 ≤ n → leb n 1 ≡ false
not_one n h = grind (arith, nat_tests)

module _ {L : Type 0} (p i : ℕ) (w : State L) where
  -- what a release can make of a place
  released_cases : (P : State L → Type 0) → P w → P (retired p i w) → ((m : ℕ) → P (with_status i (status.Shared m) w)) → (s : Status) → P (released_as s p i w)
  released_cases P a b c status.Free = a
  released_cases P a b c status.Owned = a
  released_cases P a b c (status.Shared n) = elim (leb n 1) as (λ v. P (cond v (retired p i w) (with_status i (status.Shared (n - 1)) w))) [ true ↦ b | false ↦ c (n - 1) ]
  released_cases P a b c status.Raw = a
  released_cases P a b c (status.Collected n k) = a
  released_cases P a b c status.Retired = a
  released_cases P a b c status.Idle = a
  released_cases P a b c status.Deferred = a

  -- the other items are left, and every cell
  pub leaves_released : Leaves [] (i ∷ []) w (released p i w)
  leaves_released = released_cases (λ v. Leaves [] (i ∷ []) w v) (leaves_all [] (i ∷ []) w) (at_set status.Retired (retired p i w) refl refl refl) (λ m. at_set (status.Shared m) (with_status i (status.Shared m) w) refl refl refl) (status_at w i)
    where
      at_set : (s : Status) (v : State L) → v.states ≡ set w.states i s → v.values ≡ w.values → v.cells ≡ w.cells → Leaves [] (i ∷ []) w v
      at_set s v states values cells = record {
        cells = λ j out used. ap (λ (cs : List _). get_or cs j cell.Free) cells;
        uses = λ j out used. ap (λ (ss : List Status). get_or ss j status.Free) states ∙ get_or-set_other w.states i j s status.Free out.0;
        values = λ j out used. ap (λ (vs : List (Option L)). get_or vs j None) values;
      }

  released_values : (released p i w).values ≡ w.values
  released_values = released_cases (λ v. v.values ≡ w.values) refl refl (λ m. refl) (status_at w i)

  released_used : (j : ℕ) → is_used (status_at w j) ≡ true → is_used (status_at (released p i w) j) ≡ true
  released_used j = released_cases (λ v. is_used (status_at w j) ≡ true → is_used (status_at v j) ≡ true) (λ u. u) (set_used w.states i j status.Retired refl) (λ m. set_used w.states i j (status.Shared m) refl) (status_at w i)

  pub stays_released : (w' : State L) → w' ≡ released p i w → Frame w w' → ((q : ℕ) → (local_at w' q).nesting ≡ (local_at w q).nesting) → Stays w w'
  stays_released w' e k nests = record {
    states = k.states;
    cells = k.cells;
    participants = k.participants;
    values = λ j u. ap (λ (v : State L). value_at v j) e ∙ ap (λ (vs : List (Option L)). get_or vs j None) released_values;
    used = λ j u. subst (λ (v : State L). is_used (status_at v j) ≡ true) (sym e) (released_used j u);
    nests = nests;
    protects = λ q j o h. (k.protects q j o (let n = nests q in omega (arith, o, n)) h).1;
  }

pub spare_state : {L : Type 0} (p i n : ℕ) (w : State L) → status_at w i ≡ status.Shared n → 2 ≤ n → released p i w ≡ with_status i (status.Shared (n - 1)) w
spare_state p i n w is more = ap (λ (s : Status). released_as s p i w) is ∙ ap (λ (b : Bool). cond b (retired p i w) (with_status i (status.Shared (n - 1)) w)) (not_one n more)

-- an item with one owner more has owners
pub more_shared : {L : Type 0} (w w' : State L) (i : ℕ) → OneMore w w' i → IsShared w' i
more_shared w w' i m = record { inside = inside_states w'.states i (m.owners + 1) m.now; owners = m.owners + 1; is = m.now }

-- the owner that was added to others comes back
pub added_back : {L : Type 0} (p i n : ℕ) (w w' : State L) → status_at w i ≡ status.Shared n → 1 ≤ n → w' ≡ with_status i (status.Shared (n + 1)) w → released p i w' ≡ w
added_back {L} p i n w w' is some e =
    let at : status_at (with_status i (status.Shared (n + 1)) w) i ≡ status.Shared (n + 1) = get_or-set_same w.states i (status.Shared (n + 1)) status.Free (inside_states w.states i n is) in
    let less : n + 1 - 1 ≡ n = omega arith in
    ap (λ (v : State L). released p i v) e
    ∙ spare_state p i (n + 1) (with_status i (status.Shared (n + 1)) w) at (omega (arith, some))
    ∙ ap (λ (m : ℕ). with_status i (status.Shared m) (with_status i (status.Shared (n + 1)) w)) less
    ∙ ap (λ (ss : List Status). record w { states = ss }) (set-set w.states i (status.Shared (n + 1)) (status.Shared n) ∙ rw (sym is) (set-get_or w.states i status.Free))

pub out_of_one : (xs : List ℕ) (i : ℕ) → IsOut i xs → AreOut xs (i ∷ [])
out_of_one [] i out = tt
out_of_one (x ∷ xs) i out = ((λ q. out.0 (sym q), tt), out_of_one xs i out.1)

pub same_uses : {L : Type 0} (w : State L) (is : List ℕ) → SameUses w w is
same_uses w [] = tt
same_uses w (i ∷ is) = (refl, same_uses w is)

module _ {L : Type 0} (link : L → Option ℕ) where
  -- the first entry was taken off and given back
  pub dropped_first : (p i c : ℕ) (t : Tag) (e : Entry L) (es : List (Entry L)) (w w1 w2 : State L) → IsList link w c t (e ∷ es) → TookFirst link w w1 c t (e ∷ es) (Some i) → w2 ≡ released p i w1 → IsList link w2 c t es × Leaves (c ∷ e.link ∷ []) (e.slot ∷ []) w w2
  dropped_first p i c t e es w w1 w2 h k is =
      let at : i ≡ e.slot = some_same i e.slot k.0 in
      let is' : w2 ≡ released p e.slot w1 = is ∙ ap (λ (j : ℕ). released p j w1) at in
      let l = leaves_released p e.slot w1 in
      let v : State L = released p e.slot w1 in
      let cs : List ℕ = c ∷ e.link ∷ [] in
      let js : List ℕ = e.slot ∷ [] in
      let after : IsList link v c t es × Leaves cs js w v = (
        hung_left link [] js w1 v c t es l tt (out_of_none (links es)) (out_of_one (slots es) e.slot h.3) k.1,
        leaves_then cs js w w1 v (leaves_more cs [] cs js w w1 (λ j out. out) (λ j out. tt) k.3) (leaves_more [] js cs js w1 v (λ j out. tt) (λ j out. out) l),
      ) in
      subst (λ (s : State L). IsList link s c t es × Leaves cs js w s) (sym is') after

  -- the entries behind keep their uses
  pub same_rest : (w w1 w2 : State L) (i c d j : ℕ) (t : Tag) (es : List (Entry L)) → Leaves (c ∷ d ∷ []) (i ∷ []) w1 w2 → IsOut i (slots es) → IsList link w1 j t es → SameUses w w1 (slots es) → SameUses w w2 (slots es)
  same_rest w w1 w2 i c d j t [] l out h s = tt
  same_rest w w1 w2 i c d j t (e ∷ es) l out h s = (l.uses e.slot (λ q. out.0 (sym q), tt) (ap vacancy h.1.shared) ∙ s.0, same_rest w w1 w2 i c d e.link e.tag es l out.1 h.4 s.1)

  -- nothing was given back yet
  abbrev pub cut_start : (w : State L) (c : ℕ) (t : Tag) (es : List (Entry L)) → IsList link w c t es → Cut link w w c t es 0
  cut_start w c t es h = record {
    rest = es;
    hung = h;
    passed = omega arith;
    leaves = leaves_all (c ∷ links es) (slots es) w;
    same = same_uses w (slots es);
    inner_links = λ j out. out;
    inner_slots = λ j out. out;
  }

  -- the first of the rest was given back
  abbrev pub cut_next : (w w1 w2 : State L) (c d n : ℕ) (t : Tag) (item : L) (gone : Bool) (es : List (Entry L)) (k : Cut link w w1 c t es n) → BeginsWithItem k.rest item d gone → ((u : Tag) (e : Entry L) (xs : List (Entry L)) → IsList link w1 c u (e ∷ xs) → IsList link w2 c u xs × Leaves (c ∷ e.link ∷ []) (e.slot ∷ []) w1 w2) → Cut link w w2 c t es (n + 1)
  cut_next w w1 w2 c d n t item gone es k b step =
      let h : IsList link w1 c t (b.first ∷ b.rest) = subst (λ (xs : List (Entry L)). IsList link w1 c t xs) b.is k.hung in
      let r = step t b.first b.rest h in
      let outer : (j : ℕ) → IsOut j (links es) → IsOut j (links (b.first ∷ b.rest)) = λ j out. subst (λ (xs : List (Entry L)). IsOut j (links xs)) b.is (k.inner_links j out) in
      let outer' : (j : ℕ) → IsOut j (slots es) → IsOut j (slots (b.first ∷ b.rest)) = λ j out. subst (λ (xs : List (Entry L)). IsOut j (slots xs)) b.is (k.inner_slots j out) in
      let same : SameUses w w1 (slots (b.first ∷ b.rest)) = subst (λ (xs : List (Entry L)). SameUses w w1 (slots xs)) b.is k.same in
      record {
        rest = b.rest;
        hung = r.0;
        passed = let e : length k.rest ≡ length (b.first ∷ b.rest) = ap length b.is in omega (arith, e, k.passed);
        leaves = leaves_then (c ∷ links es) (slots es) w w1 w2 k.leaves (leaves_more (c ∷ b.first.link ∷ []) (b.first.slot ∷ []) (c ∷ links es) (slots es) w1 w2 (λ j out. (out.0, ((outer j out.1).0, tt))) (λ j out. ((outer' j out).0, tt)) r.1);
        same = same_rest w w1 w2 b.first.slot c b.first.link b.first.link b.first.tag b.rest r.1 h.3 h.4 same.1;
        inner_links = λ j out. (outer j out).1;
        inner_slots = λ j out. (outer' j out).1;
      }

  pub drop_start : (w : State L) (c : ℕ) (t : Tag) (es : List (Entry L)) → IsList link w c t es → CutDeleted link w w c t es 0
  drop_start w c t es h = record { cut = cut_start w c t es h; skipped = refl }

  pub drop_next : (w w1 w2 : State L) (c d n : ℕ) (t : Tag) (item : L) (es : List (Entry L)) (k : CutDeleted link w w1 c t es n) → BeginsWithItem k.cut.rest item d true → ((u : Tag) (e : Entry L) (xs : List (Entry L)) → IsList link w1 c u (e ∷ xs) → IsList link w2 c u xs × Leaves (c ∷ e.link ∷ []) (e.slot ∷ []) w1 w2) → CutDeleted link w w2 c t es (n + 1)
  drop_next w w1 w2 c d n t item es k b step = record { cut = cut_next w w1 w2 c d n t item true es k.cut b step; skipped = sym (skipped_first b.first b.rest (sym b.gone_is)) ∙ ap skip (sym b.is) ∙ k.skipped }

  -- where the rest is empty, or begins with an undeleted entry, it is what was to be left
  pub record Left (w w1 : State L) (c : ℕ) (t : Tag) (es : List (Entry L)) : Type 0 where
    pub hung : IsList link w1 c t (skip es)
    pub same : SameUses w w1 (slots (skip es))

  left_by : (w w1 : State L) (c n : ℕ) (t : Tag) (es : List (Entry L)) (k : CutDeleted link w w1 c t es n) → k.cut.rest ≡ skip es → Left w w1 c t es
  left_by w w1 c n t es k e = record { hung = subst (λ (xs : List (Entry L)). IsList link w1 c t xs) e k.cut.hung; same = subst (λ (xs : List (Entry L)). SameUses w w1 (slots xs)) e k.cut.same }

  pub drop_none : (w w1 : State L) (c n : ℕ) (t : Tag) (es : List (Entry L)) (k : CutDeleted link w w1 c t es n) → k.cut.rest ≡ [] → Left w w1 c t es
  drop_none w w1 c n t es k none = left_by w w1 c n t es k (none ∙ ap skip (sym none) ∙ k.skipped)

  cut_all : (w w1 : State L) (c n : ℕ) (t : Tag) (es : List (Entry L)) → IsList link w c t es → in_use w ≤ n → (k : Cut link w w1 c t es n) → k.rest ≡ []
  cut_all w w1 c n t es h enough k = let m = hung_length link w c t es h in nil_from_length k.rest (omega (arith, m, k.passed, enough))

  pub drop_all : (w w1 : State L) (c n : ℕ) (t : Tag) (es : List (Entry L)) → IsList link w c t es → in_use w ≤ n → CutDeleted link w w1 c t es n → Left w w1 c t es
  drop_all w w1 c n t es h enough k = drop_none w w1 c n t es k (cut_all w w1 c n t es h enough k.cut)

  pub cleared : (w w1 : State L) (c n : ℕ) (t : Tag) (es : List (Entry L)) (k : Cut link w w1 c t es n) → k.rest ≡ [] → IsList link w1 c t []
  cleared w w1 c n t es k none = subst (λ (xs : List (Entry L)). IsList link w1 c t xs) none k.hung

  pub cleared_all : (w w1 : State L) (c n : ℕ) (t : Tag) (es : List (Entry L)) → IsList link w c t es → in_use w ≤ n → Cut link w w1 c t es n → IsList link w1 c t []
  cleared_all w w1 c n t es h enough k = cleared w w1 c n t es k (cut_all w w1 c n t es h enough k)

  -- an entry in no list is marked as deleted
  pub loose_cell : (w : State L) (e : Entry L) → IsDetached link w e → (d : ℕ) → d ≡ e.link → IsSharedCell w d
  loose_cell w e k d at = subst (λ (j : ℕ). IsSharedCell w j) (sym at) (record { inside = inside_cells w.cells e.link None e.tag k.empty; item = None; tag = e.tag; is = k.empty })

  pub drop_hangs : (w1 w2 : State L) (c d : ℕ) (item : L) (gone : Bool) → (h : Hangs link w1 c) → BeginsWithItem h.entries item d gone → ((u : Tag) (e : Entry L) (xs : List (Entry L)) → IsList link w1 c u (e ∷ xs) → IsList link w2 c u xs × Leaves (c ∷ e.link ∷ []) (e.slot ∷ []) w1 w2) → Hangs link w2 c
  drop_hangs w1 w2 c d item gone h b step = record { tag = h.tag; entries = b.rest; is = (step h.tag b.first b.rest (subst (λ (xs : List (Entry L)). IsList link w1 c h.tag xs) b.is h.is)).0 }

  -- another number of owners
  pub item_owners : (i m : ℕ) (w : State L) (e : Entry L) → 1 ≤ m → i < length w.states → IsItem link w e → IsItem link (with_status i (status.Shared m) w) e
  item_owners i m w e some lt h = elim (eqb_tells e.slot i) [
    | inl q ↦ record { owners = m; shared = subst (λ (j : ℕ). get_or (set w.states i (status.Shared m)) j status.Free ≡ status.Shared m) (sym q.1) (get_or-set_same w.states i (status.Shared m) status.Free lt); owned = some; here = h.here; linked = h.linked }
    | inr q ↦ record { owners = h.owners; shared = get_or-set_other w.states i e.slot (status.Shared m) status.Free q.1 ∙ h.shared; owned = h.owned; here = h.here; linked = h.linked }
  ]

  pub hung_owners : (i m c : ℕ) (t : Tag) (es : List (Entry L)) (w : State L) → 1 ≤ m → i < length w.states → IsList link w c t es → IsList link (with_status i (status.Shared m) w) c t es
  hung_owners i m c t [] w some lt h = h
  hung_owners i m c t (e ∷ es) w some lt h = (h.0, item_owners i m w e some lt h.1, h.2, h.3, hung_owners i m e.link e.tag es w some lt h.4)

  pub spare_owner : (p i n c : ℕ) (t : Tag) (es : List (Entry L)) (w : State L) → status_at w i ≡ status.Shared n → 2 ≤ n → IsList link w c t es → IsList link (released p i w) c t es
  spare_owner p i n c t es w is more h = subst (λ (v : State L). IsList link v c t es) (sym (spare_state p i n w is more)) (hung_owners i (n - 1) c t es w (omega (arith, more)) (inside_states w.states i n is) h)

  pub spare_item : (p i n : ℕ) (w : State L) (e : Entry L) → status_at w i ≡ status.Shared n → 2 ≤ n → IsItem link w e → IsItem link (released p i w) e
  spare_item p i n w e is more h = subst (λ (v : State L). IsItem link v e) (sym (spare_state p i n w is more)) (item_owners i (n - 1) w e (omega (arith, more)) (inside_states w.states i n is) h)
