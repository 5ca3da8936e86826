-- containers that are filled, value by value
use Rattle.world_containers.proofs.Names.{◌≡◌, ◌⊎◌, ◌++◌, ℕ, ◌+◌, ◌≤◌, ◌<◌, Bool, true, false, Option, None, Some, List, [], ◌∷◌, length, refl, sym, ap, ◌∙◌, arith, subst, cond, inl, inr, reverse, MatchOption, nil_from_length, append_assoc, append-nil, reverse-append, State, status_at, cell_at, vacancy, emptiness, IsFree, IsFreeCell, Tag, Status, Cell, Entry, slots, links, IsOut, AreOut, IsList, IsDetached, FitsBefore, CanHang, BeginsWithItem, Leaves, Stays, deleted, undeleted, end_cell, entry_value, entry_link, IsNew, IsMade, IsQueue, Puts, IsBag, IsSameBag, AreFreeCells, Adds, Removes, PutsPrimary, PutsOverflow, LinkedEntry, hung_left, free_cell_out, free_slot_out, used_cell, used_slot, still_hung, can_hang, new_fits, put_leaves}
use Rattle.sdd_world.specs.declared.tag.Tag.TheVariants as tag
use Rattle.sdd_world.specs.declared.status.Status.TheVariants as status
use Rattle.sdd_world.specs.declared.status.Cell.TheVariants as cell
use Rattle.world_containers.specs.FromIter.{AreNew, FillsQueue, FillsStack, FillsBag, Extends, ExtendsLast, Copies, CantCopy, entry_values}
use Rattle.sdd_lists.specs.declared.refusal.NotMade.TheVariants as NotMade
use Rattle.world_containers.proofs.QueueLemmas.{new_follows, queue_stays}
use Rattle.world_containers.proofs.QueueTailLemmas.{end_tag, hung_end, hung_append}
use Rattle.world_containers.proofs.FoldLemmas.{adds_front, adds_length}

-- the value of an option, if there is one, as a list
abbrev pub given : {X : Type 0} → Option X → List X
given None = []
given (Some x) = x ∷ []

-- what isn't in use is free
not_vacant : (s : Status) → (vacancy s ≡ 0 → ⊥) → s ≡ status.Free
not_vacant status.Free h = refl
not_vacant status.Owned h = absurd (h refl)
not_vacant (status.Shared n) h = absurd (h refl)
not_vacant status.Raw h = absurd (h refl)
not_vacant (status.Collected n b) h = absurd (h refl)
not_vacant status.Retired h = absurd (h refl)
not_vacant status.Idle h = absurd (h refl)
not_vacant status.Deferred h = absurd (h refl)

not_empty : (k : Cell) → (emptiness k ≡ 0 → ⊥) → k ≡ cell.Free
not_empty cell.Free h = refl
not_empty (cell.OfOwned o t) h = absurd (h refl)
not_empty (cell.OfShared o t) h = absurd (h refl)
not_empty (cell.OfRaw o t) h = absurd (h refl)

module _ {T : Type 0} (w0 w : State (LinkedEntry T)) (l : Leaves [] [] w0 w) (s : Stays w0 w) where
  -- what is free now was free before
  slot_before : (i : ℕ) → IsFree w i → IsFree w0 i
  slot_before i free = (
    let e = s.states in omega (arith, free.0, e),
    not_vacant (status_at w0 i) (λ used. let a : vacancy (status_at w i) ≡ vacancy (status_at w0 i) = ap vacancy (l.uses i tt used) in let b : vacancy (status_at w i) ≡ 1 = ap vacancy free.1 in absurd (omega (arith, a, b, used))),
  )

  cell_before : (c : ℕ) → IsFreeCell w c → IsFreeCell w0 c
  cell_before c free = (
    let e = s.cells in omega (arith, free.0, e),
    not_empty (cell_at w0 c) (λ used. let a : emptiness (cell_at w c) ≡ emptiness (cell_at w0 c) = ap emptiness (l.cells c tt used) in let b : emptiness (cell_at w c) ≡ 1 = ap emptiness free.1 in absurd (omega (arith, a, b, used))),
  )

  pub new_before : (v : T) (e : Entry (LinkedEntry T)) → IsNew w v e → IsNew w0 v e
  new_before v e n = record { value_of = n.value_of; clear = n.clear; slot = slot_before e.slot n.slot; link = cell_before e.link n.link }

-- one more in both of two lists with the same entries
module _ {X : Type 0} where
  removes_more : (y : X) (before after ys : List X) → Removes (before ++ after) ys [] → Removes (before ++ y ∷ after) (ys ++ y ∷ []) []
  removes_more y [] after ys h = (ys, record { before = ys; after = []; was = sym (append-nil ys); now = refl }, h)
  removes_more y (x ∷ before) after ys h = (h.0 ++ y ∷ [], adds_front x h.0 ys (y ∷ []) h.1, removes_more y before after h.0 h.2)

  pub same_more : (y : X) (xs more ys : List X) → Adds y xs more → IsSameBag xs ys → IsSameBag more (ys ++ y ∷ [])
  same_more y xs more ys a h = subst (λ (es : List X). Removes es (ys ++ y ∷ []) []) (sym a.now) (removes_more y a.before a.after ys (subst (λ (es : List X). Removes es ys []) a.was h))

  pub same_length : (xs ys : List X) → IsSameBag xs ys → length xs ≡ length ys
  same_length [] ys h = ap length h
  same_length (x ∷ xs) ys h = let r = same_length xs h.0 h.2 in let a = adds_length x h.0 ys h.1 in omega (arith, r, a)

pub end_append : {L : Type 0} (c : ℕ) (es : List (Entry L)) (e : Entry L) → end_cell c (es ++ e ∷ []) ≡ e.link
end_append c [] e = refl
end_append c (f ∷ es) e = end_append f.link es e

module _ {T : Type 0} (w : State (LinkedEntry T)) where
  pub are_new_push : (vs : List T) (fs : List (Entry (LinkedEntry T))) (v : T) (e : Entry (LinkedEntry T)) → AreNew w vs fs → IsNew w v e → AreNew w (vs ++ v ∷ []) (fs ++ e ∷ [])
  are_new_push [] [] v e h n = (n, tt)
  are_new_push [] (f ∷ fs) v e h n = absurd h
  are_new_push (u ∷ vs) [] v e h n = absurd h
  are_new_push (u ∷ vs) (f ∷ fs) v e h n = (h.0, are_new_push vs fs v e h.1 n)

  pub new_links : (vs : List T) (fs : List (Entry (LinkedEntry T))) → AreNew w vs fs → (j : ℕ) → emptiness (cell_at w j) ≡ 0 → IsOut j (links fs)
  new_links [] [] h j used = tt
  new_links [] (f ∷ fs) h j used = absurd h
  new_links (v ∷ vs) [] h j used = tt
  new_links (v ∷ vs) (f ∷ fs) h j used = (used_cell w f.link j h.0.link used, new_links vs fs h.1 j used)

  pub new_slots : (vs : List T) (fs : List (Entry (LinkedEntry T))) → AreNew w vs fs → (j : ℕ) → vacancy (status_at w j) ≡ 0 → IsOut j (slots fs)
  new_slots [] [] h j used = tt
  new_slots [] (f ∷ fs) h j used = absurd h
  new_slots (v ∷ vs) [] h j used = tt
  new_slots (v ∷ vs) (f ∷ fs) h j used = (used_slot w f.slot j h.0.slot used, new_slots vs fs h.1 j used)

  -- a change of what was free then leaves all that was in use
  pub leaves_before : (w1 w2 : State (LinkedEntry T)) (cs is : List ℕ) → Leaves [] [] w w1 → Leaves cs is w1 w2 → ((j : ℕ) → emptiness (cell_at w j) ≡ 0 → IsOut j cs) → ((i : ℕ) → vacancy (status_at w i) ≡ 0 → IsOut i is) → Leaves [] [] w w2
  leaves_before w1 w2 cs is a b out outs = record {
    cells = λ j o used. let e = a.cells j tt used in b.cells j (out j used) (ap emptiness e ∙ used) ∙ e;
    uses = λ i o used. let e = a.uses i tt used in b.uses i (outs i used) (ap vacancy e ∙ used) ∙ e;
    values = λ i o used. let e = a.uses i tt used in b.values i (outs i used) (ap vacancy e ∙ used) ∙ a.values i tt used;
  }

  -- a queue that is being filled
  pub record BuiltQueue (w1 : State (LinkedEntry T)) (c d : ℕ) (vs : List T) : Type 0 where
    pub fills : FillsQueue w w1 c d vs
    pub leaves : Leaves [] [] w w1
    pub stays : Stays w w1

  pub queue_start : (w1 : State (LinkedEntry T)) (c d : ℕ) → IsFreeCell w c → IsFreeCell w d → IsQueue entry_link w1 c d [] → Leaves [] [] w w1 → Stays w w1 → BuiltQueue w1 c d []
  queue_start w1 c d old new q l s = record { fills = record { oldest = old; newest = new; entries = []; is = q; new = tt }; leaves = l; stays = s }

  pub queue_more : (w1 w2 : State (LinkedEntry T)) (c d : ℕ) (vs : List T) (v : T) → BuiltQueue w1 c d vs → Stays w w2 → Extends w1 w2 v c d → ((es : List (Entry (LinkedEntry T))) → IsQueue entry_link w1 c d es → Leaves (c ∷ d ∷ links es) (slots es) w1 w2) → BuiltQueue w2 c d (vs ++ v ∷ [])
  queue_more w1 w2 c d vs v b s x leaves =
      let f = b.fills in
      let fs = f.entries in
      record {
        fills = record {
          oldest = f.oldest;
          newest = f.newest;
          entries = fs ++ x.entry ∷ [];
          is = x.puts fs f.is;
          new = are_new_push vs fs v x.entry f.new (new_before w w1 b.leaves b.stays v x.entry x.new);
        };
        leaves = leaves_before w1 w2 (c ∷ d ∷ links fs) (slots fs) b.leaves (leaves fs f.is) (λ j used. (used_cell w c j f.oldest used, (used_cell w d j f.newest used, new_links vs fs f.new j used))) (λ i used. new_slots vs fs f.new i used);
        stays = s;
      }

  pub queue_same : (w1 w2 : State (LinkedEntry T)) (c d : ℕ) (vs : List T) → w2 ≡ w1 → BuiltQueue w1 c d vs → BuiltQueue w2 c d vs
  queue_same w1 w2 c d vs e b = subst (λ (v : State (LinkedEntry T)). BuiltQueue v c d vs) (sym e) b

  -- with a value, or without one
  pub queue_next : (w1 w2 : State (LinkedEntry T)) (c d : ℕ) (vs : List T) (o : Option T) → BuiltQueue w1 c d vs → Stays w w2 → MatchOption o (w2 ≡ w1) (λ v. Extends w1 w2 v c d) → ((es : List (Entry (LinkedEntry T))) → IsQueue entry_link w1 c d es → Leaves (c ∷ d ∷ links es) (slots es) w1 w2) → BuiltQueue w2 c d (vs ++ given o)
  queue_next w1 w2 c d vs None b s x leaves = subst (λ (us : List T). BuiltQueue w2 c d us) (sym (append-nil vs)) (queue_same w1 w2 c d vs x b)
  queue_next w1 w2 c d vs (Some v) b s x leaves = queue_more w1 w2 c d vs v b s x leaves

  -- a stack that is being filled
  pub record BuiltStack (w1 : State (LinkedEntry T)) (c : ℕ) (vs : List T) : Type 0 where
    pub fills : FillsStack w w1 c vs
    pub leaves : Leaves [] [] w w1
    pub stays : Stays w w1

  pub stack_start : (w1 : State (LinkedEntry T)) (c : ℕ) → IsFreeCell w c → IsList entry_link w1 c tag.None [] → Leaves [] [] w w1 → Stays w w1 → BuiltStack w1 c []
  stack_start w1 c free h l s = record { fills = record { newest = free; entries = []; is = h; new = tt }; leaves = l; stays = s }

  pub stack_same : (w1 w2 : State (LinkedEntry T)) (c : ℕ) (vs : List T) → w2 ≡ w1 → BuiltStack w1 c vs → BuiltStack w2 c vs
  stack_same w1 w2 c vs e b = subst (λ (v : State (LinkedEntry T)). BuiltStack v c vs) (sym e) b

  -- in front
  pub stack_front : (w1 w2 : State (LinkedEntry T)) (c : ℕ) (vs : List T) (v : T) → BuiltStack w1 c vs → Stays w w2 → Puts w1 w2 v c → Leaves (c ∷ []) [] w1 w2 → BuiltStack w2 c (v ∷ vs)
  stack_front w1 w2 c vs v b s x leaves =
      let f = b.fills in
      record {
        fills = record { newest = f.newest; entries = x.entry ∷ f.entries; is = x.puts f.entries f.is; new = (new_before w w1 b.leaves b.stays v x.entry x.new, f.new) };
        leaves = leaves_before w1 w2 (c ∷ []) [] b.leaves leaves (λ j used. (used_cell w c j f.newest used, tt)) (λ i used. tt);
        stays = s;
      }

  pub stack_behind : (w1 w2 : State (LinkedEntry T)) (c : ℕ) (vs : List T) (v : T) → BuiltStack w1 c (reverse vs) → Stays w w2 → Puts w1 w2 v c → Leaves (c ∷ []) [] w1 w2 → BuiltStack w2 c (reverse (vs ++ v ∷ []))
  stack_behind w1 w2 c vs v b s x leaves = subst (λ (us : List T). BuiltStack w2 c us) (sym (reverse-append vs (v ∷ []))) (stack_front w1 w2 c (reverse vs) v b s x leaves)

  end_free : (c : ℕ) (vs : List T) (fs : List (Entry (LinkedEntry T))) → IsFreeCell w c → AreNew w vs fs → IsFreeCell w (end_cell c fs)
  end_free c [] [] free h = free
  end_free c [] (f ∷ fs) free h = absurd h
  end_free c (v ∷ vs) [] free h = absurd h
  end_free c (v ∷ vs) (f ∷ fs) free h = end_free f.link vs fs h.0.link h.1

  -- and at its end, which is cell k
  pub record GrownStack (w1 : State (LinkedEntry T)) (c k : ℕ) (vs : List T) : Type 0 where
    pub built : BuiltStack w1 c vs
    pub end : k ≡ end_cell c built.fills.entries
    pub empty : cell_at w1 k ≡ cell.OfShared None tag.None

  pub grown_start : (w1 : State (LinkedEntry T)) (c k : ℕ) → IsFreeCell w c → IsList entry_link w1 c tag.None [] → Leaves [] [] w w1 → Stays w w1 → k ≡ c → GrownStack w1 c k []
  grown_start w1 c k free h l s at = record {
    built = record { fills = record { newest = free; entries = []; is = h; new = tt }; leaves = l; stays = s };
    end = at;
    empty = subst (λ (j : ℕ). cell_at w1 j ≡ cell.OfShared None tag.None) (sym at) h;
  }

  stack_last : (w1 w2 : State (LinkedEntry T)) (c k k' : ℕ) (vs : List T) (v : T) → GrownStack w1 c k vs → Stays w w2 → ExtendsLast w1 w2 v k k' → Leaves (k ∷ []) [] w1 w2 → GrownStack w2 c k' (vs ++ v ∷ [])
  stack_last w1 w2 c k k' vs v b s x leaves =
      let f = b.built.fills in
      let free : IsFreeCell w k = subst (λ (j : ℕ). IsFreeCell w j) (sym b.end) (end_free c vs f.entries f.newest f.new) in
      record {
        built = record {
          fills = record { newest = f.newest; entries = f.entries ++ x.entry ∷ []; is = x.puts c tag.None f.entries f.is b.end; new = are_new_push vs f.entries v x.entry f.new (new_before w w1 b.built.leaves b.built.stays v x.entry x.new) };
          leaves = leaves_before w1 w2 (k ∷ []) [] b.built.leaves leaves (λ j used. (used_cell w k j free used, tt)) (λ i used. tt);
          stays = s;
        };
        end = x.at ∙ sym (end_append c f.entries x.entry);
        empty = x.empty;
      }

  pub stack_next : (w1 w2 : State (LinkedEntry T)) (c k k' : ℕ) (vs : List T) (o : Option T) → GrownStack w1 c k vs → Stays w w2 → MatchOption o ((w2 ≡ w1) × (k' ≡ k)) (λ v. ExtendsLast w1 w2 v k k') → Leaves (k ∷ []) [] w1 w2 → GrownStack w2 c k' (vs ++ given o)
  stack_next w1 w2 c k k' vs None b s x leaves = subst (λ (us : List T). GrownStack w2 c k' us) (sym (append-nil vs)) (subst (λ (j : ℕ). GrownStack w2 c j vs) (sym x.1) (subst (λ (u : State (LinkedEntry T)). GrownStack u c k vs) (sym x.0) b))
  stack_next w1 w2 c k k' vs (Some v) b s x leaves = stack_last w1 w2 c k k' vs v b s x leaves

  -- a bag that is being filled
  pub record BuiltBag (n : ℕ) (w1 : State (LinkedEntry T)) (cs : List ℕ) (vs : List T) : Type 0 where
    pub fills : FillsBag n w w1 cs vs
    pub leaves : Leaves [] [] w w1
    pub stays : Stays w w1

  pub bag_start : (n : ℕ) (w1 : State (LinkedEntry T)) (cs : List ℕ) → AreFreeCells w cs → IsBag n w1 cs [] [] → Leaves [] [] w w1 → Stays w w1 → BuiltBag n w1 cs []
  bag_start n w1 cs free b l s = record { fills = record { free = free; first = []; others = []; new = tt; primary = []; overflow = []; is = b; in_primary = refl; in_overflow = refl; full = λ lt. refl }; leaves = l; stays = s }

  pub bag_same : (n : ℕ) (w1 w2 : State (LinkedEntry T)) (cs : List ℕ) (vs : List T) → w2 ≡ w1 → BuiltBag n w1 cs vs → BuiltBag n w2 cs vs
  bag_same n w1 w2 cs vs e b = subst (λ (v : State (LinkedEntry T)). BuiltBag n v cs vs) (sym e) b

  used_cells : (cs : List ℕ) → AreFreeCells w cs → (j : ℕ) → emptiness (cell_at w j) ≡ 0 → IsOut j cs
  used_cells [] free j used = tt
  used_cells (c ∷ cs) free j used = (used_cell w c j free.0 used, used_cells cs free.1 j used)

  bag_primary : (n : ℕ) (w1 w2 : State (LinkedEntry T)) (cs : List ℕ) (vs : List T) (v : T) → (b : BuiltBag n w1 cs vs) → length b.fills.primary < n → PutsPrimary n w1 w2 v cs b.fills.primary b.fills.overflow → FillsBag n w w2 cs (vs ++ v ∷ [])
  bag_primary n w1 w2 cs vs v b room x =
      let f = b.fills in
      let size = same_length f.primary f.first f.in_primary in
      let none : f.others ≡ [] = f.full (omega (arith, size, room)) in
      let e = x.entry in
      let new : AreNew w vs f.first = subst (λ (es : List (Entry (LinkedEntry T))). AreNew w vs es) (ap (λ (es : List (Entry (LinkedEntry T))). f.first ++ es) none ∙ append-nil f.first) f.new in
      record {
        free = f.free;
        first = f.first ++ e ∷ [];
        others = [];
        new = subst (λ (es : List (Entry (LinkedEntry T))). AreNew w (vs ++ v ∷ []) es) (sym (append-nil (f.first ++ e ∷ []))) (are_new_push vs f.first v e new (new_before w w1 b.leaves b.stays v e x.new));
        primary = x.more;
        overflow = f.overflow;
        is = x.left;
        in_primary = same_more e f.primary x.more f.first x.adds f.in_primary;
        in_overflow = subst (λ (es : List (Entry (LinkedEntry T))). IsSameBag f.overflow es) none f.in_overflow;
        full = λ lt. refl;
      }

  bag_overflow : (n : ℕ) (w1 w2 : State (LinkedEntry T)) (cs : List ℕ) (vs : List T) (v : T) → (b : BuiltBag n w1 cs vs) → length b.fills.primary ≡ n → PutsOverflow n w1 w2 v cs b.fills.primary b.fills.overflow → FillsBag n w w2 cs (vs ++ v ∷ [])
  bag_overflow n w1 w2 cs vs v b room x =
      let f = b.fills in
      let size = same_length f.primary f.first f.in_primary in
      let e = x.entry in
      record {
        free = f.free;
        first = f.first;
        others = f.others ++ e ∷ [];
        new = subst (λ (es : List (Entry (LinkedEntry T))). AreNew w (vs ++ v ∷ []) es) (append_assoc f.first f.others (e ∷ [])) (are_new_push vs (f.first ++ f.others) v e f.new (new_before w w1 b.leaves b.stays v e x.new));
        primary = f.primary;
        overflow = x.more;
        is = x.left;
        in_primary = f.in_primary;
        in_overflow = same_more e f.overflow x.more f.others x.adds f.in_overflow;
        full = λ lt. absurd (omega (arith, size, room, lt));
      }

  pub bag_next : (n : ℕ) (w1 w2 : State (LinkedEntry T)) (cs : List ℕ) (vs : List T) (v : T) → BuiltBag n w1 cs vs → Stays w w2 → ((ps os : List (Entry (LinkedEntry T))) → IsBag n w1 cs ps os → ((length ps < n) × PutsPrimary n w1 w2 v cs ps os) ⊎ ((length ps ≡ n) × PutsOverflow n w1 w2 v cs ps os)) → Leaves cs [] w1 w2 → BuiltBag n w2 cs (vs ++ v ∷ [])
  bag_next n w1 w2 cs vs v b s put leaves =
      let f = b.fills in
      record {
        fills = elim (put f.primary f.overflow f.is) [ inl x ↦ bag_primary n w1 w2 cs vs v b x.0 x.1 | inr x ↦ bag_overflow n w1 w2 cs vs v b x.0 x.1 ];
        leaves = leaves_before w1 w2 cs [] b.leaves leaves (used_cells cs f.free) (λ i used. tt);
        stays = s;
      }

  -- how far a list was copied: n entries were passed, and vs are the values of the undeleted ones
  pub record Copying (es : List (Entry (LinkedEntry T))) (n at : ℕ) (vs : List T) : Type 0 where
    pub tag : Tag
    pub rest : List (Entry (LinkedEntry T))
    pub hung : IsList entry_link w at tag rest
    pub passed : n + length rest ≡ length es
    pub same : vs ++ entry_values (undeleted rest) ≡ entry_values (undeleted es)

  pub copy_start : (c : ℕ) (t : Tag) (es : List (Entry (LinkedEntry T))) → IsList entry_link w c t es → Copying es 0 c []
  copy_start c t es h = record { tag = t; rest = es; hung = h; passed = omega arith; same = refl }

  copied_one : (f : Entry (LinkedEntry T)) (fs : List (Entry (LinkedEntry T))) → entry_values (undeleted (f ∷ fs)) ≡ given (cond (deleted f.tag) None (Some (entry_value f.item))) ++ entry_values (undeleted fs)
  copied_one f fs = elim (deleted f.tag) as (λ b. entry_values (cond b (undeleted fs) (f ∷ undeleted fs)) ≡ given (cond b None (Some (entry_value f.item))) ++ entry_values (undeleted fs)) [ true ↦ refl | false ↦ refl ]

  pub copy_next : (es : List (Entry (LinkedEntry T))) (n at to : ℕ) (vs : List T) (o : Option T) → (k : Copying es n at vs) → Copies k.rest to o → Copying es (n + 1) to (vs ++ given o)
  copy_next es n at to vs o k x =
      let h : IsList entry_link w at k.tag (x.first ∷ x.rest) = subst (λ (xs : List (Entry (LinkedEntry T))). IsList entry_link w at k.tag xs) x.is k.hung in
      record {
        tag = x.first.tag;
        rest = x.rest;
        hung = subst (λ (j : ℕ). IsList entry_link w j x.first.tag x.rest) (sym x.at) h.4;
        passed = let e : length k.rest ≡ length (x.first ∷ x.rest) = ap length x.is in let p = k.passed in omega (arith, e, p);
        same = append_assoc vs (given o) (entry_values (undeleted x.rest)) ∙ ap (λ (us : List T). vs ++ us) (ap (λ (p : Option T). given p ++ entry_values (undeleted x.rest)) x.value ∙ sym (copied_one x.first x.rest) ∙ ap (λ (xs : List (Entry (LinkedEntry T))). entry_values (undeleted xs)) (sym x.is)) ∙ k.same;
      }

  -- what is left to be copied hangs there still
  pub copying_now : (w1 : State (LinkedEntry T)) (es : List (Entry (LinkedEntry T))) (n at d : ℕ) (vs : List T) → Leaves [] [] w w1 → d ≡ at → (k : Copying es n at vs) → IsList entry_link w1 d k.tag k.rest
  copying_now w1 es n at d vs l e k = subst (λ (j : ℕ). IsList entry_link w1 j k.tag k.rest) (sym e) (still_hung w w1 l at k.tag k.rest k.hung)

  -- nothing is left to be copied
  pub copied_all : (es : List (Entry (LinkedEntry T))) (n at : ℕ) (vs : List T) → (k : Copying es n at vs) → k.rest ≡ [] → vs ≡ entry_values (undeleted es)
  copied_all es n at vs k none = sym (append-nil vs) ∙ ap (λ (xs : List (Entry (LinkedEntry T))). vs ++ entry_values (undeleted xs)) (sym none) ∙ k.same

  pub copied_end : (es : List (Entry (LinkedEntry T))) (n at : ℕ) (vs : List T) → (k : Copying es n at vs) → length es ≤ n → vs ≡ entry_values (undeleted es)
  copied_end es n at vs k enough = copied_all es n at vs k (nil_from_length k.rest (let p = k.passed in omega (arith, p, enough)))

  -- the value at which it stopped
  pub stopped_at : (es : List (Entry (LinkedEntry T))) (n at : ℕ) (vs : List T) → (k : Copying es n at vs) → (f : Entry (LinkedEntry T)) (fs : List (Entry (LinkedEntry T))) → k.rest ≡ f ∷ fs → deleted f.tag ≡ false → entry_values (undeleted es) ≡ vs ++ entry_value f.item ∷ entry_values (undeleted fs)
  stopped_at es n at vs k f fs is kept = sym k.same ∙ ap (λ (xs : List (Entry (LinkedEntry T))). vs ++ entry_values (undeleted xs)) is ∙ ap (λ (us : List T). vs ++ us) (copied_one f fs ∙ ap (λ (b : Bool). given (cond b None (Some (entry_value f.item))) ++ entry_values (undeleted fs)) kept)

-- the first entry of a list is copied, or not
module _ {T : Type 0} (es : List (Entry (LinkedEntry T))) (item : LinkedEntry T) (c d : ℕ) (at : c ≡ d) where
  pub copies_gone : BeginsWithItem es item d true → Copies es c None
  copies_gone b = record { first = b.first; rest = b.rest; is = b.is; at = at ∙ b.link_is; value = ap (λ (v : Bool). cond v None (Some (entry_value b.first.item))) b.gone_is }

  pub copies_kept : (v : T) → BeginsWithItem es item d false → v ≡ entry_value item → Copies es c (Some v)
  copies_kept v b same = record { first = b.first; rest = b.rest; is = b.is; at = at ∙ b.link_is; value = ap (λ (x : T). Some x) (same ∙ ap entry_value b.item_is) ∙ ap (λ (u : Bool). cond u None (Some (entry_value b.first.item))) b.gone_is }

  pub cant_copy : (is_infallible : T → Type 0) → BeginsWithItem es item d false → ¬ is_infallible (entry_value item) → CantCopy is_infallible es
  cant_copy is_infallible b never = record { first = b.first; rest = b.rest; is = b.is; kept = sym b.gone_is; refused = subst (λ (x : LinkedEntry T). ¬ is_infallible (entry_value x)) b.item_is never }

-- why a value was copied
pub copied_kept : {T : Type 0} (b : Bool) (v u : T) (o : Option T) → o ≡ Some v → o ≡ cond b None (Some u) → b ≡ false
copied_kept {T} true v u o some none = absurd (no_value (sym some ∙ none))
  where
    no_value : ◌≡◌ {A = Option T} (Some v) None → ⊥
    no_value e = cc
copied_kept false v u o some none = refl

pub memory_not : NotMade.Memory ≡ NotMade.NoSlot → ⊥
memory_not e = cc

pub place_not : NotMade.NoSlot ≡ NotMade.Memory → ⊥
place_not e = cc

-- a new entry is put at the end of a list
module _ {T : Type 0} (w w1 w2 : State (LinkedEntry T)) (k d i : ℕ) (v : T) (empty : cell_at w k ≡ cell.OfShared None tag.None) (at : d ≡ k) (l : Leaves [] [] w w1) (m : IsMade w w1 v i) where
  blank : IsList entry_link w d tag.None []
  blank = subst (λ (j : ℕ). IsList entry_link w j tag.None []) (sym at) empty

  pub last_hangs : CanHang entry_link w1 d i
  last_hangs = can_hang w w1 l d i i tag.None v [] blank m refl

  module _ (put : (t : Tag) (es : List (Entry (LinkedEntry T))) (e : Entry (LinkedEntry T)) → IsList entry_link w1 d t es → IsDetached entry_link w1 e → FitsBefore d es e → i ≡ e.slot → IsList entry_link w2 d t (e ∷ es) × Leaves (d ∷ e.link ∷ []) [] w1 w2) where
    put_last : IsList entry_link w2 k tag.None (m.entry ∷ []) × Leaves (k ∷ m.entry.link ∷ []) [] w1 w2
    put_last = subst (λ (j : ℕ). IsList entry_link w2 j tag.None (m.entry ∷ []) × Leaves (j ∷ m.entry.link ∷ []) [] w1 w2) at (put tag.None [] m.entry (still_hung w w1 l d tag.None [] blank) m.loose (new_fits w d tag.None v m.entry [] blank m.new) m.at)

    pub last_leaves : Leaves (k ∷ []) [] w w2
    last_leaves = put_leaves w w1 l w2 k m.entry.link put_last.1 m.new.link.1

    same_tag : (t u : Tag) → cell.OfShared None t ≡ cell.OfShared None u → t ≡ u
    same_tag t u e = cc

    puts_last : (b : ℕ) (t : Tag) (es : List (Entry (LinkedEntry T))) → IsList entry_link w b t es → k ≡ end_cell b es → IsList entry_link w2 b t (es ++ m.entry ∷ [])
    puts_last b t es h end =
        let out = free_cell_out entry_link w m.entry.link b t es m.new.link.1 h in
        let last : end_tag t es ≡ tag.None = same_tag (end_tag t es) tag.None (sym (hung_end entry_link w b t es h) ∙ ap (λ (j : ℕ). cell_at w j) (sym end) ∙ empty) in
        let here : IsList entry_link w2 (end_cell b es) (end_tag t es) (m.entry ∷ []) × Leaves (end_cell b es ∷ m.entry.link ∷ []) [] w1 w2 = subst (λ (u : Tag). IsList entry_link w2 (end_cell b es) u (m.entry ∷ []) × Leaves (end_cell b es ∷ m.entry.link ∷ []) [] w1 w2) (sym last) (subst (λ (j : ℕ). IsList entry_link w2 j tag.None (m.entry ∷ []) × Leaves (j ∷ m.entry.link ∷ []) [] w1 w2) end put_last) in
        hung_append entry_link w1 w2 b t es m.entry (still_hung w w1 l b t es h) here.0 here.1 out.0 out.1 (free_slot_out entry_link w m.entry.slot b t es m.new.slot.1 h)

    pub extends_last : (k' : ℕ) → k' ≡ m.entry.link → ExtendsLast w w2 v k k'
    extends_last k' same = record {
      entry = m.entry;
      new = m.new;
      at = same;
      empty = subst (λ (j : ℕ). cell_at w2 j ≡ cell.OfShared None tag.None) (sym same) (put_last.0.4 ∙ ap (λ (u : Tag). cell.OfShared None u) m.new.clear);
      puts = puts_last;
    }

-- new entries are apart from what was there
module _ {T : Type 0} (w : State (LinkedEntry T)) where
  pub apart_of_list : (c : ℕ) (t : Tag) (es : List (Entry (LinkedEntry T))) → IsList entry_link w c t es → (vs : List T) (fs : List (Entry (LinkedEntry T))) → AreNew w vs fs → AreOut (links fs) (c ∷ links es) × AreOut (slots fs) (slots es)
  apart_of_list c t es h [] [] new = (tt, tt)
  apart_of_list c t es h [] (f ∷ fs) new = absurd new
  apart_of_list c t es h (v ∷ vs) [] new = (tt, tt)
  apart_of_list c t es h (v ∷ vs) (f ∷ fs) new =
      let r = apart_of_list c t es h vs fs new.1 in
      ((free_cell_out entry_link w f.link c t es new.0.link.1 h, r.0), (free_slot_out entry_link w f.slot c t es new.0.slot.1 h, r.1))

  pub apart_of_queue : (c d : ℕ) (es : List (Entry (LinkedEntry T))) → IsQueue entry_link w c d es → (vs : List T) (fs : List (Entry (LinkedEntry T))) → AreNew w vs fs → AreOut (links fs) (c ∷ d ∷ links es) × AreOut (slots fs) (slots es)
  apart_of_queue c d es q [] [] new = (tt, tt)
  apart_of_queue c d es q [] (f ∷ fs) new = absurd new
  apart_of_queue c d es q (v ∷ vs) [] new = (tt, tt)
  apart_of_queue c d es q (v ∷ vs) (f ∷ fs) new =
      let r = apart_of_queue c d es q vs fs new.1 in
      let n = new_follows w w c d v f es q new.0 in
      (((n.oldest, (n.newest, n.link)), r.0), (n.slot, r.1))

  pub cell_apart : (b c d : ℕ) (es : List (Entry (LinkedEntry T))) → IsQueue entry_link w c d es → IsFreeCell w b → IsOut b (c ∷ d ∷ links es)
  cell_apart b c d es q free = let out = free_cell_out entry_link w b c tag.None es free.1 q.hung in (out.0, ((λ e. used_cell w b d free (ap emptiness q.newest) (sym e)), out.1))

  -- a clone stays where a queue, or a stack, ends
  pub queue_outlasts : (w1 w2 : State (LinkedEntry T)) (c d a b : ℕ) (es : List (Entry (LinkedEntry T))) (vs : List T) → IsQueue entry_link w c d es → (f : FillsQueue w w1 a b vs) → Leaves (c ∷ d ∷ links es) (slots es) w1 w2 → IsQueue entry_link w2 a b f.entries
  queue_outlasts w1 w2 c d a b es vs q f l =
      let out = apart_of_queue c d es q vs f.entries f.new in
      queue_stays entry_link (c ∷ d ∷ links es) (slots es) a b f.entries w1 w2 l (cell_apart a c d es q f.oldest) (cell_apart b c d es q f.newest) out.0 out.1 f.is

  pub stack_outlasts : (w1 w2 : State (LinkedEntry T)) (c a : ℕ) (es : List (Entry (LinkedEntry T))) (vs : List T) → IsList entry_link w c tag.None es → (f : FillsStack w w1 a vs) → Leaves (c ∷ links es) (slots es) w1 w2 → IsList entry_link w2 a tag.None f.entries
  stack_outlasts w1 w2 c a es vs h f l =
      let out = apart_of_list c tag.None es h vs f.entries f.new in
      hung_left entry_link (c ∷ links es) (slots es) w1 w2 a tag.None f.entries l (free_cell_out entry_link w a c tag.None es f.newest.1 h) out.0 out.1 f.is
