-- One more owner of each of several items.
use Rattle.std.proofs.Common.{◌≡◌, ◌≢◌, ℕ, ◌+◌, ◌<◌, None, Option, Some, is_some, List, [], ◌∷◌, ◌++◌, length, get_or, set, map, take, drop, refl, sym, ap, ◌∙◌, arith, subst, length-set, get_or-set_other}
use Rattle.std.proofs.Math.ListN.{get_or-map as at_map}
use Rattle.std.proofs.Math.Seq.{map-set_same}
use Rattle.std.proofs.lemmas.List.{drop-map, drop_more, get_or_default, length-map, take-map, take-append-drop, take_more}
use Rattle.std.proofs.lemmas.List.Sums.{sum_by-append, sum_by-cons, sum-map}
use Rattle.std.specs.Global.{Vec}
use Rattle.std.specs.List.{sum, sum_by}
use Rattle.sdd_table.specs.Place.{AddsOwner, AddsOwners, HasItem, TakeOwners, TakesOwner, kept_at, kept_in}
use Rattle.sdd_table.specs.State.{State, idleness, is_job, is_used, status_at, usage, uses_alone, vacancy, value_at, weight, with_status}
use Rattle.sdd_table.specs.Steps.{hit, times}
use Rattle.sdd_table.specs.Tokens.{kept_slot}
use Rattle.sdd_table.specs.View.{IsTable, Lists, state_of}
use Rattle.sdd_table.specs.declared.table.Table.TheInside.{Inside}
use Rattle.sdd_table.specs.declared.owner.Kept.{Kept}
use Rattle.sdd_table.specs.declared.status.Status.{Status}
use Rattle.sdd_table.specs.declared.status.Status.TheVariants as status
use Rattle.sdd_table.proofs.BagInvariantLemmas.{inside_by}
use Rattle.sdd_table.proofs.ListLemmas.{hit-same}
use Rattle.sdd_table.proofs.SlotLemmas.{slot_in}

module _ {T : Type 0} where
  -- the uses and the values of places are other ones or stay, the rest stays
  pub adds_only : (is : List ℕ) (w w' : State T) → AddsOwners is w w' → w' ≡ record w { states = w'.states }
  adds_only [] w w' h = h ∙ ap (λ (x : State T). record w { states = x.states }) (sym h)
  adds_only (i ∷ is) w w' h =
      adds_only is h.0 w' h.2 ∙ ap (λ (x : State T). record x { states = w'.states }) h.1.2

  -- what a use tells without the count of owners stays
  pub adds_map : {X : Type 0} (f : Status → X) → ((n : ℕ) → f (status.Shared (n + 1)) ≡ f (status.Shared n)) → (is : List ℕ) (w w' : State T) → AddsOwners is w w' → map f w'.states ≡ map f w.states
  adds_map f same [] w w' h = ap (λ (x : State T). map f x.states) h
  adds_map f same (i ∷ is) w w' h =
      adds_map f same is h.0 w' h.2
      ∙ (ap (λ (x : State T). map f x.states) h.1.2
      ∙ map-set_same f w.states i (status.Shared (h.1.0 + 1)) status.Free (same h.1.0 ∙ ap f (sym h.1.1)))

  pub adds_at : {X : Type 0} (f : Status → X) → ((n : ℕ) → f (status.Shared (n + 1)) ≡ f (status.Shared n)) → (is : List ℕ) (w w' : State T) → AddsOwners is w w' → (j : ℕ) → f (status_at w' j) ≡ f (status_at w j)
  adds_at f same is w w' h j =
      sym (at_map f w'.states j status.Free)
      ∙ (ap (λ ys. get_or ys j (f status.Free)) (adds_map f same is w w' h)
      ∙ at_map f w.states j status.Free)

  pub adds_places : (is : List ℕ) (w w' : State T) → AddsOwners is w w' → length w'.states ≡ length w.states
  adds_places [] w w' h = ap (λ (x : State T). length x.states) h
  adds_places (i ∷ is) w w' h =
      adds_places is h.0 w' h.2
      ∙ (ap (λ (x : State T). length x.states) h.1.2 ∙ length-set w.states i (status.Shared (h.1.0 + 1)))

  -- what is in a slot that isn't named stays
  pub adds_others : (is : List ℕ) (w w' : State T) (j : ℕ) → AddsOwners is w w' → times j is ≡ 0 → status_at w' j ≡ status_at w j
  adds_others [] w w' j h none = ap (λ (x : State T). status_at x j) h
  adds_others (i ∷ is) w w' j h none =
      let sum = sum_by-cons (λ k. hit k j) i is in
      let apart : j ≢ i = λ e. let same = ap (λ k. hit k j) (sym e) in let hits = hit-same j in omega (arith, sum, none, same, hits) in
      adds_others is h.0 w' j h.2 (omega (arith, sum, none))
      ∙ (ap (λ (x : State T). status_at x j) h.1.2
      ∙ get_or-set_other w.states i j (status.Shared (h.1.0 + 1)) status.Free apart)

  -- one more, behind the others
  pub adds_next : (is : List ℕ) (u v w : State T) (i : ℕ) → AddsOwners is u v → AddsOwners (i ∷ []) v w → AddsOwners (is ++ i ∷ []) u w
  adds_next [] u v w i h more = subst (λ (x : State T). AddsOwners (i ∷ []) x w) h more
  adds_next (x ∷ is) u v w i h more = (h.0, h.1, adds_next is h.0 v w i h.2 more)

  -- the next one takes an owner
  pub takes_next : (is : List ℕ) (k : ℕ) (u v : State T) → k < length is → AddsOwners (take k is) u v → TakeOwners is u → TakesOwner (get_or is k 0) v
  takes_next is k u v inside h all =
      let i = get_or is k 0 in
      let split : is ≡ take k is ++ i ∷ drop (k + 1) is = sym (take-append-drop k is) ∙ ap (λ xs. take k is ++ xs) (drop_more is k 0 inside) in
      let both = ap (times i) split ∙ sum_by-append (λ x. hit x i) (take k is) (i ∷ drop (k + 1) is) in
      let sum = sum_by-cons (λ x. hit x i) i (drop (k + 1) is) in
      let hits = hit-same i in
      let once = all.once i in
      let can = all.each k 0 inside in
      (can.0, adds_others (take k is) u v i h (omega (arith, both, sum, hits, once)) ∙ can.1, can.2)

-- what is named by owners in a row
abbrev pub no_kept : Kept
no_kept = record { slot = 0 }

module _ {T : Type 0} (row : List Kept) (k : ℕ) (inside : k < length row) where
  pub takes_kept : (u v : State T) → AddsOwners (take k (map kept_slot row)) u v → TakeOwners (map kept_slot row) u → TakesOwner (kept_slot (get_or row k no_kept)) v
  takes_kept u v h all =
      let within : k < length (map kept_slot row) = omega (arith, inside, length-map row kept_slot) in
      subst (λ i. TakesOwner i v) (at_map kept_slot row k no_kept) (takes_next (map kept_slot row) k u v within h all)

  pub adds_kept : (u v w : State T) → AddsOwners (take k (map kept_slot row)) u v → AddsOwner (kept_slot (get_or row k no_kept)) v w → AddsOwners (take (k + 1) (map kept_slot row)) u w
  adds_kept u v w h more =
      let within : k < length (map kept_slot row) = omega (arith, inside, length-map row kept_slot) in
      let one = take_more (map kept_slot row) k 0 within in
      let here = subst (λ i. AddsOwner i v w) (sym (at_map kept_slot row k no_kept)) more in
      subst (λ is. AddsOwners is u w) (sym one) (adds_next (take k (map kept_slot row)) u v w (get_or (map kept_slot row) k 0) h (w, here, refl))

-- what was read of a slot with owners
pub read_shared : (ss : List Status) (i n : ℕ) (x : Status) → get_or ss i status.Free ≡ status.Shared n → x ≡ get_or ss i x → x ≡ status.Shared n
read_shared ss i n x is read = read ∙ (get_or_default ss i x status.Free (inside_by ss i (status.Shared n) (sym is) (λ e. cc)) ∙ is)

module _ {T J : Type 0} (a : Inside T J) where
  -- the row that was read is that of the item in slot i
  pub row_read : (kept : T → List ℕ) (w : State T) (i : ℕ) (x : Option T) (v : T) (row : List Kept) → state_of a ≡ w → IsTable a → HasItem w i → x ≡ get_or a.values.items i x → x ≡ Some v → map kept_slot row ≡ kept v → kept_at kept w (Some i) ≡ map kept_slot row
  row_read kept w i x v row view h there read some shown =
      let long = ap length h.filled in
      let inside : i < length a.values.items = omega (arith, slot_in a w i view there.inside, long, length-map a.values.items is_some, length-map a.states.items is_used) in
      let value : value_at w i ≡ Some v = ap (λ (s : State T). value_at s i) (sym view) ∙ (sym (get_or_default a.values.items i x None inside) ∙ (sym read ∙ some)) in
      ap (kept_in kept) value ∙ sym shown

  -- the counts of owners take no part in what is always true of a store
  pub adds_invariant : (is : List ℕ) (states : Vec Status) → IsTable a → AddsOwners is (uses_alone a.states.items) (uses_alone states.items) → IsTable (record a { states = states })
  adds_invariant is states h more =
      let u = uses_alone a.states.items in
      let v = uses_alone states.items in
      let total : (f : Status → ℕ) → ((n : ℕ) → f (status.Shared (n + 1)) ≡ f (status.Shared n)) → sum_by f states.items ≡ sum_by f a.states.items =
      λ f same. sym (sum-map f states.items) ∙ (ap sum (adds_map f same is u v more) ∙ sum-map f a.states.items) in
      let listed : (f : Status → ℕ) → ((n : ℕ) → f (status.Shared (n + 1)) ≡ f (status.Shared n)) → (names : List ℕ) → Lists f a.states.items names → Lists f states.items names =
      λ f same names l. record {
        each = λ j. l.each j ∙ ap (λ (xs : List ℕ). get_or xs j 0) (sym (adds_map f same is u v more));
        count = l.count ∙ sym (total f same);
      } in
      let long = adds_places is u v more in
      record {
        filled = h.filled ∙ sym (adds_map is_used (λ n. refl) is u v more);
        tally = h.tally ∙ sym (total usage (λ n. refl));
        links = h.links ∙ sym long;
        held = λ j. h.held j ∙ sym (adds_at weight (λ n. refl) is u v more j);
        small = (let few = h.small in omega (arith, few, long));
        kinds = adds_map is_job (λ n. refl) is u v more ∙ h.kinds;
        slots = record { lists = listed vacancy (λ n. refl) a.free.items h.slots.lists; room = h.slots.room };
        places = record { lists = listed idleness (λ n. refl) a.idle.items h.places.lists; room = h.places.room };
        cells = h.cells;
      }

-- the same in each store with these uses
pub takes_alone : {T : Type 0} (is : List ℕ) (w : State T) → TakeOwners is w → TakeOwners is (uses_alone w.states)
takes_alone is w h = record { each = h.each; once = h.once }

module _ {T X : Type 0} where
  pub adds_elsewhere : (is : List ℕ) (w w' : State X) (u : State T) → AddsOwners is w w' → u.states ≡ w.states → AddsOwners is u (record u { states = w'.states })
  adds_elsewhere [] w w' u h e = ap (λ (ss : List Status). record u { states = ss }) (ap (λ (x : State X). x.states) h ∙ sym e)
  adds_elsewhere (i ∷ is) w w' u h e =
      let v : State T = record u { states = h.0.states } in
      let one = status.Shared (h.1.0 + 1) in
      let next : v ≡ with_status i one u = ap (λ (ss : List Status). record u { states = ss }) (ap (λ (x : State X). x.states) h.1.2 ∙ ap (λ (ss : List Status). set ss i one) (sym e)) in
      (v, (h.1.0, ap (λ (ss : List Status). get_or ss i status.Free) e ∙ h.1.1, next), adds_elsewhere is h.0 w' v h.2 refl)

-- a part of a row names a part of what all of it names
pub part_read : (n from : ℕ) (row : List Kept) (is : List ℕ) → is ≡ map kept_slot row → map kept_slot (take n (drop from row)) ≡ take n (drop from is)
part_read n from row is e = sym (take-map kept_slot n (drop from row)) ∙ (ap (take n) (sym (drop-map kept_slot from row)) ∙ ap (λ xs. take n (drop from xs)) (sym e))
