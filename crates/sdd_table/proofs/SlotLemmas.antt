-- what a change of one place and one participant leaves of the store
use Rattle.std.proofs.Common.{◌≡◌, ◌≢◌, ℕ, zero, suc, ◌+◌, ◌<◌, ◌≤◌, ◌-◌, ◌==◌, Bool, true, false, Option, List, [], ◌∷◌, ◌++◌, length, map, get_or, set, refl, sym, ap, ◌∙◌, arith, length-set, vec_capacity, vec_len, is_some, subst, None, Some, cond, replicate}
use Rattle.std.specs.List.{sum_by}
use Rattle.std.proofs.lemmas.List.{map-set, length-map}
use Rattle.std.specs.Vec.{with_item}
use Rattle.sdd_table.specs.declared.table.Table.TheInside.{Inside}
use Rattle.std.proofs.Math.Seq.{map-set_same}
use Rattle.std.proofs.lemmas.List.Sums.{sum_by-set, sum_by-cons, sum_by-append, get_or-le-sum_by}
use Rattle.sdd_table.specs.State.{State, ParticipantState, put_participant, waiting_as, is_job, nobody, status_at, participant_at, left_due, changing, TakesDue, taken, is_used, usage, vacancy, idleness, emptiness, vacated, cell_at}
use Rattle.sdd_table.proofs.ListLemmas.{map-replicate, lists_same, lists_names, lists_pop, lists_push}
use Rattle.std.proofs.lemmas.Bool.{false≢true}
use Rattle.sdd_table.specs.declared.status.Cell.{Cell}
use Rattle.sdd_table.specs.declared.status.Cell.TheVariants as cell
use Rattle.std.proofs.lemmas.List.Folds.{sum_by-replicate}
use Rattle.std.proofs.lemmas.List.{length-replicate, length-append, map-append}
use Rattle.std.specs.Global.{Vec}
use Rattle.std.proofs.lemmas.List.{get_or_default, append-nil}
use Rattle.std.proofs.lemmas.Bool.Decides.{nat_tests}
use Rattle.std.proofs.Math.ListN.{get_or-map as at_map}
use Rattle.sdd_table.specs.State.{weight}
use Rattle.sdd_table.specs.View.{IsTable, IsFreeList, Lists, state_of}
use Rattle.sdd_table.specs.Place.{held_times}
use Rattle.sdd_table.specs.Chains.{Shown, participant_in, changed_in}
use Rattle.sdd_table.proofs.BagInvariantLemmas.{times_set, times_put, times_left, weight_up, weight_down, weight_same}
use Rattle.sdd_table.proofs.ThreadLemmas.{none_held}
use Rattle.sdd_table.specs.declared.status.Status.{Status}
use Rattle.sdd_table.specs.declared.status.Status.TheVariants as status

pub used-vacancy : (s : Status) → is_used s ≡ true → vacancy s ≡ 0
used-vacancy status.Free h = cc
used-vacancy status.Owned h = refl
used-vacancy (status.Shared n) h = refl
used-vacancy status.Raw h = refl
used-vacancy (status.Collected n b) h = refl
used-vacancy status.Retired h = refl
used-vacancy status.Idle h = refl
used-vacancy status.Deferred h = refl

pub used-idleness : (s : Status) → is_used s ≡ true → idleness s ≡ 0
used-idleness status.Free h = refl
used-idleness status.Owned h = refl
used-idleness (status.Shared n) h = refl
used-idleness status.Raw h = refl
used-idleness (status.Collected n b) h = refl
used-idleness status.Retired h = refl
used-idleness status.Idle h = cc
used-idleness status.Deferred h = refl

pub used-job : (s : Status) → is_used s ≡ true → is_job s ≡ false
used-job status.Free h = refl
used-job status.Owned h = refl
used-job (status.Shared n) h = refl
used-job status.Raw h = refl
used-job (status.Collected n b) h = refl
used-job status.Retired h = refl
used-job status.Idle h = sym h
used-job status.Deferred h = sym h

pub idle-is : (s : Status) → 1 ≤ idleness s → s ≡ status.Idle
idle-is status.Free h = absurd (omega arith)
idle-is status.Owned h = absurd (omega arith)
idle-is (status.Shared n) h = absurd (omega arith)
idle-is status.Raw h = absurd (omega arith)
idle-is (status.Collected n b) h = absurd (omega arith)
idle-is status.Retired h = absurd (omega arith)
idle-is status.Idle h = refl
idle-is status.Deferred h = absurd (omega arith)

pub vacant-is : (s : Status) → 1 ≤ vacancy s → s ≡ status.Free
vacant-is status.Free h = refl
vacant-is status.Owned h = absurd (omega arith)
vacant-is (status.Shared n) h = absurd (omega arith)
vacant-is status.Raw h = absurd (omega arith)
vacant-is (status.Collected n b) h = absurd (omega arith)
vacant-is status.Retired h = absurd (omega arith)
vacant-is status.Idle h = absurd (omega arith)
vacant-is status.Deferred h = absurd (omega arith)

pub filled_same : {T J : Type 0} (a : Inside T J) (i : ℕ) (s : Status) → IsTable a → is_used s ≡ is_used (get_or a.states.items i status.Free) → map is_some a.values.items ≡ map is_used (set a.states.items i s)
filled_same a i s h e = h.filled ∙ sym (map-set_same is_used a.states.items i s status.Free e)

-- what is asked of the state, of the fields
pub known_in : {T J : Type 0} (a : Inside T J) (w : State T) (p : ℕ) → state_of a ≡ w → p < length w.participants → p < length a.participants.all
known_in a w p e h = let P : State _ → Type 0 = λ s. p < length s.participants in subst P (sym e) h

-- participants change, and their bags hold what they held
pub changed_invariant : {T J : Type 0} (a : Inside T J) (w : State T) (p : ℕ) (f : ParticipantState → ParticipantState) (s : Shown) → IsTable a → state_of a ≡ w → p < length w.participants → s ≡ changed_in p f a.participants → ((j : ℕ) → held_times j (f (participant_in a.participants.all p)) ≡ held_times j (participant_in a.participants.all p)) → IsTable (record a { participants = s })
changed_invariant {T} {J} a w p f s h v inside is same =
    let known : p < length a.participants.all = known_in a w p v inside in
    let ms = a.participants.all in
    let whole : IsTable {T = T} {J = J} (record a { participants = changed_in p f a.participants }) = record {
      filled = h.filled;
      tally = h.tally;
      links = h.links;
      held = λ j. omega (arith, h.held j, times_set ms p j (f (participant_in ms p)) known, same j);
      small = h.small;
      kinds = h.kinds;
      slots = h.slots;
      places = h.places;
      cells = h.cells;
    } in
    subst (λ (z : Shown). IsTable {T = T} {J = J} (record a { participants = z })) (sym is) whole

pub changed_view : {T J : Type 0} (a : Inside T J) (w : State T) (p : ℕ) (f : ParticipantState → ParticipantState) (s : Shown) → state_of a ≡ w → s ≡ changed_in p f a.participants → state_of (record a { participants = s }) ≡ changing p f w
changed_view a w p f s v is = ap (λ (z : Shown). record (state_of a) { participants = z.all }) is ∙ ap (changing p f) v

-- what the bags hold once place i is used in another way: as before, with i, without i
pub same_held : {T J : Type 0} (a : Inside T J) (i : ℕ) (s : Status) → IsTable a → i < length a.states.items → weight s ≡ weight (get_or a.states.items i status.Free) → (j : ℕ) → sum_by (held_times j) a.participants.all ≡ weight (get_or (set a.states.items i s) j status.Free)
same_held a i s h inside even j = h.held j ∙ sym (weight_same a.states.items i j s inside even)

pub waiting_held : {T J : Type 0} (a : Inside T J) (p i : ℕ) (s : Status) (m : Shown) → IsTable a → p < length a.participants.all → i < length a.states.items → weight (get_or a.states.items i status.Free) ≡ 0 → weight s ≡ 1 → m ≡ changed_in p (put_participant i) a.participants → (j : ℕ) → sum_by (held_times j) m.all ≡ weight (get_or (set a.states.items i s) j status.Free)
waiting_held a p i s m h known inside light heavy is j =
    let ms = a.participants.all in
    ap (λ (z : Shown). sum_by (held_times j) z.all) is ∙ omega (arith, h.held j, times_set ms p j (put_participant i (participant_in ms p)) known, times_put i j (participant_in ms p), weight_up a.states.items i j s inside light heavy)

pub taken_held : {T J : Type 0} (a : Inside T J) (p i : ℕ) (is : List ℕ) (s : Status) (m : Shown) → IsTable a → p < length a.participants.all → i < length a.states.items → weight (get_or a.states.items i status.Free) ≡ 1 → weight s ≡ 0 → (participant_in a.participants.all p).due ≡ i ∷ is → m ≡ changed_in p (left_due is) a.participants → (j : ℕ) → sum_by (held_times j) m.all ≡ weight (get_or (set a.states.items i s) j status.Free)
taken_held a p i is s m h known inside heavy light was to j =
    let ms = a.participants.all in
    ap (λ (z : Shown). sum_by (held_times j) z.all) to ∙ omega (arith, h.held j, times_set ms p j (left_due is (participant_in ms p)) known, times_left i j is (participant_in ms p) was, weight_down a.states.items i j s inside heavy light)

-- place i is used in another way, whatever else changes
pub states_invariant : {T J : Type 0} (a : Inside T J) (v : Vec (Option T)) (jb : Vec (Option J)) (u : ℕ) (m : Shown) (fr idl : Vec ℕ) (i : ℕ) (s : Status) → IsTable a → length jb.items ≡ length a.jobs.items → is_job s ≡ is_job (get_or a.states.items i status.Free) → map is_some v.items ≡ map is_used (set a.states.items i s) → u ≡ sum_by usage (set a.states.items i s) → m.places ≡ a.participants.places → ((j : ℕ) → sum_by (held_times j) m.all ≡ weight (get_or (set a.states.items i s) j status.Free)) → Lists vacancy (set a.states.items i s) fr.items → a.slots ≤ vec_capacity fr → Lists idleness (set a.states.items i s) idl.items → length jb.items ≤ vec_capacity idl → IsTable (record a { used = u; values = v; jobs = jb; states = with_item a.states i s; participants = m; free = fr; idle = idl })
states_invariant a v jb u m fr idl i s h many kind fill tally links held slots roomy places roomier =
    let size = length-set {A = Status} a.states.items i s in
    record {
      filled = fill;
      tally = tally;
      links = links ∙ h.links ∙ sym size;
      held = held;
      small = omega (arith, size, h.small);
      kinds = map-set_same is_job a.states.items i s status.Free kind ∙ h.kinds ∙ ap (λ (n : ℕ). replicate a.slots false ++ replicate n true) (sym many);
      slots = record { lists = slots; room = roomy };
      places = record { lists = places; room = roomier };
      cells = h.cells;
    }

-- an item's use is another one, and it waits neither before nor after
pub status_invariant : {T J : Type 0} (a : Inside T J) (i : ℕ) (s : Status) → IsTable a → i < length a.states.items → is_used (get_or a.states.items i status.Free) ≡ true → is_used s ≡ true → weight (get_or a.states.items i status.Free) ≡ weight s → IsTable (record a { states = with_item a.states i s })
status_invariant a i s h inside was is even =
    let tallies = sum_by-set usage a.states.items i s status.Free inside in
    let one : usage (get_or a.states.items i status.Free) ≡ 1 = ap (λ (b : Bool). cond b 1 0) was in
    let other : usage s ≡ 1 = ap (λ (b : Bool). cond b 1 0) is in
    let t = h.tally in
    states_invariant a a.values a.jobs a.used a.participants a.free a.idle i s h refl (used-job s is ∙ sym (used-job _ was)) (filled_same a i s h (is ∙ sym was)) (omega (arith, t, tallies, one, other)) refl (same_held a i s h inside (sym even))
    (lists_same vacancy a.states.items i s status.Free a.free.items inside (used-vacancy s is ∙ sym (used-vacancy _ was)) h.slots.lists) h.slots.room
    (lists_same idleness a.states.items i s status.Free a.idle.items inside (used-idleness s is ∙ sym (used-idleness _ was)) h.places.lists) h.places.room

-- a slot that is used has a value
pub value_there : {T J : Type 0} (a : Inside T J) (i : ℕ) → IsTable a → is_some (get_or a.values.items i None) ≡ is_used (get_or a.states.items i status.Free)
value_there a i h =
    sym (at_map is_some a.values.items i None) ∙ ap (λ (bs : List Bool). get_or bs i false) h.filled ∙ at_map is_used a.states.items i status.Free

pub waiting_view : {T J : Type 0} (a : Inside T J) (p i : ℕ) (s : Status) (m : Shown) → m ≡ changed_in p (put_participant i) a.participants → state_of (record a { states = with_item a.states i s; participants = m }) ≡ waiting_as s p i (state_of a)
waiting_view a p i s m is = ap (λ (z : Shown). record (state_of a) { states = set a.states.items i s; participants = z.all }) is

pub retired_invariant : {T J : Type 0} (a : Inside T J) (p i : ℕ) (m : Shown) → IsTable a → p < length a.participants.all → i < length a.states.items → is_used (get_or a.states.items i status.Free) ≡ true → weight (get_or a.states.items i status.Free) ≡ 0 → m ≡ changed_in p (put_participant i) a.participants → IsTable (record a { states = with_item a.states i status.Retired; participants = m })
retired_invariant a p i m h known inside was light is =
    let s = status.Retired in
    let tallies = sum_by-set usage a.states.items i s status.Free inside in
    let one : usage (get_or a.states.items i status.Free) ≡ 1 = ap (λ (b : Bool). cond b 1 0) was in
    let t = h.tally in
    states_invariant a a.values a.jobs a.used m a.free a.idle i s h refl (sym (used-job _ was)) (filled_same a i s h (sym was)) (omega (arith, t, tallies, one)) (ap (λ (z : Shown). z.places) is) (waiting_held a p i s m h known inside light refl is)
    (lists_same vacancy a.states.items i s status.Free a.free.items inside (sym (used-vacancy _ was)) h.slots.lists) h.slots.room
    (lists_same idleness a.states.items i s status.Free a.idle.items inside (sym (used-idleness _ was)) h.places.lists) h.places.room

-- a place that doesn't wait is in no bag
pub in_none : {T J : Type 0} (a : Inside T J) (i : ℕ) → IsTable a → weight (get_or a.states.items i status.Free) ≡ 0 → sum_by (held_times i) a.participants.all ≡ 0
in_none a i h light = h.held i ∙ light

pub slot_in : {T J : Type 0} (a : Inside T J) (w : State T) (i : ℕ) → state_of a ≡ w → i < length w.states → i < length a.states.items
slot_in a w i e h = let P : State _ → Type 0 = λ s. i < length s.states in subst P (sym e) h

pub is_in : {T J : Type 0} (a : Inside T J) (w : State T) (i : ℕ) (s : Status) → state_of a ≡ w → status_at w i ≡ s → get_or a.states.items i status.Free ≡ s
is_in a w i s e h = let P : State _ → Type 0 = λ t. status_at t i ≡ s in subst P (sym e) h

pub used_in : {T J : Type 0} (a : Inside T J) (w : State T) (i : ℕ) (b : Bool) → state_of a ≡ w → is_used (status_at w i) ≡ b → is_used (get_or a.states.items i status.Free) ≡ b
used_in a w i b e h = let P : State _ → Type 0 = λ t. is_used (status_at t i) ≡ b in subst P (sym e) h

pub weight_in : {T J : Type 0} (a : Inside T J) (w : State T) (i n : ℕ) → state_of a ≡ w → weight (status_at w i) ≡ n → weight (get_or a.states.items i status.Free) ≡ n
weight_in a w i n e h = let P : State _ → Type 0 = λ t. weight (status_at t i) ≡ n in subst P (sym e) h

pub no_value : {T J : Type 0} (a : Inside T J) (i : ℕ) (x : Option T) → IsTable a → is_used (get_or a.states.items i status.Free) ≡ true → x ≡ get_or a.values.items i x → x ≡ None → ⊥
no_value a i x h is e n =
    let P : Option _ → Type 0 = λ y. y ≡ get_or a.values.items i y in
    let there : None ≡ get_or a.values.items i None = subst P n e in
    let t = value_there a i h in
    let f : false ≡ is_some (get_or a.values.items i None) = ap is_some there in
    cc

-- a slot that is used has a value
pub some_value : {T J : Type 0} (a : Inside T J) (i : ℕ) (x : Option T) → IsTable a → is_used (get_or a.states.items i status.Free) ≡ true → x ≡ get_or a.values.items i x → is_some x ≡ true
some_value a i None h is e = absurd (no_value a i None h is e refl)
some_value a i (Some v) h is e = refl

-- another value in a slot that is used
pub written_invariant : {T J : Type 0} (a : Inside T J) (i : ℕ) (v : T) → IsTable a → is_used (get_or a.states.items i status.Free) ≡ true → IsTable (record a { values = with_item a.values i (Some v) })
written_invariant a i v h is = record {
  filled = map-set_same is_some a.values.items i (Some v) None (sym (value_there a i h ∙ is)) ∙ h.filled;
  tally = h.tally;
  links = h.links;
  held = h.held;
  small = h.small;
  kinds = h.kinds;
  slots = h.slots;
  places = h.places;
  cells = h.cells;
}

pub a_value : {T J : Type 0} (a : Inside T J) (i : ℕ) (x : Option T) (v : T) → IsTable a → i < length a.states.items → is_used (get_or a.states.items i status.Free) ≡ false → x ≡ get_or a.values.items i x → x ≡ Some v → ⊥
a_value a i x v h inside is e n =
    let sizes : length (map is_some a.values.items) ≡ length (map is_used a.states.items) = ap length h.filled in
    let within : i < length a.values.items = omega (arith, length-map a.values.items is_some, length-map a.states.items is_used) in
    let t = value_there a i h in
    let other = get_or_default a.values.items i x None within in
    let f : true ≡ is_some (get_or a.values.items i None) = ap is_some (sym n ∙ e ∙ other) in
    cc

pub filled_set : {T J : Type 0} (a : Inside T J) (i : ℕ) (x : Option T) (s : Status) → IsTable a → is_some x ≡ is_used s → map is_some (set a.values.items i x) ≡ map is_used (set a.states.items i s)
filled_set a i x s h e =
    map-set is_some a.values.items i x ∙ ap (λ (bs : List Bool). set bs i (is_some x)) h.filled ∙ ap (λ (b : Bool). set (map is_used a.states.items) i b) e ∙ sym (map-set is_used a.states.items i s)

-- place i was due and is vacated, whatever the stacks are
pub taken_result : {T J : Type 0} (a : Inside T J) (w : State T) (p i : ℕ) (is : List ℕ) (m : Shown) (x y : Option T) (s : Status) (u : ℕ) (fr idl : Vec ℕ) → state_of a ≡ w → IsTable a → (participant_in a.participants.all p).due ≡ i ∷ is → m ≡ changed_in p (left_due is) a.participants → i < length a.states.items → s ≡ vacated (get_or a.states.items i status.Free) → x ≡ get_or a.values.items i x → y ≡ None → TakesDue p x w (state_of (record a { used = u; values = with_item a.values i y; states = with_item a.states i s; participants = m; free = fr; idle = idl }))
taken_result {T} {J} a w p i is m x y s u fr idl e h was to inside left val gone =
    let sizes : length (map is_some a.values.items) ≡ length (map is_used a.states.items) = ap length h.filled in
    let within : i < length a.values.items = omega (arith, length-map a.values.items is_some, length-map a.states.items is_used) in
    let b : Inside T J = record a { used = u; values = with_item a.values i y; states = with_item a.states i s; participants = m; free = fr; idle = idl } in
    let put : List (Option T) → List Status → List ParticipantState → State T = λ (vs : List (Option T)) (ss : List Status) (ms : List ParticipantState). record (state_of a) { values = vs; states = ss; participants = ms } in
    let now : state_of b ≡ taken p i is (state_of a) = ap (λ (z : Option T). put (set a.values.items i z) (set a.states.items i s) m.all) gone ∙ ap (λ (z : Status). put (set a.values.items i None) (set a.states.items i z) m.all) left ∙ ap (λ (z : Shown). put (set a.values.items i None) (set a.states.items i (vacated (get_or a.states.items i status.Free))) z.all) to in
    let result : TakesDue p x (state_of a) (state_of b) = record {
      place = i;
      rest = is;
      was = was;
      value = get_or_default a.values.items i None x within ∙ sym val;
      now = now;
    } in
    subst (λ (s : State T). TakesDue p x s (state_of b)) e result

-- where one element weighs nothing, fewer than all weigh one
pub light_all : {X : Type 0} (f : X → ℕ) → ((x : X) → f x ≤ 1) → (xs : List X) → sum_by f xs ≤ length xs
light_all f small [] = omega arith
light_all f small (x ∷ xs) = omega (arith, light_all f small xs, sum_by-cons f x xs, small x)

pub light_sum : {X : Type 0} (f : X → ℕ) → ((x : X) → f x ≤ 1) → (xs : List X) (i : ℕ) (d : X) → i < length xs → f (get_or xs i d) ≡ 0 → sum_by f xs < length xs
light_sum f small [] i d lt none = absurd (omega arith)
light_sum f small (x ∷ xs) zero d lt none = omega (arith, light_all f small xs, sum_by-cons f x xs, none)
light_sum f small (x ∷ xs) (suc i) d lt none = omega (arith, light_sum f small xs i d (omega arith) none, sum_by-cons f x xs, small x)

-- room for one more name
pub stack_room : {X : Type 0} (f : X → ℕ) → ((x : X) → f x ≤ 1) → (all : List X) (i : ℕ) (d : X) (st : Vec ℕ) → IsFreeList f all (length all) st → i < length all → f (get_or all i d) ≡ 0 → vec_len st < vec_capacity st
stack_room f small all i d st h inside none = omega (arith, h.lists.count, h.room, st.ok.0, light_sum f small all i d inside none)

-- one element that weighs less
less_all : {X : Type 0} (f g : X → ℕ) → ((x : X) → f x ≤ g x) → (xs : List X) → sum_by f xs ≤ sum_by g xs
less_all f g below [] = omega arith
less_all f g below (x ∷ xs) = omega (arith, less_all f g below xs, sum_by-cons f x xs, sum_by-cons g x xs, below x)

less_one : {X : Type 0} (f g : X → ℕ) → ((x : X) → f x ≤ g x) → (xs : List X) (i : ℕ) (d : X) → i < length xs → f (get_or xs i d) < g (get_or xs i d) → sum_by f xs < sum_by g xs
less_one f g below [] i d inside less = absurd (omega arith)
less_one f g below (x ∷ xs) zero d inside less = omega (arith, less_all f g below xs, sum_by-cons f x xs, sum_by-cons g x xs, less)
less_one f g below (x ∷ xs) (suc i) d inside less = omega (arith, less_one f g below xs i d (omega (arith, inside)) less, sum_by-cons f x xs, sum_by-cons g x xs, below x)

-- 1 for a slot, 1 for a job place
abbrev slot_is : Status → ℕ
slot_is s = cond (is_job s) 0 1

abbrev job_is : Status → ℕ
job_is s = cond (is_job s) 1 0

vacancy-slot : (s : Status) → vacancy s ≤ slot_is s
vacancy-slot status.Free = omega arith
vacancy-slot status.Owned = omega arith
vacancy-slot (status.Shared n) = omega arith
vacancy-slot status.Raw = omega arith
vacancy-slot (status.Collected n b) = omega arith
vacancy-slot status.Retired = omega arith
vacancy-slot status.Idle = omega arith
vacancy-slot status.Deferred = omega arith

idleness-job : (s : Status) → idleness s ≤ job_is s
idleness-job status.Free = omega arith
idleness-job status.Owned = omega arith
idleness-job (status.Shared n) = omega arith
idleness-job status.Raw = omega arith
idleness-job (status.Collected n b) = omega arith
idleness-job status.Retired = omega arith
idleness-job status.Idle = omega arith
idleness-job status.Deferred = omega arith

sum_map : {X Y : Type 0} (f : X → Y) (g : Y → ℕ) (xs : List X) → sum_by (λ x. g (f x)) xs ≡ sum_by g (map f xs)
sum_map f g [] = refl
sum_map f g (x ∷ xs) = omega (arith, sum_by-cons (λ y. g (f y)) x xs, sum_by-cons g (f x) (map f xs), sum_map f g xs)

-- so many slots there are, and job places
kinds_are : {T J : Type 0} (a : Inside T J) → IsTable a → (sum_by slot_is a.states.items ≡ a.slots) × (sum_by job_is a.states.items ≡ length a.jobs.items)
kinds_are a h =
    let m = a.slots in
    let n = length a.jobs.items in
    let by : (g : Bool → ℕ) → sum_by (λ s. g (is_job s)) a.states.items ≡ sum_by g (replicate m false) + sum_by g (replicate n true) = λ g. sum_map is_job g a.states.items ∙ ap (sum_by g) h.kinds ∙ sum_by-append g (replicate m false) (replicate n true) in
    let u : Bool → ℕ = λ b. cond b 0 1 in
    let v : Bool → ℕ = λ b. cond b 1 0 in
    (omega (arith, by u, sum_by-replicate u m false, sum_by-replicate u n true), omega (arith, by v, sum_by-replicate v m false, sum_by-replicate v n true))

-- room for the name of a slot that isn't free, of a job place that has a job
pub slot_room : {T J : Type 0} (a : Inside T J) (i : ℕ) → IsTable a → i < length a.states.items → is_job (get_or a.states.items i status.Free) ≡ false → vacancy (get_or a.states.items i status.Free) ≡ 0 → vec_len a.free < vec_capacity a.free
slot_room a i h inside kind none =
    let one : slot_is (get_or a.states.items i status.Free) ≡ 1 = ap (λ (b : Bool). cond b 0 1) kind in
    omega (arith, h.slots.lists.count, h.slots.room, a.free.ok.0, (kinds_are a h).0, less_one vacancy slot_is vacancy-slot a.states.items i status.Free inside (omega (arith, one, none)))

pub idle_room : {T J : Type 0} (a : Inside T J) (i : ℕ) → IsTable a → i < length a.states.items → is_job (get_or a.states.items i status.Free) ≡ true → idleness (get_or a.states.items i status.Free) ≡ 0 → vec_len a.idle < vec_capacity a.idle
idle_room a i h inside kind none =
    let one : job_is (get_or a.states.items i status.Free) ≡ 1 = ap (λ (b : Bool). cond b 1 0) kind in
    omega (arith, h.places.lists.count, h.places.room, a.idle.ok.0, (kinds_are a h).1, less_one idleness job_is idleness-job a.states.items i status.Free inside (omega (arith, one, none)))

pub usage-one : (s : Status) → usage s ≤ 1
usage-one s = elim (is_used s) as (λ b. cond b 1 0 ≤ 1) [ true ↦ omega arith | false ↦ omega arith ]

pub emptiness-one : (c : Cell) → emptiness c ≤ 1
emptiness-one cell.Free = omega arith
emptiness-one (cell.OfOwned o t) = omega arith
emptiness-one (cell.OfShared o t) = omega arith
emptiness-one (cell.OfRaw o t) = omega arith

pub within_values : {T J : Type 0} (a : Inside T J) (i : ℕ) → IsTable a → i < length a.states.items → i < vec_len a.values
within_values a i h inside =
    let sizes : length (map is_some a.values.items) ≡ length (map is_used a.states.items) = ap length h.filled in
    let size = a.values.ok.0 in
    omega (arith, length-map a.values.items is_some, length-map a.states.items is_used)

-- slot i is due to p, so it waits
pub due_waits : {T J : Type 0} (a : Inside T J) (w : State T) (p i : ℕ) (is : List ℕ) → state_of a ≡ w → (participant_in a.participants.all p).due ≡ i ∷ is → ((i : ℕ) (is : List ℕ) → (participant_at w p).due ≡ i ∷ is → (i < length w.states) × (weight (status_at w i) ≡ 1)) → (i < length a.states.items) × (weight (get_or a.states.items i status.Free) ≡ 1)
due_waits a w p i is e was waits =
    let there : (participant_at w p).due ≡ i ∷ is = ap (λ (s : State _). (participant_at s p).due) (sym e) ∙ was in
    let r = waits i is there in
    (slot_in a w i e r.0, weight_in a w i 1 e r.1)

pub last_value : {T : Type 0} (ys : List (Option T)) (x : Option T) (v : T) → x ≡ Some v → is_some (get_or (ys ++ x ∷ []) (length ys) None) ≡ true
last_value [] x v e = ap is_some e
last_value (y ∷ ys) x v e = last_value ys x v e

-- a stack that names nothing, and has as much room as before
pub none_named : {X : Type 0} (f : X → ℕ) (all : List X) (names : List ℕ) (d s : X) → Lists f all names → length names ≡ 0 → f s ≡ 1 → (i : ℕ) → i < length all → get_or all i d ≢ s
none_named f all names d s h none one i inside = λ same.
    let part = get_or-le-sum_by f all i d inside in
    let is : f (get_or all i d) ≡ 1 = ap f same ∙ one in
    let count = h.count in
    omega (arith, part, is, count, none)

pub stack_kept : {X : Type 0} (f : X → ℕ) (all : List X) (n : ℕ) (v w : Vec ℕ) → IsFreeList f all n v → v.items ≡ w.items ++ [] → vec_capacity v ≤ vec_capacity w → IsFreeList f all n w
stack_kept f all n v w h same cap = record { lists = subst (Lists f all) (same ∙ append-nil w.items) h.lists; room = omega (arith, h.room, cap) }

-- the last name on the stack of free slots
pub named_slot : {T J : Type 0} (a : Inside T J) (names : List ℕ) (i : ℕ) → IsTable a → a.free.items ≡ names ++ i ∷ [] → (i < length a.states.items) × (get_or a.states.items i status.Free ≡ status.Free)
named_slot a names i h e =
    let r = lists_names vacancy a.states.items i status.Free a.free.items names e h.slots.lists in
    (r.0, vacant-is _ r.1)

pub empty-is : (k : Cell) → 1 ≤ emptiness k → k ≡ cell.Free
empty-is cell.Free h = refl
empty-is (cell.OfOwned o t) h = absurd (omega arith)
empty-is (cell.OfShared o t) h = absurd (omega arith)
empty-is (cell.OfRaw o t) h = absurd (omega arith)

pub named_cell : {T J : Type 0} (a : Inside T J) (names : List ℕ) (c : ℕ) → IsTable a → a.free_cells.items ≡ names ++ c ∷ [] → (c < length a.cells.items) × (get_or a.cells.items c cell.Free ≡ cell.Free)
named_cell a names c h e =
    let r = lists_names emptiness a.cells.items c cell.Free a.free_cells.items names e h.cells.lists in
    (r.0, empty-is _ r.1)

-- one slot more is used, so their number fits
pub used_room : {T J : Type 0} (a : Inside T J) (i : ℕ) → IsTable a → i < length a.states.items → is_used (get_or a.states.items i status.Free) ≡ false → a.used < length a.states.items
used_room a i h inside not =
    let none : usage (get_or a.states.items i status.Free) ≡ 0 = ap (λ (b : Bool). cond b 1 0) not in
    omega (arith, h.tally, light_sum usage usage-one a.states.items i status.Free inside none)

pub placed_invariant : {T J : Type 0} (a : Inside T J) (x : Option T) (i : ℕ) (s : Status) (fr : Vec ℕ) → IsTable a → i < length a.states.items → get_or a.states.items i status.Free ≡ status.Free → is_some x ≡ true → is_used s ≡ true → weight s ≡ 0 → a.free.items ≡ fr.items ++ i ∷ [] → vec_capacity a.free ≤ vec_capacity fr → IsTable (record a { used = a.used + 1; values = with_item a.values i x; states = with_item a.states i s; free = fr })
placed_invariant a x i s fr h inside was some is light popped cap =
    let tallies = sum_by-set usage a.states.items i s status.Free inside in
    let one : usage s ≡ 1 = ap (λ (b : Bool). cond b 1 0) is in
    let none : usage (get_or a.states.items i status.Free) ≡ 0 = ap usage was in
    let heavy : weight (get_or a.states.items i status.Free) ≡ 0 = ap weight was in
    let vacant : vacancy (get_or a.states.items i status.Free) ≡ 1 = ap vacancy was in
    let busy : idleness (get_or a.states.items i status.Free) ≡ 0 = ap idleness was in
    let t = h.tally in
    states_invariant a (with_item a.values i x) a.jobs (a.used + 1) a.participants fr a.idle i s h refl (used-job s is ∙ sym (ap is_job was)) (filled_set a i x s h (some ∙ sym is)) (omega (arith, t, tallies, one, none)) refl (same_held a i s h inside (light ∙ sym heavy))
    (lists_pop vacancy a.states.items i s status.Free a.free.items fr.items popped inside vacant (used-vacancy s is) h.slots.lists) (omega (arith, h.slots.room, cap))
    (lists_same idleness a.states.items i s status.Free a.idle.items inside (used-idleness s is ∙ sym busy) h.places.lists) h.places.room

-- what waits is an item or a job
pub waits_item : (s : Status) → weight s ≡ 1 → is_used s ≡ true → s ≡ status.Retired
waits_item status.Free h u = absurd (omega (arith, h))
waits_item status.Owned h u = absurd (omega (arith, h))
waits_item (status.Shared k) h u = absurd (omega (arith, h))
waits_item status.Raw h u = absurd (omega (arith, h))
waits_item (status.Collected k b) h u = absurd (omega (arith, h))
waits_item status.Retired h u = refl
waits_item status.Idle h u = absurd (omega (arith, h))
waits_item status.Deferred h u = cc

pub waits_job : (s : Status) → weight s ≡ 1 → is_used s ≡ false → s ≡ status.Deferred
waits_job status.Free h u = absurd (omega (arith, h))
waits_job status.Owned h u = absurd (omega (arith, h))
waits_job (status.Shared k) h u = absurd (omega (arith, h))
waits_job status.Raw h u = absurd (omega (arith, h))
waits_job (status.Collected k b) h u = absurd (omega (arith, h))
waits_job status.Retired h u = cc
waits_job status.Idle h u = absurd (omega (arith, h))
waits_job status.Deferred h u = refl

-- the last name on the stack of job places without a job
pub named_idle : {T J : Type 0} (a : Inside T J) (names : List ℕ) (i : ℕ) → IsTable a → a.idle.items ≡ names ++ i ∷ [] → (i < length a.states.items) × (get_or a.states.items i status.Free ≡ status.Idle)
named_idle a names i h e =
    let r = lists_names idleness a.states.items i status.Free a.idle.items names e h.places.lists in
    (r.0, idle-is _ r.1)

in_tail : (m n i : ℕ) → get_or (replicate m false ++ replicate n true) i false ≡ true → (m ≤ i) × (i - m < n)
in_tail zero zero i h = absurd (false≢true h)
in_tail zero (suc n) zero h = (omega arith, omega arith)
in_tail zero (suc n) (suc i) h = let r = in_tail zero n i h in (omega arith, omega (arith, r.1))
in_tail (suc m) n zero h = absurd (false≢true h)
in_tail (suc m) n (suc i) h = let r = in_tail m n i h in (omega (arith, r.0), omega (arith, r.1))

-- a job place has a room for a job
pub job_room : {T J : Type 0} (a : Inside T J) (i : ℕ) → IsTable a → is_job (get_or a.states.items i status.Free) ≡ true → (a.slots ≤ i) × (i - a.slots < vec_len a.jobs)
job_room a i h is =
    let r = in_tail a.slots (length a.jobs.items) i (ap (λ (bs : List Bool). get_or bs i false) (sym h.kinds) ∙ at_map is_job a.states.items i status.Free ∙ is) in
    (r.0, omega (arith, r.1, a.jobs.ok.0))

-- a job is put into a place
pub deferred_invariant : {T J : Type 0} (a : Inside T J) (p i : ℕ) (m : Shown) (jb : Vec (Option J)) (idl : Vec ℕ) → IsTable a → p < length a.participants.all → i < length a.states.items → get_or a.states.items i status.Free ≡ status.Idle → length jb.items ≡ length a.jobs.items → m ≡ changed_in p (put_participant i) a.participants → a.idle.items ≡ idl.items ++ i ∷ [] → vec_capacity a.idle ≤ vec_capacity idl → IsTable (record a { states = with_item a.states i status.Deferred; jobs = jb; participants = m; idle = idl })
deferred_invariant a p i m jb idl h known inside was many is popped cap =
    let s = status.Deferred in
    let tallies = sum_by-set usage a.states.items i s status.Free inside in
    let none : usage (get_or a.states.items i status.Free) ≡ 0 = ap usage was in
    let t = h.tally in
    states_invariant a a.values jb a.used m a.free idl i s h many (sym (ap is_job was)) (filled_same a i s h (sym (ap is_used was))) (omega (arith, t, tallies, none)) (ap (λ (z : Shown). z.places) is) (waiting_held a p i s m h known inside (ap weight was) refl is)
    (lists_same vacancy a.states.items i s status.Free a.free.items inside (sym (ap vacancy was)) h.slots.lists) h.slots.room
    (lists_pop idleness a.states.items i s status.Free a.idle.items idl.items popped inside (ap idleness was) refl h.places.lists) (omega (arith, h.places.room, cap, many))

-- an item that was due is gone
pub vacated_invariant : {T J : Type 0} (a : Inside T J) (x : Option T) (p i : ℕ) (is : List ℕ) (m : Shown) (fr : Vec ℕ) → IsTable a → p < length a.participants.all → i < length a.states.items → get_or a.states.items i status.Free ≡ status.Retired → x ≡ None → (participant_in a.participants.all p).due ≡ i ∷ is → m ≡ changed_in p (left_due is) a.participants → fr.items ≡ a.free.items ++ i ∷ [] → vec_capacity a.free ≤ vec_capacity fr → IsTable (record a { used = a.used - 1; values = with_item a.values i x; states = with_item a.states i status.Free; participants = m; free = fr })
vacated_invariant a x p i is m fr h known inside was gone due to pushed cap =
    let s = status.Free in
    let tallies = sum_by-set usage a.states.items i s status.Free inside in
    let one : usage (get_or a.states.items i status.Free) ≡ 1 = ap usage was in
    let full : vacancy (get_or a.states.items i status.Free) ≡ 0 = ap vacancy was in
    let busy : idleness (get_or a.states.items i status.Free) ≡ 0 = ap idleness was in
    let t = h.tally in
    states_invariant a (with_item a.values i x) a.jobs (a.used - 1) m fr a.idle i s h refl (sym (ap is_job was)) (filled_set a i x s h (ap is_some gone)) (omega (arith, t, tallies, one)) (ap (λ (z : Shown). z.places) to) (taken_held a p i is s m h known inside (ap weight was) refl due to)
    (lists_push vacancy a.states.items i s status.Free a.free.items fr.items pushed inside full refl h.slots.lists) (omega (arith, h.slots.room, cap))
    (lists_same idleness a.states.items i s status.Free a.idle.items inside (sym busy) h.places.lists) h.places.room

-- an item that waited in no bag is gone
pub removed_invariant : {T J : Type 0} (a : Inside T J) (x : Option T) (i : ℕ) (fr : Vec ℕ) → IsTable a → i < length a.states.items → is_used (get_or a.states.items i status.Free) ≡ true → weight (get_or a.states.items i status.Free) ≡ 0 → x ≡ None → fr.items ≡ a.free.items ++ i ∷ [] → vec_capacity a.free ≤ vec_capacity fr → IsTable (record a { used = a.used - 1; values = with_item a.values i x; states = with_item a.states i status.Free; free = fr })
removed_invariant a x i fr h inside was light gone pushed cap =
    let s = status.Free in
    let tallies = sum_by-set usage a.states.items i s status.Free inside in
    let one : usage (get_or a.states.items i status.Free) ≡ 1 = ap (λ (b : Bool). cond b 1 0) was in
    let t = h.tally in
    states_invariant a (with_item a.values i x) a.jobs (a.used - 1) a.participants fr a.idle i s h refl (sym (used-job _ was)) (filled_set a i x s h (ap is_some gone)) (omega (arith, t, tallies, one)) refl (same_held a i s h inside (sym light))
    (lists_push vacancy a.states.items i s status.Free a.free.items fr.items pushed inside (used-vacancy _ was) refl h.slots.lists) (omega (arith, h.slots.room, cap))
    (lists_same idleness a.states.items i s status.Free a.idle.items inside (sym (used-idleness _ was)) h.places.lists) h.places.room

-- a job that was due is gone
pub run_invariant : {T J : Type 0} (a : Inside T J) (x : Option T) (jb : Vec (Option J)) (p i : ℕ) (is : List ℕ) (m : Shown) (idl : Vec ℕ) → IsTable a → length jb.items ≡ length a.jobs.items → p < length a.participants.all → i < length a.states.items → get_or a.states.items i status.Free ≡ status.Deferred → x ≡ None → (participant_in a.participants.all p).due ≡ i ∷ is → m ≡ changed_in p (left_due is) a.participants → idl.items ≡ a.idle.items ++ i ∷ [] → vec_capacity a.idle ≤ vec_capacity idl → IsTable (record a { values = with_item a.values i x; jobs = jb; states = with_item a.states i status.Idle; participants = m; idle = idl })
run_invariant a x jb p i is m idl h many known inside was gone due to pushed cap =
    let s = status.Idle in
    let tallies = sum_by-set usage a.states.items i s status.Free inside in
    let none : usage (get_or a.states.items i status.Free) ≡ 0 = ap usage was in
    let full : vacancy (get_or a.states.items i status.Free) ≡ 0 = ap vacancy was in
    let busy : idleness (get_or a.states.items i status.Free) ≡ 0 = ap idleness was in
    let t = h.tally in
    states_invariant a (with_item a.values i x) jb a.used m a.free idl i s h many (sym (ap is_job was)) (filled_set a i x s h (ap is_some gone)) (omega (arith, t, tallies, none)) (ap (λ (z : Shown). z.places) to) (taken_held a p i is s m h known inside (ap weight was) refl due to)
    (lists_same vacancy a.states.items i s status.Free a.free.items inside (sym full) h.slots.lists) h.slots.room
    (lists_push idleness a.states.items i s status.Free a.idle.items idl.items pushed inside busy refl h.places.lists) (omega (arith, h.places.room, cap, many))

-- a cell is used in another way
pub cell_invariant : {T J : Type 0} (a : Inside T J) (c : ℕ) (k : Cell) (fr : Vec ℕ) → IsTable a → Lists emptiness (set a.cells.items c k) fr.items → length a.cells.items ≤ vec_capacity fr → IsTable (record a { cells = with_item a.cells c k; free_cells = fr })
cell_invariant a c k fr h lists cap =
    let size = length-set {A = Cell} a.cells.items c k in
    record { filled = h.filled; tally = h.tally; links = h.links; held = h.held; small = h.small; kinds = h.kinds; slots = h.slots; places = h.places; cells = record { lists = lists; room = omega (arith, size, cap) } }

pub cell_in : {T J : Type 0} (a : Inside T J) (w : State T) (c : ℕ) → state_of a ≡ w → c < length w.cells → c < length a.cells.items
cell_in a w c e h = let P : State _ → Type 0 = λ s. c < length s.cells in subst P (sym e) h

pub emptiness_in : {T J : Type 0} (a : Inside T J) (w : State T) (c n : ℕ) → state_of a ≡ w → emptiness (cell_at w c) ≡ n → emptiness (get_or a.cells.items c cell.Free) ≡ n
emptiness_in a w c n e h = let P : State _ → Type 0 = λ s. emptiness (cell_at s c) ≡ n in subst P (sym e) h

pub some_left : (v : Vec ℕ) (b : Bool) → b ≡ (vec_len v == 0) → b ≡ false → length v.items ≢ 0
some_left v b e h = λ none. let z : vec_len v ≡ 0 = v.ok.0 ∙ none in let t : (vec_len v == 0) ≡ false = sym e ∙ h in grind (arith, nat_tests)

pub replicate-add : {X : Type 0} (m n : ℕ) (x : X) → replicate (m + n) x ≡ replicate m x ++ replicate n x
replicate-add zero n x = let e : 0 + n ≡ n = omega arith in ap (λ (k : ℕ). replicate k x) e
replicate-add {X} (suc m) n x = let e : suc m + n ≡ suc (m + n) = omega arith in ap (λ (k : ℕ). replicate k x) e ∙ ap (λ (xs : List X). x ∷ xs) (replicate-add m n x)

-- nothing waits in a new store
light_at : (m n j : ℕ) → weight (get_or (replicate m status.Free ++ replicate n status.Idle) j status.Free) ≡ 0
light_at zero zero j = refl
light_at zero (suc n) zero = refl
light_at zero (suc n) (suc j) = light_at zero n j
light_at (suc m) n zero = refl
light_at (suc m) n (suc j) = light_at m n j

none_waits : (m n j : ℕ) (ss : List Status) → ss ≡ replicate m status.Free ++ replicate n status.Idle → weight (get_or ss j status.Free) ≡ 0
none_waits m n j ss s = ap (λ (xs : List Status). weight (get_or xs j status.Free)) s ∙ light_at m n j

-- a new store
pub table_fresh : {T J : Type 0} (a : Inside T J) (m n : ℕ) → a.used ≡ 0 → a.slots ≡ m → length a.jobs.items ≡ n → a.values.items ≡ replicate (m + n) None → a.states.items ≡ replicate m status.Free ++ replicate n status.Idle → (k : ℕ) → a.participants ≡ record { places = m + n; all = replicate k nobody } → Lists vacancy a.states.items a.free.items → m ≤ vec_capacity a.free → Lists idleness a.states.items a.idle.items → n ≤ vec_capacity a.idle → IsFreeList emptiness a.cells.items (length a.cells.items) a.free_cells → m + n < 4294967296 → IsTable a
table_fresh a m n u first many v s k new free roomy idle roomier cells least =
    let size : length a.states.items ≡ m + n = ap length s ∙ length-append (replicate m status.Free) (replicate n status.Idle) ∙ omega (arith, length-replicate m status.Free, length-replicate n status.Idle) in
    let count : sum_by usage a.states.items ≡ 0 = ap (sum_by usage) s ∙ sum_by-append usage (replicate m status.Free) (replicate n status.Idle) ∙ omega (arith, sum_by-replicate usage m status.Free, sum_by-replicate usage n status.Idle) in
    record {
      filled = ap (map is_some) v ∙ map-replicate is_some (m + n) None ∙ replicate-add m n false ∙ sym (ap (map is_used) s ∙ map-append is_used (replicate m status.Free) (replicate n status.Idle) ∙ ap (λ (bs : List Bool). bs ++ map is_used (replicate n status.Idle)) (map-replicate is_used m status.Free) ∙ ap (λ (bs : List Bool). replicate m false ++ bs) (map-replicate is_used n status.Idle));
      tally = u ∙ sym count;
      links = ap (λ (z : Shown). z.places) new ∙ sym size;
      held = λ j. ap (λ (z : Shown). sum_by (held_times j) z.all) new ∙ none_held k j ∙ sym (none_waits m n j a.states.items s);
      small = omega (arith, size, least);
      kinds = ap (map is_job) s ∙ map-append is_job (replicate m status.Free) (replicate n status.Idle) ∙ ap (λ (bs : List Bool). bs ++ map is_job (replicate n status.Idle)) (map-replicate is_job m status.Free) ∙ ap (λ (bs : List Bool). replicate m false ++ bs) (map-replicate is_job n status.Idle) ∙ ap (λ (k : ℕ). replicate k false ++ replicate n true) (sym first) ∙ ap (λ (k : ℕ). replicate a.slots false ++ replicate k true) (sym many);
      slots = record { lists = free; room = omega (arith, first, roomy) };
      places = record { lists = idle; room = omega (arith, many, roomier) };
      cells = cells;
    }

-- an element weighs at most what all do
pub at_most : {X : Type 0} (f : X → ℕ) (xs : List X) (k : ℕ) (d : X) → f d ≡ 0 → f (get_or xs k d) ≤ sum_by f xs
at_most f [] k d none = omega (arith, none)
at_most f (x ∷ xs) zero d none = omega (arith, sum_by-cons f x xs)
at_most f (x ∷ xs) (suc k) d none = omega (arith, sum_by-cons f x xs, at_most f xs k d none)

pub unused_if : (b : Bool) → ◌≡◌ {A = ℕ} (cond b 1 0) 0 → b ≡ false
unused_if true h = absurd (omega (arith, h))
unused_if false h = refl

-- no slot has an item
pub unused_all : {T J : Type 0} (a : Inside T J) (k : ℕ) → sum_by usage a.states.items ≡ 0 → is_used (get_or a.states.items k status.Free) ≡ false
unused_all a k none = unused_if _ (let m = at_most usage a.states.items k status.Free refl in omega (arith, m, none))
