-- a step of a seat's own participant keeps the rule of the table
use Rattle.std.proofs.Common.{◌≡◌, ◌≢◌, ◌⊎◌, ℕ, ◌+◌, ◌*◌, ◌<◌, ◌≤◌, List, [], length, get_or, set, sym, refl, ap, ◌∙◌, subst, ⊎_elim, inl, inr, arith, length-set, get_or-set_other, get_or-set_same}
use mathlib.Core.Logic.{dite}
use mathlib.Core.Option as maybe
use mathlib.Core.Option.{some}
use native.Mathlib.Decide.{ℕ_discrete}
use lib.ListN.{get_elem?}
use lib.Seq.{set-get_or}
use Rattle.atomic_table.specs.Table.{State}
use Rattle.atomic_table.proofs.Lists.{set_again}
use Rattle.domain_table.specs.declared.board.Plan.{Plan}
use Rattle.sdd_plain.specs.declared.sizes.Sizes.{Sizes}
use Rattle.sdd_steps.specs.declared.participant.Phase.TheVariants.{Idle, Opened}
use Rattle.sdd_steps.specs.declared.participant.Participant.{Participant}
use Rattle.sdd_steps.specs.State.{At, Has, newcomer}
use Rattle.sdd_steps.specs.State as steps
use Rattle.sdd_steps.proofs.ListLemmas.{put, put_here, put_else, set_all, set_here, set_else, at_inside}
use Rattle.domain_table.specs.Views.{rested}
use Rattle.sdd_homes.specs.Book.{Content, Book}
use Rattle.sdd_homes.specs.declared.Lease.{Lease}
use Rattle.sdd_homes.specs.declared.Garbage.{Garbage}
use Rattle.sdd_homes.specs.Reasons.{Loads, Why}
use Rattle.domain_table.specs.Layout.{state_word, claim_word, slot_word, lock_word, count_word, epoch_words, shown}
use Rattle.domain_table.specs.Items.{Grasps, Grip, IsWaiting, IsLeftover, IsNoted, IsLinked, Carries, Items, Distinct}
use Rattle.domain_table.proofs.Stirred.{Stirred, stirred_none, still_left, grip_set, loads_others, seated}
use Rattle.domain_table.proofs.Stirred as items
use Rattle.domain_table.proofs.Privates.{private_set}
use Rattle.domain_table.proofs.LeftWords.{lefts_else}
use Rattle.domain_table.specs.Rule.{Acts, Bounded, Runs, beginning, Shows, Lefts}
use Rattle.domain_table.proofs.Bounds.{changes}
use Rattle.domain_table.proofs.Taken.{goes_on, run_keeps}
use Rattle.domain_table.specs.declared.board.Acting.{Acting}

-- the seat's own participant becomes what the view d' knows, by a single step that raises nothing
module _ (state : steps.State) (born : ℕ → ℕ) (d d' : Acting) where
  pub record Moves : Type 0 where
    pub core : steps.State
    pub runs : Runs state core
    pub count : core.count ≡ state.count
    pub changed : core.participants ≡ set state.participants d.number d'.known
    pub inside : (e : ℕ) → d'.known.phase ≡ Opened e → (e ≤ d'.born) × (d'.born ≤ state.count) × (state.count ≤ d'.born + 1)
    pub again : (e : ℕ) → d'.known.phase ≡ Opened e → (d'.born ≡ state.count) ⊎ ((d.known.phase ≡ Opened e) × (d'.born ≡ born d.number))
    pub looks : (q : ℕ) (y : Participant) (e : ℕ) → d'.known.phase ≡ Opened state.count → Has d'.known.looked q → q ≢ d.number → At state.participants q y → y.phase ≡ Opened e → state.count ≤ born q
    pub still : d'.known.phase ≡ Idle → d'.known ≡ rested d'.known.found
    pub number : d'.number ≡ d.number
    pub scan : 0 < d'.scan → 0 < d.scan
    pub present : 1 < d'.scan → d'.known.phase ≡ Opened state.count

-- and it leaves items and cells alone
module _ (state core : steps.State) (d d' : Acting) where
  pub record Leaves : Type 0 where
    pub cells : core.cells ≡ state.cells
    pub stirred : Stirred state.items core.items
    pub loads : (d.leases ≡ []) ⊎ ((i : ℕ) → Loads state d.number i → Loads core d.number i)
    pub same : d' ≡ record d { known = d'.known; born = d'.born; scan = d'.scan; waits = d'.waits; cell_steps = d'.cell_steps }
    pub distinct : Distinct d.waits → Distinct d'.waits
    pub waits_mine : (slot_of : ℕ → ℕ) (w : Garbage) → ((v : Garbage) → Has d.waits v → IsWaiting state.items slot_of d.number v) → Has d'.waits w → IsWaiting core.items slot_of d.number w
    pub links_mine : (sizes : Sizes) (words : List ℕ) (w : Garbage) → ((v : Garbage) → Has d.waits v → IsLinked sizes words v) → Has d'.waits w → IsLinked sizes words w
    pub waits_others : (slot_of : ℕ → ℕ) (q : ℕ) (w : Garbage) → q ≢ d.number → IsWaiting state.items slot_of q w → IsWaiting core.items slot_of q w
    pub lefts : (slot_of : ℕ → ℕ) (w : Garbage) → IsLeftover state.items slot_of w → IsLeftover core.items slot_of w
    pub notes : (slot_of : ℕ → ℕ) (w : Garbage) → IsNoted state.items slot_of w → IsNoted core.items slot_of w

-- the words change at most where this participant publishes
module _ (m p : ℕ) (before after : List ℕ) where
  pub record Writes (v : ℕ) : Type 0 where
    pub long : length after ≡ length before
    pub count : get_or after count_word 0 ≡ get_or before count_word 0
    pub lock : get_or after lock_word 0 ≡ get_or before lock_word 0
    pub claims : (q : ℕ) → q < m → get_or after (claim_word q) 0 ≡ get_or before (claim_word q) 0
    pub others : (q : ℕ) → q < m → q ≢ p → get_or after (state_word q) 0 ≡ get_or before (state_word q) 0
    pub mine : get_or after (state_word p) 0 ≡ v

module _ (S : Type 0) (IsIn : Content → S → Type 0) (plan : Plan) where
  abbrev pub Table : Type 0
  Table = State S Acting

  abbrev pub Shown : Table → Type 0
  Shown = Shows IsIn plan

  -- what stands of items and cells stays
  items_moved : (s : Table) (r : Shown s) (id : ℕ) (d d' : Acting) (words' : List ℕ) (m : Moves r.state r.born d d') (v : Leaves r.state m.core d d') → get_elem? s.views id ≡ some d → d.kind ≡ 1 → Writes (length r.state.participants) d.number s.words words' (shown d'.known.phase) → ((i : ℕ) → epoch_words plan.sizes.participants ≤ i → get_or words' i 0 ≡ get_or s.words i 0)
      → Items IsIn plan.sizes m.core r.book words' s.homes (set s.views id d')
  items_moved s r id d d' words' m v at kind w high = let p = d.number in let c = r.items.seats id d at kind in let views' = set s.views id d' in
      let why : (q : ℕ) (l : Lease) → Has (r.book.out q) l → Why r.state (Grip s.views) q l.item → Why m.core (Grip views') q l.item = (λ q l has y. ⊎_elim
      (λ (t : Loads r.state q l.item). dite (ℕ_discrete q p)
      (λ e. ⊎_elim (λ (none : d.leases ≡ []). absurd (subst (λ (ls : List Lease). Has ls l) (ap r.book.out e ∙ (c.leases ∙ none)) has)) (λ (on : (i : ℕ) → Loads r.state p i → Loads m.core p i). inl (subst (λ z. Loads m.core z l.item) (sym e) (on l.item (subst (λ z. Loads r.state z l.item) e t)))) v.loads)
      (λ ne. inl (loads_others r.state m.core p d'.known m.changed q l.item ne t)))
      (λ (g : Grip s.views q l.item). inr (grip_set s.views id d d' at (λ q' i' h. subst (λ (z : Acting). Grasps z q' i') (sym v.same) h) q l.item g)) y) in
      items.stays r.items m.core words' views' v.cells v.stirred why (record { long = w.long; high = high; freed = λ q small _. inl (w.claims q (omega (arith, r.epochs.many))) })
      (seated r.items id d d' at (ap (λ (z : Acting). z.hand) v.same)
      (λ _. subst (Carries plan.sizes r.book) (sym v.same) (record { sizes_are = c.sizes_are; leases = c.leases; spare = c.spare; fills = c.fills; distinct = v.distinct c.distinct; left = c.left })))
      (items.waits_set r.items m.core.items id d' (λ u k has. subst (λ q. IsWaiting m.core.items r.book.slot_of q u) (sym m.number) (v.waits_mine r.book.slot_of u (λ u' h. r.items.waiting id d u' at kind h) has))
      (λ j e u other here k has. let a = r.epochs.seats id d at kind in let x = r.epochs.seats j e here k in v.waits_others r.book.slot_of e.number u (λ same. other (sym x.seated ∙ (ap r.epochs.seat_of same ∙ a.seated))) (r.items.waiting j e u here k has)))
      (still_left r.items.leftovers (λ u h. v.lefts r.book.slot_of u h))
      (private_set r.items.private (λ u h. v.notes r.book.slot_of u h) id d d' at (ap (λ (z : Acting). z.collected) v.same))
      (items.links_set r.items words' r.book.left id d' high (λ u _ has. v.links_mine plan.sizes s.words u (λ u' h. r.items.links.waits id d u' at kind h) has)
      (λ u has. r.items.links.notes id d u at (subst (λ (us : List Garbage). Has us u) (ap (λ (z : Acting). z.collected) v.same) has)) r.items.links.lefts)

  -- what stands of epochs is kept, with what is told of items and cells, and of what was left
  pub moved_to : (s : Table) (r : Shown s) (id : ℕ) (d d' : Acting) (words' : List ℕ) (homes' : List (maybe.Option S)) (book' : Book) (m : Moves r.state r.born d d') → get_elem? s.views id ≡ some d → d.kind ≡ 1
      → Writes (length r.state.participants) d.number s.words words' (shown d'.known.phase) → Lefts plan.sizes.participants words' book'.left → Items IsIn plan.sizes m.core book' words' homes' (set s.views id d')
      → (r' : Shown record { words = words'; homes = homes'; views = set s.views id d' }) × (r'.book ≡ book')
  moved_to s r id d d' words' homes' book' m at kind w lefts told = let e = r.epochs in let a = e.seats id d at kind in let p = d.number in let x' = d'.known in let ps = r.state.participants in (
    record {
      state = m.core;
      run = goes_on (beginning plan) r.state m.core r.run m.runs;
      kept = run_keeps r.state m.core m.runs r.kept;
      book = book';
      items = told;
      lefts = lefts;
      born = put r.born p d'.born;
      bounded = subst (λ (z : List Participant × ℕ). Bounded z.0 z.1 (put r.born p d'.born)) (λ k. (sym m.changed k, sym m.count k))
          (changes ps r.state.count r.born r.bounded p d.known x' d'.born a.is m.inside m.again m.looks);
      epochs = record {
        seat_of = e.seat_of;
        scanner = e.scanner;
        wide = subst (λ n. 8 * plan.sizes.participants + 16 ≤ n) (sym w.long) e.wide;
        many = ap length m.changed ∙ (length-set ps p x' ∙ e.many);
        count_is = w.count ∙ (e.count_is ∙ sym m.count);
        states = λ q y at_q. set_all (λ q' y'. get_or words' (state_word q') 0 ≡ shown y'.phase) ps p x' w.mine
            (λ q' y' other here. w.others q' (at_inside ps q' y' here) other ∙ e.states q' y' here) q y (subst (λ l. At l q y) m.changed at_q);
        free = λ q y at_q some_. set_all (λ q' y'. get_or words' (claim_word q') 0 ≢ 0 → y' ≡ newcomer) ps p x' (λ z. absurd (z (w.claims p (at_inside ps p d.known a.is) ∙ a.claimed)))
            (λ q' y' other here z. e.free q' y' here (λ t. z (w.claims q' (at_inside ps q' y' here) ∙ t))) q y (subst (λ l. At l q y) m.changed at_q) some_;
        seats = λ j z at_j k. set_all (λ j' z'. z'.kind ≡ 1 → Acts m.core.participants m.core.count (put r.born p d'.born) words' e.seat_of e.scanner j' z') s.views id d'
            (λ _. record {
              is = subst (λ (l : List Participant). At l d'.number x') (sym m.changed) (subst (λ k. At (set ps p x') k x') (sym m.number) (set_here ps p x' d.known a.is));
              seated = ap e.seat_of m.number ∙ a.seated;
              claimed = ap (λ k. get_or words' (claim_word k) 0) m.number ∙ (w.claims p (at_inside ps p d.known a.is) ∙ a.claimed);
              locked = λ more. let l = a.locked (m.scan more) in (w.lock ∙ l.0, l.1);
              present = λ more. m.present more ∙ ap Opened (sym m.count);
              begun = λ _ _. sym (put_here r.born p d'.born) ∙ ap (put r.born p d'.born) (sym m.number);
              still = m.still;
            })
            (λ j' z' other here kind'. let b = e.seats j' z' here kind' in let apart : z'.number ≢ p = (λ same. other (sym b.seated ∙ (ap e.seat_of same ∙ a.seated))) in record {
              is = subst (λ (l : List Participant). At l z'.number z'.known) (sym m.changed) (set_else ps p z'.number x' apart ∙ b.is);
              seated = b.seated;
              claimed = w.claims z'.number (at_inside ps z'.number z'.known b.is) ∙ b.claimed;
              locked = λ more. let l = b.locked more in (w.lock ∙ l.0, l.1);
              present = λ more. b.present more ∙ ap Opened (sym m.count);
              begun = λ n is. b.begun n is ∙ sym (put_else r.born p d'.born z'.number apart);
              still = b.still;
            }) j z at_j k;
      };
    },
    refl,
  )

  pub moved : (s : Table) (r : Shown s) (id : ℕ) (d d' : Acting) (words' : List ℕ) (homes' : List (maybe.Option S)) (book' : Book) (m : Moves r.state r.born d d') → get_elem? s.views id ≡ some d → d.kind ≡ 1
      → Writes (length r.state.participants) d.number s.words words' (shown d'.known.phase) → Lefts plan.sizes.participants words' book'.left → Items IsIn plan.sizes m.core book' words' homes' (set s.views id d') → Shown record { words = words'; homes = homes'; views = set s.views id d' }
  moved s r id d d' words' homes' book' m at kind w lefts told = (moved_to s r id d d' words' homes' book' m at kind w lefts told).0

  -- no word changes
  pub reads_only : (s : Table) (r : Shown s) (id : ℕ) (d d' : Acting) → get_elem? s.views id ≡ some d → d.kind ≡ 1 → shown d'.known.phase ≡ shown d.known.phase → Writes (length r.state.participants) d.number s.words s.words (shown d'.known.phase)
  reads_only s r id d d' at kind same = record {
    long = refl;
    count = refl;
    lock = refl;
    claims = λ q _. refl;
    others = λ q _ _. refl;
    mine = r.epochs.states d.number d.known (r.epochs.seats id d at kind).is ∙ sym same;
  }

  -- the same at a load
  pub own_load : (s : Table) (r : Shown s) (i id : ℕ) (d d' : Acting) (m : Moves r.state r.born d d') → Leaves r.state m.core d d' → get_elem? s.views id ≡ some d → d.kind ≡ 1 → shown d'.known.phase ≡ shown d.known.phase
      → Shown record { words = set s.words i (get_or s.words i 0); homes = s.homes; views = set s.views id d' }
  own_load s r i id d d' m v at kind same = let w = reads_only s r id d d' at kind same in subst (λ ws. Shown record { words = ws; homes = s.homes; views = set s.views id d' }) (sym (set-get_or s.words i 0))
      (moved s r id d d' s.words s.homes r.book m at kind w r.lefts (items_moved s r id d d' s.words m v at kind w (λ _ _. refl)))

  -- the same where the participant's own word is written
  pub own_store : (s : Table) (r : Shown s) (v id : ℕ) (d d' : Acting) (m : Moves r.state r.born d d') → Leaves r.state m.core d d' → get_elem? s.views id ≡ some d → d.kind ≡ 1 → v ≡ shown d'.known.phase
      → Shown record { words = set s.words (state_word d.number) v; homes = s.homes; views = set s.views id d' }
  own_store s r v id d d' m l at kind is = let p = d.number in let i : ℕ = state_word p in let a = r.epochs.seats id d at kind in let inside = at_inside r.state.participants p d.known a.is in
      let many = r.epochs.many in let wide = r.epochs.wide in let w : Writes (length r.state.participants) d.number s.words (set s.words i v) (shown d'.known.phase) = (record {
        long = length-set s.words i v;
        count = get_or-set_other s.words i 0 v 0 (λ e. omega arith);
        lock = get_or-set_other s.words i 8 v 0 (λ e. omega arith);
        claims = λ q _. get_or-set_other s.words i (claim_word q) v 0 (λ e. omega arith);
        others = λ q _ other. get_or-set_other s.words i (state_word q) v 0 (λ e. other (omega arith));
        mine = get_or-set_same s.words i v 0 (omega arith) ∙ is;
      }) in moved s r id d d' (set s.words i v) s.homes r.book m at kind w (lefts_else r.lefts i v (λ q _ e. omega arith)) (items_moved s r id d d' (set s.words i v) m l at kind w (λ j le. get_or-set_other s.words i j v 0 (λ e. omega arith)))

  -- what is known of the seat's own open guard
  pub own_inside : (s : Table) (r : Shown s) (id : ℕ) (d : Acting) → get_elem? s.views id ≡ some d → d.kind ≡ 1 → (e : ℕ) → d.known.phase ≡ Opened e
      → (e ≤ d.born) × (d.born ≤ r.state.count) × (r.state.count ≤ d.born + 1)
  own_inside s r id d at kind e is = let a = r.epochs.seats id d at kind in let i = r.bounded.inside d.number d.known e a.is is in subst (λ b. (e ≤ b) × (b ≤ r.state.count) × (r.state.count ≤ b + 1)) (sym (a.begun e is)) i

  -- the participant stays as it is, at this stage of a scan
  pub stays : (s : Table) (r : Shown s) (i id st : ℕ) (d : Acting) → get_elem? s.views id ≡ some d → d.kind ≡ 1 → (0 < st → 0 < d.scan) → (1 < st → d.known.phase ≡ Opened r.state.count)
      → Shown record { words = set s.words i (get_or s.words i 0); homes = s.homes; views = set s.views id (record d { scan = st }) }
  stays s r i id st d at kind scan present = let a = r.epochs.seats id d at kind in own_load s r i id d (record d { scan = st }) (record {
    core = r.state;
    runs = ([], refl);
    count = refl;
    changed = sym (set_again r.state.participants d.number d.known a.is);
    inside = own_inside s r id d at kind;
    again = λ e is. inr (is, a.begun e is);
    number = refl;
    looks = λ q y e is has other at_q is_q. r.bounded.looks d.number d.known q y e a.is is has at_q is_q;
    still = a.still;
    scan = scan;
    present = present;
  }) (record {
    cells = refl;
    stirred = stirred_none r.state.items;
    loads = inr (λ i l. l);
    same = refl;
    distinct = λ h. h;
    waits_mine = λ _ w all h. all w h;
    links_mine = λ _ _ w all h. all w h;
    waits_others = λ _ _ _ _ h. h;
    lefts = λ _ _ h. h;
    notes = λ _ _ h. h;
  }) at kind refl

  -- nothing is told
  pub idles : (s : Table) (r : Shown s) (i id : ℕ) (d : Acting) → get_elem? s.views id ≡ some d → Shown record { words = set s.words i (get_or s.words i 0); homes = s.homes; views = set s.views id d }
  idles s r i id d at = subst (λ (z : List ℕ × List Acting). Shown record { words = z.0; homes = s.homes; views = z.1 }) (λ k. (sym (set-get_or s.words i 0) k, sym (set_again s.views id d at) k)) r

  -- the word of the count stands beside the count of the seat's own publication
  pub once : (s : Table) (r : Shown s) (id : ℕ) (d : Acting) → get_elem? s.views id ≡ some d → d.kind ≡ 1 → (e : ℕ) → d.known.phase ≡ Opened e
      → (e ≤ d.born) × (d.born ≤ get_or s.words count_word 0) × (get_or s.words count_word 0 ≤ d.born + 1)
  once s r id d at kind e is = subst (λ n. (e ≤ d.born) × (d.born ≤ n) × (n ≤ d.born + 1)) (sym r.epochs.count_is) (own_inside s r id d at kind e is)

  -- the word of a slot is written, and its participant publishes nothing
  pub slot_written : (s : Table) (r : Shown s) (id : ℕ) (d d' : Acting) (k v : ℕ) → get_elem? s.views id ≡ some d → d.kind ≡ 1 → d'.known ≡ d.known → k < plan.sizes.slots → Writes (length r.state.participants) d.number s.words (set s.words (slot_word plan.sizes k) v) (shown d'.known.phase)
  slot_written s r id d d' k v at kind known inside = let word : ℕ = slot_word plan.sizes k in let a = r.epochs.seats id d at kind in let low = at_inside r.state.participants d.number d.known a.is in let many = r.epochs.many in record {
    long = length-set s.words word v;
    count = get_or-set_other s.words word 0 v 0 (λ z. omega arith);
    lock = get_or-set_other s.words word 8 v 0 (λ z. omega arith);
    claims = λ q small. get_or-set_other s.words word (claim_word q) v 0 (λ z. omega arith);
    others = λ q small _. get_or-set_other s.words word (state_word q) v 0 (λ z. omega arith);
    mine = get_or-set_other s.words word (state_word d.number) v 0 (λ z. omega arith) ∙ (r.epochs.states d.number d.known a.is ∙ ap (λ (z : Participant). shown z.phase) (sym known));
  }

  -- the seat's own participant stays as it is, whatever becomes of items
  pub items_change_to : (s : Table) (r : Shown s) (id : ℕ) (d d' : Acting) (core : steps.State) (words' : List ℕ) (homes' : List (maybe.Option S)) (book' : Book) → get_elem? s.views id ≡ some d → d.kind ≡ 1 → d'.known ≡ d.known → d'.born ≡ d.born → d'.number ≡ d.number → d'.scan ≡ d.scan
      → Runs r.state core → core.count ≡ r.state.count → core.participants ≡ r.state.participants → Writes (length r.state.participants) d.number s.words words' (shown d'.known.phase) → Lefts plan.sizes.participants words' book'.left → Items IsIn plan.sizes core book' words' homes' (set s.views id d')
      → (r' : Shown record { words = words'; homes = homes'; views = set s.views id d' }) × (r'.book ≡ book')
  items_change_to s r id d d' core words' homes' book' at kind known born number scan runs count same w lefts told = let a = r.epochs.seats id d at kind in let phase = ap (λ (z : Participant). z.phase) known in moved_to s r id d d' words' homes' book' (record {
    core = core;
    runs = runs;
    count = count;
    changed = same ∙ (sym (set_again r.state.participants d.number d.known a.is) ∙ ap (set r.state.participants d.number) (sym known));
    inside = λ e h. subst (λ b. (e ≤ b) × (b ≤ r.state.count) × (r.state.count ≤ b + 1)) (sym born) (own_inside s r id d at kind e (sym phase ∙ h));
    again = λ e h. inr (sym phase ∙ h, born ∙ a.begun e (sym phase ∙ h));
    looks = λ q y e h has other at_q is_q. r.bounded.looks d.number d.known q y e a.is (sym phase ∙ h) (subst (λ (z : Participant). Has z.looked q) known has) at_q is_q;
    still = λ h. known ∙ (a.still (sym phase ∙ h) ∙ ap (λ (z : Participant). rested z.found) (sym known));
    number = number;
    scan = λ h. subst (λ z. 0 < z) scan h;
    present = λ h. phase ∙ a.present (subst (λ z. 1 < z) scan h);
  }) at kind w lefts told

  pub items_change : (s : Table) (r : Shown s) (id : ℕ) (d d' : Acting) (core : steps.State) (words' : List ℕ) (homes' : List (maybe.Option S)) (book' : Book) → get_elem? s.views id ≡ some d → d.kind ≡ 1 → d'.known ≡ d.known → d'.born ≡ d.born → d'.number ≡ d.number → d'.scan ≡ d.scan
      → Runs r.state core → core.count ≡ r.state.count → core.participants ≡ r.state.participants → Writes (length r.state.participants) d.number s.words words' (shown d'.known.phase) → Lefts plan.sizes.participants words' book'.left → Items IsIn plan.sizes core book' words' homes' (set s.views id d') → Shown record { words = words'; homes = homes'; views = set s.views id d' }
  items_change s r id d d' core words' homes' book' at kind known born number scan runs count same w lefts told = (items_change_to s r id d d' core words' homes' book' at kind known born number scan runs count same w lefts told).0
