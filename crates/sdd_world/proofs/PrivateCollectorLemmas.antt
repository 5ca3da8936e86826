-- what private bags leave of a place
use Rattle.std.proofs.Common.{◌≡◌, ◌≢◌, ℕ, zero, suc, ◌+◌, ◌-◌, ◌<◌, ◌≤◌, Bool, true, false, Option, None, List, [], ◌∷◌, length, get_or, set, refl, sym, ap, ◌∙◌, arith, length-set, subst, cond, get_or-set_other, get_or-set_same, leb, ltb, inl, inr, is_some}
use Rattle.std.proofs.lemmas.Bool.{false≢true}
use Rattle.std.proofs.lemmas.Bool.Decides.{nat_tests, eqb_tells}
use Rattle.sdd_table.specs.Holding.{Hold}
use Rattle.sdd_table.specs.State.{State, behind_at, status_at, value_at, participant_at, local_at, is_used, weight, with_status, retired, slot_freed}
use Rattle.sdd_table.specs.Steps.{given_all, held_in, overdue, noted_reclaimed, left_behind, purged, purged_within, followed, followed_as, set_aside, handed_over, handed_over_as, handed_within, times, released, released_as}
use Rattle.sdd_table.specs.Place.{Sound, IsPlace, IsOpen, IsOwned, IsShared}
use Rattle.sdd_table.specs.Frame.{has_owner, IsLive, Protects, Frame, OnlyParticipant, SameNesting}
use Rattle.sdd_table.specs.declared.status.Status.{Status}
use Rattle.sdd_table.specs.declared.status.Status.TheVariants as status
use Rattle.sdd_table.proofs.BagInvariantLemmas.{Leaves, leaves, Calms, calms, leaves_refl, leaves_then, gives_all, gives_retired, gives_status, Calm, calm, weight_same, noted_set, gone_at, inside_by, sound_status}
use Rattle.sdd_table.proofs.PrivateBagLemmas.{names}
use Rattle.sdd_table.proofs.PlaceLemmas.{calm_at, place_calms, place_leaves}
use Rattle.sdd_world.proofs.FrameLemmas.{Keeps, keeps_leaves, keeps_refl}

module _ {T : Type 0} where
  -- a slot that waited in no bag is free
  pub sound_removed : (w : State T) (i : ℕ) → Sound w → i < length w.states → weight (status_at w i) ≡ 0 → Sound (slot_freed i w)
  sound_removed w i h inside light = record {
    sizes = length-set w.values i None ∙ h.sizes ∙ sym (length-set w.states i status.Free);
    once = λ j. h.once j ∙ sym (weight_same w.states i j status.Free inside (sym light));
    filled = λ j. elim (eqb_tells j i) [
      | inl t ↦
          let P : ℕ → Type 0 = λ k. is_some (get_or (set w.values i None) k None) ≡ is_used (get_or (set w.states i status.Free) k status.Free) in
          let here : P i = ap is_some (gone_at w.values i) ∙ sym (ap is_used (get_or-set_same w.states i status.Free status.Free inside)) in
          subst P (sym t.1) here
      | inr t ↦ ap is_some (get_or-set_other w.values i j None None t.1) ∙ h.filled j ∙ sym (ap is_used (get_or-set_other w.states i j status.Free status.Free t.1))
    ];
  }

  -- what reclaiming out of a private bag leaves
  pub record Purges (p : ℕ) (w w' : State T) : Type 0 where
    pub count : w'.count ≡ w.count
    pub stays : (j : ℕ) → overdue w.count (status_at w j) ≡ false → value_at w' j ≡ value_at w j
    pub places : length w'.states ≡ length w.states
    pub cells : length w'.cells ≡ length w.cells
    pub known : length w'.participants ≡ length w.participants
    pub due : (participant_at w' p).due ≡ (participant_at w p).due
    pub calm : calm (participant_at w' p) ≡ calm (participant_at w p)
    pub others : (k : ℕ) → k ≢ p → participant_at w' k ≡ participant_at w k
    pub noted : (i n b : ℕ) → status_at w' i ≡ status.Collected n b → status_at w i ≡ status.Collected n b
    pub sound : Sound w'

  purges_refl : (p : ℕ) (w : State T) → Sound w → Purges p w w
  purges_refl p w h = record { count = refl; stays = λ j o. refl; places = refl; cells = refl; known = refl; due = refl; calm = refl; others = λ k n. refl; noted = λ i n b e. e; sound = h }

overdue_before : (c d : ℕ) (s t : Status) → d ≡ c → ((n b : ℕ) → s ≡ status.Collected n b → t ≡ status.Collected n b) → overdue c t ≡ false → overdue d s ≡ false
overdue_before c d status.Free t e back h = refl
overdue_before c d status.Owned t e back h = refl
overdue_before c d (status.Shared n) t e back h = refl
overdue_before c d status.Raw t e back h = refl
overdue_before c d (status.Collected n b) t e back h = ap (λ (k : ℕ). leb (n + 3) k) e ∙ ap (overdue c) (sym (back n b refl)) ∙ h
overdue_before c d status.Retired t e back h = refl
overdue_before c d status.Idle t e back h = refl
overdue_before c d status.Deferred t e back h = refl

-- what is overdue is an item that waits in no ordinary bag
pub record IsNoted (c : ℕ) (s : Status) : Type 0 where
  pub note : ℕ
  pub behind : ℕ
  pub is : s ≡ status.Collected note behind
  pub late : note + 3 ≤ c

pub overdue_noted : (c : ℕ) (s : Status) → overdue c s ≡ true → IsNoted c s
overdue_noted c status.Free h = absurd (false≢true h)
overdue_noted c status.Owned h = absurd (false≢true h)
overdue_noted c (status.Shared n) h = absurd (false≢true h)
overdue_noted c status.Raw h = absurd (false≢true h)
overdue_noted c (status.Collected n b) h = record { note = n; behind = b; is = refl; late = grind (arith, nat_tests) }
overdue_noted c status.Retired h = absurd (false≢true h)
overdue_noted c status.Idle h = absurd (false≢true h)
overdue_noted c status.Deferred h = absurd (false≢true h)

live_timely : (c : ℕ) (s : Status) → has_owner s ≡ true → overdue c s ≡ false
live_timely c status.Free h = refl
live_timely c status.Owned h = refl
live_timely c (status.Shared n) h = refl
live_timely c status.Raw h = refl
live_timely c (status.Collected n b) h = absurd (false≢true h)
live_timely c status.Retired h = refl
live_timely c status.Idle h = refl
live_timely c status.Deferred h = refl

module _ {T : Type 0} (holds : T → List Hold) where
  pub purges_next : (p i : ℕ) (w : State T) → Sound w → p < length w.participants → overdue w.count (status_at w i) ≡ true → Purges p w (given_all p (held_in holds (value_at w i)) (slot_freed i w))
  purges_next p i w h known late =
      let n = overdue_noted w.count (status_at w i) late in
      let inside : i < length w.states = inside_by w.states i (status.Collected n.note n.behind) (sym n.is) (λ e. cc) in
      let u : State T = slot_freed i w in
      let su = sound_removed w i h inside (ap weight n.is) in
      let g = gives_all u p (held_in holds (value_at w i)) su known in
      record {
        count = g.count;
        stays = λ j o.
            let other : j ≢ i = λ e. let P : ℕ → Type 0 = λ k. overdue w.count (status_at w k) ≡ false in let x : P i = subst P e o in false≢true (sym x ∙ late) in
            ap (λ (vs : List (Option T)). get_or vs j None) g.values ∙ get_or-set_other w.values i j None None other;
        places = g.places ∙ length-set w.states i status.Free;
        cells = g.cells;
        known = g.known;
        due = g.due;
        calm = g.calm;
        others = g.others;
        noted = λ j m c e. noted_set w.states i j m c status.Free inside (λ k d f. cc) (g.noted j m c e);
        sound = g.sound;
      }

  purges_then : (p : ℕ) (u v w : State T) → Purges p u v → Purges p v w → Purges p u w
  purges_then p u v w a b = record {
    count = b.count ∙ a.count;
    stays = λ j o. b.stays j (overdue_before u.count v.count (status_at v j) (status_at u j) a.count (a.noted j) o) ∙ a.stays j o;
    places = b.places ∙ a.places;
    cells = b.cells ∙ a.cells;
    known = b.known ∙ a.known;
    due = b.due ∙ a.due;
    calm = b.calm ∙ a.calm;
    others = λ k n. b.others k n ∙ a.others k n;
    noted = λ i n c e. a.noted i n c (b.noted i n c e);
    sound = b.sound;
  }

  purges_within : (p n : ℕ) (is : List ℕ) (w : State T) → Sound w → p < length w.participants → Purges p w (purged_within holds p n is w)
  purges_within p zero is w h known = purges_refl p w h
  purges_within p (suc n) [] w h known = purges_refl p w h
  purges_within p (suc n) (i ∷ is) w h known =
      let v : State T = noted_reclaimed holds p i w in
      let js = left_behind (behind_at w i) is in
      (elim (overdue w.count (status_at w i)) as (λ b. overdue w.count (status_at w i) ≡ b → Purges p w (cond b (purged_within holds p n js v) w)) [
        | true ↦ λ e. let first = purges_next p i w h known e in purges_then p w v _ first (purges_within p n js v first.sound (omega (arith, first.known, known)))
        | false ↦ λ e. purges_refl p w h
      ]) refl

  pub purges : (p : ℕ) (is : List ℕ) (w : State T) → Sound w → p < length w.participants → Purges p w (purged holds p is w)
  purges p is w h known = purges_within p (length is) is w h known

module _ {T : Type 0} where
  purges_calm : (p : ℕ) (w w' : State T) → Purges p w w' → Calms p w w'
  purges_calm p w w' g = record { count = g.count; known = g.known; due = g.due; calm = g.calm; others = g.others; sound = g.sound }

  pub place_purged : (p : ℕ) (w w' : State T) → IsPlace w → Purges p w w' → IsPlace w'
  place_purged p w w' h g = place_calms w w' p h (purges_calm p w w' g)

  -- an item that an open guard protects isn't overdue
  protected_timely : (w : State T) (q i : ℕ) (s : Status) → s ≡ status_at w i → IsPlace w → IsOpen w q → Protects w q i → overdue w.count s ≡ false
  protected_timely w q i status.Free e h o g = refl
  protected_timely w q i status.Owned e h o g = refl
  protected_timely w q i (status.Shared n) e h o g = refl
  protected_timely w q i status.Raw e h o g = refl
  protected_timely w q i (status.Collected n b) e h o g = let a = g.noted n b (sym e) in let near = h.near q o in let late : n + 3 ≤ w.count → ⊥ = λ l. omega (arith, a, near, l) in grind (arith, nat_tests)
  protected_timely w q i status.Retired e h o g = refl
  protected_timely w q i status.Idle e h o g = refl
  protected_timely w q i status.Deferred e h o g = refl

  -- what is set aside, and then purged
  pub keeps_purged : (p : ℕ) (u w w' : State T) → Frame u w → IsPlace w → ((i : ℕ) → IsLive u i → overdue w.count (status_at w i) ≡ false) → ((q : ℕ) → IsOpen w q → IsOpen u q) → Purges p w w' → Frame u w'
  keeps_purged p u w w' k h timely opens g =
      let same : (q : ℕ) → calm (participant_at w' q) ≡ calm (participant_at w q) = λ q. calm_at p w w' (purges_calm p w w' g) q in
      record {
        states = g.places ∙ k.states;
        cells = g.cells ∙ k.cells;
        participants = g.known ∙ k.participants;
        lives = λ i l. g.stays i (timely i l) ∙ k.lives i l;
        protects = λ q i o o' x.
            let nests = ap (λ (c : Calm). c.nesting) (same q) in
            let ow : IsOpen w q = omega (arith, nests, o') in
            let r = k.protects q i o ow x in
            let stays = g.stays i (protected_timely w q i _ refl h ow r.1) in
            let published = ap (λ (c : Calm). c.published) (same q) in (
              stays ∙ r.0,
              record {
                used = sym (g.sound.filled i) ∙ ap is_some stays ∙ h.sound.filled i ∙ r.1.used;
                prior = λ j some. let bag = ap (λ (c : Calm). times i c.prior) (same j) in let previous = ap (λ (c : Calm). c.previous) (same j) in omega (arith, published, previous, r.1.prior j (omega (arith, some, bag)));
                oldest = λ j some. let bag = ap (λ (c : Calm). times i c.oldest) (same j) in let previous = ap (λ (c : Calm). c.previous) (same j) in omega (arith, published, previous, r.1.oldest j (omega (arith, some, bag)));
                noted = λ n b e. omega (arith, published, r.1.noted n b (g.noted i n b e));
              },
            );
      }

  -- what a private bag takes in
  pub record Sets (p i : ℕ) (w w' : State T) : Type 0 where
    pub calm : Calms p w w'
    pub keeps : Frame w w'
    pub only : OnlyParticipant p w w'
    pub place : IsPlace w'
    pub values : w'.values ≡ w.values

  -- an item that waits in no ordinary bag waits in a private one, with a note that no guard which protects it is above
  sets_marked : (p i n b : ℕ) (w : State T) → IsPlace w → i < length w.states → is_used (status_at w i) ≡ true → weight (status_at w i) ≡ 0 → ((q : ℕ) → IsOpen w q → Protects w q i → (local_at w q).published ≤ n) → Sets p i w (with_status i (status.Collected n b) w)
  sets_marked p i n b w h inside used light early =
      let s = status.Collected n b in
      record {
        keeps = record {
          states = length-set w.states i s;
          cells = refl;
          participants = refl;
          lives = λ j l. refl;
          protects = λ q j o o' g. (
            refl,
            record {
              used = elim (eqb_tells j i) [
                | inl t ↦ let P : ℕ → Type 0 = λ k. is_used (get_or (set w.states i s) k status.Free) ≡ true in let here : P i = ap is_used (get_or-set_same w.states i s status.Free inside) in subst P (sym t.1) here
                | inr t ↦ ap is_used (get_or-set_other w.states i j s status.Free t.1) ∙ g.used
              ];
              prior = g.prior;
              oldest = g.oldest;
              noted = λ m c e. elim (eqb_tells j i) [
                | inl t ↦
                    let P : ℕ → Type 0 = λ k. get_or (set w.states i s) k status.Free ≡ status.Collected m c in
                    let here : P i = subst P t.1 e in
                    let now : status.Collected n b ≡ status.Collected m c = sym (get_or-set_same w.states i s status.Free inside) ∙ here in
                    let same : n ≡ m = cc in
                    let Q : ℕ → Type 0 = λ k. Protects w q k in
                    let mine : Q i = subst Q t.1 g in
                    omega (arith, same, early q o mine)
                | inr t ↦ g.noted m c (sym (get_or-set_other w.states i j s status.Free t.1) ∙ e)
              ];
            },
          );
        };
        only = λ k n. refl;
        calm = record { count = refl; known = refl; due = refl; calm = refl; others = λ k n. refl; sound = sound_status w i s h.sound inside (sym light) (sym used) };
        place = record { sound = sound_status w i s h.sound inside (sym light) (sym used); some = h.some; idle = h.idle; past = h.past; began = h.began; near = h.near };
        values = refl;
      }

  sets_noted : (p i : ℕ) (w : State T) → IsPlace w → i < length w.states → is_used (status_at w i) ≡ true → weight (status_at w i) ≡ 0 → Sets p i w (with_status i (status.Collected w.count 0) w)
  sets_noted p i w h inside used light = sets_marked p i w.count 0 w h inside used light (λ q o g. h.began q o)

  sets_none : (p i : ℕ) (w : State T) → IsPlace w → Sets p i w w
  sets_none p i w h = record {
    keeps = keeps_refl w;
    calm = calms p w w (leaves_refl p w h.sound);
    only = λ k n. refl;
    place = h;
    values = refl;
  }

  -- the last place of a private bag names another one
  sets_followed_as : (p j i k : ℕ) (s : Status) (w : State T) → s ≡ status_at w j → IsPlace w → Sets p k w (followed_as s j i w)
  sets_followed_as p j i k status.Free w e h = sets_none p k w h
  sets_followed_as p j i k status.Owned w e h = sets_none p k w h
  sets_followed_as p j i k (status.Shared n) w e h = sets_none p k w h
  sets_followed_as p j i k status.Raw w e h = sets_none p k w h
  sets_followed_as p j i k (status.Collected n b) w e h =
      let m = sets_marked p j n i w h (inside_by w.states j (status.Collected n b) e (λ f. cc)) (sym (ap is_used e)) (sym (ap weight e)) (λ q o g. g.noted n b (sym e)) in
      record { keeps = m.keeps; calm = m.calm; only = m.only; place = m.place; values = m.values }
  sets_followed_as p j i k status.Retired w e h = sets_none p k w h
  sets_followed_as p j i k status.Idle w e h = sets_none p k w h
  sets_followed_as p j i k status.Deferred w e h = sets_none p k w h

  sets_followed : (p i k : ℕ) (is : List ℕ) (w : State T) → IsPlace w → Sets p k w (followed is i w)
  sets_followed p i k [] w h = sets_none p k w h
  sets_followed p i k (j ∷ []) w h = sets_followed_as p j i k (status_at w j) w refl h
  sets_followed p i k (j ∷ l ∷ is) w h = sets_followed p i k (l ∷ is) w h

  sets_then : (p i : ℕ) (u v x : State T) → Sets p i u v → Sets p i v x → Sets p i u x
  sets_then p i u v x a b = record {
    keeps = record {
      states = b.keeps.states ∙ a.keeps.states;
      cells = b.keeps.cells ∙ a.keeps.cells;
      participants = b.keeps.participants ∙ a.keeps.participants;
      lives = λ j l. ap (λ (vs : List (Option T)). get_or vs j None) b.values ∙ a.keeps.lives j l;
      protects = λ q j o o' g.
          let same = ap (λ (c : Calm). c.nesting) (calm_at p v x b.calm q) in
          let ov : IsOpen v q = omega (arith, same, o') in
          let y = a.keeps.protects q j o ov g in
          let z = b.keeps.protects q j ov o' y.1 in
          (z.0 ∙ y.0, z.1);
    };
    calm = record { count = b.calm.count ∙ a.calm.count; known = b.calm.known ∙ a.calm.known; due = b.calm.due ∙ a.calm.due; calm = b.calm.calm ∙ a.calm.calm; others = λ k n. b.calm.others k n ∙ a.calm.others k n; sound = b.calm.sound };
    only = λ k n. b.only k n ∙ a.only k n;
    place = b.place;
    values = b.values ∙ a.values;
  }

  sets_retired : (p i : ℕ) (w : State T) → IsPlace w → p < length w.participants → i < length w.states → is_used (status_at w i) ≡ true → weight (status_at w i) ≡ 0 → Sets p i w (retired p i w)
  sets_retired p i w h known inside used light =
      let g = leaves p w (retired p i w) (gives_retired w p i h.sound known inside light used) in
      record {
        keeps = keeps_leaves p w (retired p i w) h.sound g;
        calm = calms p w (retired p i w) g;
        only = g.others;
        place = place_leaves w (retired p i w) p h g;
        values = refl;
      }

  pub sets_aside : (p n i : ℕ) (is : List ℕ) (w : State T) → IsPlace w → p < length w.participants → i < length w.states → is_used (status_at w i) ≡ true → weight (status_at w i) ≡ 0 → Sets p i w (set_aside p n is i w)
  sets_aside p n i is w h known inside used light =
      let v : State T = followed is i w in
      let m = names is i w in
      let first = sets_followed p i i is w h in
      let noted : Sets p i v (with_status i (status.Collected v.count 0) v) = sets_noted p i v first.place (omega (arith, m.places, inside)) (m.told is_used (λ k b c. refl) i ∙ used) (m.told weight (λ k b c. refl) i ∙ light) in
      let same : Sets p i v (with_status i (status.Collected w.count 0) v) = subst (λ (k : ℕ). Sets p i v (with_status i (status.Collected k 0) v)) m.count noted in
      elim (ltb (length is) n) as (λ b. Sets p i w (cond b (with_status i (status.Collected w.count 0) v) (retired p i w))) [ true ↦ sets_then p i w v _ first same | false ↦ sets_retired p i w h known inside used light ]

  sets_shared : (p i m : ℕ) (w : State T) → IsPlace w → i < length w.states → is_used (status_at w i) ≡ true → weight (status_at w i) ≡ 0 → Sets p i w (with_status i (status.Shared m) w)
  sets_shared p i m w h inside used light =
      let s = status.Shared m in
      let g = leaves p w (with_status i s w) (gives_status w p i s h.sound inside light refl used refl (λ n b f. cc)) in
      record {
        keeps = keeps_leaves p w (with_status i s w) h.sound g;
        calm = calms p w (with_status i s w) g;
        only = g.others;
        place = place_leaves w (with_status i s w) p h g;
        values = refl;
      }

  sets_released : (p i : ℕ) (s : Status) (w : State T) → s ≡ status_at w i → IsPlace w → p < length w.participants → i < length w.states → Sets p i w (released_as s p i w)
  sets_released p i status.Free w e h known inside = sets_none p i w h
  sets_released p i status.Owned w e h known inside = sets_none p i w h
  sets_released p i (status.Shared n) w e h known inside =
      let used = sym (ap is_used e) in
      let light = sym (ap weight e) in
      elim (leb n 1) as (λ c. Sets p i w (cond c (retired p i w) (with_status i (status.Shared (n - 1)) w))) [ true ↦ sets_retired p i w h known inside used light | false ↦ sets_shared p i (n - 1) w h inside used light ]
  sets_released p i status.Raw w e h known inside = sets_none p i w h
  sets_released p i (status.Collected n b) w e h known inside = sets_none p i w h
  sets_released p i status.Retired w e h known inside = sets_none p i w h
  sets_released p i status.Idle w e h known inside = sets_none p i w h
  sets_released p i status.Deferred w e h known inside = sets_none p i w h

  pub sets_shared_left : (b : Bool) (p n i : ℕ) (is : List ℕ) (w w' : State T) → IsPlace w → p < length w.participants → i < length w.states → (b ≡ true → IsShared w i) → (b ≡ true → w' ≡ set_aside p n is i w) → (b ≡ false → w' ≡ released p i w) → Sets p i w w'
  sets_shared_left true p n i is w w' h known inside live f g = let l = live refl in subst (λ (x : State T). Sets p i w x) (sym (f refl)) (sets_aside p n i is w h known inside (ap is_used l.is) (ap weight l.is))
  sets_shared_left false p n i is w w' h known inside live f g = subst (λ (x : State T). Sets p i w x) (sym (g refl)) (sets_released p i (status_at w i) w refl h known inside)

  pub sets_owned_left : (b : Bool) (p n i : ℕ) (is : List ℕ) (w w' : State T) → IsPlace w → p < length w.participants → i < length w.states → (b ≡ true → IsOwned w i) → (b ≡ true → w' ≡ set_aside p n is i w) → (b ≡ false → w' ≡ w) → Sets p i w w'
  sets_owned_left true p n i is w w' h known inside live f g = let l = live refl in subst (λ (x : State T). Sets p i w x) (sym (f refl)) (sets_aside p n i is w h known inside (ap is_used l.is) (ap weight l.is))
  sets_owned_left false p n i is w w' h known inside live f g = subst (λ (x : State T). Sets p i w x) (sym (g refl)) (sets_none p i w h)

  -- what purging leaves
  pub record Clears (p : ℕ) (w v : State T) : Type 0 where
    pub place : IsPlace v
    pub keeps : Frame w v
    pub only : OnlyParticipant p w v
    pub nests : SameNesting w v
    pub places : length v.states ≡ length w.states
    pub known : p < length v.participants

  clears : (holds : T → List Hold) (p : ℕ) (is : List ℕ) (w v : State T) → IsPlace w → p < length w.participants → v ≡ purged holds p is w → Clears p w v
  clears holds p is w v h known e =
      let x : State T = purged holds p is w in
      let g = purges holds p is w h.sound known in
      let c = purges_calm p w x g in
      let nests : SameNesting w x = λ q. ap (λ (c : Calm). c.nesting) (calm_at p w x c q) in
      let all : Clears p w x = record {
        place = place_purged p w x h g;
        keeps = keeps_purged p w w x (keeps_refl w) h (λ i l. live_timely w.count (status_at w i) l) (λ q o. o) g;
        only = λ k n. g.others k n;
        nests = nests;
        places = g.places;
        known = omega (arith, g.known, known);
      } in
      subst (λ (y : State T). Clears p w y) (sym e) all

  -- so of the place that is seen, where slot i is still there
  pub cleared : (holds : T → List Hold) (p i j : ℕ) (is : List ℕ) (u w v : State T) → w ≡ u → IsPlace w → p < length u.participants → i ≡ j → j < length u.states → v ≡ purged holds p is w → Clears p w v × (i < length v.states)
  cleared holds p i j is u w v e h known same inside is_v =
      let all = clears holds p is w v h (subst (λ (x : State T). p < length x.participants) (sym e) known) is_v in
      (all, omega (arith, all.places, ap (λ (x : State T). length x.states) e, inside, same))

  -- what is purged, and then changed in one slot
  keeps_then : (p i : ℕ) (u w v x : State T) → w ≡ u → Clears p w v → Sets p i v x → Frame u x
  keeps_then p i u w v x e c s = subst (λ (y : State T). Frame y x) e (record {
    states = s.keeps.states ∙ c.keeps.states;
    cells = s.keeps.cells ∙ c.keeps.cells;
    participants = s.keeps.participants ∙ c.keeps.participants;
    lives = λ j l. ap (λ (vs : List (Option T)). get_or vs j None) s.values ∙ c.keeps.lives j l;
    protects = λ q j o o' x'.
        let same = ap (λ (c : Calm). c.nesting) (calm_at p v x s.calm q) in
        let ov : IsOpen v q = omega (arith, same, o') in
        let a = c.keeps.protects q j o ov x' in
        let b = s.keeps.protects q j ov o' a.1 in
        (b.0 ∙ a.0, b.1);
  })

  only_then : (p i : ℕ) (u w v x : State T) → w ≡ u → Clears p w v → Sets p i v x → OnlyParticipant p u x
  only_then p i u w v x e c s = subst (λ (y : State T). OnlyParticipant p y x) e (λ k n. s.only k n ∙ c.only k n)

  nests_then : (p i : ℕ) (u w v x : State T) → w ≡ u → Clears p w v → Sets p i v x → SameNesting u x
  nests_then p i u w v x e c s q = ap (λ (c : Calm). c.nesting) (calm_at p v x s.calm q) ∙ c.nests q ∙ ap (λ (s : State T). (local_at s q).nesting) e

  pub collects : (p i : ℕ) (u w v x : State T) → w ≡ u → Clears p w v → Sets p i v x → Keeps p u x
  collects p i u w v x e c s = record { place = s.place; frame = keeps_then p i u w v x e c s; only = only_then p i u w v x e c s; nests = nests_then p i u w v x e c s }

  -- what is handed over
  handed_one : (p i : ℕ) (s : Status) (w : State T) → s ≡ status_at w i → Sound w → p < length w.participants → Leaves p w (handed_over_as s p i w)
  handed_one p i status.Free w e h known = leaves_refl p w h
  handed_one p i status.Owned w e h known = leaves_refl p w h
  handed_one p i (status.Shared n) w e h known = leaves_refl p w h
  handed_one p i status.Raw w e h known = leaves_refl p w h
  handed_one p i (status.Collected n b) w e h known = leaves p w (retired p i w) (gives_retired w p i h known (inside_by w.states i (status.Collected n b) e (λ f. cc)) (ap weight (sym e)) (ap is_used (sym e)))
  handed_one p i status.Retired w e h known = leaves_refl p w h
  handed_one p i status.Idle w e h known = leaves_refl p w h
  handed_one p i status.Deferred w e h known = leaves_refl p w h

  handed_within_leaves : (p n : ℕ) (is : List ℕ) (w : State T) → Sound w → p < length w.participants → Leaves p w (handed_within p n is w)
  handed_within_leaves p zero is w h known = leaves_refl p w h
  handed_within_leaves p (suc n) [] w h known = leaves_refl p w h
  handed_within_leaves p (suc n) (i ∷ is) w h known =
      let v : State T = handed_over_as (status_at w i) p i w in
      let first = handed_one p i (status_at w i) w refl h known in
      leaves_then p w v _ first (handed_within_leaves p n (left_behind (behind_at w i) is) v first.sound (omega (arith, first.known, known)))

  pub handed_leaves : (p : ℕ) (is : List ℕ) (w : State T) → Sound w → p < length w.participants → Leaves p w (handed_over p is w)
  handed_leaves p is w h known = handed_within_leaves p (length is) is w h known
