-- the laws: every step keeps the invariant, the start meets it, and it keeps the promise
use Rattle.std.proofs.Common.{◌≡◌, ◌≢◌, ◌&&◌, ◌||◌, ◌==◌, nat_lt, true, not, is_some, ℕ, ◌-◌, ◌^◌, ◌<◌, List, [], ◌∷◌, map, length, replicate, sym, refl, ap, ◌∙◌, subst, arith, Option, Some, None, eqb-true, ltb-true, leb-true, nat_le}
use Rattle.sdd_steps.specs.declared.participant.Phase.TheVariants.{Idle, HasRead, Opened}
use Rattle.sdd_steps.specs.declared.item.ItemState.{ItemState}
use Rattle.sdd_steps.specs.declared.item.ItemState.TheVariants.{Live, Due, Retired, Collected, Waiting, Reclaimed}
use Rattle.sdd_steps.specs.declared.participant.Seen.{Seen}
use Rattle.sdd_steps.specs.declared.participant.Participant.{Participant}
use Rattle.sdd_steps.specs.declared.item.Item.{Item}
use Rattle.sdd_steps.specs.declared.item.Cell.{Cell}
use Rattle.sdd_steps.specs.declared.step.Step.{Step}
use Rattle.sdd_steps.specs.declared.step.Step.TheVariants.{ReadEpoch, Publish, Rotate, LoadCell, LoadInHand, ReadSegment, SwapCell, Release, Retire, Collect, Look, Raise, Reclaim, GiveUp, GiveUpCell, Close, Place, RaiseOwners, Reread, End, TakeOver, LookShut, Settle}
use Rattle.sdd_steps.specs.State.{State, At, Has, has, participant_at, cell_at, item_at, participant_is, cell_is, item_is, newcomer, empty_cell, no_item, start}
use Rattle.sdd_steps.specs.Steps.{enabled, after, LeadsTo, Schedule, is_idle, is_reading, is_turning, is_inside, is_ready, has_loose_owner, is_full, is_live, is_due, is_reclaimed, is_left, is_reclaimable, is_offered, is_reachable, is_within, is_shut, agrees, all_looked, all_have_loose_owners, all_alone, none_due, holder_is, count_of, named, let_go, emptied, filled, seen, with_state}
use Rattle.sdd_steps.specs.Invariant.{AllOwnersCounted, Facts, Guarded, Standing, Inv, Safe, names_of}
use Rattle.sdd_steps.specs.Snapshots.{CanAge, HasRoom}
use Rattle.sdd_steps.proofs.ListLemmas.{both, at_inside, at_mapped, at_replicate, find_at, get_at, has_map, read_or}
use Rattle.sdd_steps.proofs.CountLemmas.{has_has, times_has, held_some, names_reheld, names_kept}
use Rattle.sdd_steps.proofs.EnabledLemmas.{participant_there, cell_there, item_there, idle_is, reading_is, turning_is, inside_is, ready_is, agrees_is, shut_is, looked_is, due_is, live_is, reclaimed_is, left_dead, reclaimable_is, some_is}
use Rattle.sdd_steps.proofs.StepLemmas.{named_there, live_in_hand, reads, publishes, closes, loads, looks_at, looks_shut, settles, rereads, rotates, ends, raises, retires, collects, reclaims, adds_owner, releases, places, reholds, empties_cell, emptied_cell, emptied_hand, fills_cell, gives_up_owner}

module _ (s : State) (i : Inv s) where
  abbrev k : AllOwnersCounted (names_of s.cells) s.items
  k = i.0

  abbrev b : ℕ → ℕ
  b = i.1.0

  abbrev n : ℕ → ℕ
  n = i.1.1

  abbrev f : Facts s b n
  f = i.1.2

  abbrev loose : (item : ℕ) → item_is has_loose_owner s item ≡ true → At s.items item (item_at s item) × (0 < (item_at s item).hand)
  loose item h = let t = item_there has_loose_owner s item h in (t.0, ltb-true 0 (item_at s item).hand t.1)

  swaps : (c : ℕ) (new : Option ℕ) → At s.cells c (cell_at s c) → is_offered s new ≡ true → Inv (filled (emptied s c (cell_at s c).names) c new)
  swaps c None at h = empties_cell s c (cell_at s c).names at refl i
  swaps c (Some j) at h = let t = loose j h in let o = (cell_at s c).names in let e = emptied_cell s c o at refl in let m = emptied_hand s c o j t.0 t.1 in
      fills_cell (emptied s c o) c j e.0 e.1 m.0 m.1 (empties_cell s c o at refl i)

  kept_after : (a : Step) → enabled s a ≡ true → Inv (after s a)
  kept_after (ReadEpoch p) h = let t = participant_there is_idle s p h in (k, reads s k b n f p (participant_at s p) t.0 (idle_is (participant_at s p).phase t.1))
  kept_after (Publish p) h = let t = participant_there is_reading s p h in let x = participant_at s p in (k, publishes s k b n f p x (count_of x.phase) t.0 (reading_is x.phase t.1))
  kept_after (Rotate p) h = let t = participant_there is_turning s p h in let x = participant_at s p in let e = turning_is x t.1 in rotates s k b n f p x (count_of x.phase) t.0 e.0 e.1
  kept_after (LoadCell p c) h = let o = cell_at s c in let t = both (participant_is is_inside s p) (cell_is (λ o. is_full o && (is_reachable s o || is_within s p o)) s c) h in let x = participant_there is_inside s p t.0 in
      let u = cell_there (λ o. is_full o && (is_reachable s o || is_within s p o)) s c t.1 in let full = both (is_full o) (is_reachable s o || is_within s p o) u.1 in
      let it = named_there s k b n f c o (named o.names) u.0 (some_is o.names full.0) in (k, loads s k b n f p (participant_at s p) (named o.names) x.0 it.0 it.1)
  kept_after (LoadInHand p j) h = let t = both (participant_is is_inside s p) (item_is has_loose_owner s j) h in let x = participant_there is_inside s p t.0 in let u = loose j t.1 in
      (k, loads s k b n f p (participant_at s p) j x.0 u.0 (live_in_hand s k b n f j (item_at s j) u.0 u.1))
  kept_after (ReadSegment p j m) h = i
  kept_after (SwapCell p c new) h = let o = both (participant_is is_ready s p && cell_is (λ o. is_reachable s o || is_within s p o) s c) (is_offered s new) h in
      let t = both (participant_is is_ready s p) (cell_is (λ o. is_reachable s o || is_within s p o) s c) o.0 in swaps c new (cell_there (λ o. is_reachable s o || is_within s p o) s c t.1).0 o.1
  kept_after (Release p j) h = let t = both (participant_is is_ready s p) (item_is has_loose_owner s j) h in let u = loose j t.1 in releases s k b n f p j (item_at s j) u.0 u.1
  kept_after (Retire p j) h = let t = both (participant_is is_ready s p) (item_is (λ it. is_due p it.state) s j) h in let x = participant_there is_ready s p t.0 in let u = item_there (λ it. is_due p it.state) s j t.1 in
      let is = due_is p (item_at s j).state u.1 in retires s k b n f p j (participant_at s p) (item_at s j) x.0 (ready_is (participant_at s p) x.1) u.0 (λ e. let bad : Live ≡ Due p = sym e ∙ is in cc)
  kept_after (Collect p j) h = let t = both (participant_is (λ x. is_inside x && is_some x.reread) s p) (item_is (λ it. is_due p it.state) s j) h in let x = participant_at s p in
      let v = participant_there (λ x. is_inside x && is_some x.reread) s p t.0 in let w = both (is_inside x) (is_some x.reread) v.1 in
      let u = item_there (λ it. is_due p it.state) s j t.1 in let is = due_is p (item_at s j).state u.1 in
      collects s k b n f p j x (item_at s j) (count_of x.phase) (named x.reread) v.0 (inside_is x w.0) (some_is x.reread w.1) u.0 (λ e. let bad : Live ≡ Due p = sym e ∙ is in cc)
  kept_after (Look p q) h = let t = both (participant_is is_inside s p && not (q == p)) (participant_is (agrees s.count) s q) h in let u = both (participant_is is_inside s p) (not (q == p)) t.0 in
      let x = participant_there is_inside s p u.0 in let y = participant_there (agrees s.count) s q t.1 in
      (k, looks_at s k b n f p q (count_of (participant_at s p).phase) (participant_at s p) (participant_at s q) x.0 (inside_is (participant_at s p) x.1).0 y.0 (agrees_is s.count (participant_at s q) y.1))
  kept_after (Raise p) h = let x = participant_at s p in let all = all_looked p x.looked (length s.participants) in
      let t = both (participant_is (λ x. is_inside x && (count_of x.phase == s.count) && all_looked p x.looked (length s.participants)) s p) (nat_lt s.count (2 ^ 64 - 1)) h in
      let u = participant_there (λ x. is_inside x && (count_of x.phase == s.count) && all_looked p x.looked (length s.participants)) s p t.0 in
      let v = both (is_inside x && (count_of x.phase == s.count)) all u.1 in let w = both (is_inside x) (count_of x.phase == s.count) v.0 in let in_ = inside_is x w.0 in let same = eqb-true (count_of x.phase) s.count w.1 in
      (k, raises s k b n f p x u.0 (subst (λ c. (x.phase ≡ Opened c) × (c ≡ x.found)) same in_) (looked_is p x.looked (length s.participants) v.1) (ltb-true s.count (2 ^ 64 - 1) t.1))
  kept_after (Reclaim p j) h = let x = participant_at s p in let t = both (participant_is is_ready s p) (item_is (λ it. is_reclaimable p x it.state) s j) h in let v = participant_there is_ready s p t.0 in
      let u = item_there (λ it. is_reclaimable p x it.state) s j t.1 in
      reholds (with_state s j (Reclaimed p)) (map (let_go j) s.cells) (names_kept (let_go j) s.cells (λ o. refl)) (reclaims s k b n f p j x (item_at s j) v.0 u.0 (reclaimable_is p x (item_at s j).state u.1))
  kept_after (GiveUp p j m) h = let w = item_at s j in let t = both (participant_is is_ready s p) (item_is (λ w. is_reclaimed p w.state && has m w.holds) s j) h in
      let u = item_there (λ w. is_reclaimed p w.state && has m w.holds) s j t.1 in let v = both (is_reclaimed p w.state) (has m w.holds) u.1 in
      gives_up_owner s p j m u.0 (reclaimed_is p w.state v.0) (has_has m w.holds v.1) i _ refl
  kept_after (GiveUpCell p c) h = let o = (cell_at s c).names in let t = both (participant_is is_ready s p) (cell_is (λ o. is_full o && holder_is (item_is (λ w. is_reclaimed p w.state) s) o.holder) s c) h in
      let at = (cell_there (λ o. is_full o && holder_is (item_is (λ w. is_reclaimed p w.state) s) o.holder) s c t.1).0 in let m = emptied s c o in
      reholds m _ (names_reheld None m.cells c) (empties_cell s c o at refl i)
  kept_after (Close p) h = let t = participant_there is_inside s p h in (k, closes s k b n f p (participant_at s p) t.0)
  kept_after (Place p v hs cs) h = let t = both (participant_is is_ready s p && all_have_loose_owners s.items hs hs) (all_alone s.cells cs) h in let u = both (participant_is is_ready s p) (all_have_loose_owners s.items hs hs) t.0 in places s k b n f v hs cs u.1
  kept_after (RaiseOwners p j) h = let it = item_at s j in let t = both (participant_is is_ready s p) (item_is (λ it. is_live it.state && nat_lt it.owners (2 ^ 32 - 1)) s j) h in
      let u = item_there (λ it. is_live it.state && nat_lt it.owners (2 ^ 32 - 1)) s j t.1 in let v = both (is_live it.state) (nat_lt it.owners (2 ^ 32 - 1)) u.1 in
      adds_owner s k b n f j it u.0 (live_is it.state v.0) (ltb-true it.owners (2 ^ 32 - 1) v.1)
  kept_after (Reread p) h = let t = participant_there is_inside s p h in (k, rereads s k b n f p (participant_at s p) t.0)
  kept_after (End p) h = let t = both (participant_is is_idle s p) (none_due p s.items) h in let u = participant_there is_idle s p t.0 in ends s k b n f p (participant_at s p) u.0 (idle_is (participant_at s p).phase u.1)
  kept_after (TakeOver p j) h = let t = both (participant_is is_ready s p) (item_is (λ it. is_left it.state) s j) h in let x = participant_there is_ready s p t.0 in let u = item_there (λ it. is_left it.state) s j t.1 in
      retires s k b n f p j (participant_at s p) (item_at s j) x.0 (ready_is (participant_at s p) x.1) u.0 (left_dead (item_at s j).state u.1)
  kept_after (LookShut p q) h = let t = both (participant_is is_reading s p && not (q == p)) (participant_is is_shut s q) h in let u = both (participant_is is_reading s p) (not (q == p)) t.0 in
      let x = participant_there is_reading s p u.0 in let y = participant_there is_shut s q t.1 in
      (k, looks_shut s k b n f p q (count_of (participant_at s p).phase) (participant_at s p) (participant_at s q) x.0 (reading_is (participant_at s p).phase x.1) y.0 (shut_is (participant_at s q) y.1))
  kept_after (Settle p) h = let x = participant_at s p in let all = all_looked p x.looked (length s.participants) in
      let t = participant_there (λ x. is_reading x && nat_le 3 (count_of x.phase) && all_looked p x.looked (length s.participants)) s p h in
      let u = both (is_reading x && nat_le 3 (count_of x.phase)) all t.1 in let v = both (is_reading x) (nat_le 3 (count_of x.phase)) u.0 in
      settles s k b n f p (count_of x.phase) x t.0 (reading_is x.phase v.0) (leb-true 3 (count_of x.phase) v.1) (looked_is p x.looked (length s.participants) u.1)

pub keeps : (s : State) (a : Step) (t : State) → LeadsTo s a t → Inv s → Inv t
keeps s a t h i = subst Inv (sym h.1) (kept_after s i a h.0)

pub starts : (participants cells : ℕ) → Inv (start participants cells)
starts participants cells = let fresh = (λ (p : ℕ) (x : Participant) (at : At (replicate participants newcomer) p x). at_replicate participants p newcomer x at) in (
  record {
    owned = λ i it at. let z = at_inside [] i it at in absurd (omega arith);
    named = λ c i at. let t = at_mapped (λ (o : Cell). o.names) (replicate cells empty_cell) c (Some i) at in let same : None ≡ Some i = ap (λ (o : Cell). o.names) (at_replicate cells c empty_cell t.0 t.1) ∙ t.2 in absurd (cc);
    holding = λ j w i at has. let z = at_inside [] j w at in absurd (omega arith);
  },
  (
    (λ _. 0),
    (λ _. 0),
    record {
      fits = omega arith;
      dated = λ i. omega arith;
      guards = λ p x at. subst (λ (y : Participant). Guarded 0 0 y.found y.phase y.reread) (fresh p x at) (record { past = omega arith; reading = λ e h. absurd (cc); inside = λ e h. absurd (cc); again = λ e m h. absurd (cc) });
      looks = λ q x p y e at h. let same : Idle ≡ Opened 0 = ap (λ (z : Participant). z.phase) (fresh q x at) ∙ h in absurd (cc);
      ageing = λ i it r a x at. let z = at_inside [] i it at in absurd (omega arith);
      noted = λ i it m at. let z = at_inside [] i it at in absurd (omega arith);
      kept = λ p x e l at h. let same : Idle ≡ Opened e = ap (λ (z : Participant). z.phase) (fresh p x at) ∙ h in absurd (cc);
      calm = λ p x q at h has. subst (λ (z : Participant). Has z.looked q) (sym (fresh p x at)) has;
      quiet = λ p q x y m e l it a at h. let same : Idle ≡ HasRead m = ap (λ (z : Participant). z.phase) (fresh p x at) ∙ h in absurd (cc);
    },
  ),
)

fallen : (b n : ℕ) (f : ItemState) (q : ℕ) → Standing b n f → f ≢ Reclaimed q
fallen b n Live q st e = cc
fallen b n (Due p) q st e = cc
fallen b n (Retired r a) q st e = cc
fallen b n (Collected m) q st e = cc
fallen b n Waiting q st e = cc
fallen b n (Reclaimed p) q st e = st

pub safe : (s : State) → Inv s → Safe s
safe s (k, (b, n, f)) p x e h at is has = let t = f.kept p x e h at is has in record {
  it = t.0;
  here = t.1;
  value = t.2.value;
  stands = λ q. fallen (b p) (n h.item) t.0.state q t.3;
  holds = t.2.holds;
  owned = λ z inside. let u = has_map (seen s.items) t.0.holds z (subst (λ l. Has l z) (sym t.2.holds) inside) in let m : ℕ = u.0 in let w = find_at s.items m (k.holding h.item t.0 m t.1 u.1) in
      let o = k.owned m w.0 w.1 in let c = o.counted in let a = held_some m s.items h.item t.0 t.1 in let more = times_has m t.0.holds u.1 in
      let number : m ≡ z.item = ap (λ (y : Seen). y.item) u.2 in
      let value : w.0.value ≡ z.value = ap (λ (y : Item). y.value) (sym (get_at s.items m no_item w.0 w.1)) ∙ ap (λ (y : Seen). y.value) u.2 in
      (w.0, subst (λ j. At s.items j w.0) number w.1, value, omega arith, o.is_live (omega arith));
}

schedules : (s t : State) (steps : List Step) → Inv s → Schedule s steps t → Inv t
schedules s t [] i h = subst Inv (sym h) i
schedules s t (a ∷ later) i h = schedules h.0 t later (keeps s a h.0 h.1 i) h.2

pub all_safe : (participants cells : ℕ) (steps : List Step) (t : State) → Schedule (start participants cells) steps t → Safe t
all_safe participants cells steps t h = safe t (schedules (start participants cells) t steps (starts participants cells) h)

-- the parts of a start
pub starts_as : (ps : List Participant) (cs : List Cell) (items : List Item) (p c : ℕ) → ps ≡ replicate p newcomer → cs ≡ replicate c empty_cell → items ≡ [] → Inv (record { count = 0; participants = ps; cells = cs; items = items })
starts_as ps cs items p c is_p is_c is_i = subst (λ (z : List Participant × (List Cell × List Item)). Inv (record { count = 0; participants = z.0; cells = z.1.0; items = z.1.1 })) (λ j. (sym is_p j, (sym is_c j, sym is_i j))) (starts p c)

-- in a state that meets the invariant no number is at its end
pub has_room : (s : State) → Inv s → HasRoom s
has_room s (k, (b, n, f)) = let few : (i : ℕ) → ((item_at s i).hand < 2 ^ 64 - 1) × ((item_at s i).owners < 2 ^ 64 - 1) = (λ i. read_or (λ (z : Item). (z.hand < 2 ^ 64 - 1) × (z.owners < 2 ^ 64 - 1)) s.items i no_item (omega arith, omega arith)
    (λ it at. let o = k.owned i it at in let c = o.counted in let l = o.limit in (omega arith, omega arith))) in record {
      hands = λ i. (few i).0;
      owners = λ i. (few i).1;
      ages = λ p. read_or (λ (x : Participant). is_turning x ≡ true → CanAge p s.items) s.participants p newcomer (λ h. absurd (cc))
          (λ x at h i a. read_or (λ (z : Item). z.state ≡ Retired p a → a < 2 ^ 64 - 1) s.items i no_item (λ e. absurd (cc))
          (λ it at_i e. let t = turning_is x h in let y = (f.ageing i it p a x at_i e at).young in let g = (f.guards p x at).inside (count_of x.phase) t.0 in let differs = t.1 in
          let g0 = g.0 in let g1 = g.1 in let g2 = g.2 in let fits = f.fits in omega arith));
    }
