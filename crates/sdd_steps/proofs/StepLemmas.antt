-- each step keeps the invariant, one change at a time
use Rattle.std.proofs.Common.{true, ◌≡◌, ◌≢◌, ℕ, ◌+◌, ◌-◌, ◌^◌, ◌<◌, ◌≤◌, cond, List, [], ◌∷◌, ◌++◌, map, length, get_or, set, sym, refl, ap, ◌∙◌, subst, ⊎_elim, inl, inr, arith, Option, Some, None, length-set, eq-eqb, ne_eqb}
use mathlib.Core.Logic.{dite}
use native.Mathlib.Decide.{ℕ_discrete}
use Rattle.sdd_steps.specs.declared.participant.Phase.TheVariants.{Idle, HasRead, Opened}
use Rattle.sdd_steps.specs.declared.item.ItemState.{ItemState}
use Rattle.sdd_steps.specs.declared.item.ItemState.TheVariants.{Live, Due, Retired, Collected, Reclaimed}
use Rattle.sdd_steps.specs.declared.participant.Loaded.{Loaded}
use Rattle.sdd_steps.specs.declared.participant.Participant.{Participant}
use Rattle.sdd_steps.specs.declared.item.Item.{Item}
use Rattle.sdd_steps.specs.declared.item.Cell.{Cell}
use Rattle.sdd_steps.specs.State.{State, At, Has, times, without, cell_at, item_at, with_participant, with_item, no_item, empty_cell}
use Rattle.sdd_steps.specs.Steps.{loaded_as, handed, unhanded, emptied, filled, after_release, count_of, older, aged, left, left_by, settled, settled_by, noted, paid, new_item, taken_up, all_have_loose_owners}
use Rattle.sdd_steps.specs.Invariant.{Ageing, AllOwnersCounted, Same, Standing, Facts, Inv, names_of}
use Rattle.sdd_steps.proofs.ListLemmas.{put, set_all, set_here, set_else, same_at, at_inside, at_get, get_at, at_mapped, at_map, at_longer, has_end}
use Rattle.sdd_steps.proofs.CountLemmas.{uses_set, uses_some, points_self, points_other, times_some, counted_step, counted_give_up, counted_states, counted_placed, placed_all, paid_at, names_set, names_taken_up, loose_has, has_without}
use Rattle.sdd_steps.proofs.FactLemmas.{Holding, participant_step, items_stand, items_step, item_step, same_state, cells_step}
use Rattle.sdd_steps.proofs.EnabledLemmas.{Inside, Ready, Reclaimable, aged_from, aged_standing, aged_live, aged_noted, left_from, left_standing, left_live, left_noted, settled_since, settled_live, settled_standing, settled_most, settled_from, settled_noted}

module _ (s : State) (k : AllOwnersCounted (names_of s.cells) s.items) (born since : ℕ → ℕ) (f : Facts s born since) where
  abbrev More : State → Type 0
  More t = (b : ℕ → ℕ) × (n : ℕ → ℕ) × Facts t b n

  pub live_in_hand : (i : ℕ) (it : Item) → At s.items i it → 0 < it.hand → it.state ≡ Live
  live_in_hand i it at_i h = let w = k.owned i it at_i in let n = w.counted in w.is_live (omega arith)

  at_name : (c : ℕ) (o : Cell) (i : ℕ) → At s.cells c o → o.names ≡ Some i → At (names_of s.cells) c (Some i)
  at_name c o i at is = subst (At (names_of s.cells) c) is (at_map (λ (z : Cell). z.names) s.cells c o at)

  pub named_there : (c : ℕ) (o : Cell) (i : ℕ) → At s.cells c o → o.names ≡ Some i → At s.items i (item_at s i) × ((item_at s i).state ≡ Live)
  named_there c o i at is = let n = at_name c o i at is in let at_i = at_get s.items i no_item (k.named c i n) in let w = k.owned i (item_at s i) at_i in let e = w.counted in
      let u = uses_some i (names_of s.cells) c n in (at_i, w.is_live (omega arith))

  pub reads : (p : ℕ) (x : Participant) → At s.participants p x → x.phase ≡ Idle → More (with_participant s p (record x { phase = HasRead s.count }))
  reads p x at is = let g = f.guards p x at in let past = g.past in (
    put born p (born p),
    since,
    participant_step s born since f p x (record x { phase = HasRead s.count }) (born p) at
        record { past = g.past; reading = λ e h. let k : s.count ≡ e = cc in (omega arith, omega arith); inside = λ e h. absurd (cc); again = λ e n h. absurd (cc) }
        (λ e h. absurd (cc)) (λ r y e h. absurd (cc))
        (λ i it a at_i h. let o = f.ageing i it p a x at_i h at in let d = f.dated i in record { behind = o.behind; young = o.young; reading = λ e k. let n : s.count ≡ e = cc in omega arith; turning = λ e k. absurd (cc) })
        (λ e h' h. absurd (cc))
        (λ q' h. absurd (cc)) (λ q' y' n' e' l it' a' h has. absurd (f.calm p x q' at is has)) (λ e' l it' h. absurd (cc)),
  )

  pub publishes : (p : ℕ) (x : Participant) (e : ℕ) → At s.participants p x → x.phase ≡ HasRead e → More (with_participant s p (record x { phase = Opened e; reread = None; looked = []; loaded = [] }))
  publishes p x e at is = let g = f.guards p x at in let past = g.past in let r = g.reading e is in let r0 = r.0 in let r1 = r.1 in (
    put born p s.count,
    since,
    participant_step s born since f p x (record x { phase = Opened e; reread = None; looked = []; loaded = [] }) s.count at
        record { past = g.past; reading = λ e' h. absurd (cc); inside = λ e' h. let k : e ≡ e' = cc in (omega arith, omega arith, omega arith, omega arith); again = λ e' n h i. absurd (cc) }
        (λ e' h. inl refl) (λ r y e' h has. absurd has)
        (λ i it a at_i h. let o = f.ageing i it p a x at_i h at in record { behind = o.behind; young = o.young; reading = λ e' k. absurd (cc); turning = λ e' k _. let n : e ≡ e' = cc in let m = o.reading e is in omega arith })
        (λ e' h' h has. absurd has)
        (λ q' h. absurd (cc)) (λ q' y' n' e' l it' a' h. absurd (cc)) (λ e' l it' h has. absurd has),
  )

  pub closes : (p : ℕ) (x : Participant) → At s.participants p x → More (with_participant s p (record x { phase = Idle; reread = None; looked = []; loaded = [] }))
  closes p x at = let g = f.guards p x at in (
    put born p (born p),
    since,
    participant_step s born since f p x (record x { phase = Idle; reread = None; looked = []; loaded = [] }) (born p) at
        record { past = g.past; reading = λ e' h. absurd (cc); inside = λ e' h. absurd (cc); again = λ e' n h. absurd (cc) }
        (λ e' h. absurd (cc)) (λ r y e' h has. absurd has)
        (λ i it a at_i h. let o = f.ageing i it p a x at_i h at in record { behind = o.behind; young = o.young; reading = λ e' k. absurd (cc); turning = λ e' k _. absurd (cc) })
        (λ e' h' h has. absurd has)
        (λ q' h has. has) (λ q' y' n' e' l it' a' h. absurd (cc)) (λ e' l it' h. absurd (cc)),
  )

  pub loads : (p : ℕ) (x : Participant) (i : ℕ) → At s.participants p x → At s.items i (item_at s i) → (item_at s i).state ≡ Live → More (with_participant s p (record x { loaded = x.loaded ++ loaded_as s.items i ∷ [] }))
  loads p x i at at_i is_live = let new : Loaded = loaded_as s.items i in (
    put born p (born p),
    since,
    participant_step s born since f p x (record x { loaded = x.loaded ++ new ∷ [] }) (born p) at
        (f.guards p x at) (λ e h. inr (h, refl)) (λ r y e h has other at_r is'. f.looks p x r y e at h has at_r is')
        (λ j z a at_j h. f.ageing j z p a x at_j h at)
        (λ e l h has. ⊎_elim (λ t. f.kept p x e l at h t) (λ (t : new ≡ l). subst (λ (m : Loaded). (z : Item) × At s.items m.item z × Same s.items m z × Standing (born p) (since m.item) z.state) t
        (item_at s i, at_i, record { value = refl; holds = refl }, subst (Standing (born p) (since i)) (sym is_live) tt)) (has_end x.loaded new l has))
        (λ q h. f.calm p x q at h) (λ q y m e l it a h has _ at_q is_q has_l at_l. f.quiet p q x y m e l it a at h has at_q is_q has_l at_l)
        (λ e l it h has at_l. ⊎_elim (λ t. inl (h, t)) (λ (t : new ≡ l). let same : item_at s i ≡ it = same_at s.items l.item (item_at s i) it (subst (λ (m : Loaded). At s.items m.item (item_at s i)) t at_i) at_l in
        inr (λ r a bad. let live : it.state ≡ Live = ap (λ (z : Item). z.state) (sym same) ∙ is_live in cc)) (has_end x.loaded new l has)),
  )

  pub looks_at : (p q n : ℕ) (x y : Participant) → At s.participants p x → x.phase ≡ Opened n → At s.participants q y → ((e : ℕ) → y.phase ≡ Opened e → e ≡ s.count) → More (with_participant s p (record x { looked = x.looked ++ q ∷ [] }))
  looks_at p q n x y at opened at_q agrees = (
    put born p (born p),
    since,
    participant_step s born since f p x (record x { looked = x.looked ++ q ∷ [] }) (born p) at
        (f.guards p x at) (λ e h. inr (h, refl))
        (λ r z e h has other at_r is'. ⊎_elim (λ t. f.looks p x r z e at h t at_r is')
        (λ (t : q ≡ r). let same : y ≡ z = same_at s.participants r y z (subst (λ k. At s.participants k y) t at_q) at_r in
        let same_phase : y.phase ≡ z.phase = ap (λ (k : Participant). k.phase) same in let e_is = agrees e (same_phase ∙ is') in let g = (f.guards r z at_r).inside e is' in let g1 = g.1 in omega arith) (has_end x.looked q r has))
        (λ j z a at_j h. f.ageing j z p a x at_j h at) (λ e l h has. f.kept p x e l at h has)
        (λ r h. let bad : Opened n ≡ Idle = sym opened ∙ h in absurd (cc)) (λ r z m e' l it a h. let bad : Opened n ≡ HasRead m = sym opened ∙ h in absurd (cc)) (λ e' l it h has _. inl (h, has)),
  )

  -- before its guard is open it looks at another one that has none
  pub looks_shut : (p q e : ℕ) (x y : Participant) → At s.participants p x → x.phase ≡ HasRead e → At s.participants q y → ((n : ℕ) → y.phase ≢ Opened n) → More (with_participant s p (record x { looked = x.looked ++ q ∷ [] }))
  looks_shut p q e x y at is at_q shut = (
    put born p (born p),
    since,
    participant_step s born since f p x (record x { looked = x.looked ++ q ∷ [] }) (born p) at
        (f.guards p x at) (λ e' h. absurd (cc)) (λ r z e' h. absurd (cc))
        (λ j z a at_j h. f.ageing j z p a x at_j h at) (λ e' l h. absurd (cc))
        (λ r h. absurd (cc))
        (λ r z n e' l it a h has _ at_r is_r has_l at_l. ⊎_elim (λ t. f.quiet p r x z n e' l it a at h t at_r is_r has_l at_l)
        (λ (t : q ≡ r). let same : y ≡ z = same_at s.participants r y z (subst (λ k. At s.participants k y) t at_q) at_r in absurd (shut e' (ap (λ (k : Participant). k.phase) same ∙ is_r))) (has_end x.looked q r has))
        (λ e' l it h. absurd (cc)),
  )

  pub rereads : (p : ℕ) (x : Participant) → At s.participants p x → More (with_participant s p (record x { reread = Some s.count }))
  rereads p x at = let g = f.guards p x at in (
    put born p (born p),
    since,
    participant_step s born since f p x (record x { reread = Some s.count }) (born p) at
        record { past = g.past; reading = g.reading; inside = g.inside; again = λ e n h i. let j : s.count ≡ n = cc in let b = (g.inside e h).2 in (omega arith, omega arith) }
        (λ e h. inr (h, refl)) (λ r y e h has other at_r is'. f.looks p x r y e at h has at_r is')
        (λ j z a at_j h. f.ageing j z p a x at_j h at) (λ e l h has. f.kept p x e l at h has)
        (λ q h. f.calm p x q at h) (λ q y m e l it a h has _ at_q is_q has_l at_l. f.quiet p q x y m e l it a at h has at_q is_q has_l at_l) (λ e l it h has _. inl (h, has)),
  )

  pub rotates : (p : ℕ) (x : Participant) (e : ℕ) → At s.participants p x → x.phase ≡ Opened e → e ≢ x.found → Inv (record s { participants = set s.participants p (record x { found = e }); items = map (older p) s.items })
  rotates p x e at is differs = let x' : Participant = record x { found = e } in let g = f.guards p x at in let in_ = g.inside e is in let i0 = in_.0 in let i1 = in_.1 in let i2 = in_.2 in
      let f1 = participant_step s born since f p x x' (born p) at
      record { past = omega arith; reading = λ e' h. absurd (cc); inside = λ e' h. let k : e ≡ e' = cc in let h' = g.inside e' h in (omega arith, h'.1, h'.2, h'.3); again = g.again }
      (λ e' h. inr (h, refl)) (λ r y e' h has other at_r is'. f.looks p x r y e' at h has at_r is')
      (λ i it a at_i h. let o = f.ageing i it p a x at_i h at in let b = o.behind in let y = o.young in record { behind = λ k. let m = b k in omega arith; young = omega arith; reading = o.reading; turning = λ e' h' n. let k : e ≡ e' = cc in absurd (n (sym k)) })
      (λ e' l h has. f.kept p x e' l at h has)
      (λ q h. f.calm p x q at h) (λ q y m e' l it a h has _ at_q is_q has_l at_l. f.quiet p q x y m e' l it a at h has at_q is_q has_l at_l) (λ e' l it h has _. inl (h, has)) in (
        counted_states (aged p) s.items (names_of s.cells) refl (aged_live p) k,
        (
          put born p (born p),
          since,
          items_step (with_participant s p x') (put born p (born p)) since since k.holding f1 (map (older p) s.items) s.cells
              (λ i it at_i. (older p it, at_map (older p) s.items i it at_i, record { value = refl; holds = λ _ _. refl; stands = λ b _ _ st. aged_standing p b (since i) it.state st }))
              f.dated
              (λ i it r a y at_i is_r at_r. let t = at_mapped (older p) s.items i it at_i in let z = t.0 in
              let was : aged p z.state ≡ Retired r a = ap (λ (k : Item). k.state) t.2 ∙ is_r in let b = aged_from p z.state r a was in
              ⊎_elim (λ (m : (r ≡ p) × (a ≡ b.0 + 1)). let more = m.1 in let n : ℕ = b.0 in let o = f.ageing i z p n x t.1 (b.1 ∙ ap (λ k. Retired k n) m.0) at in
              let y_is : x' ≡ y = same_at (set s.participants p x') p x' y (set_here s.participants p x' x at) (subst (λ k. At (set s.participants p x') k y) m.0 at_r) in
              subst (λ (k : Participant). Ageing (since i) a k.found k.phase) y_is
              (let behind = o.behind in let young = o.young in let turning = o.turning e is differs in record {
                behind = λ _. dite (ℕ_discrete n 0) (λ zero_b. omega arith) (λ more_b. let q = behind (omega arith) in omega arith);
                young = omega arith;
                reading = λ e' h. absurd (cc);
                turning = λ e' h d. let k : e ≡ e' = cc in absurd (d (sym k));
              }))
              (λ (m : (r ≢ p) × (a ≡ b.0)). f.ageing i z r a y t.1 (b.1 ∙ ap (λ k. Retired r k) (sym m.1)) (sym (set_else s.participants p r x' m.0) ∙ at_r)) b.2)
              (λ i it n at_i is_n. let t = at_mapped (older p) s.items i it at_i in f.noted i t.0 n t.1 (aged_noted p t.0.state n (ap (λ (k : Item). k.state) t.2 ∙ is_n)))
              (λ i it r a m y at_i is_r at_r reads. let t = at_mapped (older p) s.items i it at_i in let b = aged_from p t.0.state r a (ap (λ (k : Item). k.state) t.2 ∙ is_r) in (t.0, b.0, t.1, b.1)),
        ),
      )

  pub ends : (p : ℕ) (x : Participant) → At s.participants p x → x.phase ≡ Idle → Inv (record s { participants = set s.participants p (record x { found = 0 }); items = map (left_by p) s.items })
  ends p x at is = let s1 : State = record s { items = map (left_by p) s.items } in
      let f1 = items_step s born since since k.holding f (map (left_by p) s.items) s.cells
      (λ i it at_i. (left_by p it, at_map (left_by p) s.items i it at_i, record { value = refl; holds = λ _ _. refl; stands = λ b _ _ st. left_standing p b (since i) it.state st }))
      f.dated
      (λ i it r a y at_i is_r at_r. let t = at_mapped (left_by p) s.items i it at_i in let was = left_from p t.0.state r a (ap (λ (k : Item). k.state) t.2 ∙ is_r) in f.ageing i t.0 r a y t.1 was.1 at_r)
      (λ i it n at_i is_n. let t = at_mapped (left_by p) s.items i it at_i in f.noted i t.0 n t.1 (left_noted p t.0.state n (ap (λ (k : Item). k.state) t.2 ∙ is_n)))
      (λ i it r a m y at_i is_r at_r reads. let t = at_mapped (left_by p) s.items i it at_i in let was = left_from p t.0.state r a (ap (λ (k : Item). k.state) t.2 ∙ is_r) in (t.0, a, t.1, was.1)) in (
        counted_states (left p) s.items (names_of s.cells) refl (left_live p) k,
        (
          put born p (born p),
          since,
          participant_step s1 born since f1 p x (record x { found = 0 }) (born p) at
              record { past = omega arith; reading = λ e h. absurd (cc); inside = λ e h. absurd (cc); again = λ e n h. absurd (cc) }
              (λ e h. inr (h, refl)) (λ r y e h has other at_r is'. f.looks p x r y e at h has at_r is')
              (λ i it a at_i h. let t = at_mapped (left_by p) s.items i it at_i in let was = left_from p t.0.state p a (ap (λ (k : Item). k.state) t.2 ∙ h) in absurd (was.0 refl))
              (λ e l h. absurd (cc))
              (λ q h. f1.calm p x q at h) (λ q y m e l it a h has _ at_q is_q has_l at_l. f1.quiet p q x y m e l it a at h has at_q is_q has_l at_l) (λ e l it h has _. inl (h, has)),
        ),
      )

  -- what p retired has age 3 from now on: nobody who was looked at has loaded any of it, and all others were
  pub settles : (p e : ℕ) (x : Participant) → At s.participants p x → x.phase ≡ HasRead e → 3 ≤ e → ((q : ℕ) → q < length s.participants → q ≢ p → Has x.looked q) → Inv (record s { participants = set s.participants p (record x { found = e }); items = map (settled_by p) s.items })
  settles p e x at is three all = let x' : Participant = record x { found = e } in let g = f.guards p x at in let r = g.reading e is in let r0 = r.0 in let r1 = r.1 in
      let since' : ℕ → ℕ = (λ i. settled_since p e (item_at s i).state (since i)) in
      let of : (i : ℕ) (it : Item) → At s.items i it → since' i ≡ settled_since p e it.state (since i) = (λ i it here. ap (λ (z : Item). settled_since p e z.state (since i)) (get_at s.items i no_item it here)) in
      let f1 = participant_step s born since f p x x' (born p) at
      record { past = omega arith; reading = λ e' h. let k : HasRead e ≡ HasRead e' = sym is ∙ h in let m : e ≡ e' = cc in (omega arith, omega arith); inside = λ e' h. let bad : HasRead e ≡ Opened e' = sym is ∙ h in absurd (cc); again = λ e' n h. let bad : HasRead e ≡ Opened e' = sym is ∙ h in absurd (cc) }
      (λ e' h. inr (h, refl)) (λ q y e' h has other at_q is_q. f.looks p x q y e' at h has at_q is_q)
      (λ i it a at_i h. let o = f.ageing i it p a x at_i h at in let b = o.behind in let y = o.young in record { behind = λ k. let m = b k in omega arith; young = omega arith; reading = o.reading; turning = λ e' h' n. let bad : HasRead e ≡ Opened e' = sym is ∙ h' in absurd (cc) })
      (λ e' l h has. f.kept p x e' l at h has)
      (λ q h. f.calm p x q at h) (λ q y m e' l it a h has _ at_q is_q has_l at_l. f.quiet p q x y m e' l it a at h has at_q is_q has_l at_l) (λ e' l it h has _. inl (h, has)) in (
        counted_states (settled p) s.items (names_of s.cells) refl (settled_live p) k,
        (
          put born p (born p),
          since',
          items_stand (with_participant s p x') (put born p (born p)) since since' k.holding f1 (map (settled_by p) s.items) s.cells
              (λ i it at_i. (settled_by p it, at_map (settled_by p) s.items i it at_i, refl))
              (λ q y e' l it it' at_q is_q has at_l at_l' st. let same : settled_by p it ≡ it' = same_at (map (settled_by p) s.items) l.item (settled_by p it) it' (at_map (settled_by p) s.items l.item it at_l) at_l' in
              let mine : (a : ℕ) → it.state ≢ Retired p a = (λ a. set_all (λ q' y'. y'.phase ≡ Opened e' → Has y'.loaded l → it.state ≢ Retired p a) s.participants p x'
              (λ h _. let bad : HasRead e ≡ Opened e' = sym is ∙ h in absurd (cc))
              (λ q' y' other here h has'. f.quiet p q' x y' e e' l it a at is (all q' (at_inside s.participants q' y' here) other) here h has' at_l) q y at_q is_q has) in
              (ap (λ (z : Item). z.holds) (sym same), subst (λ (z : Item). Standing (put born p (born p) q) (since' l.item) z.state) same (subst (λ n. Standing (put born p (born p) q) n (settled p it.state)) (sym (of l.item it at_l)) (settled_standing p (put born p (born p) q) e (since l.item) it.state mine st))))
              (λ i. settled_most p e s.count (item_at s i).state (since i) r1 (f.dated i))
              (λ i it q a y at_i is_q at_q. let t = at_mapped (settled_by p) s.items i it at_i in let z = t.0 in let was : settled p z.state ≡ Retired q a = ap (λ (k : Item). k.state) t.2 ∙ is_q in let b = settled_from p e (since i) z.state q a was in
              subst (λ n. Ageing n a y.found y.phase) (sym (of i z t.1)) (⊎_elim
              (λ (m : (q ≡ p) × (a ≡ 3) × (settled_since p e z.state (since i) ≡ e - 2)). let y_is : x' ≡ y = same_at (set s.participants p x') p x' y (set_here s.participants p x' x at) (subst (λ k. At (set s.participants p x') k y) m.0 at_q) in
              let m1 = m.1 in subst (λ n. Ageing n a y.found y.phase) (sym m.2) (subst (λ (k : Participant). Ageing (e - 2) a k.found k.phase) y_is
              (record { behind = λ _. omega arith; young = omega arith; reading = λ e' h. let k : HasRead e ≡ HasRead e' = sym is ∙ h in let n : e ≡ e' = cc in omega arith; turning = λ e' h _. let bad : HasRead e ≡ Opened e' = sym is ∙ h in absurd (cc) })))
              (λ (m : (q ≢ p) × (a ≡ b.0) × (settled_since p e z.state (since i) ≡ since i)). subst (λ n. Ageing n a y.found y.phase) (sym m.2)
              (f.ageing i z q a y t.1 (b.1 ∙ ap (λ k. Retired q k) (sym m.1)) (sym (set_else s.participants p q x' m.0) ∙ at_q))) b.2))
              (λ i it n at_i is_n. let t = at_mapped (settled_by p) s.items i it at_i in let was = settled_noted p t.0.state n (ap (λ (k : Item). k.state) t.2 ∙ is_n) in
              let low = f.noted i t.0 n t.1 was in (subst (λ m. m ≤ n + 1) (sym (of i t.0 t.1 ∙ ap (λ z. settled_since p e z (since i)) was)) low.0, low.1))
              (λ i it q a m y at_i is_q at_q reads. let t = at_mapped (settled_by p) s.items i it at_i in let b = settled_from p e (since i) t.0.state q a (ap (λ (k : Item). k.state) t.2 ∙ is_q) in (t.0, b.0, t.1, b.1)),
        ),
      )

  pub raises : (p : ℕ) (x : Participant) → At s.participants p x → Inside x s.count → ((q : ℕ) → q < length s.participants → q ≢ p → Has x.looked q) → s.count < 2 ^ 64 - 1 → More (record s { count = s.count + 1 })
  raises p x at is all room = (
    born,
    since,
    record {
      fits = omega arith;
      dated = λ i. let d = f.dated i in omega arith;
      guards = λ q y at_q. let g = f.guards q y at_q in let past = g.past in record {
        past = omega arith;
        reading = λ e h. let r = g.reading e h in let r1 = r.1 in (r.0, omega arith);
        inside = λ e h. let i = g.inside e h in let i1 = i.1 in let i2 = i.2 in let young : s.count ≤ born q = dite (ℕ_discrete q p)
            (λ same. let mine = (f.guards p x at).inside s.count is.0 in let m1 = mine.1 in let b : born q ≡ born p = ap born same in omega arith)
            (λ other. f.looks p x q y e at is.0 (all q (at_inside s.participants q y at_q) other) at_q h) in (i.0, i.1, omega arith, omega arith);
        again = λ e n h i. let a = g.again e n h i in let a1 = a.1 in (a.0, omega arith);
      };
      looks = λ q y r z e at_q h has at_r h'. let g = (f.guards q y at_q).inside (s.count + 1) h in let g1 = g.1 in let g2 = g.2 in absurd (omega arith);
      ageing = f.ageing;
      noted = λ i it m at_i is_m. let t = f.noted i it m at_i is_m in let low = t.1 in (t.0, omega arith);
      kept = f.kept;
      calm = f.calm;
      quiet = f.quiet;
    },
  )

  -- an item without owners has another state from now on
  becomes : (i : ℕ) (it : Item) (state' : ItemState) → At s.items i it → it.state ≢ Live → state' ≢ Live → ((b : ℕ) → b ≤ s.count → s.count ≤ b + 1 → Standing b (since i) it.state → Standing b s.count state')
      → ((r a : ℕ) (y : Participant) → state' ≡ Retired r a → At s.participants r y → Ageing s.count a y.found y.phase)
      → ((m : ℕ) → state' ≡ Collected m → (s.count ≤ m + 1) × (m ≤ s.count))
      → ((q a m : ℕ) (y : Participant) → state' ≡ Retired q a → At s.participants q y → y.phase ≢ HasRead m)
      → Inv (with_item s i (record it { state = state' }))
  becomes i it state' at dead dead' stands ageing noted fresh = let w = k.owned i it at in (
    counted_step (names_of s.cells) (names_of s.cells) s.items k i it (record it { state = state' }) at refl (λ j other. refl) (w.counted, (λ e. absurd (dead' e)), (λ more. absurd (dead (w.is_live more))), w.limit) k.named,
    (born, put since i s.count, item_step s born since k.holding f i it (record it { state = state' }) s.cells s.count at (record { value = refl; holds = λ _ _. refl; stands = stands }) (omega arith) ageing noted (λ q a m y is at_q reads. absurd (fresh q a m y is at_q reads))),
  )

  pub retires : (p i : ℕ) (x : Participant) (it : Item) → At s.participants p x → Ready x → At s.items i it → it.state ≢ Live → Inv (with_item s i (record it { state = Retired p 0 }))
  retires p i x it at ready at_i dead = becomes i it (Retired p 0) at_i dead (λ e. cc) (λ b less _ _. less)
      (λ r a y e at_r. let r_is : p ≡ r = cc in let a_is : 0 ≡ a = cc in let same : x ≡ y = same_at s.participants r x y (subst (λ m. At s.participants m x) r_is at) at_r in
      subst (λ (m : Participant). Ageing s.count a m.found m.phase) same
      (record {
        behind = λ more. absurd (omega arith);
        young = omega arith;
        reading = λ e' h. absurd (⊎_elim (λ (t : x.phase ≡ Idle). let bad : Idle ≡ HasRead e' = sym t ∙ h in cc) (λ (t : (d : ℕ) × Inside x d). let bad : Opened t.0 ≡ HasRead e' = sym t.1.0 ∙ h in cc) ready);
        turning = λ e' h n. absurd (⊎_elim (λ (t : x.phase ≡ Idle). let bad : Idle ≡ Opened e' = sym t ∙ h in cc) (λ (t : (d : ℕ) × Inside x d). let same_e : Opened t.0 ≡ Opened e' = sym t.1.0 ∙ h in let m : t.0 ≡ e' = cc in n (sym m ∙ t.1.1)) ready);
      }))
      (λ m e. absurd (cc))
      (λ q a m y e at_q reads. let q_is : p ≡ q = cc in let same : x ≡ y = same_at s.participants q x y (subst (λ n. At s.participants n x) q_is at) at_q in let mine : x.phase ≡ HasRead m = ap (λ (z : Participant). z.phase) same ∙ reads in
      ⊎_elim (λ (t : x.phase ≡ Idle). let bad : Idle ≡ HasRead m = sym t ∙ mine in cc) (λ (t : (d : ℕ) × Inside x d). let bad : Opened t.0 ≡ HasRead m = sym t.1.0 ∙ mine in cc) ready)

  pub collects : (p i : ℕ) (x : Participant) (it : Item) (e n : ℕ) → At s.participants p x → Inside x e → x.reread ≡ Some n → At s.items i it → it.state ≢ Live → Inv (with_item s i (record it { state = noted x.reread }))
  collects p i x it e n at is again at_i dead = let g = f.guards p x at in let a = g.again e n is.0 again in let late = (g.inside e is.0).3 in let a0 = a.0 in
      subst (λ o. Inv (with_item s i (record it { state = noted o }))) (sym again) (becomes i it (Collected n) at_i dead (λ e. cc) (λ b less _ _. less) (λ r a y e at_r. absurd (cc)) (λ m e. let j : n ≡ m = cc in let a1 = a.1 in (omega arith, omega arith)) (λ q a m y e. absurd (cc)))

  pub reclaims : (p i : ℕ) (x : Participant) (it : Item) → At s.participants p x → At s.items i it → Reclaimable p x it.state → Inv (with_item s i (record it { state = Reclaimed p }))
  reclaims p i x it at at_i reclaimable = becomes i it (Reclaimed p) at_i
      (λ e. ⊎_elim (λ (t : it.state ≡ Retired p 3). let bad : Live ≡ Retired p 3 = sym e ∙ t in cc) (λ (t : (n m : ℕ) × (it.state ≡ Collected n) × Inside x (count_of x.phase) × (x.reread ≡ Some m) × (n + 3 ≤ m)). let bad : Live ≡ Collected t.0 = sym e ∙ t.2 in cc) reclaimable)
      (λ e. cc)
      (λ b less late st. ⊎_elim
      (λ (t : it.state ≡ Retired p 3). let o = f.ageing i it p 3 x at_i t at in let behind = o.behind (omega arith) in let past = (f.guards p x at).past in let standing : b ≤ since i = subst (Standing b (since i)) t st in absurd (omega arith))
      (λ (t : (n m : ℕ) × (it.state ≡ Collected n) × Inside x (count_of x.phase) × (x.reread ≡ Some m) × (n + 3 ≤ m)). let note = (f.noted i it t.0 at_i t.2).0 in let a = (f.guards p x at).again (count_of x.phase) t.1 t.3.0 t.4 in let a1 = a.1 in
      let above = t.5 in let standing : b ≤ since i = subst (Standing b (since i)) t.2 st in absurd (omega arith)) reclaimable)
      (λ r a y e at_r. absurd (cc)) (λ m e. absurd (cc)) (λ q a m y e. absurd (cc))

  pub adds_owner : (i : ℕ) (it : Item) → At s.items i it → it.state ≡ Live → it.owners < 2 ^ 32 - 1 → Inv (with_item s i (record it { hand = it.hand + 1; owners = it.owners + 1 }))
  adds_owner i it at_i is room = let it' : Item = record it { hand = it.hand + 1; owners = it.owners + 1 } in let w = k.owned i it at_i in let n = w.counted in (
    counted_step (names_of s.cells) (names_of s.cells) s.items k i it it' at_i refl (λ j other. refl) (omega arith, (λ _. omega arith), (λ _. is), omega arith) k.named,
    (born, put since i (since i), same_state s born since k.holding f i it it' s.cells at_i refl refl (λ _ _. refl)),
  )

  pub releases : (p i : ℕ) (it : Item) → At s.items i it → 0 < it.hand → Inv (with_item s i (after_release p it))
  releases p i it at_i h = let w = k.owned i it at_i in let c = w.counted in let l = w.limit in let is = live_in_hand i it at_i h in let n : ℕ = it.owners - 1 in
      let made : ItemState → Item = (λ z. record it { hand = it.hand - 1; owners = it.owners - 1; state = z }) in dite (ℕ_discrete n 0)
      (λ e. subst (λ b. Inv (with_item s i (made (cond b (Due p) it.state)))) (sym (eq-eqb n 0 e)) (
        counted_step (names_of s.cells) (names_of s.cells) s.items k i it (made (Due p)) at_i refl (λ j other. refl) (omega arith, (λ e. absurd (cc)), (λ more. absurd (omega arith)), omega arith) k.named,
        (born, put since i (since i), item_step s born since k.holding f i it (made (Due p)) s.cells (since i) at_i (record { value = refl; holds = λ _ _. refl; stands = λ _ _ _ _. tt }) (f.dated i) (λ r a y e. absurd (cc)) (λ m e. absurd (cc)) (λ q a m y e. absurd (cc))),
      ))
      (λ d. subst (λ b. Inv (with_item s i (made (cond b (Due p) it.state)))) (sym (ne_eqb n 0 d)) (
        counted_step (names_of s.cells) (names_of s.cells) s.items k i it (made it.state) at_i refl (λ j other. refl) (omega arith, (λ _. omega arith), (λ _. is), omega arith) k.named,
        (born, put since i (since i), same_state s born since k.holding f i it (made it.state) s.cells at_i refl refl (λ _ _. refl)),
      ))

  gives_up : (p j i : ℕ) (w it : Item) → At s.items j w → w.state ≡ Reclaimed p → Has w.holds i → At s.items i it → AllOwnersCounted (names_of s.cells) (set (set s.items j (record w { holds = without i w.holds })) i (handed it)) × (i ≢ j) × Facts (record s { items = set s.items j (record w { holds = without i w.holds }) }) born (put since j (since j))
  gives_up p j i w it at_j gone has at_i = let c = counted_give_up (names_of s.cells) s.items k p j i w it at_j gone has at_i in
      (c.1, c.0, same_state s born since k.holding f j w (record w { holds = without i w.holds }) s.cells at_j refl refl (λ b st. absurd (subst (Standing b (since j)) gone st)))

  empties : (c i : ℕ) (o : Cell) (it : Item) → At s.cells c o → o.names ≡ Some i → At s.items i it → Inv (record s { cells = set s.cells c (record o { names = None }); items = set s.items i (handed it) })
  empties c i o it at_c is at_i = let o' : Cell = record o { names = None } in let w = k.owned i it at_i in let n = w.counted in let names = names_of s.cells in let at_n = at_name c o i at_c is in (
    subst (λ l. AllOwnersCounted l (set s.items i (handed it))) (sym (names_set s.cells c o'))
        (counted_step names (set names c None) s.items k i it (handed it) at_i refl
        (λ j other. let u = uses_set j names c (Some i) None at_n in let e = points_other j i (λ h. other (sym h)) in omega arith)
        (let u = uses_set i names c (Some i) None at_n in let e = points_self i in (omega arith, w.has_owner, w.is_live, w.limit))
        (λ d j at. set_all (λ d' z. z ≡ Some j → j < length s.items) names c None (λ e. absurd (cc)) (λ d' z other at' e. k.named d' j (subst (At names d') e at')) d (Some j) at refl)),
    (born, put since i (since i), same_state s born since k.holding f i it (handed it) (set s.cells c o') at_i refl refl (λ _ _. refl)),
  )

  fills : (c i : ℕ) (o : Cell) (it : Item) → At s.cells c o → o.names ≡ None → At s.items i it → 0 < it.hand → Inv (record s { cells = set s.cells c (record o { names = Some i }); items = set s.items i (unhanded it) })
  fills c i o it at_c is at_i more = let o' : Cell = record o { names = Some i } in let w = k.owned i it at_i in let n = w.counted in let names = names_of s.cells in
      let at_n : At names c None = subst (At names c) is (at_map (λ (z : Cell). z.names) s.cells c o at_c) in (
        subst (λ l. AllOwnersCounted l (set s.items i (unhanded it))) (sym (names_set s.cells c o'))
            (counted_step names (set names c (Some i)) s.items k i it (unhanded it) at_i refl
            (λ j other. let u = uses_set j names c None (Some i) at_n in let e = points_other j i (λ h. other (sym h)) in omega arith)
            (let u = uses_set i names c None (Some i) at_n in let e = points_self i in (omega arith, w.has_owner, w.is_live, w.limit))
            (λ d j at. set_all (λ d' z. z ≡ Some j → j < length s.items) names c (Some i) (λ e. let same : i ≡ j = cc in let b = at_inside s.items i it at_i in omega arith) (λ d' z other at' e. k.named d' j (subst (At names d') e at')) d (Some j) at refl)),
        (born, put since i (since i), same_state s born since k.holding f i it (unhanded it) (set s.cells c o') at_i refl refl (λ _ _. refl)),
      )

  pub places : (v : ℕ) (hs cs : List ℕ) → all_have_loose_owners s.items hs hs ≡ true → Inv (record s { cells = taken_up (length s.items) cs s.cells; items = paid hs s.items ++ new_item v hs ∷ [] })
  places v hs cs loose = let all = paid hs s.items ++ new_item v hs ∷ [] in let cells' = taken_up (length s.items) cs s.cells in (
    subst (λ l. AllOwnersCounted l all) (sym (names_taken_up (length s.items) cs s.cells)) (counted_placed v hs (names_of s.cells) s.items (λ m has. (loose_has s.items hs hs loose m has).0)
        (λ m it at. ⊎_elim (λ (e : times m hs ≡ 0). omega arith) (λ (has : Has hs m). let h = (loose_has s.items hs hs loose m has).1 in let e : (get_or s.items m no_item).hand ≡ it.hand = ap (λ (z : Item). z.hand) (get_at s.items m no_item it at) in omega arith) (times_some m hs)) k),
    (
      born,
      since,
      items_step s born since since k.holding f all cells'
          (λ m it at. (record it { hand = it.hand - times m hs }, at_longer (paid hs s.items) (new_item v hs ∷ []) m (record it { hand = it.hand - times m hs }) (paid_at hs s.items m it at), record { value = refl; holds = λ _ _. refl; stands = λ _ _ _ st. st }))
          f.dated
          (λ j z r a y here is at_r. placed_all v hs s.items (λ j' z'. z'.state ≡ Retired r a → Ageing (since j') a y.found y.phase) (λ e. absurd (cc)) (λ j' it at' e. f.ageing j' it r a y at' e at_r) j z here is)
          (λ j z m here is. placed_all v hs s.items (λ j' z'. z'.state ≡ Collected m → (since j' ≤ m + 1) × (m ≤ s.count)) (λ e. absurd (cc)) (λ j' it at' e. f.noted j' it m at' e) j z here is)
          (λ j z q a m y here is at_q reads. placed_all v hs s.items (λ j' z'. z'.state ≡ Retired q a → (w : Item) × (c : ℕ) × At s.items j' w × (w.state ≡ Retired q c)) (λ e. absurd (cc)) (λ j' it at' e. (it, a, at', e)) j z here is),
    ),
  )

-- who holds cells changes
pub reholds : (s : State) (cells' : List Cell) → names_of cells' ≡ names_of s.cells → Inv s → Inv (record s { cells = cells' })
reholds s cells' same (k, (b, n, f)) = (subst (λ l. AllOwnersCounted l s.items) (sym same) k, (b, n, cells_step s cells' b n f))

pub empties_cell : (s : State) (c : ℕ) (o : Option ℕ) → At s.cells c (cell_at s c) → (cell_at s c).names ≡ o → Inv s → Inv (emptied s c o)
empties_cell s c None at is i = i
empties_cell s c (Some i) at is (k, (b, n, f)) = empties s k b n f c i (cell_at s c) (item_at s i) at is (named_there s k b n f c (cell_at s c) i at is).0

-- what stands after a cell was emptied
pub emptied_cell : (s : State) (c : ℕ) (o : Option ℕ) → At s.cells c (cell_at s c) → (cell_at s c).names ≡ o → At (emptied s c o).cells c (cell_at (emptied s c o) c) × ((cell_at (emptied s c o) c).names ≡ None)
emptied_cell s c None at is = (at, is)
emptied_cell s c (Some i) at is = let o' : Cell = record (cell_at s c) { names = None } in let here = set_here s.cells c o' (cell_at s c) at in let e = get_at (set s.cells c o') c empty_cell o' here in
    (subst (At (set s.cells c o') c) (sym e) here, ap (λ (z : Cell). z.names) e)

pub emptied_hand : (s : State) (c : ℕ) (o : Option ℕ) (i : ℕ) → At s.items i (item_at s i) → 0 < (item_at s i).hand → At (emptied s c o).items i (item_at (emptied s c o) i) × (0 < (item_at (emptied s c o) i).hand)
emptied_hand s c None i at h = (at, h)
emptied_hand s c (Some j) i at h = let new : Item = handed (item_at s j) in let all = set s.items j new in dite (ℕ_discrete i j)
    (λ e. let at_j : At s.items j (item_at s j) = subst (λ m. At s.items m (item_at s m)) e at in let here = set_here s.items j new (item_at s j) at_j in
    let there : At all i new = subst (λ m. At all m new) (sym e) here in let is = get_at all i no_item new there in
    (subst (At all i) (sym is) there, subst (λ (z : Item). 0 < z.hand) (sym is) (omega arith)))
    (λ d. let there : At all i (item_at s i) = set_else s.items j i new d ∙ at in let is = get_at all i no_item (item_at s i) there in
    (subst (At all i) (sym is) there, subst (λ (z : Item). 0 < z.hand) (sym is) h))

pub fills_cell : (s : State) (c i : ℕ) → At s.cells c (cell_at s c) → (cell_at s c).names ≡ None → At s.items i (item_at s i) → 0 < (item_at s i).hand → Inv s → Inv (filled s c (Some i))
fills_cell s c i at is at_i h (k, (b, n, f)) = fills s k b n f c i (cell_at s c) (item_at s i) at is at_i h

pub gives_up_owner : (s : State) (p j i : ℕ) → At s.items j (item_at s j) → (item_at s j).state ≡ Reclaimed p → Has (item_at s j).holds i → Inv s
    → (t : State) → t ≡ with_item s j (record (item_at s j) { holds = without i (item_at s j).holds }) → Inv (with_item t i (handed (item_at t i)))
gives_up_owner s p j i at_j gone has (k, (b, n, f)) t is = let w = item_at s j in let w' : Item = record w { holds = without i w.holds } in
    let at_i = at_get s.items i no_item (k.holding j w i at_j has) in let g = gives_up s k b n f p j i w (item_at s i) at_j gone has at_i in
    let t' : State = with_item s j w' in let at_i' : At t'.items i (item_at s i) = set_else s.items j i w' g.1 ∙ at_i in let same : item_at t' i ≡ item_at s i = get_at t'.items i no_item (item_at s i) at_i' in
    let since1 = put n j (n j) in let l = length-set s.items j w' in
    let holding : Holding t'.items = (λ m z q here has'. let h = set_all (λ m' z'. Has z'.holds q → q < length s.items) s.items j w' (λ y. k.holding j w q at_j (has_without i q w.holds y)) (λ m' z' o h' y. k.holding m' z' q h' y) m z here has' in omega arith) in
    subst (λ (z : State). Inv (with_item z i (handed (item_at z i)))) (sym is) (subst (λ (z : Item). Inv (with_item t' i (handed z))) (sym same)
    (g.0, (b, put since1 i (since1 i), same_state t' b since1 holding g.2 i (item_at s i) (handed (item_at s i)) t'.cells at_i' refl refl (λ _ _. refl))))
