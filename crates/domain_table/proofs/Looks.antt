-- looking at other participants, and the raise, keep the rule of the table
use Rattle.std.proofs.Common.{◌≡◌, ◌≢◌, ◌⊎◌, ℕ, ◌+◌, ◌*◌, ◌<◌, ◌≤◌, List, [], ◌∷◌, ◌++◌, length, get_or, set, sym, refl, ap, ◌∙◌, subst, ⊎_elim, inl, inr, arith, length-set, get_or-set_other, get_or-set_same}
use mathlib.Core.Logic.{dite}
use native.Mathlib.Decide.{ℕ_discrete}
use Rattle.atomic_table.specs.Table.{Me, step, keeps, Allows}
use Rattle.domain_table.specs.declared.board.Plan.{Plan}
use Rattle.sdd_steps.specs.declared.participant.Phase.TheVariants.{Idle, Opened}
use Rattle.sdd_steps.specs.declared.participant.Participant.{Participant}
use Rattle.sdd_steps.specs.declared.step.Step.TheVariants.{Look, Raise}
use Rattle.sdd_steps.specs.State.{At, Has, with_participant}
use Rattle.sdd_steps.specs.State as steps
use Rattle.sdd_steps.specs.Invariant.{Inv}
use Rattle.sdd_steps.proofs.ListLemmas.{set_all, find_at, same_at, has_end}
use Rattle.domain_table.specs.Views.{looking}
use Rattle.sdd_homes.specs.Book.{Content}
use Rattle.domain_table.specs.Layout.{state_word, claim_word, count_word, shown}
use Rattle.domain_table.specs.Rule.{Acts, beginning, Shows}
use Rattle.domain_table.specs.Plays.{look_then, agree_then, raise_then}
use Rattle.domain_table.specs.declared.board.Acting.{Acting}
use Rattle.domain_table.proofs.Privates.{private_set}
use Rattle.domain_table.proofs.Moves.{own_load, own_inside, stays, idles}
use Rattle.domain_table.proofs.Bounds.{raised}
use Rattle.sdd_homes.specs.Reasons.{Loads}
use Rattle.domain_table.specs.Items.{Grip}
use Rattle.domain_table.proofs.Stirred.{stirred_none, loads_on, grip_set, seated}
use Rattle.domain_table.proofs.Stirred as items
use Rattle.domain_table.proofs.Taken as taken
use Rattle.domain_table.proofs.LeftWords.{lefts_else}

pub has_last : {A : Type 0} (l : List A) (a : A) → Has (l ++ a ∷ []) a
has_last [] a = inl refl
has_last (x ∷ l) a = inr (has_last l a)

pub has_more : {A : Type 0} (l : List A) (a b : A) → Has l b → Has (l ++ a ∷ []) b
has_more [] a b h = absurd h
has_more (x ∷ l) a b h = ⊎_elim (λ (e : x ≡ b). inl e) (λ (t : Has l b). inr (has_more l a b t)) h

-- closed, or open with the present count
abbrev Agrees : ℕ → Participant → Type 0
Agrees count y = (e : ℕ) → y.phase ≡ Opened e → e ≡ count

agrees : (core : steps.State) (q w : ℕ) (y : Participant) → Inv core → At core.participants q y → w ≡ shown y.phase → core.count < 18446744073709551615
    → (w ≡ 0) ⊎ (w ≡ shown (Opened core.count)) → Agrees core.count y
agrees core q w y kept at is below found e opens_e = let g = (kept.1.2.guards q y at).inside e opens_e in let g1 = g.1 in let g2 = g.2 in let word : w ≡ shown (Opened e) = is ∙ ap shown opens_e in
    ⊎_elim (λ z. absurd (omega arith)) (λ z. omega arith) found

module _ (S : Type 0) (IsIn : Content → S → Type 0) (plan : Plan) where
  pub looks : (slots id : ℕ) (me : Me S Acting) (q e : ℕ) → me.0.kind ≡ 1 → me.0.known.phase ≡ Opened e → me.0.known.found ≡ e → me.0.scan ≡ 2 → q ≢ me.0.number → q < plan.sizes.participants → e < 18446744073709551615
      → Allows (Shows IsIn plan) slots id me (state_word q) (λ k. k) (look_then (step slots (state_word q) 0 0 mathlib.Core.Option.none) me)
  looks slots id me q e kind is found scan other small below s r _ at _ = let d = me.0 in let a = r.epochs.seats id d at kind in let x = d.known in let p = d.number in let i : ℕ = state_word q in let w : ℕ = get_or s.words i 0 in
      let present = a.present (omega arith) in let same : Opened e ≡ Opened r.state.count = sym is ∙ present in let now : e ≡ r.state.count = cc in let many = r.epochs.many in
      let y = find_at r.state.participants q (omega arith) in let word = r.epochs.states q y.0 y.1 in let d' : Acting = record d { known = looking q d.known } in
      let core = with_participant r.state p (record x { looked = x.looked ++ q ∷ [] }) in
      let noted : (w ≡ 0) ⊎ (w ≡ shown (Opened e)) → Shows IsIn plan record { words = set s.words i w; homes = s.homes; views = set s.views id d' } = λ ok.
      let agreed = agrees r.state q w y.0 r.kept y.1 word (omega arith) (subst (λ z. (w ≡ 0) ⊎ (w ≡ shown (Opened z))) now ok) in own_load S IsIn plan s r i id d d' (record {
        core = core;
        runs = taken.one r.state (Look p q) core (taken.looks r.state p x a.is e q y.0 is (sym found) other y.1 agreed);
        count = refl;
        changed = refl;
        inside = own_inside S IsIn plan s r id d at kind;
        again = λ n h. inr (h, a.begun n h);
        looks = λ q' y' n h has apart at_q is_q. ⊎_elim (λ t. r.bounded.looks p x q' y' n a.is h t at_q is_q)
            (λ (t : q ≡ q'). let one : y.0 ≡ y' = same_at r.state.participants q' y.0 y' (subst (λ m. At r.state.participants m y.0) t y.1) at_q in
            let n_is = agreed n (ap (λ (m : Participant). m.phase) one ∙ is_q) in let g = (r.bounded.inside q' y' n at_q is_q).0 in omega arith) (has_end x.looked q q' has);
        still = λ h. let bad : Opened e ≡ Idle = sym is ∙ h in absurd (cc);
        number = refl;
        scan = λ z. z;
        present = λ _. present;
      }) (record {
        cells = refl;
        stirred = stirred_none r.state.items;
        loads = inr (loads_on r.state core p x (record x { looked = x.looked ++ q ∷ [] }) a.is refl refl refl);
        same = refl;
        distinct = λ h. h;
        waits_mine = λ _ w all h. all w h;
        links_mine = λ _ _ w all h. all w h;
        waits_others = λ _ _ _ _ h. h;
        lefts = λ _ _ h. h;
        notes = λ _ _ h. h;
      }) at kind refl in
      dite (ℕ_discrete w 0)
      (λ zero_w. (d', keeps, tt, noted (inl zero_w), λ q' e' iq ie. let k : q ≡ q' = omega arith in ((λ _. ap (λ (z : ℕ). (record d { known = looking z d.known }, me.1)) k), λ n0 _. absurd (n0 zero_w))))
      (λ some_word. dite (ℕ_discrete w (shown (Opened e)))
      (λ hit. (
        d',
        keeps,
        tt,
        noted (inr hit),
        λ q' e' iq ie. let k : q ≡ q' = omega arith in let ke : Opened e ≡ Opened e' = sym is ∙ ie in let ke' : e ≡ e' = cc in
            ((λ _. ap (λ (z : ℕ). (record d { known = looking z d.known }, me.1)) k), λ _ n1. absurd (n1 (hit ∙ ap (λ z. shown (Opened z)) ke'))),
      ))
      (λ miss. (
        d,
        keeps,
        tt,
        idles S IsIn plan s r i id d at,
        λ q' e' iq ie. let ke : Opened e ≡ Opened e' = sym is ∙ ie in let ke' : e ≡ e' = cc in
            ((λ o. absurd (⊎_elim some_word (λ h. miss (h ∙ ap (λ z. shown (Opened z)) (sym ke'))) o)), λ _ _. refl),
      )))

  pub agrees_with : (slots id : ℕ) (me : Me S Acting) (e : ℕ) → me.0.kind ≡ 1 → me.0.known.phase ≡ Opened e → me.0.scan ≡ 1
      → Allows (Shows IsIn plan) slots id me count_word (λ k. k) (agree_then (step slots count_word 0 0 mathlib.Core.Option.none) me)
  agrees_with slots id me e kind is scan s r _ at _ = let d = me.0 in let k : ℕ = get_or s.words 0 0 in dite (ℕ_discrete k e)
      (λ hit. (
        record d { scan = 2 },
        keeps,
        tt,
        stays S IsIn plan s r 0 id 2 d at kind (λ _. omega arith) (λ _. is ∙ ap Opened (sym hit ∙ r.epochs.count_is)),
        λ e' ie. let ke : Opened e ≡ Opened e' = sym is ∙ ie in let same : e ≡ e' = cc in ((λ _. refl), λ miss. absurd (miss (hit ∙ same))),
      ))
      (λ miss. (d, keeps, tt, idles S IsIn plan s r 0 id d at, λ e' ie. let ke : Opened e ≡ Opened e' = sym is ∙ ie in let same : e ≡ e' = cc in ((λ h. absurd (miss (h ∙ sym same))), λ _. refl)))

  pub raises : (slots id : ℕ) (me : Me S Acting) (e : ℕ) → me.0.kind ≡ 1 → me.0.known.phase ≡ Opened e → me.0.known.found ≡ e → me.0.scan ≡ 2
      → ((q : ℕ) → q < plan.sizes.participants → q ≢ me.0.number → Has me.0.known.looked q) → e < 18446744073709551615
      → Allows (Shows IsIn plan) slots id me count_word (λ _. e + 1) (λ _. raise_then (step slots count_word (e + 1) 0 mathlib.Core.Option.none) me (e + 1))
  raises slots id me e kind is found scan all below s r _ at _ = let d = me.0 in let o = r.epochs in let a = o.seats id d at kind in let x = d.known in let p = d.number in let v : ℕ = e + 1 in let d' : Acting = record d { scan = 1 } in
      let present = a.present (omega arith) in let same : Opened e ≡ Opened r.state.count = sym is ∙ present in let now : e ≡ r.state.count = cc in let many = o.many in let wide = o.wide in let lock = a.locked (omega arith) in
      let core : steps.State = record r.state { count = r.state.count + 1 } in let every : (q : ℕ) → q < length r.state.participants → q ≢ p → Has x.looked q = (λ q l z. all q (omega arith) z) in let runs = taken.one r.state (Raise p) core (taken.raises r.state p x a.is present (sym now ∙ sym found) every (omega arith)) in let w1 = get_or-set_other s.words 0 8 v 0 (λ e. omega arith) in (
        d',
        keeps,
        tt,
        record {
          state = core;
          run = taken.goes_on (beginning plan) r.state core r.run runs;
          kept = taken.run_keeps r.state core runs r.kept;
          book = r.book;
          items = let c = r.items.seats id d at kind in items.stays r.items core (set s.words 0 v) (set s.views id d') refl (stirred_none r.state.items)
              (λ q l _ y. ⊎_elim (λ (t : Loads r.state q l.item). inl t) (λ (g : Grip s.views q l.item). inr (grip_set s.views id d d' at (λ _ _ h. h) q l.item g)) y)
              (record { long = length-set s.words 0 v; high = λ i le. get_or-set_other s.words 0 i v 0 (λ e. omega arith); freed = λ q _ _. inl (get_or-set_other s.words 0 (claim_word q) v 0 (λ e. omega arith)) })
              (seated r.items id d d' at refl (λ _. record { sizes_are = c.sizes_are; leases = c.leases; spare = c.spare; fills = c.fills; distinct = c.distinct; left = c.left })) (items.waits_stay r.items id d' (λ w _ has. r.items.waiting id d w at kind has)) r.items.leftovers (private_set r.items.private (λ _ h. h) id d d' at refl)
              (items.links_set r.items (set s.words 0 v) r.book.left id d' (λ i le. get_or-set_other s.words 0 i v 0 (λ e. omega arith)) (λ w _ has. r.items.links.waits id d w at kind has) (λ w has. r.items.links.notes id d w at has) r.items.links.lefts);
          born = r.born;
          lefts = lefts_else r.lefts 0 v (λ q _ e. omega arith);
          bounded = raised r.state.participants r.state.count r.born r.bounded p x a.is present every;
          epochs = record {
            seat_of = o.seat_of;
            scanner = o.scanner;
            wide = subst (λ n. 8 * plan.sizes.participants + 16 ≤ n) (sym (length-set s.words 0 v)) wide;
            many = many;
            count_is = get_or-set_same s.words 0 v 0 (omega arith) ∙ (ap (λ z. z + 1) now);
            states = λ q y at_q. get_or-set_other s.words 0 (state_word q) v 0 (λ e. omega arith) ∙ o.states q y at_q;
            free = λ q y at_q some_. o.free q y at_q (λ z. some_ (get_or-set_other s.words 0 (claim_word q) v 0 (λ e. omega arith) ∙ z));
            seats = λ j z at_j k. set_all (λ j' z'. z'.kind ≡ 1 → Acts core.participants core.count r.born (set s.words 0 v) o.seat_of o.scanner j' z') s.views id d'
                (λ _. record { is = a.is; seated = a.seated; claimed = get_or-set_other s.words 0 (claim_word p) v 0 (λ e. omega arith) ∙ a.claimed; locked = λ _. (w1 ∙ lock.0, lock.1); present = λ more. absurd (omega arith); begun = a.begun; still = a.still })
                (λ j' z' apart here kind'. let b = o.seats j' z' here kind' in record {
                  is = b.is;
                  seated = b.seated;
                  claimed = get_or-set_other s.words 0 (claim_word z'.number) v 0 (λ e. omega arith) ∙ b.claimed;
                  locked = λ more. let l = b.locked more in (w1 ∙ l.0, l.1);
                  present = λ more. absurd (apart (sym (b.locked (omega arith)).1 ∙ lock.1));
                  begun = b.begun;
                  still = b.still;
                }) j z at_j k;
          };
        },
        refl,
      )
