-- what a participant retired three rotations ago, or has in a private bag since three raises, is reclaimed: nobody reads it, so its deed comes out, and all its parts are at home
use Rattle.std.proofs.Common.{◌≡◌, ◌≢◌, ◌&&◌, ◌==◌, not, cond, true, ℕ, suc, ◌+◌, ◌*◌, ◌<◌, List, [], ◌∷◌, ◌++◌, map, Some, None, get_or, set, sym, refl, ap, ◌∙◌, subst, ⊎_elim, inl, inr, arith, eq-eqb}
use mathlib.Core.Logic.{dite}
use mathlib.Core.Option as maybe
use mathlib.Core.Option.{some, none}
use native.Mathlib.Decide.{ℕ_discrete}
use lib.ListN.{get_elem?, length-map}
use lib.Seq.{set-get_or}
use Rattle.atomic_table.specs.Table.{State, Me, step, takes, Allows}
use Rattle.sdd_plain.specs.declared.sizes.Sizes.{Sizes}
use Rattle.sdd_steps.specs.declared.item.Item.{Item}
use Rattle.sdd_steps.specs.declared.participant.Participant.{Participant}
use Rattle.sdd_steps.specs.declared.item.Cell.{Cell}
use Rattle.sdd_steps.specs.declared.item.ItemState.{ItemState}
use Rattle.sdd_steps.specs.declared.item.ItemState.TheVariants.{Due, Retired, Collected, Waiting, Reclaimed, Live}
use Rattle.sdd_steps.specs.declared.step.Step.TheVariants.{Reclaim}
use Rattle.sdd_steps.specs.State as steps
use Rattle.sdd_steps.specs.State.{At, Has, times, participant_at, item_is, participant_is}
use Rattle.sdd_steps.specs.Steps.{is_ready, is_inside, is_past, is_reclaimable, is_held_by, is_full, let_go}
use Rattle.sdd_steps.specs.Invariant.{Inv, names_of}
use Rattle.sdd_steps.proofs.CountLemmas.{names_kept, held_some, times_has, times_none}
use Rattle.sdd_steps.proofs.Enabling.{participant_read, participant_passes, item_passes, item_read}
use Rattle.sdd_steps.proofs.ListLemmas.{put, put_here, put_else, set_all, set_here, set_else, at_mapped, same_at, has_map}
use Rattle.sdd_homes.specs.declared.Lease.{Lease}
use Rattle.sdd_homes.specs.declared.Owner.{Owner}
use Rattle.sdd_homes.specs.declared.Filling.{Filling}
use Rattle.sdd_homes.specs.declared.Garbage.{Garbage}
use Rattle.sdd_homes.specs.Book.{Content, away, deed, Stage, vacant, partly, full, home, Book}
use Rattle.sdd_homes.specs.Hands.{owned}
use Rattle.sdd_homes.specs.Parts.{Parts}
use Rattle.sdd_homes.specs.Reasons.{Loads, Why, Grips}
use Rattle.sdd_homes.specs.Spares.{Spares}
use Rattle.sdd_homes.proofs.Totals.{home_in}
use Rattle.sdd_homes.proofs.HandLemmas.{owned_set, owned_some, mine_some, times_both, has_both, has_behind}
use Rattle.sdd_homes.proofs.LyingLemmas.{takes_low}
use Rattle.sdd_homes.proofs.SpareLemmas.{Was, stays_kept}
use Rattle.sdd_homes.proofs.ReclaimLemmas.{reclaimed_free}
use Rattle.sdd_homes.proofs.PartLemmas as parts
use Rattle.sdd_homes.proofs.Fillings as fillings
use Rattle.domain_table.specs.Layout.{slot_word}
use Rattle.domain_table.specs.Items.{owners_in_hand, Grip, Owns, HasState, IsWaiting, IsLeftover, Private, Distinct, Carries, Items, IsGiven}
use Rattle.domain_table.specs.Rule.{Runs, Shows}
use Rattle.domain_table.specs.Plays.{deed_home, reclaiming, opens_then, reclaiming_noted, opens_noted_then}
use Rattle.domain_table.specs.declared.board.Acting.{Acting}
use Rattle.domain_table.specs.declared.board.Plan.{Plan}
use Rattle.domain_table.proofs.Taken as taken
use Rattle.domain_table.proofs.Taken.{and_true}
use Rattle.domain_table.proofs.Looks.{has_last, has_more}
use Rattle.domain_table.proofs.Moves.{items_change, reads_only}
use Rattle.domain_table.proofs.Stirred.{still_left, grip_set, links_at}
use Rattle.domain_table.proofs.Privates.{private_new}
use Rattle.domain_table.proofs.GiveUps.{given_up, given_here, given_else, given_back, gives_up}

-- the last one is of no other's item, and the others are of different ones
pub init_distinct : (ws : List Garbage) (w : Garbage) → Distinct (ws ++ w ∷ []) → ((v : Garbage) → Has ws v → v.item ≢ w.item) × Distinct ws
init_distinct [] w h = ((λ v has. absurd has), tt)
init_distinct (x ∷ ws) w h = let t = init_distinct ws w h.1 in (
  (λ v has. ⊎_elim (λ (e : x ≡ v). λ same. h.0 w (has_last ws w) (sym same ∙ ap (λ (z : Garbage). z.item) (sym e))) (λ (k : Has ws v). t.0 v k) has),
  ((λ v has. h.0 v (has_more ws w v has)), t.1),
)

pub snoc_same : {A : Type 0} (xs ys : List A) (a b : A) → xs ++ a ∷ [] ≡ ys ++ b ∷ [] → (xs ≡ ys) × (a ≡ b)
snoc_same [] [] a b e = let same : a ≡ b = cc in (refl, same)
snoc_same [] (y ∷ []) a b e = absurd (cc)
snoc_same [] (y ∷ z ∷ ys) a b e = absurd (cc)
snoc_same (x ∷ []) [] a b e = absurd (cc)
snoc_same (x ∷ z ∷ xs) [] a b e = absurd (cc)
snoc_same (x ∷ xs) (y ∷ ys) a b e = let tails : xs ++ a ∷ [] ≡ ys ++ b ∷ [] = cc in let heads : x ≡ y = cc in let t = snoc_same xs ys a b tails in ((λ j. heads j ∷ t.0 j), t.1)

-- what may be reclaimed isn't yet, and isn't what an ended participant left
not_yet : (p q : ℕ) (x : Participant) (st : ItemState) → is_reclaimable p x st ≡ true → st ≢ Reclaimed q
not_yet p q x Live may e = absurd (cc)
not_yet p q x (Due r) may e = absurd (cc)
not_yet p q x (Retired r a) may e = absurd (cc)
not_yet p q x (Collected n) may e = absurd (cc)
not_yet p q x Waiting may e = absurd (cc)
not_yet p q x (Reclaimed r) may e = absurd (cc)

not_left : (p : ℕ) (x : Participant) (st : ItemState) → is_reclaimable p x st ≡ true → st ≢ Waiting
not_left p x Live may e = absurd (cc)
not_left p x (Due r) may e = absurd (cc)
not_left p x (Retired r a) may e = absurd (cc)
not_left p x (Collected n) may e = absurd (cc)
not_left p x Waiting may e = absurd (cc)
not_left p x (Reclaimed r) may e = absurd (cc)

module _ (S : Type 0) (IsIn : Content → S → Type 0) (plan : Plan) where
  abbrev n : ℕ
  n = plan.sizes.participants

  -- the item w is in a bag of the view, as this state of it tells, and in no other one; it leaves that bag
  pub record Takes (s : State S Acting) (r : Shows IsIn plan s) (id : ℕ) (d : Acting) (w : Garbage) (st : ItemState) (waits' collected' : List Garbage) : Type 0 where
    pub is : HasState r.state.items r.book.slot_of st w
    pub may : is_reclaimable d.number d.known st ≡ true
    pub waits : (v : Garbage) → Has waits' v → Has d.waits v × (v.item ≢ w.item)
    pub distinct : Distinct waits'
    pub others : (j : ℕ) (e : Acting) (v : Garbage) → j ≢ id → At s.views j e → e.kind ≡ 1 → Has e.waits v → v.item ≢ w.item
    pub collected : (v : Garbage) → Has collected' v → Has d.collected v × (v.item ≢ w.item)
    pub once : Distinct collected'
    pub apart : (j : ℕ) (e : Acting) (v : Garbage) → j ≢ id → At s.views j e → Has e.collected v → v.item ≢ w.item

  module _ (s : State S Acting) (r : Shows IsIn plan s) (id : ℕ) (d : Acting) (w : Garbage) (st : ItemState) (waits' collected' : List Garbage) (at : get_elem? s.views id ≡ some d) (kind : d.kind ≡ 1) (ready : is_ready d.known ≡ true) (t : Takes s r id d w st waits' collected') where
    abbrev p : ℕ
    p = d.number

    abbrev i : ℕ
    i = w.item

    abbrev k : ℕ
    k = w.slot

    abbrev it : Item
    it = t.is.0

    there : (q : ℕ) → it.state ≢ Reclaimed q
    there q e = not_yet p q d.known st t.may (sym t.is.2 ∙ e)

    -- what it holds is given up in the same step
    abbrev ks : List ℕ
    ks = it.holds

    abbrev hs : List Owner
    hs = r.book.held k

    abbrev it1 : Item
    it1 = record it { state = Reclaimed p }

    abbrev it' : Item
    it' = record it { state = Reclaimed p; holds = [] }

    abbrev core1 : steps.State
    core1 = record r.state { items = set r.state.items i it1; cells = map (let_go i) r.state.cells }

    abbrev core : steps.State
    core = record core1 { items = given_up i ks core1.items }

    pub stand : (k < plan.sizes.slots) × (r.book.stage k ≡ full i)
    stand = subst (λ z. (z < plan.sizes.slots) × (r.book.stage z ≡ full i)) t.is.4 (r.items.standing i it t.is.1 there)

    here1 : At core1.items i it1
    here1 = set_here r.state.items i it1 it t.is.1

    runs1 : Runs r.state core1
    runs1 = let a = r.epochs.seats id d at kind in taken.one r.state (Reclaim p i) core1 (
      and_true (participant_is is_ready r.state p) (item_is (λ z. is_reclaimable p (participant_at r.state p) z.state) r.state i) (participant_passes is_ready r.state p d.known a.is ready)
          (item_passes (λ z. is_reclaimable p (participant_at r.state p) z.state) r.state i it t.is.1
          (ap (is_reclaimable p (participant_at r.state p)) t.is.2 ∙ (ap (λ x. is_reclaimable p x st) (participant_read r.state p d.known a.is) ∙ t.may))),
      λ j. record r.state { items = set r.state.items i (record (sym (item_read r.state i it t.is.1) j) { state = Reclaimed p }); cells = map (let_go i) r.state.cells },
    )

    -- it has no owner, so it doesn't hold itself
    others : (j : ℕ) → Has ks j → j ≢ i
    others j h e = let k1 = taken.run_keeps r.state core1 runs1 r.kept in let o = k1.0.owned i it1 here1 in let some_ = held_some i core1.items i it1 here1 in let mine = times_has i ks (subst (Has ks) e h) in let c = o.counted in
        let alive = o.is_live (omega arith) in let bad : Live ≡ Reclaimed p = sym alive in absurd (cc)

    here : At core.items i it'
    here = given_here i ks core1.items it1 here1 refl others

    runs : Runs r.state core
    runs = let a = r.epochs.seats id d at kind in taken.goes_on r.state core1 core runs1 (gives_up i ks core1 p d.known it1 a.is ready here1 refl refl others)

    kept : Inv core
    kept = taken.run_keeps r.state core runs r.kept

    -- the owners that it held
    given : IsGiven r.state.items r.book.slot_of hs it
    given = subst (λ z. IsGiven r.state.items r.book.slot_of (r.book.held z) it) t.is.4 (r.items.given i it t.is.1 there)

    names_same : names_of core.cells ≡ names_of r.state.cells
    names_same = names_kept (let_go i) r.state.cells (λ o. refl)

    abbrev f : Filling
    f = record { by = p; filled = n; round = w.round; left = 0; out = n }

    abbrev d' : Acting
    d' = record d { hand = hs ++ d.hand; slot = k; filling = Some f; waits = waits'; collected = collected' }

    abbrev views' : List Acting
    views' = set s.views id d'

    abbrev stage' : ℕ → Stage
    stage' = put r.book.stage k (partly f)

    abbrev what' : ℕ → Content
    what' = put r.book.what (home plan.sizes.slots k n) away

    abbrev book' : Book
    book' = record r.book { stage = stage'; share = put r.book.share k (r.book.share k); what = what' }

    abbrev homes' : List (maybe.Option S)
    homes' = set s.homes (home plan.sizes.slots k n) none

    -- what an item was before
    was_there : (j : ℕ) (z : Item) → At core.items j z → (y : Item) × At r.state.items j y × (z.value ≡ y.value) × (z.hand ≡ y.hand + times j ks) × (z.owners ≡ y.owners) × ((j ≢ i) → z ≡ record y { hand = y.hand + times j ks })
    was_there j z at_j = dite (ℕ_discrete j i)
        (λ e. let one : z ≡ it' = same_at core.items i z it' (subst (λ m. At core.items m z) e at_j) here in let none_ = times_none j ks (λ h. others j h e) in let hand = ap (λ (y : Item). y.hand) one in
        (it, subst (λ m. At r.state.items m it) (sym e) t.is.1, ap (λ (y : Item). y.value) one, omega arith, ap (λ (y : Item). y.owners) one, λ ne. absurd (ne e)))
        (λ ne. let b = given_back i ks core1.items j z at_j ne others in let before = sym (set_else r.state.items i j it1 ne) ∙ b.1 in
        (b.0, before, ap (λ (y : Item). y.value) b.2, ap (λ (y : Item). y.hand) b.2, ap (λ (y : Item). y.owners) b.2, λ _. b.2))

    is_there : (j : ℕ) (y : Item) → At r.state.items j y → (z : Item) × At core.items j z × (z.value ≡ y.value) × (z.owners ≡ y.owners)
    is_there j y at_j = dite (ℕ_discrete j i)
        (λ e. let same : y ≡ it = same_at r.state.items i y it (subst (λ m. At r.state.items m y) e at_j) t.is.1 in (it', subst (λ m. At core.items m it') (sym e) here, ap (λ (z : Item). z.value) (sym same), ap (λ (z : Item). z.owners) (sym same)))
        (λ ne. (record y { hand = y.hand + times j ks }, given_else i ks core1.items j y (set_else r.state.items i j it1 ne ∙ at_j) ne others, refl, refl))

    reasons : (q : ℕ) (l : Lease) → Has (r.book.out q) l → Why r.state (Grip s.views) q l.item → Why core (Grip views') q l.item
    reasons q l _ = ⊎_elim (λ (t : Loads r.state q l.item). inl t) (λ (g : Grip s.views q l.item). inr (grip_set s.views id d d' at (λ _ j h. (h.0, h.1, h.2, has_behind hs d.hand j h.3)) q l.item g))

    hands_now : (j : ℕ) (z : Item) → At core.items j z → z.hand ≡ owned owners_in_hand j views'
    hands_now j z at_j = let y = was_there j z at_j in let g = owned_set owners_in_hand j s.views id d d' at in let h = r.items.hands j y.0 y.1 in let same = y.3 in let both = times_both j hs d.hand in let held = ap (times j) given.0 in omega arith

    owns_on : (o : Owner) → Owns r.state.items r.book.slot_of o → Owns core.items r.book.slot_of o
    owns_on o h = let z = is_there o.item h.0 h.1 in (z.0, z.1, z.2 ∙ h.2, h.3)

    owners_now : (j : ℕ) (e : Acting) (o : Owner) → At views' j e → Has e.hand o → Owns core.items r.book.slot_of o
    owners_now j e o at_j = set_all (λ _ e'. Has e'.hand o → Owns core.items r.book.slot_of o) s.views id d' (λ h. owns_on o (⊎_elim (λ (t : Has hs o). given.1 o t) (λ (t : Has d.hand o). r.items.owners id d o at t) (has_both hs d.hand o h))) (λ j' e' _ e_at h. owns_on o (r.items.owners j' e' o e_at h)) j e at_j

    grips : Grips core (Grip views')
    grips q j g = let o = has_map (λ (z : Owner). z.item) g.1.hand j g.3.3 in let own = owners_now g.0 g.1 o.0 g.2 o.1 in let at_j = subst (λ m. At core.items m own.0) o.2 own.1 in
        let h = hands_now j own.0 at_j in let some_ = owned_some owners_in_hand j views' g.0 g.1 g.2 in let mine = mine_some owners_in_hand j g.1 o.0 o.1 o.2 in (own.0, at_j, omega arith)

    free : (it'.owners ≡ 0) × ((q : ℕ) → ¬ Why core (Grip views') q i)
    free = reclaimed_free core (Grip views') kept grips i p it' here refl

    opened : (r.book.what (home plan.sizes.slots k n) ≡ deed it.value hs) × Parts n plan.sizes.slots core.items (Why core (Grip views')) book'
    opened = let g = fillings.opens (parts.stays r.items.parts core.items (Why core (Grip views')) is_there reasons) k i p it' stand.0 stand.1 here free.0 free.1 in
        (g.0, subst (λ z. Parts n plan.sizes.slots core.items (Why core (Grip views')) (record r.book { stage = put r.book.stage k (partly (record { by = p; filled = n; round = z; left = 0; out = n })); share = put r.book.share k (r.book.share k); what = what' })) t.is.3 g.1)

    low : home plan.sizes.slots k n < plan.sizes.slots * suc n
    low = home_in n plan.sizes.slots k n stand.0 (omega arith)

    pub found : (u : S) × (get_elem? s.homes (home plan.sizes.slots k n) ≡ some (some u)) × IsIn (deed w.round hs) u
    found = let g = r.items.lying.low (home plan.sizes.slots k n) low (λ e. let bad : deed it.value hs ≡ away = sym opened.0 ∙ e in absurd (cc)) in (g.0, g.1, subst (λ z. IsIn z g.0) (opened.0 ∙ ap (λ v. deed v hs) t.is.3) g.2)

    spares_now : Spares plan.sizes.cells n (names_of core.cells) core.items book'
    spares_now = let was : (j c : ℕ) → At (names_of r.state.cells) c (Some j) → Was r.state.items core.items j = (λ j c _ z at_j. let y = was_there j z at_j in (y.0, y.1, y.2)) in let y = stays_kept r.items.spares core.items was in
        subst (λ ns. Spares plan.sizes.cells n ns core.items book') (sym names_same) (record { users = y.users; range = y.range; kept = y.kept })

    stage_else : (m : ℕ) → m ≢ k → stage' m ≡ r.book.stage m
    stage_else m ne = put_else r.book.stage k (partly f) m ne

    -- another item is in another slot
    apart : (j : ℕ) → j ≢ i → r.book.stage (r.book.slot_of j) ≡ full j → r.book.slot_of j ≢ k
    apart j ne is e = let both : full j ≡ full i = sym is ∙ (ap r.book.stage e ∙ stand.1) in let same : j ≡ i = cc in ne same

    stands : (j : ℕ) (z : Item) → At core.items j z → ((q : ℕ) → z.state ≢ Reclaimed q) → (r.book.slot_of j < plan.sizes.slots) × (stage' (r.book.slot_of j) ≡ full j)
    stands j z at_j alive = dite (ℕ_discrete j i)
        (λ e. let one : z ≡ it' = same_at core.items i z it' (subst (λ m. At core.items m z) e at_j) here in absurd (alive p (ap (λ (y : Item). y.state) one)))
        (λ ne. let y = was_there j z at_j in let t = r.items.standing j y.0 y.1 (λ q e. alive q (ap (λ (x : Item). x.state) (y.5 ne) ∙ e)) in (t.0, stage_else (r.book.slot_of j) (apart j ne t.1) ∙ t.1))

    settles : (j : ℕ) (z : Item) (q : ℕ) → At core.items j z → z.state ≢ Due q
    settles j z q at_j e = dite (ℕ_discrete j i)
        (λ h. let one : z ≡ it' = same_at core.items i z it' (subst (λ m. At core.items m z) h at_j) here in let bad : Reclaimed p ≡ Due q = sym (ap (λ (y : Item). y.state) one) ∙ e in absurd (cc))
        (λ ne. let y = was_there j z at_j in r.items.settled j y.0 q y.1 (sym (ap (λ (x : Item). x.state) (y.5 ne)) ∙ e))

    given_now : (j : ℕ) (z : Item) → At core.items j z → ((q : ℕ) → z.state ≢ Reclaimed q) → IsGiven core.items r.book.slot_of (r.book.held (r.book.slot_of j)) z
    given_now j z at_j alive = dite (ℕ_discrete j i)
        (λ e. let one : z ≡ it' = same_at core.items i z it' (subst (λ m. At core.items m z) e at_j) here in absurd (alive p (ap (λ (y : Item). y.state) one)))
        (λ ne. let y = was_there j z at_j in let g = r.items.given j y.0 y.1 (λ q e. alive q (ap (λ (x : Item). x.state) (y.5 ne) ∙ e)) in (g.0 ∙ sym (ap (λ (x : Item). x.holds) (y.5 ne)), λ o h. owns_on o (g.1 o h)))

    slots_now : (m j : ℕ) (z : Item) → m < plan.sizes.slots → stage' m ≡ full j → At core.items j z → get_or s.words (slot_word plan.sizes m) 0 ≡ 2 + z.owners
    slots_now m j z lm is_m at_j = let y = was_there j z at_j in let ne : m ≢ k = (λ e. let bad : partly f ≡ full j = sym (ap stage' e ∙ put_here r.book.stage k (partly f)) ∙ is_m in absurd (cc)) in r.items.slot_words m j y.0 lm (sym (stage_else m ne) ∙ is_m) y.1 ∙ ap (λ q. 2 + q) (sym y.4)

    vacancies_now : (m : ℕ) → m < plan.sizes.slots → get_or s.words (slot_word plan.sizes m) 0 ≡ 0 → stage' m ≡ vacant
    vacancies_now m lm none_ = let is = r.items.vacancies m lm none_ in stage_else m (λ e. let bad : full i ≡ vacant = sym stand.1 ∙ (ap r.book.stage (sym e) ∙ is) in absurd (cc)) ∙ is

    alone_now : (c : ℕ) (o : Cell) → At core.cells c o → o.holder ≡ None
    alone_now c o at_c = let z = at_mapped (let_go i) r.state.cells c o at_c in ap (λ (y : Cell). y.holder) (sym z.2) ∙ ap (λ h. cond (is_held_by i h && not (is_full z.0)) None h) (r.items.alone c z.0 z.1)

    waits_else : (st : ItemState) (v : Garbage) → v.item ≢ i → HasState r.state.items r.book.slot_of st v → HasState core.items r.book.slot_of st v
    waits_else st v ne h = (record h.0 { hand = h.0.hand + times v.item ks }, given_else i ks core1.items v.item h.0 (set_else r.state.items i v.item it1 ne ∙ h.1) ne others, h.2, h.3, h.4)

    waits_now : (j : ℕ) (e : Acting) (v : Garbage) → At views' j e → e.kind ≡ 1 → Has e.waits v → IsWaiting core.items r.book.slot_of e.number v
    waits_now j e v at_j = set_all (λ _ e'. e'.kind ≡ 1 → Has e'.waits v → IsWaiting core.items r.book.slot_of e'.number v) s.views id d'
        (λ _ has. let o = t.waits v has in waits_else (Retired p v.age) v o.1 (r.items.waiting id d v at kind o.0))
        (λ j' e' other here_e kind_e has. waits_else (Retired e'.number v.age) v (t.others j' e' v other here_e kind_e has) (r.items.waiting j' e' v here_e kind_e has)) j e at_j

    private_now : Private core.items r.book.slot_of views'
    private_now = private_new r.items.private id d' (λ v has. let o = t.collected v has in waits_else (Collected v.age) v o.1 (r.items.private.noted id d v at o.0)) t.once
        (λ j e v other here_e has. waits_else (Collected v.age) v (t.apart j e v other here_e has) (r.items.private.noted j e v here_e has))
        (λ j e v u other here_e has_v has_u same. other (r.items.private.apart j id e d u v here_e at has_u (t.collected v has_v).0 (sym same)))

    -- what was left is another item
    left_apart : (v : Garbage) → IsLeftover r.state.items r.book.slot_of v → v.item ≢ i
    left_apart v h e = let one : h.0 ≡ it = same_at r.state.items i h.0 it (subst (λ m. At r.state.items m h.0) e h.1) t.is.1 in not_left p d.known st t.may (sym t.is.2 ∙ (ap (λ (z : Item). z.state) (sym one) ∙ h.2))

    seats_now : (j : ℕ) (e : Acting) → At views' j e → e.kind ≡ 1 → Carries plan.sizes book' e
    seats_now = set_all (λ _ e. e.kind ≡ 1 → Carries plan.sizes book' e) s.views id d'
        (λ _. let b = r.items.seats id d at kind in record { sizes_are = b.sizes_are; leases = b.leases; spare = b.spare; fills = λ g e. let same : f ≡ g = cc in (stand.0, ap (λ (z : Filling). z.by) (sym same), put_here r.book.stage k (partly f) ∙ ap partly same); distinct = t.distinct; left = b.left })
        (λ j e other e_at e_kind. let b = r.items.seats j e e_at e_kind in record {
          sizes_are = b.sizes_are;
          leases = b.leases;
          spare = b.spare;
          fills = λ g h. let y = b.fills g h in (y.0, y.1, stage_else e.slot (λ same. let bad : full i ≡ partly g = sym stand.1 ∙ (ap r.book.stage (sym same) ∙ y.2) in absurd (cc)) ∙ y.2);
          distinct = b.distinct;
          left = b.left;
        })

    items_now : Items IsIn plan.sizes core book' s.words homes' views'
    items_now = record {
      parts = opened.1;
      spares = spares_now;
      lying = takes_low r.items.lying (home plan.sizes.slots k n) low;
      standing = stands;
      settled = settles;
      many = length-map r.state.cells (let_go i) ∙ r.items.many;
      long = r.items.long;
      cell_words = λ c o at_c. r.items.cell_words c o (subst (λ ns. At ns c o) names_same at_c);
      slot_words = slots_now;
      vacancies = vacancies_now;
      alone = alone_now;
      free = r.items.free;
      hands = hands_now;
      owners = owners_now;
      given = given_now;
      waiting = waits_now;
      leftovers = still_left r.items.leftovers (λ v h. waits_else Waiting v (left_apart v h) h);
      private = private_now;
      links = links_at r.items s.words r.book.left id d' (λ _. refl) (λ v _ h. r.items.links.waits id d v at kind (t.waits v h).0) (λ v h. r.items.links.notes id d v at (t.collected v h).0) r.items.links.lefts;
      seats = seats_now;
    }

    pub shown_open : (m : ℕ) → Shows IsIn plan record { words = set s.words m (get_or s.words m 0); homes = homes'; views = views' }
    shown_open m = subst (λ xs. Shows IsIn plan record { words = xs; homes = homes'; views = views' }) (sym (set-get_or s.words m 0))
        (items_change S IsIn plan s r id d d' core s.words homes' book' at kind refl refl refl refl runs refl refl (reads_only S IsIn plan s r id d d' at kind refl) r.lefts items_now)

  -- an item in another state is another item
  unlike : (s : State S Acting) (r : Shows IsIn plan s) (w v : Garbage) (st st' : ItemState) → HasState r.state.items r.book.slot_of st w → HasState r.state.items r.book.slot_of st' v → st' ≢ st → v.item ≢ w.item
  unlike s r w v st st' h k ne e = let one : k.0 ≡ h.0 = same_at r.state.items w.item k.0 h.0 (subst (λ m. At r.state.items m k.0) e k.1) h.1 in ne (sym k.2 ∙ (ap (λ (z : Item). z.state) one ∙ h.2))

  -- the last one of the participant's own bags
  takes_last : (s : State S Acting) (r : Shows IsIn plan s) (id : ℕ) (d : Acting) (w : Garbage) (ws : List Garbage) → get_elem? s.views id ≡ some d → d.kind ≡ 1 → d.waits ≡ ws ++ w ∷ [] → w.age ≡ 3 → Takes s r id d w (Retired d.number w.age) ws d.collected
  takes_last s r id d w ws at kind last old = let is = r.items.waiting id d w at kind (subst (λ (z : List Garbage). Has z w) (sym last) (has_last ws w)) in let once = init_distinct ws w (subst Distinct last (r.items.seats id d at kind).distinct) in record {
    is = is;
    may = and_true (d.number == d.number) (w.age == 3) (eq-eqb d.number d.number refl) (eq-eqb w.age 3 old);
    waits = λ v has. (subst (λ (z : List Garbage). Has z v) (sym last) (has_more ws w v has), once.0 v has);
    distinct = once.1;
    others = λ j e v other here kind_e has. unlike s r w v (Retired d.number w.age) (Retired e.number v.age) is (r.items.waiting j e v here kind_e has)
        (λ states. let numbers : e.number ≡ d.number = cc in other (sym (r.epochs.seats j e here kind_e).seated ∙ (ap r.epochs.seat_of numbers ∙ (r.epochs.seats id d at kind).seated)));
    collected = λ v has. (has, unlike s r w v (Retired d.number w.age) (Collected v.age) is (r.items.private.noted id d v at has) (λ e. absurd (cc)));
    once = r.items.private.once id d at;
    apart = λ j e v _ here has. unlike s r w v (Retired d.number w.age) (Collected v.age) is (r.items.private.noted j e v here has) (λ z. absurd (cc));
  }

  -- the last one of a private bag
  takes_noted : (s : State S Acting) (r : Shows IsIn plan s) (id : ℕ) (d : Acting) (w : Garbage) (ws : List Garbage) → get_elem? s.views id ≡ some d → d.kind ≡ 1 → d.collected ≡ ws ++ w ∷ [] → is_inside d.known ≡ true → is_past w.age d.known.reread ≡ true → Takes s r id d w (Collected w.age) d.waits ws
  takes_noted s r id d w ws at kind last inside past = let here = subst (λ (z : List Garbage). Has z w) (sym last) (has_last ws w) in let is = r.items.private.noted id d w at here in let once = init_distinct ws w (subst Distinct last (r.items.private.once id d at)) in record {
    is = is;
    may = and_true (is_inside d.known) (is_past w.age d.known.reread) inside past;
    waits = λ v has. (has, unlike s r w v (Collected w.age) (Retired d.number v.age) is (r.items.waiting id d v at kind has) (λ e. absurd (cc)));
    distinct = (r.items.seats id d at kind).distinct;
    others = λ j e v _ at_e kind_e has. unlike s r w v (Collected w.age) (Retired e.number v.age) is (r.items.waiting j e v at_e kind_e has) (λ z. absurd (cc));
    collected = λ v has. (subst (λ (z : List Garbage). Has z v) (sym last) (has_more ws w v has), once.0 v has);
    once = once.1;
    apart = λ j e v other at_e has same. other (r.items.private.apart j id e d v w at_e at has here same);
  }

  pub opens : (slots id i : ℕ) (me : Me S Acting) (w : Garbage) (ws : List Garbage) → me.0.kind ≡ 1 → is_ready me.0.known ≡ true → me.0.waits ≡ ws ++ w ∷ [] → w.age ≡ 3 → Allows (Shows IsIn plan) slots id me i (λ m. m) (opens_then IsIn (step slots i 0 0 none) me)
  opens slots id i me w ws kind ready waits old s r _ at _ = let d = me.0 in let b = r.items.seats id d at kind in let st = Retired d.number w.age in let t = takes_last s r id d w ws at kind waits old in let g = found s r id d w st ws d.collected at kind ready t in let d' = reclaiming w (r.book.held w.slot) ws d in (
    d',
    takes (deed_home d w.slot) g.0,
    ap (λ (z : Sizes). get_elem? s.homes (home z.slots w.slot z.participants)) b.sizes_are ∙ g.1,
    subst (λ (z : Sizes). Shows IsIn plan record { words = set s.words i (get_or s.words i 0); homes = set s.homes (home z.slots w.slot z.participants) none; views = set s.views id (record d { hand = r.book.held w.slot ++ d.hand; slot = w.slot; filling = Some (record { by = d.number; filled = z.participants; round = w.round; left = 0; out = z.participants }); waits = ws }) }) (sym b.sizes_are) (shown_open s r id d w st ws d.collected at kind ready t i),
    λ w' ws' waits'. let same = snoc_same ws ws' w w' (sym waits ∙ waits') in let inside = subst (λ (z : Sizes). w.slot < z.slots) (sym b.sizes_are) (stand s r id d w st ws d.collected at kind ready t).0 in (subst (λ (z : Garbage). z.slot < d.sizes.slots) same.1 inside, (r.book.held w.slot, g.0, subst (λ (z : Garbage). IsIn (deed z.round (r.book.held w.slot)) g.0) same.1 g.2, λ j. (reclaiming (same.1 j) (r.book.held w.slot) (same.0 j) d, (deed_home d (same.1 j).slot, g.0) ∷ me.1))),
  )

  pub opens_noted : (slots id i : ℕ) (me : Me S Acting) (w : Garbage) (ws : List Garbage) → me.0.kind ≡ 1 → is_ready me.0.known ≡ true → is_inside me.0.known ≡ true → me.0.collected ≡ ws ++ w ∷ [] → is_past w.age me.0.known.reread ≡ true → Allows (Shows IsIn plan) slots id me i (λ m. m) (opens_noted_then IsIn (step slots i 0 0 none) me)
  opens_noted slots id i me w ws kind ready inside last past s r _ at _ = let d = me.0 in let b = r.items.seats id d at kind in let st = Collected w.age in let t = takes_noted s r id d w ws at kind last inside past in let g = found s r id d w st d.waits ws at kind ready t in let d' = reclaiming_noted w (r.book.held w.slot) ws d in (
    d',
    takes (deed_home d w.slot) g.0,
    ap (λ (z : Sizes). get_elem? s.homes (home z.slots w.slot z.participants)) b.sizes_are ∙ g.1,
    subst (λ (z : Sizes). Shows IsIn plan record { words = set s.words i (get_or s.words i 0); homes = set s.homes (home z.slots w.slot z.participants) none; views = set s.views id (record d { hand = r.book.held w.slot ++ d.hand; slot = w.slot; filling = Some (record { by = d.number; filled = z.participants; round = w.round; left = 0; out = z.participants }); collected = ws }) }) (sym b.sizes_are) (shown_open s r id d w st d.waits ws at kind ready t i),
    λ w' ws' last'. let same = snoc_same ws ws' w w' (sym last ∙ last') in let low = subst (λ (z : Sizes). w.slot < z.slots) (sym b.sizes_are) (stand s r id d w st d.waits ws at kind ready t).0 in (subst (λ (z : Garbage). z.slot < d.sizes.slots) same.1 low, (r.book.held w.slot, g.0, subst (λ (z : Garbage). IsIn (deed z.round (r.book.held w.slot)) g.0) same.1 g.2, λ j. (reclaiming_noted (same.1 j) (r.book.held w.slot) (same.0 j) d, (deed_home d (same.1 j).slot, g.0) ∷ me.1))),
  )
