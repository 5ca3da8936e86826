-- a reclaimed item gives up all owners that it holds, one step for each
use Rattle.std.proofs.Common.{◌≡◌, ◌≢◌, ◌&&◌, ◌||◌, cond, true, ℕ, ◌+◌, List, [], ◌∷◌, length, get_or, set, sym, refl, ap, ◌∙◌, subst, inl, inr, arith, eq-eqb, ne_eqb, length-set}
use mathlib.Core.Logic.{dite}
use native.Mathlib.Decide.{ℕ_discrete}
use Rattle.sdd_steps.specs.declared.participant.Participant.{Participant}
use Rattle.sdd_steps.specs.declared.item.Item.{Item}
use Rattle.sdd_steps.specs.declared.item.ItemState.TheVariants.{Reclaimed}
use Rattle.sdd_steps.specs.declared.step.Step.TheVariants.{GiveUp}
use Rattle.sdd_steps.specs.State.{State, At, Has, times, one_if_same, has, without, no_item, participant_is, item_is}
use Rattle.sdd_steps.specs.Steps.{handed, is_ready, is_reclaimed}
use Rattle.sdd_steps.proofs.Enabling.{participant_passes, item_passes}
use Rattle.sdd_steps.proofs.ListLemmas.{get_at, set_here, set_else, at_inside, find_at, same_at}
use Rattle.domain_table.specs.Rule.{Runs}
use Rattle.domain_table.proofs.Taken as taken
use Rattle.domain_table.proofs.Taken.{and_true}

module _ (i : ℕ) where
  -- the item i has given up an owner of k
  abbrev pub gives : ℕ → List Item → List Item
  gives k items = let w = get_or items i no_item in let t = set items i (record w { holds = without k w.holds }) in set t k (handed (get_or t k no_item))

  abbrev pub given_up : List ℕ → List Item → List Item
  given_up [] items = items
  given_up (k ∷ ks) items = given_up ks (gives k items)

  abbrev Others : List ℕ → Type 0
  Others ks = (k : ℕ) → Has ks k → k ≢ i

  gives_here : (k : ℕ) (items : List Item) (w : Item) → At items i w → k ≢ i → At (gives k items) i (record w { holds = without k w.holds })
  gives_here k items w at ne = let w0 = get_or items i no_item in let t = set items i (record w0 { holds = without k w0.holds }) in let same : w0 ≡ w = get_at items i no_item w at in
      set_else t k i (handed (get_or t k no_item)) (λ e. ne (sym e)) ∙ subst (λ (z : Item). At t i (record z { holds = without k z.holds })) same (set_here items i (record w0 { holds = without k w0.holds }) w at)

  gives_at : (k : ℕ) (items : List Item) (y : Item) → At items k y → k ≢ i → At (gives k items) k (handed y)
  gives_at k items y at ne = let w0 = get_or items i no_item in let t = set items i (record w0 { holds = without k w0.holds }) in let here : At t k y = set_else items i k (record w0 { holds = without k w0.holds }) ne ∙ at in
      subst (λ (z : Item). At (set t k (handed (get_or t k no_item))) k (handed z)) (get_at t k no_item y here) (set_here t k (handed (get_or t k no_item)) y here)

  gives_else : (k : ℕ) (items : List Item) (j : ℕ) (y : Item) → At items j y → j ≢ i → j ≢ k → At (gives k items) j y
  gives_else k items j y at ni nk = let w0 = get_or items i no_item in let t = set items i (record w0 { holds = without k w0.holds }) in set_else t k j (handed (get_or t k no_item)) nk ∙ (set_else items i j (record w0 { holds = without k w0.holds }) ni ∙ at)

  gives_length : (k : ℕ) (items : List Item) → length (gives k items) ≡ length items
  gives_length k items = let w0 = get_or items i no_item in let t = set items i (record w0 { holds = without k w0.holds }) in length-set t k (handed (get_or t k no_item)) ∙ length-set items i (record w0 { holds = without k w0.holds })

  first_gone : (k : ℕ) (ks hs : List ℕ) → hs ≡ k ∷ ks → without k hs ≡ ks
  first_gone k ks hs e = ap (without k) e ∙ ap (λ b. cond b ks (k ∷ without k ks)) (eq-eqb k k refl)

  pub given_here : (ks : List ℕ) (items : List Item) (w : Item) → At items i w → w.holds ≡ ks → Others ks → At (given_up ks items) i (record w { holds = [] })
  given_here [] items w at is _ = subst (λ hs. At items i (record w { holds = hs })) is at
  given_here (k ∷ ks) items w at is others = given_here ks (gives k items) (record w { holds = without k w.holds }) (gives_here k items w at (others k (inl refl))) (first_gone k ks w.holds is) (λ j h. others j (inr h))

  pub given_else : (ks : List ℕ) (items : List Item) (j : ℕ) (y : Item) → At items j y → j ≢ i → Others ks → At (given_up ks items) j (record y { hand = y.hand + times j ks })
  given_else [] items j y at ne _ = let same : y.hand ≡ y.hand + 0 = omega arith in subst (λ m. At items j (record y { hand = m })) same at
  given_else (k ∷ ks) items j y at ne others = dite (ℕ_discrete k j)
      (λ e. let one : one_if_same j k ≡ 1 = ap (λ b. cond b 1 0) (eq-eqb k j e) in let more : y.hand + 1 + times j ks ≡ y.hand + (one_if_same j k + times j ks) = omega arith in
      let at' : At (gives k items) j (handed y) = subst (λ m. At (gives k items) m (handed y)) e (gives_at k items y (subst (λ m. At items m y) (sym e) at) (others k (inl refl))) in
      subst (λ m. At (given_up ks (gives k items)) j (record y { hand = m })) more (given_else ks (gives k items) j (handed y) at' ne (λ q h. others q (inr h))))
      (λ nk. let zero_ : one_if_same j k ≡ 0 = ap (λ b. cond b 1 0) (ne_eqb k j nk) in let same : y.hand + times j ks ≡ y.hand + (one_if_same j k + times j ks) = omega arith in
      subst (λ m. At (given_up ks (gives k items)) j (record y { hand = m })) same (given_else ks (gives k items) j y (gives_else k items j y at ne (λ e. nk (sym e))) ne (λ q h. others q (inr h))))

  pub given_length : (ks : List ℕ) (items : List Item) → length (given_up ks items) ≡ length items
  given_length [] items = refl
  given_length (k ∷ ks) items = given_length ks (gives k items) ∙ gives_length k items

  -- what another item was before
  pub given_back : (ks : List ℕ) (items : List Item) (j : ℕ) (z : Item) → At (given_up ks items) j z → j ≢ i → Others ks → (y : Item) × At items j y × (z ≡ record y { hand = y.hand + times j ks })
  given_back ks items j z at ne others = let low = at_inside (given_up ks items) j z at in let long = given_length ks items in let y = find_at items j (omega arith) in
      (y.0, y.1, same_at (given_up ks items) j z (record y.0 { hand = y.0.hand + times j ks }) at (given_else ks items j y.0 y.1 ne others))

  pub gives_up : (ks : List ℕ) (s : State) (p : ℕ) (x : Participant) (w : Item) → At s.participants p x → is_ready x ≡ true → At s.items i w → w.state ≡ Reclaimed p → w.holds ≡ ks → Others ks → Runs s (record s { items = given_up ks s.items })
  gives_up [] s p x w at ready here is holds _ = ([], refl)
  gives_up (k ∷ ks) s p x w at ready here is holds others = let m : State = record s { items = gives k s.items } in
      taken.goes_on s m (record s { items = given_up ks (gives k s.items) })
      (taken.one s (GiveUp p i k) m (
        and_true (participant_is is_ready s p) (item_is (λ z. is_reclaimed p z.state && has k z.holds) s i) (participant_passes is_ready s p x at ready)
            (item_passes (λ z. is_reclaimed p z.state && has k z.holds) s i w here (and_true (is_reclaimed p w.state) (has k w.holds) (ap (is_reclaimed p) is ∙ eq-eqb p p refl) (ap (has k) holds ∙ ap (λ b. b || has k ks) (eq-eqb k k refl)))),
        refl,
      ))
      (gives_up ks m p x (record w { holds = without k w.holds }) at ready (gives_here k s.items w here (others k (inl refl))) is (first_gone k ks w.holds holds) (λ j h. others j (inr h)))
