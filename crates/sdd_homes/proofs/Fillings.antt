-- a slot is claimed, filled, given to an item, emptied and given back: nobody has a lease of it
use Rattle.std.proofs.Common.{◌≡◌, ◌≢◌, ◌⊎◌, ℕ, suc, ◌+◌, ◌-◌, ◌^◌, ◌<◌, ◌≤◌, sym, refl, ap, ◌∙◌, subst, ⊎_elim, arith, List, cond, eq-eqb, ne_eqb}
use mathlib.Core.Logic.{dite}
use native.Mathlib.Decide.{ℕ_discrete}
use Rattle.sdd_steps.specs.declared.item.Item.{Item}
use Rattle.sdd_steps.specs.State.{At}
use Rattle.sdd_steps.proofs.ListLemmas.{same_at, put, put_here, put_else}
use Rattle.sdd_homes.specs.declared.Filling.{Filling}
use Rattle.sdd_homes.specs.declared.Owner.{Owner}
use Rattle.sdd_homes.specs.Book.{Content, away, blank, room, deed, part, Stage, vacant, partly, full, Book, total, home, resting, Lends}
use Rattle.sdd_homes.specs.Parts.{Full, Partly, Parts}
use Rattle.sdd_homes.proofs.Totals.{total_above}
use Rattle.sdd_homes.proofs.Leases.{lends_has}
use Rattle.sdd_homes.proofs.PartLemmas.{home_else, unleased, unleased_by}

pub resting_own : (n p : ℕ) → p ≡ n → resting n p ≡ room
resting_own n p e = ap (λ h. cond h room blank) (eq-eqb p n e)

pub resting_else : (n p : ℕ) → p ≢ n → resting n p ≡ blank
resting_else n p ne = ap (λ h. cond h room blank) (ne_eqb p n ne)

module _ {n slots : ℕ} {items : List Item} {reason : ℕ → ℕ → Type 0} {book : Book} (r : Parts n slots items reason book) where
  abbrev pub Next : ℕ → Stage → (ℕ → ℕ) → (ℕ → Content) → Type 0
  Next k st g what' = Parts n slots items reason (record book { stage = put book.stage k st; share = put book.share k g; what = what' })

  slot_step : (k : ℕ) (st : Stage) (g : ℕ → ℕ) (what' : ℕ → Content) → ((p : ℕ) → ¬ Lends (book.out p) k) → ((k' p : ℕ) → k' < slots → k' ≢ k → what' (home slots k' p) ≡ book.what (home slots k' p))
      → ((i : ℕ) → st ≡ full i → Full n slots items book.slot_of g book.out what' (book.held k) k i) → ((f : Filling) → st ≡ partly f → Partly n slots g what' k f) → ((p : ℕ) → st ≡ vacant → p < suc n → what' (home slots k p) ≡ resting n p)
      → Next k st g what'
  slot_step k st g what' alone others f y v = record {
    full_at = λ k' i l. dite (ℕ_discrete k' k)
        (λ e is. let here = f i (sym (ap (put book.stage k st) e ∙ put_here book.stage k st) ∙ is) in subst (λ (z : ℕ × (ℕ → ℕ)). Full n slots items book.slot_of z.1 book.out what' (book.held z.0) z.0 i) (λ j. (sym e j, sym (ap (put book.share k g) e ∙ put_here book.share k g) j)) here)
        (λ ne is. let o = r.full_at k' i l (sym (put_else book.stage k st k' ne) ∙ is) in subst (λ (z : ℕ → ℕ). Full n slots items book.slot_of z book.out what' (book.held k') k' i) (sym (put_else book.share k g k' ne)) (record {
          it = o.it;
          here = o.here;
          slot = o.slot;
          sum = o.sum;
          homes = λ p lp free. others k' p l ne ∙ o.homes p lp free;
          deeds = others k' n l ne ∙ o.deeds;
        }));
    partly_at = λ k' f' l. dite (ℕ_discrete k' k)
        (λ e is. let here = y f' (sym (ap (put book.stage k st) e ∙ put_here book.stage k st) ∙ is) in subst (λ (z : ℕ × (ℕ → ℕ)). Partly n slots z.1 what' z.0 f') (λ j. (sym e j, sym (ap (put book.share k g) e ∙ put_here book.share k g) j)) here)
        (λ ne is. let o = r.partly_at k' f' l (sym (put_else book.stage k st k' ne) ∙ is) in let w = o.within in subst (λ (z : ℕ → ℕ). Partly n slots z what' k' f') (sym (put_else book.share k g k' ne)) (record {
          within = w;
          sum = o.sum;
          filled = λ p' lt. others k' p' l ne ∙ o.filled p' lt;
          rest = λ p' le lt a. others k' p' l ne ∙ o.rest p' le lt a;
        }));
    vacant_at = λ k' p l. dite (ℕ_discrete k' k)
        (λ e is lt. ap (λ z. what' (home slots z p)) e ∙ v p (sym (ap (put book.stage k st) e ∙ put_here book.stage k st) ∙ is) lt)
        (λ ne is lt. others k' p l ne ∙ r.vacant_at k' p l (sym (put_else book.stage k st k' ne) ∙ is) lt);
    leases = λ p l h. let o = r.leases p l h in let ne : l.slot ≢ k = (λ e. alone p (subst (Lends (book.out p)) e (lends_has (book.out p) l h))) in record {
      low = o.low;
      inside = o.inside;
      is = put_else book.stage k st l.slot ne ∙ o.is;
      count = ap (λ (z : ℕ → ℕ). z p) (put_else book.share k g l.slot ne) ∙ o.count;
      why = o.why;
      round = o.round;
    };
    once = r.once;
  }

  abbrev Free : ℕ → Type 0
  Free k = (q : ℕ) → ¬ Lends (book.out q) k

  -- one home of the slot changes
  module _ (k p : ℕ) (c : Content) (g : ℕ → ℕ) (inside : k < slots) (free : Free k) where
    abbrev after : ℕ → Content
    after = put book.what (home slots k p) c

    pub else_at : (p' : ℕ) → p' ≢ p → after (home slots k p') ≡ book.what (home slots k p')
    else_at p' ne = home_else r k p c k p' inside inside (λ e. ne e.1)

    pub here_at : (p' : ℕ) → p' ≡ p → after (home slots k p') ≡ c
    here_at p' e = ap (λ z. after (home slots k z)) e ∙ put_here book.what (home slots k p) c

    goes : (st : Stage) → ((i : ℕ) → st ≡ full i → Full n slots items book.slot_of g book.out after (book.held k) k i) → ((f : Filling) → st ≡ partly f → Partly n slots g after k f) → ((p' : ℕ) → st ≡ vacant → p' < suc n → after (home slots k p') ≡ resting n p') → Next k st g after
    goes st f y v = slot_step k st g after free (λ k' p' l ne. home_else r k p c k' p' inside l (λ e. ne e.0)) f y v

    pub to_full : (i : ℕ) → Full n slots items book.slot_of g book.out after (book.held k) k i → Next k (full i) g after
    to_full i f = goes (full i) (λ i' e. let same : i ≡ i' = cc in subst (Full n slots items book.slot_of g book.out after (book.held k) k) same f) (λ f' e. absurd (cc)) (λ p' e. absurd (cc))

    pub to_partly : (f : Filling) → Partly n slots g after k f → Next k (partly f) g after
    to_partly f y = goes (partly f) (λ i e. absurd (cc)) (λ f' e. let same : f ≡ f' = cc in subst (Partly n slots g after k) same y) (λ p' e. absurd (cc))

    pub to_vacant : ((p' : ℕ) → p' < suc n → after (home slots k p') ≡ resting n p') → Next k vacant g after
    to_vacant v = goes vacant (λ i e. absurd (cc)) (λ f e. absurd (cc)) (λ p' _. v p')

  -- a free slot is claimed by p, and the item's own home, with the room, comes out
  pub claims : (k p c : ℕ) → k < slots → book.stage k ≡ vacant → Next k (partly (record { by = p; filled = 0; round = c; left = 2 ^ 63; out = n })) (book.share k) (put book.what (home slots k n) away)
  claims k p c inside is = let free = unleased r k (λ i e. let bad : vacant ≡ full i = sym is ∙ e in absurd (cc)) in to_partly k n away (book.share k) inside free (record { by = p; filled = 0; round = c; left = 2 ^ 63; out = n }) (record {
    within = omega arith;
    sum = omega arith;
    filled = λ a lt. absurd (omega arith);
    rest = λ a _ lt _. else_at k n away (book.share k) inside free a (λ e. omega arith) ∙ (r.vacant_at k a inside is (omega arith) ∙ resting_else n a (λ e. omega arith));
  })

  module _ (k : ℕ) (f : Filling) (inside : k < slots) (is : book.stage k ≡ partly f) where
    now : Partly n slots (book.share k) book.what k f
    now = r.partly_at k f inside is

    alone : Free k
    alone = unleased r k (λ i e. let bad : partly f ≡ full i = sym is ∙ e in absurd (cc))

    -- the next home comes out, empty
    pub fill_takes : f.filled < n → f.out ≡ n → Next k (partly (record f { out = f.filled })) (book.share k) (put book.what (home slots k f.filled) away)
    fill_takes lt none = let q : ℕ = f.filled in to_partly k q away (book.share k) inside alone (record f { out = q }) (record {
      within = now.within;
      sum = now.sum;
      filled = λ b lb. else_at k q away (book.share k) inside alone b (λ e. omega arith) ∙ now.filled b lb;
      rest = λ b ge lb off. else_at k q away (book.share k) inside alone b off ∙ now.rest b ge lb (λ e. omega arith);
    })

    -- it goes back with a parts; the first one says which round they are of
    pub fill_gives : (c a : ℕ) → f.filled < n → f.out ≡ f.filled → a ≤ f.left → (f.filled ≡ 0) ⊎ (c ≡ f.round)
        → Next k (partly (record f { filled = suc f.filled; round = c; left = f.left - a; out = n })) (put (book.share k) f.filled a) (put book.what (home slots k f.filled) (part c a))
    fill_gives c a lt is_out le round = let q : ℕ = f.filled in let g = put (book.share k) q a in let s = now.sum in let h = put_here (book.share k) q a in let o = total_above q (book.share k) q a (omega arith) in
        to_partly k q (part c a) g inside alone (record f { filled = suc q; round = c; left = f.left - a; out = n }) (record {
          within = omega arith;
          sum = omega arith;
          filled = λ b lb. dite (ℕ_discrete b q)
              (λ e. here_at k q (part c a) g inside alone b e ∙ ap (part c) (sym (ap g e ∙ h)))
              (λ ne. else_at k q (part c a) g inside alone b ne ∙ (now.filled b (omega arith) ∙ ap (λ (z : ℕ × ℕ). part z.0 z.1) (λ j. (⊎_elim (λ (none : q ≡ 0). absurd (omega arith)) (λ (same : c ≡ f.round). sym same) round j, sym (put_else (book.share k) q a b ne) j))));
          rest = λ b ge lb off. else_at k q (part c a) g inside alone b (λ e. omega arith) ∙ now.rest b (omega arith) lb (λ e. omega arith);
        })

    -- the last filled home comes out with its parts
    pub gather_takes : (b : ℕ) → f.filled ≡ suc b → f.out ≡ n
        → (book.what (home slots k b) ≡ part f.round (book.share k b)) × Next k (partly (record f { filled = b; left = f.left + book.share k b; out = b })) (book.share k) (put book.what (home slots k b) away)
    gather_takes b is_b none = let w = now.within in let s : total (suc b) (book.share k) + f.left ≡ 2 ^ 63 = subst (λ z. total z (book.share k) + f.left ≡ 2 ^ 63) is_b now.sum in (
      now.filled b (omega arith),
      to_partly k b away (book.share k) inside alone (record f { filled = b; left = f.left + book.share k b; out = b }) (record {
        within = omega arith;
        sum = omega arith;
        filled = λ a la. else_at k b away (book.share k) inside alone a (λ e. omega arith) ∙ now.filled a (omega arith);
        rest = λ a ge la off. else_at k b away (book.share k) inside alone a off ∙ now.rest a (let z : a ≢ b = off in omega arith) la (λ e. omega arith);
      }),
    )

    -- the emptied home goes back
    pub gather_gives : f.out ≡ f.filled → f.filled < n → Next k (partly (record f { out = n })) (book.share k) (put book.what (home slots k f.filled) blank)
    gather_gives is_out lt = let q : ℕ = f.filled in to_partly k q blank (book.share k) inside alone (record f { out = n }) (record {
      within = now.within;
      sum = now.sum;
      filled = λ b lb. else_at k q blank (book.share k) inside alone b (λ e. omega arith) ∙ now.filled b lb;
      rest = λ b ge lb off. dite (ℕ_discrete b q) (λ e. here_at k q blank (book.share k) inside alone b e) (λ ne. else_at k q blank (book.share k) inside alone b ne ∙ now.rest b ge lb (λ e. ne (e ∙ is_out)));
    })

    -- all homes have their parts, and the item is in the slot: all that isn't at the homes is one part of each owner
    pub places : (i : ℕ) (it : Item) → f.filled ≡ n → At items i it → it.value ≡ f.round → it.owners ≡ f.left → book.slot_of i ≡ k → Next k (full i) (book.share k) (put book.what (home slots k n) (deed f.round (book.held k)))
    places i it all here value owners slot = let s : total n (book.share k) + f.left ≡ 2 ^ 63 = subst (λ z. total z (book.share k) + f.left ≡ 2 ^ 63) all now.sum in
        to_full k n (deed f.round (book.held k)) (book.share k) inside alone i (record {
          it = it;
          here = here;
          slot = slot;
          sum = omega arith;
          homes = λ a la _. else_at k n (deed f.round (book.held k)) (book.share k) inside alone a (λ e. omega arith) ∙ (now.filled a (omega arith) ∙ ap (λ v. part v (book.share k a)) (sym value));
          deeds = here_at k n (deed f.round (book.held k)) (book.share k) inside alone n refl ∙ ap (λ v. deed v (book.held k)) (sym value);
        })

    -- all homes are empty, so all parts are in hand, and the room goes home
    pub vacates : f.filled ≡ 0 → f.out ≡ n → (f.left ≡ 2 ^ 63) × Next k vacant (book.share k) (put book.what (home slots k n) room)
    vacates none is_out = let s : total 0 (book.share k) + f.left ≡ 2 ^ 63 = subst (λ z. total z (book.share k) + f.left ≡ 2 ^ 63) none now.sum in (
      omega arith,
      to_vacant k n room (book.share k) inside alone (λ a lt. dite (ℕ_discrete a n) (λ e. here_at k n room (book.share k) inside alone a e ∙ sym (resting_own n a e))
          (λ ne. else_at k n room (book.share k) inside alone a ne ∙ (now.rest a (omega arith) (omega arith) (λ e. ne (e ∙ is_out)) ∙ sym (resting_else n a ne)))),
    )

  -- nobody has a reason for a lease, and there is no owner: the deed comes out, and all parts are at home
  pub opens : (k i p : ℕ) (it : Item) → k < slots → book.stage k ≡ full i → At items i it → it.owners ≡ 0 → ((q : ℕ) → ¬ reason q i)
      → (book.what (home slots k n) ≡ deed it.value (book.held k)) × Next k (partly (record { by = p; filled = n; round = it.value; left = 0; out = n })) (book.share k) (put book.what (home slots k n) away)
  opens k i p it inside is here none free = let f = r.full_at k i inside is in let same : f.it ≡ it = same_at items i f.it it f.here here in let lone = unleased_by r k i is free in let s = f.sum in let o = ap (λ (z : Item). z.owners) same in (
    f.deeds ∙ ap (λ (z : Item). deed z.value (book.held k)) same,
    to_partly k n away (book.share k) inside lone (record { by = p; filled = n; round = it.value; left = 0; out = n }) (record {
      within = omega arith;
      sum = omega arith;
      filled = λ b lt. else_at k n away (book.share k) inside lone b (λ e. omega arith) ∙ (f.homes b lt (lone b) ∙ ap (λ (z : Item). part z.value (book.share k b)) same);
      rest = λ b ge lt. absurd (omega arith);
    }),
  )

  -- a number of an item that is in no slot is given to a slot
  pub renames : (i k : ℕ) → ((k' : ℕ) → k' < slots → book.stage k' ≢ full i) → Parts n slots items reason (record book { slot_of = put book.slot_of i k })
  renames i k unused = record {
    full_at = λ k' i' l is. let f = r.full_at k' i' l is in record { it = f.it; here = f.here; slot = put_else book.slot_of i k i' (λ e. unused k' l (is ∙ ap full e)) ∙ f.slot; sum = f.sum; homes = f.homes; deeds = f.deeds };
    partly_at = r.partly_at;
    vacant_at = r.vacant_at;
    leases = r.leases;
    once = r.once;
  }

  -- what a slot's item will hold is told before an item is in it
  pub reholds : (k : ℕ) (hs : List Owner) → ((i : ℕ) → book.stage k ≢ full i) → Parts n slots items reason (record book { held = put book.held k hs })
  reholds k hs unused = record {
    full_at = λ k' i' l is. let f = r.full_at k' i' l is in record { it = f.it; here = f.here; slot = f.slot; sum = f.sum; homes = f.homes; deeds = f.deeds ∙ ap (deed f.it.value) (sym (put_else book.held k hs k' (λ e. unused i' (ap book.stage (sym e) ∙ is)))) };
    partly_at = r.partly_at;
    vacant_at = r.vacant_at;
    leases = r.leases;
    once = r.once;
  }
