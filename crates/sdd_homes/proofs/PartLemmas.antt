-- each kind of step on items that are placed keeps the counting of parts
use Rattle.std.proofs.Common.{◌≡◌, ◌≢◌, ℕ, ◌+◌, ◌<◌, sym, refl, ap, ◌∙◌, subst, inl, inr, ⊎_elim, arith, List, [], ◌∷◌, ◌++◌}
use mathlib.Core.Logic.{dite}
use native.Mathlib.Decide.{ℕ_discrete}
use Rattle.sdd_steps.specs.declared.item.Item.{Item}
use Rattle.sdd_steps.specs.State.{At, Has}
use Rattle.sdd_steps.proofs.ListLemmas.{same_at, put, put_here, put_else, put_all, has_end}
use Rattle.sdd_homes.specs.declared.Lease.{Lease}
use Rattle.sdd_homes.specs.declared.Filling.{Filling}
use Rattle.sdd_homes.specs.Book.{Content, away, deed, part, vacant, partly, full, Book, home, Lends, Apart, lease, recounted}
use Rattle.sdd_homes.specs.Parts.{Full, Partly, Leased, Parts}
use Rattle.sdd_homes.proofs.Totals.{home_slot, home_part, total_put}
use Rattle.sdd_homes.proofs.Leases.{Returns, has_lends, end_lends, apart_end, recounted_lends, lends_recounted, recounted_apart, recounted_has}

-- an item that has the same value and owners in both lists
abbrev pub Alike : List Item → List Item → ℕ → Type 0
Alike items items' i = (it : Item) → At items i it → (it' : Item) × At items' i it' × (it'.value ≡ it.value) × (it'.owners ≡ it.owners)

module _ {n slots : ℕ} {items : List Item} {reason : ℕ → ℕ → Type 0} {book : Book} (r : Parts n slots items reason book) where
  -- a home changes, and this is another one
  pub home_else : (k p : ℕ) (c : Content) (k' p' : ℕ) → k < slots → k' < slots → ¬ ((k' ≡ k) × (p' ≡ p)) → put book.what (home slots k p) c (home slots k' p') ≡ book.what (home slots k' p')
  home_else k p c k' p' lk lk' ne = put_else book.what (home slots k p) c (home slots k' p') (dite (ℕ_discrete k' k)
      (λ same. subst (λ (z : ℕ). home slots z p' ≢ home slots k p) (sym same) (home_part slots k p' p lk (λ e. ne (same, e))))
      (λ other. home_slot slots k' p' k p lk' lk other))

  pub partly_kept : (what' : ℕ → Content) (k : ℕ) (f : Filling) → Partly n slots (book.share k) book.what k f → ((p : ℕ) → p < n → what' (home slots k p) ≡ book.what (home slots k p)) → Partly n slots (book.share k) what' k f
  partly_kept what' k f y same = let w = y.within in record { within = w; sum = y.sum; filled = λ p lt. same p (omega arith) ∙ y.filled p lt; rest = λ p le lt ne. same p lt ∙ y.rest p le lt ne }

  pub unleased : (k : ℕ) → ((i : ℕ) → book.stage k ≢ full i) → (p : ℕ) → ¬ Lends (book.out p) k
  unleased k never p h = let t = has_lends (book.out p) k h in never t.0.item (ap book.stage (sym t.2) ∙ (r.leases p t.0 t.1).is)

  pub unleased_by : (k i : ℕ) → book.stage k ≡ full i → ((p : ℕ) → ¬ reason p i) → (p : ℕ) → ¬ Lends (book.out p) k
  unleased_by k i is none p h = let t = has_lends (book.out p) k h in let l = r.leases p t.0 t.1 in let e : full t.0.item ≡ full i = sym l.is ∙ (ap book.stage t.2 ∙ is) in
      let same : t.0.item ≡ i = cc in none p (subst (reason p) same l.why)

  -- load: the participant's home of the item is leased
  pub loads : (p k i v : ℕ) → p < n → k < slots → book.stage k ≡ full i → ¬ Lends (book.out p) k → reason p i → ((it : Item) → At items i it → it.value ≡ v)
      → Parts n slots items reason (record book { out = put book.out p (book.out p ++ lease k i (book.share k p) v ∷ []); what = put book.what (home slots k p) away })
  loads p k i v low inside is free why value = let new : Lease = lease k i (book.share k p) v in let all = put book.out p (book.out p ++ new ∷ []) in record {
    full_at = λ k' i' l' is'. let f = r.full_at k' i' l' is' in record {
      it = f.it;
      here = f.here;
      slot = f.slot;
      sum = f.sum;
      homes = λ p' lp free'. home_else k p away k' p' inside l'
          (λ e. free' (subst (λ (z : ℕ × ℕ). Lends (all z.0) z.1) (λ j. (sym e.1 j, sym e.0 j)) (subst (λ ls. Lends ls k) (sym (put_here book.out p (book.out p ++ new ∷ []))) (end_lends (book.out p) new k (inr refl)))))
          ∙ f.homes p' lp (λ h. free' (put_all (λ q ls. Lends (book.out q) k' → Lends ls k') book.out p (book.out p ++ new ∷ []) p' (λ t. end_lends (book.out p) new k' (inl t)) (λ _ t. t) h));
      deeds = home_else k p away k' n inside l' (λ e. let z = e.1 in absurd (omega arith)) ∙ f.deeds;
    };
    partly_at = λ k' f' l' is'. partly_kept (put book.what (home slots k p) away) k' f' (r.partly_at k' f' l' is')
        (λ p'' lt. home_else k p away k' p'' inside l' (λ e. let bad : full i ≡ partly f' = sym is ∙ (ap book.stage (sym e.0) ∙ is') in absurd (cc)));
    vacant_at = λ k' p' l' is' lt. home_else k p away k' p' inside l' (λ e. let bad : full i ≡ vacant = sym is ∙ (ap book.stage (sym e.0) ∙ is') in absurd (cc)) ∙ r.vacant_at k' p' l' is' lt;
    leases = λ p' l h. put_all (λ q ls. Has ls l → Leased n slots items reason book.stage book.share q l) book.out p (book.out p ++ new ∷ []) p'
        (λ t. ⊎_elim (λ (t : Has (book.out p) l). r.leases p l t) (λ (e : new ≡ l). subst (Leased n slots items reason book.stage book.share p) e (record { low = low; inside = inside; is = is; count = refl; why = why; round = value })) (has_end (book.out p) new l t))
        (λ _ t. r.leases p' l t) h;
    once = λ p'. put_all (λ _ ls. Apart ls) book.out p (book.out p ++ new ∷ []) p' (apart_end (book.out p) new (r.once p) free) (λ _. r.once p');
  }

  -- a lease ends: its parts lie at home again
  pub gives : (p : ℕ) (l : Lease) (ls : List Lease) (it : Item) → Returns (book.out p) l ls → At items l.item it
      → Parts n slots items reason (record book { out = put book.out p ls; what = put book.what (home slots l.slot p) (part it.value l.count) })
  gives p l ls it is_out here = let k = l.slot in let y = r.leases p l is_out.had in let i = l.item in let is = y.is in let low = y.low in
      let c : Content = part it.value l.count in let what' = put book.what (home slots k p) c in record {
        full_at = λ k' i' l' is'. let f = r.full_at k' i' l' is' in record {
          it = f.it;
          here = f.here;
          slot = f.slot;
          sum = f.sum;
          homes = λ p' lp free'. dite (ℕ_discrete p' p)
              (λ same_p. dite (ℕ_discrete k' k)
              (λ same_k. let e : full i ≡ full i' = sym is ∙ (ap book.stage (sym same_k) ∙ is') in let item : i' ≡ i = cc in let item_same : f.it ≡ it = same_at items i f.it it (subst (λ z. At items z f.it) item f.here) here in
              ap (λ (z : ℕ × ℕ). what' (home slots z.0 z.1)) (λ j. (same_k j, same_p j)) ∙ (put_here book.what (home slots k p) c
              ∙ ap (λ (z : Item × ℕ). part z.0.value z.1) (λ j. (sym item_same j, (sym y.count ∙ ap (λ (z : ℕ × ℕ). book.share z.0 z.1) (λ h. (sym same_k h, sym same_p h))) j))))
              (λ other. home_else k p c k' p' y.inside l' (λ e. other e.0) ∙ f.homes p' lp (λ h. free' (subst (λ q. Lends (put book.out p ls q) k') (sym same_p) (subst (λ z. Lends z k') (sym (put_here book.out p ls))
              (is_out.others k' other (subst (λ q. Lends (book.out q) k') same_p h)))))))
              (λ other. home_else k p c k' p' y.inside l' (λ e. other e.1) ∙ f.homes p' lp (λ h. free' (subst (λ z. Lends z k') (sym (put_else book.out p ls p' other)) h)));
          deeds = home_else k p c k' n y.inside l' (λ e. let z = e.1 in absurd (omega arith)) ∙ f.deeds;
        };
        partly_at = λ k' f' l' is'. partly_kept what' k' f' (r.partly_at k' f' l' is')
            (λ p'' lt. home_else k p c k' p'' y.inside l' (λ e. let bad : full i ≡ partly f' = sym is ∙ (ap book.stage (sym e.0) ∙ is') in absurd (cc)));
        vacant_at = λ k' p' l' is' lt. home_else k p c k' p' y.inside l' (λ e. let bad : full i ≡ vacant = sym is ∙ (ap book.stage (sym e.0) ∙ is') in absurd (cc)) ∙ r.vacant_at k' p' l' is' lt;
        leases = λ p' l' h. put_all (λ q z. Has z l' → Leased n slots items reason book.stage book.share q l') book.out p ls p' (λ t. r.leases p l' (is_out.few l' t)) (λ _ t. r.leases p' l' t) h;
        once = λ p'. put_all (λ _ z. Apart z) book.out p ls p' is_out.once (λ _. r.once p');
      }

  -- any step that leaves values and owners as they are, and the reasons of the leases
  pub stays : (items' : List Item) (reason' : ℕ → ℕ → Type 0) → ((i : ℕ) → Alike items items' i) → ((p : ℕ) (l : Lease) → Has (book.out p) l → reason p l.item → reason' p l.item)
      → Parts n slots items' reason' book
  stays items' reason' alike still = record {
    full_at = λ k i l is. let f = r.full_at k i l is in let t = alike i f.it f.here in let o = t.3 in let s = f.sum in record {
      it = t.0;
      here = t.1;
      slot = f.slot;
      sum = omega arith;
      homes = λ p lp free. f.homes p lp free ∙ ap (λ v. part v (book.share k p)) (sym t.2);
      deeds = f.deeds ∙ ap (λ v. deed v (book.held k)) (sym t.2);
    };
    partly_at = r.partly_at;
    vacant_at = r.vacant_at;
    leases = λ p l h. let y = r.leases p l h in let f = r.full_at l.slot l.item y.inside y.is in let t = alike l.item f.it f.here in record {
      low = y.low;
      inside = y.inside;
      is = y.is;
      count = y.count;
      why = still p l h y.why;
      round = λ z at. ap (λ (w : Item). w.value) (same_at items' l.item z t.0 at t.1) ∙ (t.2 ∙ y.round f.it f.here);
    };
    once = r.once;
  }

  -- owners come from the participant's own parts (clone), or are joined to them (release): its home is leased
  pub recounts : (p k i c : ℕ) (items' : List Item) (it it' : Item) → p < n → k < slots → book.stage k ≡ full i → Lends (book.out p) k → At items i it → At items' i it' → it'.value ≡ it.value
      → c + it'.owners ≡ book.share k p + it.owners → ((j : ℕ) → j ≢ i → Alike items items' j)
      → Parts n slots items' reason (record book { share = put book.share k (put (book.share k) p c); out = put book.out p (recounted k c (book.out p)) })
  recounts p k i c items' it it' low inside is has here here' value sum others = let all = put book.out p (recounted k c (book.out p)) in let f = r.full_at k i inside is in
      let same_it : f.it ≡ it = same_at items i f.it it f.here here in let shares = put book.share k (put (book.share k) p c) in
      let value_at : (j : ℕ) (z : Item) → At items j z → (z' : Item) → At items' j z' → z'.value ≡ z.value = (λ j z at z' at'. dite (ℕ_discrete j i)
      (λ e. ap (λ (w : Item). w.value) (same_at items' i z' it' (subst (λ m. At items' m z') e at') here') ∙ (value ∙ ap (λ (w : Item). w.value) (same_at items i it z here (subst (λ m. At items m z) e at))))
      (λ ne. let t = others j ne z at in ap (λ (w : Item). w.value) (same_at items' j z' t.0 at' t.1) ∙ t.2)) in
      let lends : (q j : ℕ) → Lends (book.out q) j → Lends (all q) j = (λ q j. put_all (λ q' ls. Lends (book.out q') j → Lends ls j) book.out p (recounted k c (book.out p)) q (lends_recounted k c (book.out p) j) (λ _ t. t)) in
      let back : (q j : ℕ) → Lends (all q) j → Lends (book.out q) j = (λ q j. put_all (λ q' ls. Lends ls j → Lends (book.out q') j) book.out p (recounted k c (book.out p)) q (recounted_lends k c (book.out p) j) (λ _ t. t)) in record {
        full_at = λ k' i' l' is'. put_all (λ z g. book.stage z ≡ full i' → z < slots → Full n slots items' book.slot_of g all book.what (book.held z) z i') book.share k (put (book.share k) p c) k'
            (λ is_k _. let e : full i ≡ full i' = sym is ∙ is_k in let item : i ≡ i' = cc in subst (Full n slots items' book.slot_of (put (book.share k) p c) all book.what (book.held k) k) item (
            let s = f.sum in let o = ap (λ (z : Item). z.owners) same_it in let v = ap (λ (z : Item). z.value) same_it in let w = total_put n (book.share k) p c low in record {
              it = it';
              here = here';
              slot = f.slot;
              sum = omega arith;
              homes = λ p' lp free. let ne : p' ≢ p = (λ e. free (lends p' k (subst (λ q. Lends (book.out q) k) (sym e) has))) in f.homes p' lp (λ h. free (lends p' k h))
                  ∙ ap (λ (z : ℕ × ℕ). part z.0 z.1) (λ j. ((v ∙ sym value) j, sym (put_else (book.share k) p c p' ne) j));
              deeds = f.deeds ∙ ap (λ z. deed z (book.held k)) (v ∙ sym value);
            }))
            (λ other is_k in_k. let g = r.full_at k' i' in_k is_k in let ne : i' ≢ i = (λ e. other (sym g.slot ∙ (ap book.slot_of e ∙ f.slot))) in let t = others i' ne g.it g.here in let o = t.3 in let s = g.sum in record {
              it = t.0;
              here = t.1;
              slot = g.slot;
              sum = omega arith;
              homes = λ p' lp free. g.homes p' lp (λ h. free (lends p' k' h)) ∙ ap (λ v. part v (book.share k' p')) (sym t.2);
              deeds = g.deeds ∙ ap (λ z. deed z (book.held k')) (sym t.2);
            }) is' l';
        partly_at = λ k' f' l' is'. put_all (λ z g. book.stage z ≡ partly f' → z < slots → Partly n slots g book.what z f') book.share k (put (book.share k) p c) k'
            (λ is_k _. let bad : full i ≡ partly f' = sym is ∙ is_k in absurd (cc)) (λ _ is_k in_k. r.partly_at k' f' in_k is_k) is' l';
        vacant_at = r.vacant_at;
        leases = λ p' l h. put_all (λ q ls. Has ls l → Leased n slots items' reason book.stage shares q l) book.out p (recounted k c (book.out p)) p'
            (λ t. let u = recounted_has k c (book.out p) l t in let y = r.leases p u.0 u.1 in record {
              low = low;
              inside = subst (λ z. z < slots) u.2 y.inside;
              is = ap book.stage (sym u.2) ∙ (y.is ∙ ap full u.3);
              count = ⊎_elim (λ (e : (l.slot ≡ k) × (l.count ≡ c)). ap (λ z. shares z p) e.0 ∙ (ap (λ (g : ℕ → ℕ). g p) (put_here book.share k (put (book.share k) p c)) ∙ (put_here (book.share k) p c ∙ sym e.1)))
                  (λ (e : (l.slot ≢ k) × (l.count ≡ u.0.count)). ap (λ (g : ℕ → ℕ). g p) (put_else book.share k (put (book.share k) p c) l.slot e.0) ∙ (ap (λ z. book.share z p) (sym u.2) ∙ (y.count ∙ sym e.1))) u.5;
              why = subst (reason p) u.3 y.why;
              round = λ z at. let w = r.full_at u.0.slot u.0.item y.inside y.is in value_at u.0.item w.it w.here z (subst (λ j. At items' j z) (sym u.3) at) ∙ (y.round w.it w.here ∙ u.4);
            })
            (λ other t. let y = r.leases p' l t in record {
              low = y.low;
              inside = y.inside;
              is = y.is;
              why = y.why;
              round = λ z at. value_at l.item (r.full_at l.slot l.item y.inside y.is).it (r.full_at l.slot l.item y.inside y.is).here z at ∙ y.round (r.full_at l.slot l.item y.inside y.is).it (r.full_at l.slot l.item y.inside y.is).here;
              count = dite (ℕ_discrete l.slot k)
                  (λ e. ap (λ z. shares z p') e ∙ (ap (λ (g : ℕ → ℕ). g p') (put_here book.share k (put (book.share k) p c)) ∙ (put_else (book.share k) p c p' other ∙ (ap (λ z. book.share z p') (sym e) ∙ y.count))))
                  (λ ne. ap (λ (g : ℕ → ℕ). g p') (put_else book.share k (put (book.share k) p c) l.slot ne) ∙ y.count);
            })
            h;
        once = λ p'. put_all (λ _ ls. Apart ls) book.out p (recounted k c (book.out p)) p' (recounted_apart k c (book.out p) (r.once p)) (λ _. r.once p');
      }
