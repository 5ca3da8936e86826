-- rows and the leases that they tell
use Rattle.std.proofs.Common.{◌≡◌, ◌≢◌, ◌<◌, true, ℕ, zero, suc, cond, List, [], ◌∷◌, map, length, slice_index_or, slice_set, ⊎_elim, inl, inr, eq-eqb, ne_eqb, ltb-true, nat_lt, refl, sym, ap, ◌∙◌, subst, arith}
use Rattle.sdd_steps.specs.State.{Has}
use Rattle.sdd_steps.proofs.ListLemmas.{both}
use Rattle.sdd_homes.specs.declared.Lease.{Lease}
use Rattle.sdd_homes.specs.Book.{Lends, Apart, recounted}
use Rattle.sdd_homes.proofs.Leases.{lends_has, recounted_none}
use Rattle.domain_table.specs.Leases.{row_told, lease_told, leased_homes, row_slots, all_below}
use Rattle.domain_table.specs.Plays.{own_home}
use Rattle.domain_table.specs.declared.board.Acting.{Acting}
use Rattle.domain_table.specs.declared.row.Row.{Row}

-- rows are where the leases that they tell are
pub slots_told : {T : Type 0} (life : ℕ) (rows : List (Row T)) (ls : List Lease) → map row_told rows ≡ map (lease_told life) ls → row_slots rows ≡ map (λ (l : Lease). l.slot) ls
slots_told life [] [] e = refl
slots_told life [] (l ∷ ls) e = absurd (cc)
slots_told life (r ∷ rows) [] e = absurd (cc)
slots_told life (r ∷ rows) (l ∷ ls) e = let first : row_told r ≡ lease_told life l = cc in let others : map row_told rows ≡ map (lease_told life) ls = cc in λ j. (first j).0 ∷ slots_told life rows ls others j

pub has_slot : (ls : List Lease) (l : Lease) → Has ls l → Has (map (λ (x : Lease). x.slot) ls) l.slot
has_slot [] l h = absurd h
has_slot (x ∷ ls) l h = ⊎_elim (λ (e : x ≡ l). inl (ap (λ (z : Lease). z.slot) e)) (λ (t : Has ls l). inr (has_slot ls l t)) h

pub lent_slot : (ls : List Lease) (k : ℕ) → Lends ls k → Has (map (λ (x : Lease). x.slot) ls) k
lent_slot [] k h = absurd h
lent_slot (x ∷ ls) k h = ⊎_elim (λ (e : x.slot ≡ k). inl e) (λ (t : Lends ls k). inr (lent_slot ls k t)) h

pub slot_lent : (ls : List Lease) (k : ℕ) → Has (map (λ (x : Lease). x.slot) ls) k → Lends ls k
slot_lent [] k h = absurd h
slot_lent (x ∷ ls) k h = ⊎_elim (λ (e : x.slot ≡ k). inl e) (λ (t : Has (map (λ (z : Lease). z.slot) ls) k). inr (slot_lent ls k t)) h

pub is_below : (n : ℕ) (ks : List ℕ) (k : ℕ) → all_below n ks ≡ true → Has ks k → k < n
is_below n [] k e h = absurd h
is_below n (x ∷ ks) k e h = let f = both (nat_lt x n) (all_below n ks) e in ⊎_elim (λ (same : x ≡ k). subst (λ z. z < n) same (ltb-true x n f.0)) (λ (t : Has ks k). is_below n ks k f.1 t) h

pub recounted_slots : (k c : ℕ) (ls : List Lease) → map (λ (l : Lease). l.slot) (recounted k c ls) ≡ map (λ (l : Lease). l.slot) ls
recounted_slots k c [] = refl
recounted_slots k c (l ∷ ls) = λ j. l.slot ∷ recounted_slots k c ls j

-- the lease of a row; with another count of its parts the rows tell the leases that are recounted
module _ {T : Type 0} (life : ℕ) where
  pub record RowAt (rows : List (Row T)) (ls : List Lease) (i : ℕ) : Type 0 where
    pub row : Row T
    pub lease : Lease
    pub is : (d : Row T) → slice_index_or rows i d ≡ row
    pub has : Has ls lease
    pub told : row_told row ≡ lease_told life lease
    pub recounts : (k c : ℕ) (r : Row T) → lease.slot ≡ k → Apart ls → row_told r ≡ (lease.slot, lease.round, c, life) → map row_told (slice_set rows i r) ≡ map (lease_told life) (recounted k c ls)

  pub row_at : (rows : List (Row T)) (ls : List Lease) (i : ℕ) → map row_told rows ≡ map (lease_told life) ls → i < length rows → RowAt rows ls i
  row_at [] ls i e low = absurd (omega arith)
  row_at (r ∷ rows) [] i e low = absurd (cc)
  row_at (r ∷ rows) (l ∷ ls) zero e low = let first : row_told r ≡ lease_told life l = cc in let others : map row_told rows ≡ map (lease_told life) ls = cc in record {
    row = r;
    lease = l;
    is = λ d. refl;
    has = inl refl;
    told = first;
    recounts = λ k c x at once new. λ j. (new ∙ λ i. (l.slot, l.round, ap (λ b. cond b c l.count) (sym (eq-eqb l.slot k at)) i, life)) j ∷ (others ∙ ap (map (lease_told life)) (sym (recounted_none k c ls (subst (λ z. ¬ Lends ls z) at once.0)))) j;
  }
  row_at (r ∷ rows) (l ∷ ls) (suc i) e low = let first : row_told r ≡ lease_told life l = cc in let others : map row_told rows ≡ map (lease_told life) ls = cc in let f = row_at rows ls i others (omega arith) in record {
    row = f.row;
    lease = f.lease;
    is = f.is;
    has = inr f.has;
    told = f.told;
    recounts = λ k c x at once new. let other : l.slot ≢ k = (λ same. once.0 (subst (Lends ls) (at ∙ sym same) (lends_has ls f.lease f.has))) in
        λ j. (first ∙ λ i. (l.slot, l.round, ap (λ b. cond b c l.count) (sym (ne_eqb l.slot k other)) i, life)) j ∷ f.recounts k c x at once.1 new j;
  }

-- the lease of a row is of the row's slot
module _ {T : Type 0} (life : ℕ) (rows : List (Row T)) (ls : List Lease) (i k : ℕ) (f : RowAt life rows ls i) (is : (d : Row T) → (slice_index_or rows i d).slot ≡ k) where
  pub at_slot : f.lease.slot ≡ k
  at_slot = ap (λ (t : ℕ × ℕ × ℕ × ℕ). t.0) (sym f.told) ∙ (ap (λ (r : Row T). r.slot) (sym (f.is f.row)) ∙ is f.row)

  pub inside : map row_told rows ≡ map (lease_told life) ls → (n : ℕ) → all_below n (row_slots rows) ≡ true → k < n
  inside told n below = let there = subst (λ ks. Has ks f.lease.slot) (sym (slots_told life rows ls told)) (has_slot ls f.lease f.has) in subst (λ z. z < n) at_slot (is_below n (row_slots rows) f.lease.slot below there)

-- where homes lie is told by slots alone
pub same_homes : (d : Acting) (ls ks : List Lease) → map (λ (l : Lease). l.slot) ls ≡ map (λ (l : Lease). l.slot) ks → leased_homes d ls ≡ leased_homes d ks
same_homes d [] [] e = refl
same_homes d [] (k ∷ ks) e = absurd (cc)
same_homes d (l ∷ ls) [] e = absurd (cc)
same_homes d (l ∷ ls) (k ∷ ks) e = let first : l.slot ≡ k.slot = cc in let others : map (λ (l : Lease). l.slot) ls ≡ map (λ (l : Lease). l.slot) ks = cc in λ j. own_home d (first j) ∷ same_homes d ls ks others j

pub none_same : (ls : List Lease) → map (λ (l : Lease). l.slot) ls ≡ [] → ls ≡ []
none_same [] e = refl
none_same (l ∷ ls) e = absurd (cc)
