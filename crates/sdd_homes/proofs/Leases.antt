-- lists of leases
use Rattle.std.proofs.Common.{◌≡◌, ◌≢◌, ◌⊎◌, ◌==◌, ◌++◌, ℕ, cond, sym, refl, ap, ◌∙◌, subst, inl, inr, ⊎_elim, List, [], ◌∷◌, eq-eqb, ne_eqb}
use mathlib.Core.Logic.{dite}
use native.Mathlib.Decide.{ℕ_discrete}
use Rattle.sdd_steps.specs.State.{Has}
use Rattle.sdd_homes.specs.declared.Lease.{Lease}
use Rattle.sdd_homes.specs.Book.{Lends, Apart, recounted}

pub lends_has : (ls : List Lease) (l : Lease) → Has ls l → Lends ls l.slot
lends_has [] l h = h
lends_has (x ∷ ls) l h = ⊎_elim (λ (e : x ≡ l). inl (ap (λ (z : Lease). z.slot) e)) (λ (t : Has ls l). inr (lends_has ls l t)) h

pub has_lends : (ls : List Lease) (k : ℕ) → Lends ls k → (l : Lease) × Has ls l × (l.slot ≡ k)
has_lends [] k h = absurd h
has_lends (x ∷ ls) k h = ⊎_elim (λ (e : x.slot ≡ k). (x, inl refl, e)) (λ (t : Lends ls k). let u = has_lends ls k t in (u.0, inr u.1, u.2)) h

pub recounted_lends : (k c : ℕ) (ls : List Lease) (j : ℕ) → Lends (recounted k c ls) j → Lends ls j
recounted_lends k c [] j h = h
recounted_lends k c (l ∷ ls) j h = ⊎_elim (λ (e : l.slot ≡ j). inl e) (λ (t : Lends (recounted k c ls) j). inr (recounted_lends k c ls j t)) h

pub lends_recounted : (k c : ℕ) (ls : List Lease) (j : ℕ) → Lends ls j → Lends (recounted k c ls) j
lends_recounted k c [] j h = h
lends_recounted k c (l ∷ ls) j h = ⊎_elim (λ (e : l.slot ≡ j). inl e) (λ (t : Lends ls j). inr (lends_recounted k c ls j t)) h

pub recounted_apart : (k c : ℕ) (ls : List Lease) → Apart ls → Apart (recounted k c ls)
recounted_apart k c [] h = tt
recounted_apart k c (l ∷ ls) h = ((λ t. h.0 (recounted_lends k c ls l.slot t)), recounted_apart k c ls h.1)

-- a recounted lease is an old one of another slot, or the old one of this slot with the new count
pub recounted_has : (k c : ℕ) (ls : List Lease) (l : Lease) → Has (recounted k c ls) l
    → (o : Lease) × Has ls o × (o.slot ≡ l.slot) × (o.item ≡ l.item) × (o.round ≡ l.round) × (((l.slot ≡ k) × (l.count ≡ c)) ⊎ ((l.slot ≢ k) × (l.count ≡ o.count)))
recounted_has k c [] l h = absurd h
recounted_has k c (x ∷ ls) l h = ⊎_elim
    (λ (e : record x { count = cond (x.slot == k) c x.count } ≡ l). (
      x,
      inl refl,
      ap (λ (z : Lease). z.slot) e,
      ap (λ (z : Lease). z.item) e,
      ap (λ (z : Lease). z.round) e,
      dite (ℕ_discrete x.slot k)
          (λ hit. inl (sym (ap (λ (z : Lease). z.slot) e) ∙ hit, sym (ap (λ (z : Lease). z.count) e) ∙ ap (λ b. cond b c x.count) (eq-eqb x.slot k hit)))
          (λ miss. inr ((λ same. miss (ap (λ (z : Lease). z.slot) e ∙ same)), sym (ap (λ (z : Lease). z.count) e) ∙ ap (λ b. cond b c x.count) (ne_eqb x.slot k miss))),
    ))
    (λ (t : Has (recounted k c ls) l). let u = recounted_has k c ls l t in (u.0, inr u.1, u.2, u.3, u.4, u.5)) h

pub recounted_none : (k c : ℕ) (ls : List Lease) → ¬ Lends ls k → recounted k c ls ≡ ls
recounted_none k c [] h = refl
recounted_none k c (l ∷ ls) h = λ j. record l { count = ap (λ b. cond b c l.count) (ne_eqb l.slot k (λ e. h (inl e))) j } ∷ recounted_none k c ls (λ t. h (inr t)) j

-- the last lease is recounted, and no other is of its slot
pub recounted_last : (k c : ℕ) (ls : List Lease) (l : Lease) → l.slot ≡ k → ¬ Lends ls k → recounted k c (ls ++ l ∷ []) ≡ ls ++ record l { count = c } ∷ []
recounted_last k c [] l e free = λ j. record l { count = ap (λ b. cond b c l.count) (eq-eqb l.slot k e) j } ∷ []
recounted_last k c (x ∷ ls) l e free = λ j. record x { count = ap (λ b. cond b c x.count) (ne_eqb x.slot k (λ h. free (inl h))) j } ∷ recounted_last k c ls l e (λ t. free (inr t)) j

pub lends_or : (ls : List Lease) (k : ℕ) → Lends ls k ⊎ (¬ Lends ls k)
lends_or [] k = inr (λ h. h)
lends_or (l ∷ ls) k = dite (ℕ_discrete l.slot k) (λ e. inl (inl e)) (λ n. ⊎_elim (λ (t : Lends ls k). inl (inr t)) (λ (u : ¬ Lends ls k). inr (λ h. ⊎_elim n u h)) (lends_or ls k))

-- one lease of a slot
pub same_lease : (ls : List Lease) (a b : Lease) → Apart ls → Has ls a → Has ls b → a.slot ≡ b.slot → a ≡ b
same_lease [] a b once ha hb e = absurd ha
same_lease (l ∷ ls) a b once ha hb e = ⊎_elim
    (λ (x : l ≡ a). ⊎_elim (λ (y : l ≡ b). sym x ∙ y) (λ (y : Has ls b). absurd (once.0 (subst (Lends ls) (sym e ∙ sym (ap (λ (v : Lease). v.slot) x)) (lends_has ls b y)))) hb)
    (λ (x : Has ls a). ⊎_elim (λ (y : l ≡ b). absurd (once.0 (subst (Lends ls) (e ∙ sym (ap (λ (v : Lease). v.slot) y)) (lends_has ls a x)))) (λ (y : Has ls b). same_lease ls a b once.1 x y e) hb) ha

-- a lease behind the others
pub end_lends : (ls : List Lease) (l : Lease) (k : ℕ) → Lends ls k ⊎ (l.slot ≡ k) → Lends (ls ++ l ∷ []) k
end_lends [] l k h = ⊎_elim (λ (t : ⊥). absurd t) (λ (e : l.slot ≡ k). inl e) h
end_lends (x ∷ ls) l k h = ⊎_elim
    (λ (t : (x.slot ≡ k) ⊎ Lends ls k). ⊎_elim (λ (e : x.slot ≡ k). inl e) (λ (u : Lends ls k). inr (end_lends ls l k (inl u))) t)
    (λ (e : l.slot ≡ k). inr (end_lends ls l k (inr e))) h

pub lends_end : (ls : List Lease) (l : Lease) (k : ℕ) → Lends (ls ++ l ∷ []) k → Lends ls k ⊎ (l.slot ≡ k)
lends_end [] l k h = ⊎_elim (λ (e : l.slot ≡ k). inr e) (λ (t : ⊥). absurd t) h
lends_end (x ∷ ls) l k h = ⊎_elim (λ (e : x.slot ≡ k). inl (inl e))
    (λ (t : Lends (ls ++ l ∷ []) k). ⊎_elim (λ (u : Lends ls k). inl (inr u)) (λ (e : l.slot ≡ k). inr e) (lends_end ls l k t)) h

pub apart_end : (ls : List Lease) (l : Lease) → Apart ls → ¬ Lends ls l.slot → Apart (ls ++ l ∷ [])
apart_end [] l once free = ((λ t. t), tt)
apart_end (x ∷ ls) l once free = ((λ t. ⊎_elim (λ (u : Lends ls x.slot). once.0 u) (λ (e : l.slot ≡ x.slot). free (inl (sym e))) (lends_end ls l x.slot t)), apart_end ls l once.1 (λ t. free (inr t)))

pub end_apart : (ls : List Lease) (l : Lease) → Apart (ls ++ l ∷ []) → Apart ls × ¬ Lends ls l.slot
end_apart [] l once = (tt, λ t. t)
end_apart (x ∷ ls) l once = let t = end_apart ls l once.1 in (((λ u. once.0 (end_lends ls l x.slot (inl u))), t.0), λ u. ⊎_elim (λ (e : x.slot ≡ l.slot). once.0 (end_lends ls l x.slot (inr (sym e)))) t.1 u)

pub has_before : (ls : List Lease) (l x : Lease) → Has ls x → Has (ls ++ l ∷ []) x
has_before [] l x h = absurd h
has_before (y ∷ ls) l x h = ⊎_elim (λ (e : y ≡ x). inl e) (λ (t : Has ls x). inr (has_before ls l x t)) h

pub has_last : (ls : List Lease) (l : Lease) → Has (ls ++ l ∷ []) l
has_last [] l = inl refl
has_last (y ∷ ls) l = inr (has_last ls l)

-- the lease l goes, and all else stays
pub record Returns (before : List Lease) (l : Lease) (after : List Lease) : Type 0 where
  pub had : Has before l
  pub few : (x : Lease) → Has after x → Has before x
  pub others : (k : ℕ) → k ≢ l.slot → Lends before k → Lends after k
  pub gone : ¬ Lends after l.slot
  pub once : Apart after

pub returns_first : (before : List Lease) (l : Lease) (ls : List Lease) → before ≡ l ∷ ls → Apart before → Returns before l ls
returns_first before l ls is once = let apart = subst Apart is once in record {
  had = subst (λ z. Has z l) (sym is) (inl refl);
  few = λ x h. subst (λ z. Has z x) (sym is) (inr h);
  others = λ k other h. ⊎_elim (λ (e : l.slot ≡ k). absurd (other (sym e))) (λ (t : Lends ls k). t) (subst (λ z. Lends z k) is h);
  gone = apart.0;
  once = apart.1;
}

pub returns_last : (before : List Lease) (l : Lease) (ls : List Lease) → before ≡ ls ++ l ∷ [] → Apart before → Returns before l ls
returns_last before l ls is once = let apart = end_apart ls l (subst Apart is once) in record {
  had = subst (λ z. Has z l) (sym is) (has_last ls l);
  few = λ x h. subst (λ z. Has z x) (sym is) (has_before ls l x h);
  others = λ k other h. ⊎_elim (λ (t : Lends ls k). t) (λ (e : l.slot ≡ k). absurd (other (sym e))) (lends_end ls l k (subst (λ z. Lends z k) is h));
  gone = apart.1;
  once = apart.0;
}
