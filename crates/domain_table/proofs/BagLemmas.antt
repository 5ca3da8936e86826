-- a bag as its ends: two that are joined, and one from which the first is taken
use Rattle.std.proofs.Common.{◌≡◌, ◌≢◌, ◌&&◌, Bool, true, false, ℕ, suc, List, [], ◌∷◌, ◌++◌, ◌-◌, ◌≤◌, append_assoc, Option, None, Some, sym, refl, ap, ◌∙◌, subst, ⊎_elim, inl, inr, arith, eq-eqb, eqb-true}
use Rattle.sdd_steps.specs.State.{Has}
use Rattle.sdd_homes.specs.declared.Garbage.{Garbage}
use Rattle.domain_table.specs.Chains.{oldest_slot, is_threaded}
use Rattle.domain_table.specs.Plays.{SlotsApart}
use Rattle.domain_table.specs.Bags.{ends_of, IsBag, AreAlike}
use Rattle.domain_table.specs.declared.bags.Ends.{Ends}

pub and_left : (a b : Bool) → a && b ≡ true → a ≡ true
and_left true b e = refl
and_left false b e = absurd (cc)

pub and_right : (a b : Bool) → a && b ≡ true → b ≡ true
and_right true b e = e
and_right false b e = absurd (cc)

pub and_both : (a b : Bool) → a ≡ true → b ≡ true → a && b ≡ true
and_both true b e f = f
and_both false b e f = absurd (cc)

-- the link word of each but the newest names what came next
abbrev pub Threaded : List Garbage → Type 0
Threaded [] = Unit {0}
Threaded (w ∷ []) = Unit {0}
Threaded (w ∷ v ∷ ws) = (v.next ≡ suc w.slot) × Threaded (v ∷ ws)

pub threads : (ws : List Garbage) → is_threaded ws ≡ true → Threaded ws
threads [] t = tt
threads (w ∷ []) t = tt
threads (w ∷ v ∷ ws) t = (eqb-true v.next (suc w.slot) (and_left _ _ t), threads (v ∷ ws) (and_right _ _ t))

pub are_threaded : (ws : List Garbage) → Threaded ws → is_threaded ws ≡ true
are_threaded [] t = refl
are_threaded (w ∷ []) t = refl
are_threaded (w ∷ v ∷ ws) t = and_both _ _ (eq-eqb v.next (suc w.slot) t.0) (are_threaded (v ∷ ws) t.1)

-- what a bag has that isn't empty
pub newest : (cs : List Garbage) (o : Option Ends) (e : Ends) → o ≡ Some e → IsBag cs o → (v : Garbage) × (vs : List Garbage) × (cs ≡ v ∷ vs) × (e.last ≡ v.slot) × (e.first ≡ oldest_slot (v ∷ vs)) × Threaded (v ∷ vs)
newest [] o e is b = let bad : None ≡ Some e = sym b.0 ∙ is in absurd (cc)
newest (v ∷ vs) o e is b = let same : Some e ≡ Some (record { first = oldest_slot (v ∷ vs); last = v.slot }) = sym is ∙ b.0 in let ends : e ≡ record { first = oldest_slot (v ∷ vs); last = v.slot } = cc in (v, vs, refl, ap (λ (x : Ends). x.last) ends, ap (λ (x : Ends). x.first) ends, threads (v ∷ vs) b.1)

pub none_in : (ds : List Garbage) (o : Option Ends) → o ≡ None → IsBag ds o → ds ≡ []
none_in [] o e b = refl
none_in (w ∷ ws) o e b = let bad : None ≡ Some (record { first = oldest_slot (w ∷ ws); last = w.slot }) = sym e ∙ b.0 in absurd (cc)

same_oldest : (v : Garbage) (n : ℕ) (vs : List Garbage) → oldest_slot (record v { next = n } ∷ vs) ≡ oldest_slot (v ∷ vs)
same_oldest v n [] = refl
same_oldest v n (z ∷ zs) = refl

same_threads : (v : Garbage) (n : ℕ) (vs : List Garbage) → Threaded (v ∷ vs) → Threaded (record v { next = n } ∷ vs)
same_threads v n [] t = tt
same_threads v n (z ∷ zs) t = t

-- what isn't empty has an oldest one
pub record Oldest (f : Garbage) (fs : List Garbage) : Type 0 where
  pub others : List Garbage
  pub oldest : Garbage
  pub are : f ∷ fs ≡ others ++ oldest ∷ []
  pub slot : oldest.slot ≡ oldest_slot (f ∷ fs)

pub oldest_of : (f : Garbage) (fs : List Garbage) → Oldest f fs
oldest_of f [] = record { others = []; oldest = f; are = refl; slot = refl }
oldest_of f (g ∷ fs) = let o = oldest_of g fs in record { others = f ∷ o.others; oldest = o.oldest; are = ap (λ zs. f ∷ zs) o.are; slot = o.slot }

-- the newest of the older ones is linked to the oldest of the newer ones
both_threaded : (fs : List Garbage) (o c : Garbage) (cs : List Garbage) → Threaded (fs ++ o ∷ []) → c.next ≡ suc o.slot → Threaded (c ∷ cs) → Threaded ((fs ++ o ∷ []) ++ c ∷ cs)
both_threaded [] o c cs t n u = (n, u)
both_threaded (f ∷ []) o c cs t n u = (t.0, (n, u))
both_threaded (f ∷ g ∷ fs) o c cs t n u = (t.0, both_threaded (g ∷ fs) o c cs t.1 n u)

oldest_both : (fs : List Garbage) (c : Garbage) (cs : List Garbage) → oldest_slot (fs ++ c ∷ cs) ≡ oldest_slot (c ∷ cs)
oldest_both [] c cs = refl
oldest_both (f ∷ []) c cs = refl
oldest_both (f ∷ g ∷ fs) c cs = oldest_both (g ∷ fs) c cs

ends_both : (f : Garbage) (fs : List Garbage) (c : Garbage) (cs : List Garbage) → ends_of ((f ∷ fs) ++ c ∷ cs) ≡ Some (record { first = oldest_slot (c ∷ cs); last = f.slot })
ends_both f fs c cs = λ j. Some (record { first = oldest_both (f ∷ fs) c cs j; last = f.slot })

-- two bags are one
pub joins : (f : Garbage) (fs : List Garbage) (c : Garbage) (cs : List Garbage) (n : ℕ) (new old : Ends) → new.last ≡ f.slot → old.first ≡ oldest_slot (c ∷ cs) → Threaded (f ∷ fs) → Threaded (c ∷ cs) → n ≡ suc (oldest_slot (f ∷ fs))
    → IsBag ((f ∷ fs) ++ record c { next = n } ∷ cs) (Some (record { first = old.first; last = new.last }))
joins f fs c cs n new old last first tf tc is = let o = oldest_of f fs in let c' : Garbage = record c { next = n } in (
  (λ j. Some (record { first = (first ∙ sym (same_oldest c n cs)) j; last = last j })) ∙ sym (ends_both f fs c' cs),
  are_threaded ((f ∷ fs) ++ c' ∷ cs) (subst (λ (zs : List Garbage). Threaded (zs ++ c' ∷ cs)) (sym o.are) (both_threaded o.others o.oldest c' cs (subst Threaded o.are tf) (let a = o.slot in omega arith) (same_threads c n cs tc))),
)

-- where the link is, in what waits
pub at_link : (f : Garbage) (fs bs rest : List Garbage) (o : Oldest f fs) → (f ∷ fs) ++ (bs ++ rest) ≡ o.others ++ (o.oldest ∷ (bs ++ rest))
at_link f fs bs rest o = ap (λ (zs : List Garbage). zs ++ (bs ++ rest)) o.are ∙ append_assoc o.others (o.oldest ∷ []) (bs ++ rest)

pub alike_none : (bs : List Garbage) → AreAlike bs bs
alike_none bs = refl

-- the two that have been in a bag the longest
pub record Longest (w : Garbage) (ws : List Garbage) : Type 0 where
  pub others : List Garbage
  pub second : Garbage
  pub first : Garbage
  pub are : w ∷ ws ≡ (others ++ second ∷ []) ++ first ∷ []
  pub slot : first.slot ≡ oldest_slot (w ∷ ws)
  pub next : first.next ≡ suc second.slot
  pub ends : ends_of (others ++ second ∷ []) ≡ Some (record { first = second.slot; last = w.slot })
  pub chain : Threaded (others ++ second ∷ [])
  pub apart : first.slot ≢ w.slot
  pub there : Has (w ∷ ws) first

same_first : (x y : Ends) → Some x ≡ Some y → x.first ≡ y.first
same_first x y e = let s : x ≡ y = cc in ap (λ (z : Ends). z.first) s

pub longest : (w v : Garbage) (ws : List Garbage) → Threaded (w ∷ v ∷ ws) → SlotsApart (w ∷ v ∷ ws) → Longest w (v ∷ ws)
longest w v [] t a = record { others = []; second = w; first = v; are = refl; slot = refl; next = t.0; ends = refl; chain = tt; apart = a.0 v (inl refl); there = inr (inl refl) }
longest w v (z ∷ zs) t a = let l = longest v z zs t.1 a.1 in let p = put_first w v (z ∷ zs) l.others l.second l.first l.are t.0 l.ends l.chain in record {
  others = w ∷ l.others;
  second = l.second;
  first = l.first;
  are = ap (λ ys. w ∷ ys) l.are;
  slot = l.slot;
  next = l.next;
  ends = p.0;
  chain = p.1;
  apart = a.0 l.first l.there;
  there = inr l.there;
}
  where
    put_first : (w v : Garbage) (ws os : List Garbage) (s f : Garbage) → v ∷ ws ≡ (os ++ s ∷ []) ++ f ∷ [] → v.next ≡ suc w.slot → ends_of (os ++ s ∷ []) ≡ Some (record { first = s.slot; last = v.slot }) → Threaded (os ++ s ∷ [])
        → (ends_of (w ∷ (os ++ s ∷ [])) ≡ Some (record { first = s.slot; last = w.slot })) × Threaded (w ∷ (os ++ s ∷ []))
    put_first w v ws [] s f e n b c = let same : v ≡ s = cc in (refl, (ap (λ (x : Garbage). x.next) (sym same) ∙ n, tt))
    put_first w v ws (o ∷ os) s f e n b c = let same : v ≡ o = cc in let heads : oldest_slot (o ∷ (os ++ s ∷ [])) ≡ s.slot = same_first (record { first = oldest_slot (o ∷ (os ++ s ∷ [])); last = o.slot }) (record { first = s.slot; last = v.slot }) b in ((λ j. Some (record { first = heads j; last = w.slot })), (ap (λ (x : Garbage). x.next) (sym same) ∙ n, c))

pub has_right : (ps cs : List Garbage) (x : Garbage) → Has cs x → Has (ps ++ cs) x
has_right [] cs x h = h
has_right (p ∷ ps) cs x h = inr (has_right ps cs x h)

pub has_left : (ps cs : List Garbage) (x : Garbage) → Has ps x → Has (ps ++ cs) x
has_left [] cs x h = absurd h
has_left (p ∷ ps) cs x h = ⊎_elim (λ (e : p ≡ x). inl e) (λ (t : Has ps x). inr (has_left ps cs x t)) h

pub apart_right : (ps cs : List Garbage) → SlotsApart (ps ++ cs) → SlotsApart cs
apart_right [] cs a = a
apart_right (p ∷ ps) cs a = apart_right ps cs a.1

pub has_oldest : (v : Garbage) (vs : List Garbage) → (x : Garbage) × Has (v ∷ vs) x × (x.slot ≡ oldest_slot (v ∷ vs))
has_oldest v [] = (v, inl refl, refl)
has_oldest v (z ∷ zs) = let t = has_oldest z zs in (t.0, inr t.1, t.2)

abbrev pub Takes : List Garbage → ℕ → Option Ends → Type 0
Takes cs k o = (ds : List Garbage) × (w : Garbage) × (cs ≡ ds ++ w ∷ []) × (w.slot ≡ k) × IsBag ds o

pub takes : (cs : List Garbage) (o : Option Ends) (e : Ends) (found : ℕ) → o ≡ Some e → IsBag cs o → SlotsApart cs → ((w : Garbage) → Has cs w → w.slot ≡ e.first → w.next ≢ 0 → found ≡ w.next)
    → (e.first ≡ e.last → Takes cs e.first None) × (e.first ≢ e.last → (1 ≤ found) × Takes cs e.first (Some (record { first = found - 1; last = e.last })))
takes [] o e found is b a tell = let bad : None ≡ Some e = sym b.0 ∙ is in absurd (cc)
takes (v ∷ []) o e found is b a tell = let same : Some e ≡ Some (record { first = v.slot; last = v.slot }) = sym is ∙ b.0 in let ends : e ≡ record { first = v.slot; last = v.slot } = cc in
    ((λ _. ([], v, refl, ap (λ (x : Ends). x.first) (sym ends), (refl, refl))), λ ne. absurd (ne (ap (λ (x : Ends). x.first) ends ∙ sym (ap (λ (x : Ends). x.last) ends))))
takes (v ∷ z ∷ zs) o e found is b a tell = let same : Some e ≡ Some (record { first = oldest_slot (v ∷ z ∷ zs); last = v.slot }) = sym is ∙ b.0 in let ends : e ≡ record { first = oldest_slot (v ∷ z ∷ zs); last = v.slot } = cc in
    let l = longest v z zs (threads (v ∷ z ∷ zs) b.1) a in let at : l.first.slot ≡ e.first = l.slot ∙ ap (λ (x : Ends). x.first) (sym ends) in let lasts : e.last ≡ v.slot = ap (λ (x : Ends). x.last) ends in
    let told : found ≡ l.first.next = tell l.first l.there at (λ h. omega (arith, l.next)) in
    let number : l.second.slot ≡ found - 1 = omega (arith, l.next) in
    ((λ eq. absurd (l.apart (at ∙ (eq ∙ lasts)))), λ ne. (omega (arith, l.next), (l.others ++ l.second ∷ [], l.first, l.are, at, (sym (l.ends ∙ λ j. Some (record { first = number j; last = sym lasts j })), are_threaded (l.others ++ l.second ∷ []) l.chain))))
