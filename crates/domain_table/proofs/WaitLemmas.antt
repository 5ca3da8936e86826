-- what waits in the bags of a participant, as four lists: turned, with more in the current bag, and without what has waited the longest
use Rattle.std.proofs.Common.{◌≡◌, ◌≢◌, ◌==◌, ◌&&◌, cond, true, false, ℕ, suc, ◌+◌, ◌<◌, List, [], ◌∷◌, ◌++◌, length, append_assoc, Option, None, Some, IfSome, sym, refl, ap, ◌∙◌, subst, ⊎_elim, inl, inr, arith, eqb-true, eq-eqb, ne_eqb, lt-ltb, length-append}
use Rattle.sdd_steps.specs.State.{Has}
use Rattle.sdd_homes.specs.declared.Garbage.{Garbage}
use Rattle.domain_table.specs.Views.{older_waits}
use Rattle.domain_table.specs.Contents.{garbage_slots}
use Rattle.domain_table.specs.Leases.{all_below}
use Rattle.domain_table.specs.Chains.{oldest_slot, is_threaded, AllBelow}
use Rattle.domain_table.specs.Plays.{taken_all}
use Rattle.domain_table.specs.Bags.{ends_of, IsBag, aged, AreAlike, without_next}
use Rattle.domain_table.specs.Ledgers.{WaitsIn}
use Rattle.domain_table.specs.declared.bags.Ends.{Ends}
use Rattle.domain_table.specs.declared.bags.Bags.{Bags}
use Rattle.domain_table.proofs.BagLemmas.{none_in, has_left, has_right}
use Rattle.domain_table.proofs.Rows.{is_below}

abbrev pub AllAged : ℕ → List Garbage → Type 0
AllAged a [] = Unit {0}
AllAged a (w ∷ ws) = (w.age ≡ a) × AllAged a ws

-- the bags have these four lists, each of one age
pub record Lists (n : ℕ) (ws : List Garbage) (b : Bags) : Type 0 where
  pub cs : List Garbage
  pub ps : List Garbage
  pub ns : List Garbage
  pub ds : List Garbage
  pub are : ws ≡ cs ++ (ps ++ (ns ++ ds))
  pub below : AllBelow n ws
  pub current : IsBag cs b.current
  pub previous : IsBag ps b.previous
  pub next : IsBag ns b.next
  pub due : IsBag ds b.due
  pub new : AllAged 0 cs
  pub once : AllAged 1 ps
  pub twice : AllAged 2 ns
  pub thrice : AllAged 3 ds

pub no_more : (xs : List Garbage) → xs ++ [] ≡ xs
no_more [] = refl
no_more (x ∷ xs) = ap (λ zs. x ∷ zs) (no_more xs)

all_aged : (a : ℕ) (ws : List Garbage) → AllAged a (aged a ws)
all_aged a [] = tt
all_aged a (w ∷ ws) = (elim (w.age == a) as (λ b. w.age == a ≡ b → AllAged a (cond b (w ∷ aged a ws) (aged a ws))) [
  | true ↦ λ e. (eqb-true w.age a e, all_aged a ws)
  | false ↦ λ _. all_aged a ws
]) refl

aged_both : (a : ℕ) (xs ys : List Garbage) → aged a (xs ++ ys) ≡ aged a xs ++ aged a ys
aged_both a [] ys = refl
aged_both a (x ∷ xs) ys = elim (x.age == a) as (λ b. cond b (x ∷ aged a (xs ++ ys)) (aged a (xs ++ ys)) ≡ cond b (x ∷ aged a xs) (aged a xs) ++ aged a ys) [
  | true ↦ ap (λ zs. x ∷ zs) (aged_both a xs ys)
  | false ↦ aged_both a xs ys
]

aged_same : (a : ℕ) (xs : List Garbage) → AllAged a xs → aged a xs ≡ xs
aged_same a [] h = refl
aged_same a (x ∷ xs) h = ap (λ b. cond b (x ∷ aged a xs) (aged a xs)) (eq-eqb x.age a h.0) ∙ ap (λ zs. x ∷ zs) (aged_same a xs h.1)

aged_none : (a b : ℕ) (xs : List Garbage) → b ≢ a → AllAged b xs → aged a xs ≡ []
aged_none a b [] ne h = refl
aged_none a b (x ∷ xs) ne h = ap (λ c. cond c (x ∷ aged a xs) (aged a xs)) (ne_eqb x.age a (λ e. ne (sym h.0 ∙ e))) ∙ aged_none a b xs ne h.1

slot_in : (ws : List Garbage) (w : Garbage) → Has ws w → Has (garbage_slots ws) w.slot
slot_in [] w h = absurd h
slot_in (x ∷ ws) w h = ⊎_elim (λ (e : x ≡ w). inl (ap (λ (z : Garbage). z.slot) e)) (λ (t : Has ws w). inr (slot_in ws w t)) h

pub below_told : (n : ℕ) (ws : List Garbage) → all_below n (garbage_slots ws) ≡ true → AllBelow n ws
below_told n ws e w h = is_below n (garbage_slots ws) w.slot e (slot_in ws w h)

pub told_below : (n : ℕ) (ws : List Garbage) → AllBelow n ws → all_below n (garbage_slots ws) ≡ true
told_below n [] h = refl
told_below n (x ∷ ws) h = ap (λ b. b && all_below n (garbage_slots ws)) (lt-ltb x.slot n (h x (inl refl))) ∙ told_below n ws (λ w t. h w (inr t))

pub lists_of : (n : ℕ) (ws : List Garbage) (b : Bags) → WaitsIn n ws b → Lists n ws b
lists_of n ws b w = record {
  cs = aged 0 ws;
  ps = aged 1 ws;
  ns = aged 2 ws;
  ds = aged 3 ws;
  are = sym w.0;
  below = below_told n ws w.1;
  current = w.2;
  previous = w.3;
  next = w.4;
  due = w.5;
  new = all_aged 0 ws;
  once = all_aged 1 ws;
  twice = all_aged 2 ws;
  thrice = all_aged 3 ws;
}

module _ {n : ℕ} {ws : List Garbage} {b : Bags} (l : Lists n ws b) where
  abbrev four : ℕ → List Garbage
  four a = aged a l.cs ++ (aged a l.ps ++ (aged a l.ns ++ aged a l.ds))

  all_four : (a : ℕ) → aged a ws ≡ four a
  all_four a = ap (aged a) l.are ∙ (aged_both a l.cs (l.ps ++ (l.ns ++ l.ds)) ∙ ap (λ zs. aged a l.cs ++ zs) (aged_both a l.ps (l.ns ++ l.ds) ∙ ap (λ zs. aged a l.ps ++ zs) (aged_both a l.ns l.ds)))

  pub are_new : aged 0 ws ≡ l.cs
  are_new = all_four 0 ∙ ((λ j. aged_same 0 l.cs l.new j ++ (aged_none 0 1 l.ps (λ e. omega arith) l.once j ++ (aged_none 0 2 l.ns (λ e. omega arith) l.twice j ++ aged_none 0 3 l.ds (λ e. omega arith) l.thrice j))) ∙ no_more l.cs)

  pub are_once : aged 1 ws ≡ l.ps
  are_once = all_four 1 ∙ ((λ j. aged_none 1 0 l.cs (λ e. omega arith) l.new j ++ (aged_same 1 l.ps l.once j ++ (aged_none 1 2 l.ns (λ e. omega arith) l.twice j ++ aged_none 1 3 l.ds (λ e. omega arith) l.thrice j))) ∙ no_more l.ps)

  pub are_twice : aged 2 ws ≡ l.ns
  are_twice = all_four 2 ∙ ((λ j. aged_none 2 0 l.cs (λ e. omega arith) l.new j ++ (aged_none 2 1 l.ps (λ e. omega arith) l.once j ++ (aged_same 2 l.ns l.twice j ++ aged_none 2 3 l.ds (λ e. omega arith) l.thrice j))) ∙ no_more l.ns)

  pub are_thrice : aged 3 ws ≡ l.ds
  are_thrice = all_four 3 ∙ (λ j. aged_none 3 0 l.cs (λ e. omega arith) l.new j ++ (aged_none 3 1 l.ps (λ e. omega arith) l.once j ++ (aged_none 3 2 l.ns (λ e. omega arith) l.twice j ++ aged_same 3 l.ds l.thrice j)))

  pub waits_of : WaitsIn n ws b
  waits_of = (
    (λ j. are_new j ++ (are_once j ++ (are_twice j ++ are_thrice j))) ∙ sym l.are,
    told_below n ws l.below,
    subst (λ zs. IsBag zs b.current) (sym are_new) l.current,
    subst (λ zs. IsBag zs b.previous) (sym are_once) l.previous,
    subst (λ zs. IsBag zs b.next) (sym are_twice) l.next,
    subst (λ zs. IsBag zs b.due) (sym are_thrice) l.due,
  )

older_both : (xs ys : List Garbage) → older_waits (xs ++ ys) ≡ older_waits xs ++ older_waits ys
older_both [] ys = refl
older_both (x ∷ xs) ys = ap (λ zs. record x { age = x.age + 1 } ∷ zs) (older_both xs ys)

oldest_older : (ws : List Garbage) → oldest_slot (older_waits ws) ≡ oldest_slot ws
oldest_older [] = refl
oldest_older (w ∷ []) = refl
oldest_older (w ∷ v ∷ ws) = oldest_older (v ∷ ws)

threads_older : (ws : List Garbage) → is_threaded (older_waits ws) ≡ is_threaded ws
threads_older [] = refl
threads_older (w ∷ []) = refl
threads_older (w ∷ v ∷ ws) = ap (λ b. (v.next == suc w.slot) && b) (threads_older (v ∷ ws))

ends_older : (ws : List Garbage) → ends_of (older_waits ws) ≡ ends_of ws
ends_older [] = refl
ends_older (w ∷ ws) = λ j. Some (record { first = oldest_older (w ∷ ws) j; last = w.slot })

bag_older : (ws : List Garbage) (o : Option Ends) → IsBag ws o → IsBag (older_waits ws) o
bag_older ws o b = (b.0 ∙ sym (ends_older ws), threads_older ws ∙ b.1)

aged_older : (a : ℕ) (ws : List Garbage) → AllAged a ws → AllAged (a + 1) (older_waits ws)
aged_older a [] h = tt
aged_older a (w ∷ ws) h = (ap (λ z. z + 1) h.0, aged_older a ws h.1)

below_older : (n : ℕ) (ws : List Garbage) → AllBelow n ws → AllBelow n (older_waits ws)
below_older n [] h w t = absurd t
below_older n (x ∷ ws) h w t = ⊎_elim (λ (e : record x { age = x.age + 1 } ≡ w). subst (λ (z : Garbage). z.slot < n) e (h x (inl refl))) (λ (k : Has (older_waits ws) w). below_older n ws (λ v v_in. h v (inr v_in)) w k) t

abbrev pub turned : Bags → Bags
turned b = record { current = None; previous = b.current; next = b.previous; due = b.next }

pub rotates : (b : Bags) → b.due ≡ None → (n : ℕ) (ws : List Garbage) → WaitsIn n ws b → WaitsIn n (older_waits ws) (turned b)
rotates b none n ws w = let l = lists_of n ws b w in let nil : l.ds ≡ [] = none_in l.ds b.due none l.due in waits_of {n = n} {ws = older_waits ws} {b = turned b} (record {
  cs = [];
  ps = older_waits l.cs;
  ns = older_waits l.ps;
  ds = older_waits l.ns;
  are = ap older_waits (l.are ∙ ap (λ zs. l.cs ++ (l.ps ++ zs)) (ap (λ zs. l.ns ++ zs) nil ∙ no_more l.ns)) ∙ (older_both l.cs (l.ps ++ l.ns) ∙ ap (λ zs. older_waits l.cs ++ zs) (older_both l.ps l.ns));
  below = below_older n ws l.below;
  current = (refl, refl);
  previous = bag_older l.cs b.current l.current;
  next = bag_older l.ps b.previous l.previous;
  due = bag_older l.ns b.next l.next;
  new = tt;
  once = aged_older 0 l.cs l.new;
  twice = aged_older 1 l.ps l.once;
  thrice = aged_older 2 l.ns l.twice;
})

pub aged_alike : (a : ℕ) (xs ys : List Garbage) → AreAlike xs ys → AllAged a xs → AllAged a ys
aged_alike a [] [] e h = tt
aged_alike a [] (y ∷ ys) e h = absurd (cc)
aged_alike a (x ∷ xs) [] e h = absurd (cc)
aged_alike a (x ∷ xs) (y ∷ ys) e h = let heads : without_next y ≡ without_next x = cc in let tails : AreAlike xs ys = cc in (ap (λ (t : ℕ × ℕ × ℕ × ℕ). t.3) heads ∙ h.0, aged_alike a xs ys tails h.1)

pub below_alike : (n : ℕ) (xs ys : List Garbage) → AreAlike xs ys → AllBelow n xs → AllBelow n ys
below_alike n [] [] e h = h
below_alike n [] (y ∷ ys) e h = absurd (cc)
below_alike n (x ∷ xs) [] e h = absurd (cc)
below_alike n (x ∷ xs) (y ∷ ys) e h = let heads : without_next y ≡ without_next x = cc in let tails : AreAlike xs ys = cc in λ w t. ⊎_elim (λ (same : y ≡ w). subst (λ (z : Garbage). z.slot < n) same (subst (λ k. k < n) (sym (ap (λ (t : ℕ × ℕ × ℕ × ℕ). t.1) heads)) (h x (inl refl)))) (λ (k : Has ys w). below_alike n xs ys tails (λ v v_in. h v (inr v_in)) w k) t

pub long_alike : (xs ys : List Garbage) → AreAlike xs ys → length ys ≡ length xs
long_alike [] [] e = refl
long_alike [] (y ∷ ys) e = absurd (cc)
long_alike (x ∷ xs) [] e = absurd (cc)
long_alike (x ∷ xs) (y ∷ ys) e = let tails : AreAlike xs ys = cc in ap suc (long_alike xs ys tails)

pub below_parts : (n : ℕ) (xs ys : List Garbage) → AllBelow n xs → AllBelow n ys → AllBelow n (xs ++ ys)
below_parts n [] ys hx hy = hy
below_parts n (x ∷ xs) ys hx hy = λ w t. ⊎_elim (λ (e : x ≡ w). hx w (inl e)) (λ (k : Has (xs ++ ys) w). below_parts n xs ys (λ v v_in. hx v (inr v_in)) hy w k) t

aged_parts : (a : ℕ) (xs ys : List Garbage) → AllAged a xs → AllAged a ys → AllAged a (xs ++ ys)
aged_parts a [] ys hx hy = hy
aged_parts a (x ∷ xs) ys hx hy = (hx.0, aged_parts a xs ys hx.1 hy)

-- more is in the current bag, in front of what was there
module _ (n : ℕ) (b : Bags) (fs ws cs' : List Garbage) (o : Option Ends) (l : Lists n ws b) (new : AllAged 0 fs) (low : AllBelow n fs) (alike : AreAlike l.cs cs') (bag : IsBag (fs ++ cs') o) where
  abbrev rest : List Garbage
  rest = l.ps ++ (l.ns ++ l.ds)

  abbrev pub vs : List Garbage
  vs = fs ++ (cs' ++ rest)

  low_all : AllBelow n vs
  low_all = let all = subst (AllBelow n) l.are l.below in below_parts n fs (cs' ++ rest) low (below_parts n cs' rest (below_alike n l.cs cs' alike (λ w h. all w (has_left l.cs rest w h))) (λ w h. all w (has_right l.cs rest w h)))

  more_lists : Lists n vs (record b { current = o })
  more_lists = record {
    cs = fs ++ cs';
    ps = l.ps;
    ns = l.ns;
    ds = l.ds;
    are = sym (append_assoc fs cs' rest);
    below = low_all;
    current = bag;
    previous = l.previous;
    next = l.next;
    due = l.due;
    new = aged_parts 0 fs cs' new (aged_alike 0 l.cs cs' alike l.new);
    once = l.once;
    twice = l.twice;
    thrice = l.thrice;
  }

  pub more_wait : WaitsIn n vs (record b { current = o })
  more_wait = waits_of more_lists

  pub as_long : length vs ≡ length (fs ++ ws)
  as_long = let a = length-append fs (cs' ++ rest) in let c = length-append cs' rest in let d = length-append fs ws in let e = ap length l.are ∙ length-append l.cs rest in let f = long_alike l.cs cs' alike in omega arith

  pub as_due : aged 3 vs ≡ aged 3 (fs ++ ws)
  unfolding more_lists
  as_due = are_thrice more_lists ∙ (sym (are_thrice l) ∙ sym (aged_both 3 fs ws ∙ ap (λ zs. zs ++ aged 3 ws) (aged_none 3 0 fs (λ e. omega arith) new)))

-- what is taken over is in front
pub taken_front : (ts ws : List Garbage) → taken_all ts ws ≡ taken_all ts [] ++ ws
taken_front [] ws = refl
taken_front (t ∷ ts) ws = ap (λ zs. record t { age = 0 } ∷ zs) (taken_front ts ws)

pub taken_new : (ts : List Garbage) → AllAged 0 (taken_all ts [])
taken_new [] = tt
taken_new (t ∷ ts) = (refl, taken_new ts)

pub taken_below : (n : ℕ) (ts : List Garbage) → AllBelow n ts → AllBelow n (taken_all ts [])
taken_below n [] h = h
taken_below n (t ∷ ts) h = λ w k. ⊎_elim (λ (e : record t { age = 0 } ≡ w). subst (λ (z : Garbage). z.slot < n) e (h t (inl refl))) (λ (m : Has (taken_all ts []) w). taken_below n ts (λ v v_in. h v (inr v_in)) w m) k

taken_oldest : (ts : List Garbage) → oldest_slot (taken_all ts []) ≡ oldest_slot ts
taken_oldest [] = refl
taken_oldest (t ∷ []) = refl
taken_oldest (t ∷ u ∷ ts) = taken_oldest (u ∷ ts)

taken_threads : (ts : List Garbage) → is_threaded (taken_all ts []) ≡ is_threaded ts
taken_threads [] = refl
taken_threads (t ∷ []) = refl
taken_threads (t ∷ u ∷ ts) = ap (λ b. (u.next == suc t.slot) && b) (taken_threads (u ∷ ts))

taken_ends : (ts : List Garbage) → ends_of (taken_all ts []) ≡ ends_of ts
taken_ends [] = refl
taken_ends (t ∷ ts) = λ j. Some (record { first = taken_oldest (t ∷ ts) j; last = t.slot })

pub taken_bag : (ts : List Garbage) (o : Option Ends) → IsBag ts o → IsBag (taken_all ts []) o
taken_bag ts o b = (b.0 ∙ sym (taken_ends ts), taken_threads ts ∙ b.1)

aged_front : (a : ℕ) (xs : List Garbage) (w : Garbage) → AllAged a (xs ++ w ∷ []) → AllAged a xs × (w.age ≡ a)
aged_front a [] w h = (tt, h.0)
aged_front a (x ∷ xs) w h = let t = aged_front a xs w h.1 in ((h.0, t.0), t.1)

-- what is due is behind all else
pub due_behind : (n : ℕ) (b : Bags) (ws : List Garbage) (t : Lists n ws b) → ws ≡ (t.cs ++ (t.ps ++ t.ns)) ++ t.ds
due_behind n b ws t = t.are ∙ sym (append_assoc t.cs (t.ps ++ t.ns) t.ds ∙ ap (λ zs. t.cs ++ zs) (append_assoc t.ps t.ns t.ds))

-- the longest is out of what is due
takes_due : (n : ℕ) (b : Bags) (ws es : List Garbage) (w : Garbage) (o : Option Ends) (t : Lists n ws b) → t.ds ≡ es ++ w ∷ [] → IsBag es o → (vs : List Garbage) × (ws ≡ vs ++ w ∷ []) × (w.age ≡ 3) × WaitsIn n vs (record b { due = o })
takes_due n b ws es w o t is bag = let old = aged_front 3 es w (subst (AllAged 3) is t.thrice) in let front : List Garbage = t.cs ++ (t.ps ++ (t.ns ++ es)) in
    let whole : ws ≡ front ++ w ∷ [] = t.are ∙ (ap (λ zs. t.cs ++ (t.ps ++ (t.ns ++ zs))) is ∙ sym (append_assoc t.cs (t.ps ++ (t.ns ++ es)) (w ∷ []) ∙ ap (λ zs. t.cs ++ zs) (append_assoc t.ps (t.ns ++ es) (w ∷ []) ∙ ap (λ zs. t.ps ++ zs) (append_assoc t.ns es (w ∷ []))))) in
    let low = subst (AllBelow n) whole t.below in (
      front,
      whole,
      old.1,
      waits_of {n = n} {ws = front} {b = record b { due = o }} (record {
        cs = t.cs;
        ps = t.ps;
        ns = t.ns;
        ds = es;
        are = refl;
        below = λ v h. low v (has_left front (w ∷ []) v h);
        current = t.current;
        previous = t.previous;
        next = t.next;
        due = bag;
        new = t.new;
        once = t.once;
        twice = t.twice;
        thrice = old.0;
      }),
    )

pub due_taken : (n : ℕ) (b : Bags) (ws : List Garbage) (o : Option Ends) (t : Lists n ws b) (x : Option ℕ) → IfSome x (λ slot. (ps cs : List Garbage) → ws ≡ ps ++ cs → IsBag cs b.due → (ds : List Garbage) × (w : Garbage) × (cs ≡ ds ++ w ∷ []) × (w.slot ≡ slot) × IsBag ds o)
    → IfSome x (λ slot. (vs : List Garbage) × (w : Garbage) × (ws ≡ vs ++ w ∷ []) × (w.slot ≡ slot) × (w.age ≡ 3) × WaitsIn n vs (record b { due = o }))
due_taken n b ws o t None = λ f. tt
due_taken n b ws o t (Some k) = λ f. let r = f (t.cs ++ (t.ps ++ t.ns)) t.ds (due_behind n b ws t) t.due in let u = takes_due n b ws r.0 r.1 o t r.2 r.4 in (u.0, r.1, u.1, r.3, u.2, u.3)

-- one less is due
pub due_less : (vs : List Garbage) (w : Garbage) → w.age ≡ 3 → length (aged 3 (vs ++ w ∷ [])) ≡ length (aged 3 vs) + 1
due_less vs w old = let a = ap length (aged_both 3 vs (w ∷ [])) in let b = length-append (aged 3 vs) (aged 3 (w ∷ [])) in let c = ap length (aged_same 3 (w ∷ []) (old, tt)) in omega arith

-- an item alone is a bag
pub alone : (w : Garbage) (k : ℕ) → w.slot ≡ k → IsBag (w ∷ []) (Some (record { first = k; last = k }))
alone w k at = ((λ j. Some (record { first = sym at j; last = sym at j })), refl)

pub below_one : (n : ℕ) (w : Garbage) → w.slot < n → AllBelow n (w ∷ [])
below_one n w low = λ v h. ⊎_elim (λ (e : w ≡ v). subst (λ (z : Garbage). z.slot < n) e low) (λ (t : Has [] v). absurd t) h

-- what was just retired isn't due
pub young_is_not_due : (w : Garbage) (ws : List Garbage) → w.age ≡ 0 → aged 3 (w ∷ ws) ≡ aged 3 ws
young_is_not_due w ws young = ap (λ b. cond b (w ∷ aged 3 ws) (aged 3 ws)) (ne_eqb w.age 3 (λ e. omega arith))
