-- the chains of all participants, while the bags of one change
use Rattle.std.proofs.Common.{◌≡◌, ◌≢◌, ℕ, zero, suc, ◌+◌, ◌-◌, ◌<◌, ◌≤◌, List, [], ◌∷◌, ◌++◌, length, map, reverse, get_or, set, replicate, take, drop, sym, refl, ap, ◌∙◌, subst, arith, length-set, cond, eq-eqb, ne_eqb, get_or-set_other, get_or-set_same, ltb, true, false, ◌==◌, ◌&&◌, ◌||◌, Bool}
use mathlib.Core.Logic.{dite}
use native.Mathlib.Decide.{ℕ_discrete}
use Rattle.std.specs.List.{sum_by, list_all}
use Rattle.std.proofs.lemmas.List.{map-set, get_or-map, length-map, reverse-append, reverse-reverse, take_at, drop_at, length-append, length-replicate}
use Rattle.std.proofs.lemmas.List.Sums.{sum_by-cons, sum_by_push, sum_by-set, get_or-le-sum_by}
use Rattle.std.proofs.lemmas.Bool.{ltb-true, ltb-false}
use Rattle.std.proofs.lemmas.Bool.Decides.{nat_tests}
use lib.Seq.{set-get_or}
use Rattle.sdd_table.specs.State.{ParticipantState, no_local, is_present, nobody, put_participant, bags_moved_on, left_due, recalled, with_local_state}
use Rattle.sdd_table.specs.Steps.{hit, times, is_nil, bags_empty}
use Rattle.sdd_table.specs.Place.{held_times}
use Rattle.sdd_plain.specs.declared.local_state.LocalState.{LocalState}
use Rattle.sdd_table.specs.Chains.{Shown, participant_in, changed_in, follow, Spells, IsChain, participant_of, AreChains, no_participant, shown_of, AreThreaded}
use Rattle.sdd_table.specs.declared.bags.Participant.{Participant}
use Rattle.sdd_table.specs.declared.bags.Participants.TheInside.{Inside}
use Rattle.std.specs.Vec.{with_item}
use Rattle.std.proofs.lemmas.List.{get_or_default}
use Rattle.sdd_table.proofs.ListLemmas.{map-replicate}
use Rattle.sdd_table.proofs.ChainLemmas.{follow_spelled, spells_set, spells_put, follow_set, follow_short, follow_none, chain_rest, fewer}

-- a participant once a place came into its current bag
abbrev pub put_in : Participant → ℕ → Participant
put_in q h = record q { local = record q.local { garbage = true }; current = h; newest = q.newest + 1 }

-- once its bags moved on
abbrev pub turn_on : Participant → Participant
turn_on q = record q { current = 0; prior = q.current; oldest = q.prior; due = q.oldest; newest = 0 }

-- once the newest place is due
abbrev pub recall_in : Participant → ℕ → ℕ → Participant
recall_in q h d = record q { current = h; due = d; newest = q.newest - 1 }

-- the invariant, of lists
pub record Threads (n : ℕ) (links : List ℕ) (hs : List Participant) : Type 0 where
  pub chains : (k : ℕ) → AreChains n links (get_or hs k no_participant)
  pub once : (j : ℕ) → sum_by (held_times j) (map (participant_of n links) hs) ≤ 1
  pub inside : (j : ℕ) → n ≤ j → sum_by (held_times j) (map (participant_of n links) hs) ≡ 0

pub times_reverse : (j : ℕ) (xs : List ℕ) → times j (reverse xs) ≡ times j xs
times_reverse j [] = refl
times_reverse j (x ∷ xs) = ap (times j) (reverse-append (x ∷ []) xs) ∙ omega (arith, sum_by_push (λ i. hit i j) (reverse xs) x, sum_by-cons (λ i. hit i j) x xs, times_reverse j xs)

nil_push : (ys : List ℕ) (x : ℕ) → is_nil (ys ++ x ∷ []) ≡ false
nil_push [] x = refl
nil_push (y ∷ ys) x = refl

-- a bag is empty where its head is 0, and there alone
pub nil_head : (links : List ℕ) (h : ℕ) (xs : List ℕ) → Spells links h xs → is_nil (reverse xs) ≡ (h == 0)
nil_head links h [] s = ap (λ (k : ℕ). k == 0) (sym s)
nil_head links h (x ∷ xs) s = let pushed : is_nil (reverse (x ∷ xs)) ≡ false = ap is_nil (reverse-append (x ∷ []) xs) ∙ nil_push (reverse xs) x in pushed ∙ sym (ne_eqb h 0 (λ e. omega (arith, s.0, e)))

-- two different ones are at most the sum
two_of : (f : ParticipantState → ℕ) (bs : List ParticipantState) (p k : ℕ) (d : ParticipantState) → k ≢ p → p < length bs → k < length bs → f (get_or bs p d) + f (get_or bs k d) ≤ sum_by f bs
two_of f [] p k d ne lp lk = absurd (omega arith)
two_of f (b ∷ bs) zero zero d ne lp lk = absurd (ne refl)
two_of f (b ∷ bs) zero (suc k) d ne lp lk = omega (arith, sum_by-cons f b bs, get_or-le-sum_by f bs k d (omega arith))
two_of f (b ∷ bs) (suc p) zero d ne lp lk = omega (arith, sum_by-cons f b bs, get_or-le-sum_by f bs p d (omega arith))
two_of f (b ∷ bs) (suc p) (suc k) d ne lp lk = omega (arith, sum_by-cons f b bs, two_of f bs p k d (λ e. ne (ap suc e)) (omega arith) (omega arith))

beyond : {X : Type 0} (xs : List X) (k : ℕ) (d : X) → length xs ≤ k → get_or xs k d ≡ d
beyond [] k d l = refl
beyond (x ∷ xs) zero d l = absurd (omega arith)
beyond (x ∷ xs) (suc k) d l = beyond xs k d (omega arith)

same_maps : {Y : Type 0} (f g : Participant → Y) (hs : List Participant) → ((k : ℕ) → k < length hs → f (get_or hs k no_participant) ≡ g (get_or hs k no_participant)) → map f hs ≡ map g hs
same_maps f g [] e = refl
same_maps f g (h ∷ hs) e = λ j. e 0 (omega arith) j ∷ same_maps f g hs (λ k l. e (suc k) (omega arith)) j

-- all but p, as if p had nothing
same_else : {Y : Type 0} (f g : Participant → Y) (hs : List Participant) (p : ℕ) (y : Y) → ((k : ℕ) → k ≢ p → k < length hs → f (get_or hs k no_participant) ≡ g (get_or hs k no_participant)) → set (map f hs) p y ≡ set (map g hs) p y
same_else f g [] p y e = refl
same_else f g (h ∷ hs) zero y e = ap (λ ys. y ∷ ys) (same_maps f g hs (λ k l. e (suc k) (λ z. omega arith) (omega arith)))
same_else f g (h ∷ hs) (suc p) y e = λ j. e 0 (λ z. omega arith) (omega arith) j ∷ same_else f g hs p y (λ k ne l. e (suc k) (λ z. ne (omega arith)) (omega arith)) j

module _ (n : ℕ) (links : List ℕ) (hs : List Participant) (t : Threads n links hs) where
  abbrev bags : List ParticipantState
  bags = map (participant_of n links) hs

  pub heads_at : (p : ℕ) → p < length hs → participant_in bags p ≡ participant_of n links (get_or hs p no_participant)
  heads_at p l = get_or-map (participant_of n links) hs p no_participant nobody l

  -- a link word is written of a place that is in no bag of others
  module _ (i v p : ℕ) (known : p < length hs) (q' : Participant) (m' : ParticipantState) (free : (k : ℕ) → k ≢ p → k < length hs → held_times i (participant_of n links (get_or hs k no_participant)) ≡ 0)
      (mine : AreChains n (set links i v) q') (is : participant_of n (set links i v) q' ≡ m') where
    abbrev links' : List ℕ
    links' = set links i v

    others : (k : ℕ) → k ≢ p → k < length hs → (participant_of n links' (get_or hs k no_participant) ≡ participant_of n links (get_or hs k no_participant)) × AreChains n links' (get_or hs k no_participant)
    others k ne l = let q = get_or hs k no_participant in let c = t.chains k in let none = free k ne l in
        let one : (h : ℕ) → IsChain n links h → times i (follow n links h) ≡ 0 → (follow n links' h ≡ follow n links h) × IsChain n links' h =
        (λ h chain away. let same = follow_set n links i v h away chain (follow_short n links h) in (same, subst (Spells links' h) (sym same) (spells_set links i v h (follow n links h) away chain))) in
        let rc = times_reverse i (follow n links q.current) in let rp = times_reverse i (follow n links q.prior) in let ro = times_reverse i (follow n links q.oldest) in
        let a = one q.current c.current (omega arith) in let b = one q.prior c.prior (omega arith) in let o = one q.oldest c.oldest (omega arith) in let d = one q.due c.due (omega arith) in
        ((λ j. record { local = q.local; current = reverse (a.0 j); prior = reverse (b.0 j); oldest = reverse (o.0 j); due = d.0 j }), record { current = a.1; prior = b.1; oldest = o.1; due = d.1; newest = c.newest ∙ ap length (sym a.0) })

    pub bags_now : map (participant_of n links') (set hs p q') ≡ set bags p m'
    bags_now = map-set (participant_of n links') hs p q' ∙ (ap (set (map (participant_of n links') hs) p) is ∙ same_else (participant_of n links') (participant_of n links) hs p m' (λ k ne l. (others k ne l).0))

    pub chains_now : (k : ℕ) → AreChains n links' (get_or (set hs p q') k no_participant)
    chains_now k = dite (ℕ_discrete k p)
        (λ e. subst (AreChains n links') (sym (ap (λ z. get_or (set hs p q') z no_participant) e ∙ get_or-set_same hs p q' no_participant known)) mine)
        (λ ne. subst (AreChains n links') (sym (get_or-set_other hs p k q' no_participant ne)) (dite_below k ne))
      where
        dite_below : (k : ℕ) → k ≢ p → AreChains n links' (get_or hs k no_participant)
        dite_below k ne = elim (ltb k (length hs)) as (λ b. ltb k (length hs) ≡ b → AreChains n links' (get_or hs k no_participant)) [
          | true ↦ λ e. (others k ne (omega (arith, ltb-true k (length hs) e))).1
          | false ↦ λ e. subst (AreChains n links') (sym (beyond hs k no_participant (omega (arith, ltb-false k (length hs) e)))) (record { current = nothing; prior = nothing; oldest = nothing; due = nothing; newest = ap length (sym (follow_none n links')) })
        ] refl
          where
            nothing : IsChain n links' 0
            nothing = subst (Spells links' 0) (sym (follow_none n links')) refl

    pub threads_now : ((j : ℕ) → held_times j m' + sum_by (held_times j) bags ≤ 1 + held_times j (participant_in bags p)) → ((j : ℕ) → n ≤ j → held_times j m' ≡ 0) → Threads n links' (set hs p q')
    threads_now few out = let len = length-map hs (participant_of n links) in let sums : (j : ℕ) → sum_by (held_times j) (set bags p m') + held_times j (participant_in bags p) ≡ sum_by (held_times j) bags + held_times j m' = (λ j. sum_by-set (held_times j) bags p m' nobody (omega arith)) in record {
      chains = chains_now;
      once = λ j. subst (λ (bs : List ParticipantState). sum_by (held_times j) bs ≤ 1) (sym bags_now) (omega (arith, sums j, few j));
      inside = λ j l. subst (λ (bs : List ParticipantState). sum_by (held_times j) bs ≡ 0) (sym bags_now) (omega (arith, sums j, out j l, t.inside j l));
    }

-- what a list has is had by all together
part_of : (n : ℕ) (links : List ℕ) (hs : List Participant) (p j : ℕ) → p < length hs → held_times j (participant_of n links (get_or hs p no_participant)) ≤ sum_by (held_times j) (map (participant_of n links) hs)
part_of n links hs p j l = let bags = map (participant_of n links) hs in let len = length-map hs (participant_of n links) in
    subst (λ (b : ParticipantState). held_times j b ≤ sum_by (held_times j) bags) (get_or-map (participant_of n links) hs p no_participant nobody l) (get_or-le-sum_by (held_times j) bags p nobody (omega arith))

module _ (n : ℕ) (links : List ℕ) (hs : List Participant) (t : Threads n links hs) (p : ℕ) (known : p < length hs) (size : length links ≡ n) where
  abbrev all : List ParticipantState
  all = map (participant_of n links) hs

  abbrev q : Participant
  q = get_or hs p no_participant

  abbrev m : ParticipantState
  m = participant_of n links q

  m_is : participant_in all p ≡ m
  m_is = heads_at n links hs t p known

  here : (j : ℕ) → held_times j m ≤ sum_by (held_times j) all
  here j = part_of n links hs p j known

  -- a place that is in a bag of p is in no other's
  alone : (i : ℕ) → 1 ≤ held_times i m → (k : ℕ) → k ≢ p → k < length hs → held_times i (participant_of n links (get_or hs k no_participant)) ≡ 0
  alone i some_ k ne l = let len = length-map hs (participant_of n links) in let both = two_of (held_times i) all p k nobody ne (omega arith) (omega arith) in
      let a = ap (held_times i) m_is in let b = ap (held_times i) (get_or-map (participant_of n links) hs k no_participant nobody l) in omega (arith, both, a, b, t.once i)

  pub puts : (i : ℕ) → i < n → sum_by (held_times i) all ≡ 0 → Threads n (set links i q.current) (set hs p (put_in q (suc i))) × (map (participant_of n (set links i q.current)) (set hs p (put_in q (suc i))) ≡ set all p (put_participant i (participant_in all p)))
  puts i l none = let links' = set links i q.current in let q' : Participant = put_in q (suc i) in let c = t.chains p in
      let few = here i in let away : held_times i m ≡ 0 = omega arith in let rc = times_reverse i (follow n links q.current) in let rp = times_reverse i (follow n links q.prior) in let ro = times_reverse i (follow n links q.oldest) in
      let same : (h : ℕ) → IsChain n links h → times i (follow n links h) ≡ 0 → (follow n links' h ≡ follow n links h) × IsChain n links' h =
      (λ h chain out. let e = follow_set n links i q.current h out chain (follow_short n links h) in (e, subst (Spells links' h) (sym e) (spells_set links i q.current h (follow n links h) out chain))) in
      let xs = follow n links q.current in
      let once_in : (j : ℕ) → times j xs ≤ 1 = (λ j. omega (arith, here j, t.once j, times_reverse j xs)) in
      let none_above : (j : ℕ) → n ≤ j → times j xs ≡ 0 = (λ j le. omega (arith, here j, t.inside j le, times_reverse j xs)) in
      let short = fewer n i xs once_in none_above l (omega arith) in
      let spelled : Spells links' (suc i) (i ∷ xs) = spells_put links i q.current xs (omega arith) (omega arith) c.current in
      let new : follow n links' (suc i) ≡ i ∷ xs = follow_spelled n links' (suc i) (i ∷ xs) spelled (omega arith) in
      let b = same q.prior c.prior (omega arith) in let o = same q.oldest c.oldest (omega arith) in let d = same q.due c.due (omega arith) in
      let mine : AreChains n links' q' = record { current = subst (Spells links' (suc i)) (sym new) spelled; prior = b.1; oldest = o.1; due = d.1; newest = omega (arith, c.newest, ap length new) } in
      let is : participant_of n links' q' ≡ put_participant i (participant_in all p) = (λ j. record { local = record q.local { garbage = true }; current = (ap reverse new ∙ reverse-append (i ∷ []) xs) j; prior = reverse (b.0 j); oldest = reverse (o.0 j); due = d.0 j }) ∙ ap (put_participant i) (sym m_is) in
      let free : (k : ℕ) → k ≢ p → k < length hs → held_times i (participant_of n links (get_or hs k no_participant)) ≡ 0 = (λ k ne lk. omega (arith, part_of n links hs k i lk)) in
      let count : (j : ℕ) → held_times j (put_participant i (participant_in all p)) ≡ held_times j (participant_in all p) + hit i j = (λ j. omega (arith, sum_by_push (λ x. hit x j) (participant_in all p).current i)) in
      let one : (j : ℕ) → sum_by (held_times j) all + hit i j ≤ 1 = (λ j. dite (ℕ_discrete i j) (λ e. let z : sum_by (held_times j) all ≡ 0 = ap (λ y. sum_by (held_times y) all) (sym e) ∙ none in let o : hit i j ≡ 1 = ap (λ b. cond b 1 0) (eq-eqb i j e) in omega arith)
      (λ ne. let o : hit i j ≡ 0 = ap (λ b. cond b 1 0) (ne_eqb i j ne) in omega (arith, t.once j))) in
      let out : (j : ℕ) → n ≤ j → held_times j (put_participant i (participant_in all p)) ≡ 0 = (λ j le. let o : hit i j ≡ 0 = ap (λ b. cond b 1 0) (ne_eqb i j (λ e. omega arith)) in omega (arith, count j, ap (held_times j) m_is, here j, t.inside j le)) in
      (threads_now n links hs t i q.current p known q' (put_participant i (participant_in all p)) free mine is (λ j. omega (arith, count j, one j)) out, bags_now n links hs t i q.current p known q' (put_participant i (participant_in all p)) free mine is)

  pub locals : (k : LocalState) → Threads n links (set hs p (record q { local = k })) × (map (participant_of n links) (set hs p (record q { local = k })) ≡ set all p (with_local_state k (participant_in all p)))
  locals k = let c = t.chains p in let q' : Participant = record q { local = k } in
      let still : set links n (get_or links n 0) ≡ links = set-get_or links n 0 in
      let mine0 : AreChains n links q' = record { current = c.current; prior = c.prior; oldest = c.oldest; due = c.due; newest = c.newest } in
      let mine = subst (λ (ls : List ℕ). AreChains n ls q') (sym still) mine0 in
      let m' : ParticipantState = with_local_state k (participant_in all p) in
      let is0 : participant_of n links q' ≡ m' = ap (with_local_state k) (sym m_is) in
      let is = subst (λ (ls : List ℕ). participant_of n ls q' ≡ m') (sym still) is0 in
      let free : (k : ℕ) → k ≢ p → k < length hs → held_times n (participant_of n links (get_or hs k no_participant)) ≡ 0 = (λ k ne lk. omega (arith, part_of n links hs k n lk, t.inside n (omega arith))) in
      let th = threads_now n links hs t n (get_or links n 0) p known q' m' free mine is (λ j. omega (arith, t.once j)) (λ j le. omega (arith, ap (held_times j) m_is, here j, t.inside j le)) in
      let now_ = bags_now n links hs t n (get_or links n 0) p known q' m' free mine is in
      (subst (λ (ls : List ℕ). Threads n ls (set hs p q')) still th, subst (λ (ls : List ℕ). map (participant_of n ls) (set hs p q') ≡ set all p m') still now_)

  -- there is room in the count for a place that is in no bag
  pub newest_below : (i : ℕ) → i < n → sum_by (held_times i) all ≡ 0 → q.newest < n
  newest_below i l none = let xs = follow n links q.current in let few = here i in
      let once_in : (j : ℕ) → times j xs ≤ 1 = (λ j. omega (arith, here j, t.once j, times_reverse j xs)) in
      let none_above : (j : ℕ) → n ≤ j → times j xs ≡ 0 = (λ j le. omega (arith, here j, t.inside j le, times_reverse j xs)) in
      let short = fewer n i xs once_in none_above l (omega (arith, times_reverse i xs)) in omega (arith, (t.chains p).newest)

  pub empty_is : bags_empty (participant_in all p) ≡ ((q.current == 0) && ((q.prior == 0) && (q.oldest == 0)))
  empty_is = let c = t.chains p in ap bags_empty m_is ∙ (λ j. nil_head links q.current (follow n links q.current) c.current j && (nil_head links q.prior (follow n links q.prior) c.prior j && nil_head links q.oldest (follow n links q.oldest) c.oldest j))

  pub takes_none : q.due ≡ 0 → (participant_in all p).due ≡ []
  takes_none none = ap (λ (b : ParticipantState). b.due) m_is ∙ (ap (follow n links) none ∙ follow_none n links)

  pub record Takes (i : ℕ) : Type 0 where
    pub head : q.due ≡ suc i
    pub low : i < n
    pub rest : List ℕ
    pub was : (participant_in all p).due ≡ i ∷ rest
    pub threads : Threads n links (set hs p (record q { due = get_or links i 0 }))
    pub now : map (participant_of n links) (set hs p (record q { due = get_or links i 0 })) ≡ set all p (left_due rest (participant_in all p))

  pub takes : q.due ≢ 0 → Takes (q.due - 1)
  takes some_ = let c = t.chains p in let r = chain_rest n links q.due c.due some_ in let i = r.0 in let rest_ = follow n links (get_or links i 0) in let q' : Participant = record q { due = get_or links i 0 } in
      let still : set links i (get_or links i 0) ≡ links = set-get_or links i 0 in
      let mine0 : AreChains n links q' = record { current = c.current; prior = c.prior; oldest = c.oldest; due = r.3; newest = c.newest } in
      let mine = subst (λ (ls : List ℕ). AreChains n ls q') (sym still) mine0 in
      let m' : ParticipantState = left_due rest_ (participant_in all p) in
      let is0 : participant_of n links q' ≡ m' = ap (left_due rest_) (sym m_is) in
      let is = subst (λ (ls : List ℕ). participant_of n ls q' ≡ m') (sym still) is0 in
      let dues : m.due ≡ i ∷ rest_ = r.2 in
      let self : hit i i ≡ 1 = ap (λ b. cond b 1 0) (eq-eqb i i refl) in
      let split : (j : ℕ) → times j m.due ≡ hit i j + times j rest_ = (λ j. ap (times j) dues ∙ sum_by-cons (λ x. hit x j) i rest_) in
      let less : (j : ℕ) → held_times j m' + hit i j ≡ held_times j (participant_in all p) = (λ j. let e = ap (held_times j) m_is in let u = ap (λ (b : ParticipantState). held_times j (left_due rest_ b)) m_is in omega (arith, split j, e, u)) in
      let low_ : i < n = elim (ltb i n) as (λ b. ltb i n ≡ b → i < n) [ true ↦ λ e. omega (arith, ltb-true i n e) | false ↦ λ e. absurd (omega (arith, t.inside i (omega (arith, ltb-false i n e)), here i, split i, self)) ] refl in
      let free = alone i (omega (arith, split i, self)) in
      let few : (j : ℕ) → held_times j m' + sum_by (held_times j) all ≤ 1 + held_times j (participant_in all p) = (λ j. omega (arith, less j, t.once j)) in
      let out : (j : ℕ) → n ≤ j → held_times j m' ≡ 0 = (λ j le. omega (arith, less j, ap (held_times j) m_is, here j, t.inside j le)) in
      let th = threads_now n links hs t i (get_or links i 0) p known q' m' free mine is few out in
      let now_ = bags_now n links hs t i (get_or links i 0) p known q' m' free mine is in
      let result : Takes i = record {
        head = r.1;
        low = low_;
        rest = rest_;
        was = ap (λ (b : ParticipantState). b.due) m_is ∙ dues;
        threads = subst (λ (ls : List ℕ). Threads n ls (set hs p q')) still th;
        now = subst (λ (ls : List ℕ). map (participant_of n ls) (set hs p q') ≡ set all p m') still now_;
      } in
      let prev : i ≡ q.due - 1 = omega (arith, r.1) in
      subst Takes prev result

  abbrev turned : Participant
  turned = turn_on q

  pub turns : (participant_in all p).due ≡ [] → Threads n links (set hs p turned) × (map (participant_of n links) (set hs p turned) ≡ set all p (bags_moved_on (participant_in all p)))
  turns done = let c = t.chains p in
      let nothing : IsChain n links 0 = subst (Spells links 0) (sym (follow_none n links)) refl in
      let still : set links n (get_or links n 0) ≡ links = set-get_or links n 0 in
      let mine0 : AreChains n links turned = record { current = nothing; prior = c.current; oldest = c.prior; due = c.oldest; newest = ap length (sym (follow_none n links)) } in
      let mine = subst (λ (ls : List ℕ). AreChains n ls turned) (sym still) mine0 in
      let m' : ParticipantState = bags_moved_on (participant_in all p) in
      let is0 : participant_of n links turned ≡ m' = (λ j. record { local = q.local; current = reverse (follow_none n links j); prior = m.current; oldest = m.prior; due = sym (reverse-reverse (follow n links q.oldest)) j }) ∙ ap bags_moved_on (sym m_is) in
      let is = subst (λ (ls : List ℕ). participant_of n ls turned ≡ m') (sym still) is0 in
      let free : (k : ℕ) → k ≢ p → k < length hs → held_times n (participant_of n links (get_or hs k no_participant)) ≡ 0 = (λ k ne lk. omega (arith, part_of n links hs k n lk, t.inside n (omega arith))) in
      let same : (j : ℕ) → held_times j m' ≡ held_times j (participant_in all p) = (λ j. omega (arith, times_reverse j (participant_in all p).oldest, ap (times j) done)) in
      let th = threads_now n links hs t n (get_or links n 0) p known turned m' free mine is (λ j. omega (arith, same j, t.once j)) (λ j le. omega (arith, same j, ap (held_times j) m_is, here j, t.inside j le)) in
      let now_ = bags_now n links hs t n (get_or links n 0) p known turned m' free mine is in
      (subst (λ (ls : List ℕ). Threads n ls (set hs p turned)) still th, subst (λ (ls : List ℕ). map (participant_of n ls) (set hs p turned) ≡ set all p m') still now_)

  pub recalls_none : q.current ≡ 0 → participant_in all p ≡ recalled (participant_in all p)
  recalls_none none = let nil : m.current ≡ [] = ap (λ h. reverse (follow n links h)) none ∙ ap reverse (follow_none n links) in
      let done : m ≡ recalled m = (λ j. record { local = m.local; current = (nil ∙ sym (ap (λ (xs : List ℕ). take (length xs - 1) xs) nil)) j; prior = m.prior; oldest = m.oldest; due = sym (ap (λ (xs : List ℕ). drop (length xs - 1) xs ++ m.due) nil) j }) in
      m_is ∙ (done ∙ ap recalled (sym m_is))

  pub record Recalls (i : ℕ) : Type 0 where
    pub head : q.current ≡ suc i
    pub low : i < n
    pub some : 1 ≤ q.newest
    pub threads : Threads n (set links i q.due) (set hs p (recall_in q (get_or links i 0) (suc i)))
    pub now : map (participant_of n (set links i q.due)) (set hs p (recall_in q (get_or links i 0) (suc i))) ≡ set all p (recalled (participant_in all p))

  pub recalls : q.current ≢ 0 → Recalls (q.current - 1)
  recalls some_ = let c = t.chains p in let r = chain_rest n links q.current c.current some_ in let i = r.0 in let g = get_or links i 0 in let rest_ = follow n links g in let links' = set links i q.due in let q' : Participant = recall_in q g (suc i) in
      let self : hit i i ≡ 1 = ap (λ b. cond b 1 0) (eq-eqb i i refl) in
      let curs : m.current ≡ reverse rest_ ++ i ∷ [] = ap reverse r.2 ∙ reverse-append (i ∷ []) rest_ in
      let split : (j : ℕ) → times j m.current ≡ times j rest_ + hit i j = (λ j. ap (times j) curs ∙ (sum_by_push (λ x. hit x j) (reverse rest_) i ∙ ap (λ z. z + hit i j) (times_reverse j rest_))) in
      let rp = times_reverse i (follow n links q.prior) in let ro = times_reverse i (follow n links q.oldest) in
      let low_ : i < n = elim (ltb i n) as (λ b. ltb i n ≡ b → i < n) [ true ↦ λ e. omega (arith, ltb-true i n e) | false ↦ λ e. absurd (omega (arith, t.inside i (omega (arith, ltb-false i n e)), here i, split i, self)) ] refl in
      let same : (h : ℕ) → IsChain n links h → times i (follow n links h) ≡ 0 → (follow n links' h ≡ follow n links h) × IsChain n links' h =
      (λ h chain out. let e = follow_set n links i q.due h out chain (follow_short n links h) in (e, subst (Spells links' h) (sym e) (spells_set links i q.due h (follow n links h) out chain))) in
      let a = same g r.3 (omega (arith, here i, t.once i, split i, self)) in let b = same q.prior c.prior (omega (arith, here i, t.once i, split i, self, rp)) in let o = same q.oldest c.oldest (omega (arith, here i, t.once i, split i, self, ro)) in
      let xs = follow n links q.due in
      let away : times i xs ≡ 0 = omega (arith, here i, t.once i, split i, self) in
      let short = fewer n i xs (λ j. omega (arith, here j, t.once j)) (λ j le. omega (arith, here j, t.inside j le)) low_ away in
      let spelled : Spells links' (suc i) (i ∷ xs) = spells_put links i q.due xs (omega arith) away c.due in
      let new : follow n links' (suc i) ≡ i ∷ xs = follow_spelled n links' (suc i) (i ∷ xs) spelled (omega arith) in
      let mine : AreChains n links' q' = record { current = a.1; prior = b.1; oldest = o.1; due = subst (Spells links' (suc i)) (sym new) spelled; newest = omega (arith, c.newest, ap length r.2, ap length a.0) } in
      let size_ : length (reverse rest_) ≡ length (reverse rest_ ++ i ∷ []) - 1 = omega (arith, length-append (reverse rest_) (i ∷ [])) in
      let front : take (length m.current - 1) m.current ≡ reverse rest_ = ap (λ (ys : List ℕ). take (length ys - 1) ys) curs ∙ take_at (reverse rest_) (i ∷ []) (length (reverse rest_ ++ i ∷ []) - 1) size_ in
      let end_ : drop (length m.current - 1) m.current ≡ i ∷ [] = ap (λ (ys : List ℕ). drop (length ys - 1) ys) curs ∙ drop_at (reverse rest_) (i ∷ []) (length (reverse rest_ ++ i ∷ []) - 1) size_ in
      let m' : ParticipantState = recalled (participant_in all p) in
      let is0 : participant_of n links' q' ≡ recalled m = (λ j. record { local = q.local; current = (ap reverse a.0 ∙ sym front) j; prior = reverse (b.0 j); oldest = reverse (o.0 j); due = (new ∙ sym (ap (λ (ys : List ℕ). ys ++ xs) end_)) j }) in
      let is : participant_of n links' q' ≡ m' = is0 ∙ ap recalled (sym m_is) in
      let free = alone i (omega (arith, split i, self)) in
      let count : (j : ℕ) → held_times j m' ≡ held_times j (participant_in all p) = (λ j. ap (λ (z : ParticipantState). held_times j (recalled z)) m_is ∙ (omega (arith, ap (times j) front, ap (times j) (ap (λ (ys : List ℕ). ys ++ xs) end_), sum_by-cons (λ x. hit x j) i xs, split j, times_reverse j rest_) ∙ sym (ap (held_times j) m_is))) in
      let result : Recalls i = record {
        head = r.1;
        low = low_;
        some = omega (arith, c.newest, ap length r.2);
        threads = threads_now n links hs t i q.due p known q' m' free mine is (λ j. omega (arith, count j, t.once j)) (λ j le. omega (arith, count j, ap (held_times j) m_is, here j, t.inside j le));
        now = bags_now n links hs t i q.due p known q' m' free mine is;
      } in
      let prev : i ≡ q.current - 1 = omega (arith, r.1) in
      subst Recalls prev result

-- three tests in a row
pub third : (x a b c : Bool) → x ≡ (a && (b && c)) → a ≡ true → b ≡ true → c ≡ x
third x a b c e first second = sym (e ∙ ap (λ (y : Bool). y && (b && c)) first ∙ ap (λ (y : Bool). y && c) second)

pub none_first : (x a b c : Bool) → x ≡ (a && (b && c)) → a ≡ false → false ≡ x
none_first x a b c e first = sym (e ∙ ap (λ (y : Bool). y && (b && c)) first)

pub none_second : (x a b c : Bool) → x ≡ (a && (b && c)) → b ≡ false → false ≡ x
none_second x a b c e second = sym (e ∙ ap (λ (y : Bool). a && (y && c)) second ∙ both_ways a)
  where
    both_ways : (a : Bool) → (a && false) ≡ false
    both_ways true = refl
    both_ways false = refl

-- no guard is open
pub none_open : (n : ℕ) (links : List ℕ) (qs : List Participant) → ((k : ℕ) (d : Participant) → k < length qs → (get_or qs k d).local.nesting ≡ 0) → (p : ℕ) → (get_or (map (participant_of n links) qs) p nobody).local.nesting ≡ 0
none_open n links [] h p = refl
none_open n links (q ∷ qs) h zero = h 0 q (omega arith)
none_open n links (q ∷ qs) h (suc p) = none_open n links qs (λ k d lt. h (suc k) d (omega (arith, lt))) p

-- every open guard published the count m
abbrev pub is_on : ℕ → Participant → Bool
is_on m q = (q.local.nesting == 0) || (q.local.published == m)

pub all_on : (m n : ℕ) (links : List ℕ) (qs : List Participant) → list_all (is_present m) (map (participant_of n links) qs) ≡ list_all (is_on m) qs
all_on m n links [] = refl
all_on m n links (q ∷ qs) = ap (λ (b : Bool). is_on m q && b) (all_on m n links qs)

pub passes : (f : Participant → Bool) (qs : List Participant) → ((k : ℕ) (d : Participant) → k < length qs → f (get_or qs k d) ≡ true) → list_all f qs ≡ true
passes f [] h = refl
passes f (q ∷ qs) h =
    let here : f q ≡ true = h 0 q (omega arith) in
    let rest : list_all f qs ≡ true = passes f qs (λ k d l. h (suc k) d (omega (arith, l))) in
    rw here rest

pub fails : (f : Participant → Bool) (qs : List Participant) (k : ℕ) (d : Participant) → k < length qs → f (get_or qs k d) ≡ false → list_all f qs ≡ false
fails f [] k d l h = absurd (omega arith)
fails f (q ∷ qs) zero d l h = rw h
fails f (q ∷ qs) (suc k) d l h =
    let rest : list_all f qs ≡ false = fails f qs k d (omega (arith, l)) h in
    elim (f q) as (λ b. (b && list_all f qs) ≡ false) [ true ↦ rest | false ↦ refl ]

pub behind : (m : ℕ) (q : Participant) → (q.local.nesting ≡ 0 → ⊥) → (q.local.published ≡ m → ⊥) → is_on m q ≡ false
behind m q opens other = grind (arith, nat_tests)

-- the same of the fields
threads_of : (a : Inside) → AreThreaded a → Threads (length a.links.items) a.links.items a.all.items
threads_of a t = record { chains = t.chains; once = t.once; inside = t.inside }

threaded : (n : ℕ) (a : Inside) → length a.links.items ≡ n → Threads n a.links.items a.all.items → AreThreaded a
threaded n a e t = let u = subst (λ m. Threads m a.links.items a.all.items) (sym e) t in record { chains = u.chains; once = u.once; inside = u.inside }

shown_at : (n : ℕ) (a : Inside) (ms : List ParticipantState) → length a.links.items ≡ n → map (participant_of n a.links.items) a.all.items ≡ ms → shown_of a ≡ record { places = n; all = ms }
shown_at n a ms e is = (λ j. record { places = e j; all = map (participant_of (e j) a.links.items) a.all.items }) ∙ (λ j. record { places = n; all = is j })

module _ (a : Inside) (p : ℕ) (q0 : Participant) (t : AreThreaded a) (known : p < length a.all.items) (is_q : q0 ≡ get_or a.all.items p q0) where
  abbrev size : ℕ
  size = length a.links.items

  abbrev q1 : Participant
  q1 = get_or a.all.items p no_participant

  q_is : q1 ≡ q0
  q_is = sym (is_q ∙ get_or_default a.all.items p q0 no_participant known)

  abbrev all0 : List ParticipantState
  all0 = (shown_of a).all

  -- what is shown once participant p is changed by f
  abbrev Changes : Inside → (ParticipantState → ParticipantState) → Type 0
  Changes b f = AreThreaded b × (shown_of b ≡ record (shown_of a) { all = set all0 p (f (participant_in all0 p)) })

  -- the fields after a step
  abbrev inside_of : ℕ → ℕ → Participant → Inside
  inside_of i v q' = record { links = with_item a.links i v; all = with_item a.all p q' }

  abbrev changed_to : Participant → Inside
  changed_to q' = record { links = a.links; all = with_item a.all p q' }

  -- nothing is written
  pub same_inside : AreThreaded (changed_to q0) × (shown_of (changed_to q0) ≡ shown_of a)
  same_inside = let same : set a.all.items p q0 ≡ a.all.items = ap (set a.all.items p) is_q ∙ set-get_or a.all.items p q0 in
      (threaded size (changed_to q0) refl (subst (λ (qs : List Participant). Threads size a.links.items qs) (sym same) (threads_of a t)), ap (λ (qs : List Participant). record { places = size; all = map (participant_of size a.links.items) qs }) same)

  pub local_inside : (participant_in all0 p).local ≡ q0.local
  local_inside = ap (λ (m : ParticipantState). m.local) (heads_at size a.links.items a.all.items (threads_of a t) p known) ∙ ap (λ (z : Participant). z.local) q_is

  pub put_inside : (i h : ℕ) → h ≡ suc i → i < size → sum_by (held_times i) all0 ≡ 0 → Changes (inside_of i q0.current (put_in q0 h)) (put_participant i)
  put_inside i h e l none = let r = puts size a.links.items a.all.items (threads_of a t) p known refl i l none in
      let P : Participant → ℕ → Type 0 = (λ z k. Changes (inside_of i z.current (put_in z k)) (put_participant i)) in
      let base : P q1 (suc i) = let b = inside_of i q1.current (put_in q1 (suc i)) in let len = length-set a.links.items i q1.current in (threaded size b len r.0, shown_at size b (set all0 p (put_participant i (participant_in all0 p))) len r.1) in
      subst (λ k. P q0 k) (sym e) (subst (λ (z : Participant). P z (suc i)) q_is base)

  local_set : (k : LocalState) → Changes (changed_to (record q0 { local = k })) (with_local_state k)
  local_set k = let r = locals size a.links.items a.all.items (threads_of a t) p known refl k in
      let P : Participant → Type 0 = (λ z. Changes (changed_to (record z { local = k })) (with_local_state k)) in
      let base : P q1 = let b = changed_to (record q1 { local = k }) in (threaded size b refl r.0, shown_at size b (set all0 p (with_local_state k (participant_in all0 p))) refl r.1) in
      subst P q_is base

  -- a participant that notes f of what it noted
  noted : (f : LocalState → LocalState) → Changes (changed_to (record q0 { local = f q0.local })) (λ m. record m { local = f m.local })
  noted f = let r = local_set (f q0.local) in
      (r.0, r.1 ∙ ap (λ (k : LocalState). record (shown_of a) { all = set all0 p (with_local_state (f k) (participant_in all0 p)) }) (sym local_inside))

  pub put_room : (i : ℕ) → i < size → sum_by (held_times i) all0 ≡ 0 → q0.newest < size
  put_room i l none = subst (λ (z : Participant). z.newest < size) q_is (newest_below size a.links.items a.all.items (threads_of a t) p known refl i l none)

  pub empty_inside : bags_empty (participant_in all0 p) ≡ ((q0.current == 0) && ((q0.prior == 0) && (q0.oldest == 0)))
  empty_inside = subst (λ (z : Participant). bags_empty (participant_in all0 p) ≡ ((z.current == 0) && ((z.prior == 0) && (z.oldest == 0)))) q_is (empty_is size a.links.items a.all.items (threads_of a t) p known refl)

  pub none_inside : q0.due ≡ 0 → (participant_in all0 p).due ≡ []
  none_inside none = takes_none size a.links.items a.all.items (threads_of a t) p known refl (ap (λ (z : Participant). z.due) q_is ∙ none)

  pub low_inside : q0.due ≢ 0 → q0.due - 1 < size
  low_inside some_ = subst (λ (z : Participant). z.due - 1 < size) q_is ((takes size a.links.items a.all.items (threads_of a t) p known refl (λ e. some_ (ap (λ (z : Participant). z.due) (sym q_is) ∙ e))).low)

  pub next_inside : q0.due ≢ 0 → (v : ℕ) → v ≡ get_or a.links.items (q0.due - 1) 0
      → AreThreaded (changed_to (record q0 { due = v })) × ((rest : List ℕ) × ((participant_in all0 p).due ≡ (q0.due - 1) ∷ rest) × (shown_of (changed_to (record q0 { due = v })) ≡ record (shown_of a) { all = set all0 p (left_due rest (participant_in all0 p)) }))
  next_inside some_ v e = let r = takes size a.links.items a.all.items (threads_of a t) p known refl (λ z. some_ (ap (λ (y : Participant). y.due) (sym q_is) ∙ z)) in
      let P : Participant → ℕ → Type 0 = (λ z k. AreThreaded (changed_to (record z { due = k })) × ((rest : List ℕ) × ((participant_in all0 p).due ≡ (z.due - 1) ∷ rest) × (shown_of (changed_to (record z { due = k })) ≡ record (shown_of a) { all = set all0 p (left_due rest (participant_in all0 p)) }))) in
      let k1 = get_or a.links.items (q1.due - 1) 0 in
      let base : P q1 k1 = let b = changed_to (record q1 { due = k1 }) in (threaded size b refl r.threads, (r.rest, r.was, shown_at size b (set all0 p (left_due r.rest (participant_in all0 p))) refl r.now)) in
      subst (λ z. P q0 z) (sym e) (subst (λ (z : Participant). P z (get_or a.links.items (z.due - 1) 0)) q_is base)

  pub turn_inside : (participant_in all0 p).due ≡ [] → Changes (changed_to (turn_on q0)) bags_moved_on
  turn_inside done = let r = turns size a.links.items a.all.items (threads_of a t) p known refl done in
      let P : Participant → Type 0 = (λ z. Changes (changed_to (turn_on z)) bags_moved_on) in
      let base : P q1 = let b = changed_to (turn_on q1) in (threaded size b refl r.0, shown_at size b (set all0 p (bags_moved_on (participant_in all0 p))) refl r.1) in
      subst P q_is base

  pub recall_none_inside : q0.current ≡ 0 → participant_in all0 p ≡ recalled (participant_in all0 p)
  recall_none_inside none = recalls_none size a.links.items a.all.items (threads_of a t) p known refl (ap (λ (z : Participant). z.current) q_is ∙ none)

  pub recall_low_inside : q0.current ≢ 0 → (q0.current - 1 < size) × (1 ≤ q0.newest)
  recall_low_inside some_ = let r = recalls size a.links.items a.all.items (threads_of a t) p known refl (λ e. some_ (ap (λ (z : Participant). z.current) (sym q_is) ∙ e)) in subst (λ (z : Participant). (z.current - 1 < size) × (1 ≤ z.newest)) q_is (r.low, r.some)

  pub recall_inside : q0.current ≢ 0 → (v : ℕ) → v ≡ get_or a.links.items (q0.current - 1) 0 → Changes (inside_of (q0.current - 1) q0.due (recall_in q0 v q0.current)) recalled
  recall_inside some_ v e = let r = recalls size a.links.items a.all.items (threads_of a t) p known refl (λ z. some_ (ap (λ (y : Participant). y.current) (sym q_is) ∙ z)) in
      let P : Participant → ℕ → ℕ → Type 0 = (λ z k g. Changes (inside_of (z.current - 1) z.due (recall_in z k g)) recalled) in
      let k1 = get_or a.links.items (q1.current - 1) 0 in
      let base : P q1 k1 (suc (q1.current - 1)) = let b = inside_of (q1.current - 1) q1.due (recall_in q1 k1 (suc (q1.current - 1))) in let len = length-set a.links.items (q1.current - 1) q1.due in (threaded size b len r.threads, shown_at size b (set all0 p (recalled (participant_in all0 p))) len r.now) in
      subst (λ z. P q0 z q0.current) (sym e) (subst (λ (z : Participant). P z (get_or a.links.items (z.current - 1) 0) z.current) q_is (subst (P q1 k1) (sym r.head) base))

nobody_of : (n : ℕ) (links : List ℕ) → participant_of n links no_participant ≡ nobody
nobody_of n links = λ j. record { local = no_local; current = reverse (follow_none n links j); prior = reverse (follow_none n links j); oldest = reverse (follow_none n links j); due = follow_none n links j }

replicate_at : {X : Type 0} (n k : ℕ) (x : X) → get_or (replicate n x) k x ≡ x
replicate_at zero k x = refl
replicate_at (suc n) zero x = refl
replicate_at (suc n) (suc k) x = replicate_at n k x

pub none_held : (n j : ℕ) → sum_by (held_times j) (replicate n nobody) ≡ 0
none_held zero j = refl
none_held (suc n) j = omega (arith, sum_by-cons (held_times j) nobody (replicate n nobody), none_held n j)

-- new participants, whose bags are empty
pub new_inside : (a : Inside) (m n : ℕ) → a.links.items ≡ replicate m 0 → a.all.items ≡ replicate n no_participant → AreThreaded a × (shown_of a ≡ record { places = m; all = replicate n nobody })
new_inside a m n l q =
    let size = length a.links.items in
    let ls = a.links.items in
    let sized : size ≡ m = ap length l ∙ length-replicate m 0 in
    let shown : map (participant_of size ls) a.all.items ≡ replicate n nobody = ap (map (participant_of size ls)) q ∙ map-replicate (participant_of size ls) n no_participant ∙ ap (replicate n) (nobody_of size ls) in
    let nothing : IsChain size ls 0 = subst (Spells ls 0) (sym (follow_none size ls)) refl in
    let chain : AreChains size ls no_participant = record { current = nothing; prior = nothing; oldest = nothing; due = nothing; newest = ap length (sym (follow_none size ls)) } in
    let none : (j : ℕ) → sum_by (held_times j) (map (participant_of size ls) a.all.items) ≡ 0 = λ j. ap (sum_by (held_times j)) shown ∙ none_held n j in (
      record {
        chains = λ k. subst (AreChains size ls) (sym (ap (λ (qs : List Participant). get_or qs k no_participant) q ∙ replicate_at n k no_participant)) chain;
        once = λ j. omega (arith, none j);
        inside = λ j le. none j;
      },
      λ j. record { places = sized j; all = shown j },
    )

pub known_inside : (a : Inside) (w : Shown) (p : ℕ) → shown_of a ≡ w → p < length w.all → p < length a.all.items
known_inside a w p v l = omega (arith, ap (λ (s : Shown). length s.all) v, length-map a.all.items (participant_of (length a.links.items) a.links.items))

-- participant p of w notes f of what it noted
pub noted_in : (a : Inside) (w : Shown) (p : ℕ) (q : Participant) (f : LocalState → LocalState) → AreThreaded a → shown_of a ≡ w → p < length w.all → q ≡ get_or a.all.items p q → AreThreaded (record { links = a.links; all = with_item a.all p (record q { local = f q.local }) }) × (shown_of (record { links = a.links; all = with_item a.all p (record q { local = f q.local }) }) ≡ changed_in p (λ m. with_local_state (f m.local) m) w)
noted_in a w p q f t v l is =
    let r = noted a p q t (known_inside a w p v l) is f in (r.0, r.1 ∙ ap (λ (s : Shown). changed_in p (λ m. with_local_state (f m.local) m) s) v)

pub set_same : (ms : List ParticipantState) (p : ℕ) → set ms p (participant_in ms p) ≡ ms
set_same ms p = set-get_or ms p nobody
