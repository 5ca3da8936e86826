-- Pairs that are put behind all others at once.
use Rattle.std.proofs.Common.{arith, append_assoc, append-nil, ◌≡◌, ℕ, zero, suc, ◌+◌, ◌-◌, ◌<◌, ◌≤◌, ◌++◌, ◌∷◌, [], List, Bool, false, true, cond, length, take, drop, refl, ap, ◌∙◌, sym, subst}
use Rattle.std.proofs.lemmas.List.{drop-drop, length-append, length-drop, length-take}
use Rattle.std.specs.declared.cmp.Ordering.{Ordering}
use Rattle.std.specs.declared.cmp.Ordering.TheVariants.{Less}
use Rattle.std.specs.Ordering.{is_lt}
use Rattle.std.specs.Cmp.{IsTotalOrder}
use Rattle.std.specs.List.{AllByRecursion}
use Rattle.std.specs.List.Sorted.{IsStrictlySortedBy}
use Rattle.std.specs.Map.{keys_of}
use Rattle.std.proofs.lemmas.Map.Keys.{sorted_head, sorted_tail}
use Rattle.leaf_slots.specs.declared.place.Place.{Place}
use Rattle.leaf_slots.specs.declared.place.Place.TheVariants.{Empty, Dead, Live}
use Rattle.leaf_slots.specs.Places.{dead_pairs, lined, live_pairs, pushed, IsEmptied, IsPacked}
use Rattle.leaf_slots.proofs.ExtendLemmas.{first_empty, kept, rest_empty}
use Rattle.leaf_array.specs.Arrays.{IsArray, cells_of}
use Rattle.leaf_array.specs.Cells.{Cells, array_extended, array_inserted, lesser, slot_of}
use Rattle.leaf_array.proofs.EntryLemmas.{entry_last}
use Rattle.leaf_array.proofs.SoundLemmas.{absent_last, sound_place}
use Rattle.leaf_array.proofs.SortLemmas.{sorted_nil}
use Rattle.std.proofs.Math.Seq.{take-add}

sorted_cons : {K : Type 0} (cmp : K → K → Ordering) (k : K) (ks : List K) → AllByRecursion (λ y. cmp k y ≡ Less) ks → IsStrictlySortedBy cmp ks → IsStrictlySortedBy cmp (k ∷ ks)
unfolding IsStrictlySortedBy
sorted_cons cmp k ks under up = (under, up)

module _ {X : Type 0} where
  past_take : (xs ys : List X) (y : X) (n : ℕ) → n ≡ length xs → take (n + 1) (xs ++ y ∷ ys) ≡ xs ++ y ∷ []
  past_take [] ys y n e = let one : n + 1 ≡ suc zero = omega (arith, e) in ap (λ (k : ℕ). take k (y ∷ ys)) one
  past_take (x ∷ xs) ys y n e =
      let one : n + 1 ≡ suc (length xs + 1) = omega (arith, e) in
      ap (λ (k : ℕ). take k ((x ∷ xs) ++ y ∷ ys)) one ∙ ap (λ zs. x ∷ zs) (past_take xs ys y (length xs) refl)

  past_drop : (xs ys : List X) (y : X) (n m : ℕ) → n ≡ length xs → drop (n + 1 + m) (xs ++ y ∷ ys) ≡ drop m ys
  past_drop [] ys y n m e = let one : n + 1 + m ≡ suc m = omega (arith, e) in ap (λ (k : ℕ). drop k (y ∷ ys)) one
  past_drop (x ∷ xs) ys y n m e =
      let one : n + 1 + m ≡ suc (length xs + 1 + m) = omega (arith, e) in
      ap (λ (k : ℕ). drop k ((x ∷ xs) ++ y ∷ ys)) one ∙ past_drop xs ys y (length xs) m refl

  no_length : (xs : List X) → length xs ≡ 0 → xs ≡ []
  no_length [] h = refl
  no_length (x ∷ xs) h = absurd (omega (arith, h))

module _ {K V : Type 0} where
  -- where nothing is dead, all is empty behind the live places
  none_dead : (ps : List (Place K V)) → IsPacked ps → dead_pairs ps ≡ [] → IsEmptied (drop (length (live_pairs ps)) ps)
  none_dead [] h e = tt
  none_dead (Empty ∷ ps) h e = h
  none_dead (Dead s k v ∷ ps) h e = absurd (cc)
  none_dead (Live s g k v ∷ ps) h e = none_dead ps h e

  open_at : (n : ℕ) (ps : List (Place K V)) → n < length ps → IsEmptied (drop n ps) → drop n ps ≡ Empty ∷ drop (n + 1) ps
  open_at n [] h e = absurd (omega (arith, h))
  open_at zero (p ∷ ps) h e = ap (λ (q : Place K V). q ∷ ps) (first_empty p ps e)
  open_at (suc n) (p ∷ ps) h e = let more : suc n + 1 ≡ suc (n + 1) = omega arith in open_at n ps (omega (arith, h)) e ∙ ap (λ (k : ℕ). Empty ∷ drop k (p ∷ ps)) (sym more)

module _ {K V : Type 0} (cmp : K → K → Ordering) (laws : IsTotalOrder cmp) where
  key_there : (P : K → Type 0) (xs : List (K × V)) (q : K × V) (ys : List (K × V)) → AllByRecursion P (keys_of (xs ++ q ∷ ys)) → P q.0
  key_there P [] q ys a = a.0
  key_there P (x ∷ xs) q ys a = key_there P xs q ys a.1

  -- the keys in front of one are lesser
  lesser_front : (xs : List (K × V)) (q : K × V) (ys : List (K × V)) → IsStrictlySortedBy cmp (keys_of (xs ++ q ∷ ys)) → lesser cmp q.0 xs ≡ length xs
  lesser_front [] q ys up = refl
  lesser_front (x ∷ xs) q ys up =
      let less : cmp x.0 q.0 ≡ Less = key_there (λ y. cmp x.0 y ≡ Less) xs q ys (sorted_head cmp x.0 (keys_of (xs ++ q ∷ ys)) up) in
      ap (λ o. cond (is_lt o) (suc (lesser cmp q.0 xs)) 0) less ∙ ap suc (lesser_front xs q ys (sorted_tail cmp x.0 (keys_of (xs ++ q ∷ ys)) up))

  -- a row with these pairs behind n others
  pub record IsExtended (qs : List (K × V)) (ps rs : List (Place K V)) (n : ℕ) : Type 0 where
    pub sound : IsArray cmp rs (n + length qs) (n + length qs)
    pub cells : (f : Bool) → cells_of rs (n + length qs) f false ≡ array_extended cmp qs (cells_of ps n f false)
    pub pairs : live_pairs rs ≡ live_pairs ps ++ qs

  pub sound_extended : (qs : List (K × V)) (ps rs : List (Place K V)) (n : ℕ) → IsArray cmp ps n n → IsEmptied (drop n ps) → n + length qs ≤ 15 → IsStrictlySortedBy cmp (keys_of (live_pairs ps ++ qs))
      → rs ≡ take n ps ++ (lined n qs ++ drop (n + length qs) ps) → IsExtended qs ps rs n
  sound_extended [] ps rs n s none room up is =
      let same : rs ≡ ps = is ∙ sym (kept n ps) in
      let size : n ≡ n + 0 = omega arith in
      record {
        sound = subst (λ (m : ℕ). IsArray cmp rs m m) size (subst (λ (qs : List (Place K V)). IsArray cmp qs n n) (sym same) s);
        cells = λ f. ap (λ (m : ℕ). cells_of rs m f false) (sym size) ∙ ap (λ (qs : List (Place K V)). cells_of qs n f false) same;
        pairs = ap live_pairs same ∙ sym (append-nil (live_pairs ps));
      }
  sound_extended (q ∷ qs) ps rs n s none room up is =
      let m = length qs in
      let p = Live (slot_of n) 0 q.0 q.1 in
      let front = take n ps in
      let back = drop (n + 1) ps in
      let mid : List (Place K V) = take n ps ++ pushed p (drop n ps) in
      let less : n < 15 = omega (arith, room) in
      let first : drop n ps ≡ Empty ∷ back = open_at n ps (omega (arith, s.count, less)) none in
      let mid_is : mid ≡ front ++ p ∷ back = ap (λ xs. front ++ pushed p xs) first in
      let size : n ≡ length front = simp length-take (omega (arith, s.count, less)) in
      let count : length mid ≡ 15 = ap length mid_is ∙ (let both : length (front ++ p ∷ back) ≡ length front + suc (length back) = simp length-append refl in let rear : length back ≡ length ps - (n + 1) = length-drop (n + 1) ps in omega (arith, both, rear, size, s.count, less)) in
      let last = lesser_front (live_pairs ps) q qs up in
      let one = sound_place cmp laws q.0 q.1 ps mid n n n s less (s.live ∙ sym last) (absent_last cmp laws q.0 ps s.sorted last) count refl in
      let mid_pairs : live_pairs mid ≡ live_pairs ps ++ q ∷ [] = ap (λ (c : Cells K V). c.pairs) (one.1 false false) ∙ entry_last cmp laws q.0 q.1 (live_pairs ps) last in
      let line : (live_pairs ps ++ q ∷ []) ++ qs ≡ live_pairs ps ++ q ∷ qs = append_assoc (live_pairs ps) (q ∷ []) qs in
      let up' = subst (λ xs. IsStrictlySortedBy cmp (keys_of xs)) (sym line ∙ ap (λ xs. xs ++ qs) (sym mid_pairs)) up in
      let rear : (k : ℕ) → drop (n + 1 + k) mid ≡ drop k back = λ k. ap (drop (n + 1 + k)) mid_is ∙ past_drop front back p n k size in
      let none' : IsEmptied (drop (n + 1) mid) = subst IsEmptied (sym (ap (λ (k : ℕ). drop k mid) (let z : n + 1 ≡ n + 1 + 0 = omega arith in z) ∙ rear 0)) (rest_empty Empty back (subst IsEmptied first none)) in
      let more : n + suc m ≡ n + 1 + m = omega arith in
      let is' : rs ≡ take (n + 1) mid ++ (lined (n + 1) qs ++ drop (n + 1 + m) mid) =
      is ∙ sym (append_assoc front (p ∷ []) (lined (n + 1) qs ++ drop (n + suc m) ps))
      ∙ ap (λ (k : ℕ). (front ++ p ∷ []) ++ (lined (n + 1) qs ++ drop k ps)) more
      ∙ ap (λ xs. (front ++ p ∷ []) ++ (lined (n + 1) qs ++ xs)) (sym (rear m ∙ drop-drop m (n + 1) ps))
      ∙ ap (λ xs. xs ++ (lined (n + 1) qs ++ drop (n + 1 + m) mid)) (sym (ap (take (n + 1)) mid_is ∙ past_take front back p n size)) in
      let rest = sound_extended qs mid rs (n + 1) one.0 none' (omega (arith, room)) up' is' in
      record {
        sound = subst (λ (k : ℕ). IsArray cmp rs k k) (sym more) rest.sound;
        cells = λ f. ap (λ (k : ℕ). cells_of rs k f false) more ∙ rest.cells f ∙ ap (array_extended cmp qs) (one.1 f false);
        pairs = rest.pairs ∙ ap (λ xs. xs ++ qs) mid_pairs ∙ line;
      }

  pub empty_last : (ps : List (Place K V)) (len used : ℕ) → IsArray cmp ps len used → used ≡ length (live_pairs ps) → (len ≡ used) × IsEmptied (drop len ps)
  empty_last ps len used s packed =
      let none = no_length (dead_pairs ps) (omega (arith, s.all, packed)) in
      (omega (arith, s.live, packed), subst (λ (k : ℕ). IsEmptied (drop k ps)) (sym s.live) (none_dead ps s.packed none))

  -- ---- of a run of pairs, as many as were cloned

  all_front : (P : K → Type 0) (xs ys : List (K × V)) → AllByRecursion P (keys_of (xs ++ ys)) → AllByRecursion P (keys_of xs)
  all_front P [] ys a = tt
  all_front P (x ∷ xs) ys a = (a.0, all_front P xs ys a.1)

  front_rising : (xs ys : List (K × V)) → IsStrictlySortedBy cmp (keys_of (xs ++ ys)) → IsStrictlySortedBy cmp (keys_of xs)
  front_rising [] ys up = sorted_nil cmp
  front_rising (x ∷ xs) ys up = sorted_cons cmp x.0 (keys_of xs) (all_front (λ y. cmp x.0 y ≡ Less) xs ys (sorted_head cmp x.0 (keys_of (xs ++ ys)) up)) (front_rising xs ys (sorted_tail cmp x.0 (keys_of (xs ++ ys)) up))

  fewer_rising : (xs ys : List (K × V)) (j n : ℕ) → j ≤ n → IsStrictlySortedBy cmp (keys_of (xs ++ take n ys)) → IsStrictlySortedBy cmp (keys_of (xs ++ take j ys))
  fewer_rising xs ys j n h up =
      let all : n ≡ j + (n - j) = omega (arith, h) in
      let parts : take n ys ≡ take j ys ++ take (n - j) (drop j ys) = ap (λ (k : ℕ). take k ys) all ∙ take-add j (n - j) ys in
      front_rising (xs ++ take j ys) (take (n - j) (drop j ys)) (subst (λ zs. IsStrictlySortedBy cmp (keys_of zs)) (ap (λ zs. xs ++ zs) parts ∙ sym (append_assoc xs (take j ys) (take (n - j) (drop j ys)))) up)

  -- what an array is then
  pub record IsRunBehind (ps src rs : List (Place K V)) (len used from done : ℕ) : Type 0 where
    pub sound : IsArray cmp rs (len + done) (used + done)
    pub cells : (f : Bool) → cells_of rs (used + done) f false ≡ array_extended cmp (take done (drop from (live_pairs src))) (cells_of ps used f false)
    pub pairs : live_pairs rs ≡ live_pairs ps ++ take done (drop from (live_pairs src))

  pub run_behind : (ps src rs : List (Place K V)) (len used at from count done : ℕ) → IsArray cmp ps len used → used ≡ length (live_pairs ps) → at ≡ len → used + count ≤ 15 → done ≤ count → from + count ≤ length (live_pairs src)
      → IsStrictlySortedBy cmp (keys_of (live_pairs ps ++ take count (drop from (live_pairs src)))) → rs ≡ take at ps ++ (lined at (take done (drop from (live_pairs src))) ++ drop (at + done) ps) → IsRunBehind ps src rs len used from done
  run_behind ps src rs len used at from count done s packed here room most within up is =
      let qs = take done (drop from (live_pairs src)) in
      let open_ = empty_last ps len used s packed in
      let size : length qs ≡ done = simp (length-take, length-drop) (omega (arith, most, within)) in
      let is' : rs ≡ take len ps ++ (lined len qs ++ drop (len + length qs) ps) =
      is ∙ ap (λ (k : ℕ). take k ps ++ (lined k qs ++ drop (k + done) ps)) here ∙ ap (λ (k : ℕ). take len ps ++ (lined len qs ++ drop (len + k) ps)) (sym size) in
      let all = sound_extended qs ps rs len (subst (λ (k : ℕ). IsArray cmp ps len k) (sym open_.0) s) open_.1 (omega (arith, size, most, room, open_.0)) (fewer_rising (live_pairs ps) (drop from (live_pairs src)) done count most up) is' in
      let first : len + length qs ≡ len + done = omega (arith, size) in
      let second : len + length qs ≡ used + done = omega (arith, size, open_.0) in
      record {
        sound = subst (λ (k : ℕ). IsArray cmp rs (len + done) k) second (subst (λ (k : ℕ). IsArray cmp rs k (len + length qs)) first all.sound);
        cells = λ f. ap (λ (k : ℕ). cells_of rs k f false) (sym second) ∙ all.cells f ∙ ap (λ (k : ℕ). array_extended cmp qs (cells_of ps k f false)) open_.0;
        pairs = all.pairs;
      }
