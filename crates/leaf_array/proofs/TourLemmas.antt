-- An iterator comes nearer to its end with each label.
use Rattle.std.proofs.Common.{arith, ◌≡◌, ℕ, suc, ◌+◌, ◌==◌, ◌<◌, ◌≤◌, ◌&&◌, ◌∷◌, [], not, List, true, false, cond, nat_lt, length, refl, subst, ◌∙◌, Some, None, IfSome}
use Rattle.std.specs.List.{filter}
use Rattle.std.specs.Option.{option_or}
use Rattle.std.proofs.lemmas.Bool.Decides.{nat_tests}
use Rattle.leaf_slots.specs.declared.place.Place.{Place}
use Rattle.leaf_slots.specs.declared.place.Place.TheVariants.{Empty, Dead, Live}
use Rattle.leaf_array.specs.Cells.{first_above, last_below, higher, lower}
use Rattle.leaf_slots.specs.Places.{labels_above}

same : (l m : ℕ × ℕ) → Some l ≡ Some m → l ≡ m
same l m h = cc

none : (m : ℕ × ℕ) → None ≡ Some m → ⊥
none m h = cc

lt_true : (x y : ℕ) → nat_lt x y ≡ true → x < y
lt_true x y h = grind (arith, nat_tests)

lt_of : (x y : ℕ) → x < y → nat_lt x y ≡ true
lt_of x y h = grind (arith, nat_tests)

lt_false : (x y : ℕ) → nat_lt x y ≡ false → y ≤ x
lt_false x y h = grind (arith, nat_tests)

ge_of : (x y : ℕ) → y ≤ x → nat_lt x y ≡ false
ge_of x y h = grind (arith, nat_tests)

higher_less : (a b : ℕ) (ls : List (ℕ × ℕ)) → a ≤ b → higher b ls ≤ higher a ls
higher_less a b [] le = omega arith
higher_less a b (m ∷ ms) le =
    (elim (nat_lt b m.1) as (λ x. nat_lt b m.1 ≡ x → length (cond x (m ∷ filter (λ l. nat_lt b l.1) ms) (filter (λ l. nat_lt b l.1) ms)) ≤ higher a (m ∷ ms)) [
      | true ↦ λ h. let t : nat_lt a m.1 ≡ true = lt_of a m.1 (omega (arith, le, lt_true b m.1 h)) in rw t (omega (arith, higher_less a b ms le))
      | false ↦ λ h.
          elim (nat_lt a m.1) as (λ y. higher b ms ≤ length (cond y (m ∷ filter (λ l. nat_lt a l.1) ms) (filter (λ l. nat_lt a l.1) ms))) [
            | true ↦ omega (arith, higher_less a b ms le)
            | false ↦ higher_less a b ms le
          ]
    ]) refl

pub higher_falls : (rank : ℕ) (ls : List (ℕ × ℕ)) (l : ℕ × ℕ) → first_above rank ls ≡ Some l → (rank < l.1) × (higher l.1 ls < higher rank ls)
higher_falls rank [] l = λ e. absurd (none l e)
higher_falls rank (m ∷ ms) l =
    (elim (nat_lt rank m.1) as (λ x. nat_lt rank m.1 ≡ x → cond x (Some m) (first_above rank ms) ≡ Some l → (rank < l.1) × (higher l.1 (m ∷ ms) < length (cond x (m ∷ filter (λ k. nat_lt rank k.1) ms) (filter (λ k. nat_lt rank k.1) ms)))) [
      | true ↦ λ h e.
          let q : m ≡ l = same m l e in
          let up : rank < m.1 = lt_true rank m.1 h in
          let t : nat_lt m.1 m.1 ≡ false = ge_of m.1 m.1 (omega arith) in
          subst (λ (y : ℕ × ℕ). (rank < y.1) × (higher y.1 (m ∷ ms) < suc (higher rank ms))) q (up, rw t (omega (arith, higher_less rank m.1 ms (omega (arith, up)))))
      | false ↦ λ h e.
          let r = higher_falls rank ms l e in
          let t : nat_lt l.1 m.1 ≡ false = ge_of l.1 m.1 (omega (arith, lt_false rank m.1 h, r.0)) in
          (r.0, rw t r.1)
    ]) refl

-- how many labels have a rank below this one
abbrev beneath : ℕ → List (ℕ × ℕ) → ℕ
beneath rank ls = length (filter (λ l. nat_lt l.1 rank) ls)

beneath_less : (a b : ℕ) (ls : List (ℕ × ℕ)) → a ≤ b → beneath a ls ≤ beneath b ls
beneath_less a b [] le = omega arith
beneath_less a b (m ∷ ms) le =
    (elim (nat_lt m.1 a) as (λ x. nat_lt m.1 a ≡ x → length (cond x (m ∷ filter (λ l. nat_lt l.1 a) ms) (filter (λ l. nat_lt l.1 a) ms)) ≤ beneath b (m ∷ ms)) [
      | true ↦ λ h. let t : nat_lt m.1 b ≡ true = lt_of m.1 b (omega (arith, le, lt_true m.1 a h)) in rw t (omega (arith, beneath_less a b ms le))
      | false ↦ λ h.
          elim (nat_lt m.1 b) as (λ y. beneath a ms ≤ length (cond y (m ∷ filter (λ l. nat_lt l.1 b) ms) (filter (λ l. nat_lt l.1 b) ms))) [
            | true ↦ omega (arith, beneath_less a b ms le)
            | false ↦ beneath_less a b ms le
          ]
    ]) refl

beneath_all : (a : ℕ) (ls : List (ℕ × ℕ)) → beneath a ls ≤ length ls
beneath_all a [] = omega arith
beneath_all a (m ∷ ms) =
    elim (nat_lt m.1 a) as (λ x. length (cond x (m ∷ filter (λ l. nat_lt l.1 a) ms) (filter (λ l. nat_lt l.1 a) ms)) ≤ suc (length ms)) [
      | true ↦ omega (arith, beneath_all a ms)
      | false ↦ omega (arith, beneath_all a ms)
    ]

last_all : (ls : List (ℕ × ℕ)) (l : ℕ × ℕ) → last_below 0 ls ≡ Some l → beneath l.1 ls < length ls
last_all [] l = λ e. absurd (none l e)
last_all (m ∷ ms) l =
    (elim (last_below 0 ms) as (λ o. last_below 0 ms ≡ o → option_or o (Some m) ≡ Some l → beneath l.1 (m ∷ ms) < suc (length ms)) [
      | None ↦ λ o e.
          let q : m ≡ l = same m l e in
          let t : nat_lt m.1 m.1 ≡ false = ge_of m.1 m.1 (omega arith) in
          subst (λ (y : ℕ × ℕ). beneath y.1 (m ∷ ms) < suc (length ms)) q (rw t (omega (arith, beneath_all m.1 ms)))
      | Some k ↦ λ o e.
          let r = last_all ms l (o ∙ e) in
          elim (nat_lt m.1 l.1) as (λ y. length (cond y (m ∷ filter (λ k. nat_lt k.1 l.1) ms) (filter (λ k. nat_lt k.1 l.1) ms)) < suc (length ms)) [ true ↦ omega (arith, r) | false ↦ omega (arith, r) ]
    ]) refl

last_some : (rank : ℕ) (ls : List (ℕ × ℕ)) (l : ℕ × ℕ) → 0 < rank → last_below rank ls ≡ Some l → beneath l.1 ls < beneath rank ls
last_some rank [] l pos = λ e. absurd (none l e)
last_some rank (m ∷ ms) l pos =
    let z : nat_lt 0 rank ≡ true = lt_of 0 rank pos in
    rw z
    ((elim (nat_lt m.1 rank) as (λ x. nat_lt m.1 rank ≡ x → cond (not x) None (option_or (last_below rank ms) (Some m)) ≡ Some l
    → beneath l.1 (m ∷ ms) < length (cond x (m ∷ filter (λ k. nat_lt k.1 rank) ms) (filter (λ k. nat_lt k.1 rank) ms))) [
      | true ↦ λ h.
          (elim (last_below rank ms) as (λ o. last_below rank ms ≡ o → option_or o (Some m) ≡ Some l → beneath l.1 (m ∷ ms) < suc (beneath rank ms)) [
            | None ↦ λ o e.
                let q : m ≡ l = same m l e in
                let t : nat_lt m.1 m.1 ≡ false = ge_of m.1 m.1 (omega arith) in
                let under : m.1 < rank = lt_true m.1 rank h in
                subst (λ (y : ℕ × ℕ). beneath y.1 (m ∷ ms) < suc (beneath rank ms)) q (rw t (omega (arith, beneath_less m.1 rank ms (omega (arith, under)))))
            | Some k ↦ λ o e.
                let r = last_some rank ms l pos (o ∙ e) in
                elim (nat_lt m.1 l.1) as (λ y. length (cond y (m ∷ filter (λ k. nat_lt k.1 l.1) ms) (filter (λ k. nat_lt k.1 l.1) ms)) < suc (beneath rank ms)) [ true ↦ omega (arith, r) | false ↦ omega (arith, r) ]
          ]) refl
      | false ↦ λ h e. absurd (none l e)
    ]) refl)

pub lower_falls : (rank : ℕ) (ls : List (ℕ × ℕ)) (l : ℕ × ℕ) → last_below rank ls ≡ Some l → 0 < l.1 → lower l.1 ls < lower rank ls
lower_falls rank ls l e pos =
    let some : (l.1 == 0) ≡ false = grind (arith, nat_tests) in
    rw some
    ((elim (rank == 0) as (λ b. (rank == 0) ≡ b → beneath l.1 ls < cond b (length ls) (beneath rank ls)) [
      | true ↦ λ h. let zero_is : rank ≡ 0 = grind (arith, nat_tests) in last_all ls l (rw zero_is at e)
      | false ↦ λ h. let above : 0 < rank = grind (arith, nat_tests) in last_some rank ls l above e
    ]) refl)

-- the rank of a label isn't 0
pub last_ranked : {K V : Type 0} (rank low : ℕ) (ps : List (Place K V)) → IfSome (last_below rank (labels_above low ps)) (λ l. 0 < l.1)
last_ranked rank low [] = tt
last_ranked rank low (Empty ∷ ps) = tt
last_ranked rank low (Dead s k v ∷ ps) = tt
last_ranked rank low (Live s g k v ∷ ps) =
    elim (nat_lt 0 rank && not (nat_lt (low + g + 1) rank)) as (λ b. IfSome (cond b None (option_or (last_below rank (labels_above (low + g + 1) ps)) (Some (s, low + g + 1)))) (λ l. 0 < l.1)) [
      | true ↦ tt
      | false ↦
          (elim (last_below rank (labels_above (low + g + 1) ps)) as (λ o. IfSome o (λ l. 0 < l.1) → IfSome (option_or o (Some (s, low + g + 1))) (λ l. 0 < l.1)) [
            | None ↦ λ h. omega arith
            | Some k ↦ λ h. h
          ]) (last_ranked rank (low + g + 1) ps)
    ]
