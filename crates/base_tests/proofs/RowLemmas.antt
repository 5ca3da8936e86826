-- A row of three items, each of which takes an owner.
use Rattle.std.proofs.Common.{◌≡◌, ◌≢◌, inl, inr, ℕ, ◌+◌, ◌≤◌, List, [], ◌∷◌, length, get_or, drop, map, subst, take, sym, ap, ◌∙◌, arith}
use Rattle.std.proofs.lemmas.Bool.Decides.{eqb_tells}
use Rattle.std.proofs.lemmas.List.{get_or-map, length-map, take-append-drop}
use Rattle.std.proofs.lemmas.List.Elements.{All-cons, All-drop, All-nil, All-take}
use Rattle.std.proofs.lemmas.List.Sums.{sum_by-append, sum_by-cons}
use Rattle.sdd_table.specs.Place.{TakeOwners, TakesOwner}
use Rattle.sdd_table.specs.State.{State}
use Rattle.sdd_table.specs.Steps.{hit, times}
use Rattle.sdd_table.specs.Tokens.{kept_slot}
use Rattle.sdd_table.specs.declared.owner.Kept.{Kept}
use Rattle.sdd_table.proofs.ListLemmas.{hit-other, hit-same}

apart : (x y j : ℕ) → x ≢ y → hit x j + hit y j ≤ 1
apart x y j ne = elim (eqb_tells x j) [
  | inl e ↦ let one = ap (λ k. hit k j) e.1 in let same = hit-same j in let none = hit-other y j (λ f. ne (e.1 ∙ f)) in omega (arith, one, same, none)
  | inr e ↦ let none = hit-other x j (λ f. e.1 (sym f)) in elim (eqb_tells y j) [
    | inl f ↦ let one = ap (λ k. hit k j) f.1 in let same = hit-same j in omega (arith, none, one, same)
    | inr f ↦ let other = hit-other y j (λ g. f.1 (sym g)) in omega (arith, none, other)
  ]
]

module _ {T : Type 0} (w : State T) where
  pub takes_three : (xs : List ℕ) → length xs ≡ 3 → TakesOwner (get_or xs 0 0) w → TakesOwner (get_or xs 1 0) w → TakesOwner (get_or xs 2 0) w → get_or xs 0 0 ≢ get_or xs 1 0 → get_or xs 0 0 ≢ get_or xs 2 0 → get_or xs 1 0 ≢ get_or xs 2 0 → TakeOwners xs w
  takes_three [] long a b c ab ac bc = absurd (omega (arith, long))
  takes_three (x ∷ []) long a b c ab ac bc = absurd (omega (arith, long))
  takes_three (x ∷ (y ∷ [])) long a b c ab ac bc = absurd (omega (arith, long))
  takes_three (x ∷ (y ∷ (z ∷ []))) long a b c ab ac bc =
      let P : ℕ → Type 0 = λ i. TakesOwner i w in
      record {
        each = All-cons P x (y ∷ z ∷ []) a (All-cons P y (z ∷ []) b (All-cons P z [] c (All-nil P)));
        once = λ j.
            let first = sum_by-cons (λ i. hit i j) x (y ∷ z ∷ []) in
            let second = sum_by-cons (λ i. hit i j) y (z ∷ []) in
            let third = sum_by-cons (λ i. hit i j) z [] in
            let xy = apart x y j ab in
            let xz = apart x z j ac in
            let yz = apart y z j bc in
            omega (arith, first, second, third, xy, xz, yz);
      }
  takes_three (x ∷ (y ∷ (z ∷ (v ∷ vs)))) long a b c ab ac bc = absurd (omega (arith, long))

  -- the same of owners in a row
  pub takes_row : (row : List Kept) (is : List ℕ) (a b c : Kept) → is ≡ map kept_slot row → length row ≡ 3 → a ≡ get_or row 0 a → b ≡ get_or row 1 b → c ≡ get_or row 2 c → TakesOwner (kept_slot a) w → TakesOwner (kept_slot b) w → TakesOwner (kept_slot c) w → kept_slot a ≢ kept_slot b → kept_slot a ≢ kept_slot c → kept_slot b ≢ kept_slot c → TakeOwners is w
  takes_row row is a b c e long ra rb rc ta tb tc ab ac bc =
      let xs = map kept_slot row in
      let first : kept_slot a ≡ get_or xs 0 0 = ap kept_slot ra ∙ sym (get_or-map kept_slot row 0 a 0 (omega (arith, long))) in
      let second : kept_slot b ≡ get_or xs 1 0 = ap kept_slot rb ∙ sym (get_or-map kept_slot row 1 b 0 (omega (arith, long))) in
      let third : kept_slot c ≡ get_or xs 2 0 = ap kept_slot rc ∙ sym (get_or-map kept_slot row 2 c 0 (omega (arith, long))) in
      let P : ℕ → Type 0 = λ i. TakesOwner i w in
      subst (λ ys. TakeOwners ys w) (sym e)
      (takes_three xs (length-map row kept_slot ∙ long) (subst P first ta) (subst P second tb) (subst P third tc) (λ f. ab (first ∙ (f ∙ sym second))) (λ f. ac (first ∙ (f ∙ sym third))) (λ f. bc (second ∙ (f ∙ sym third))))

  -- and so does a part of what takes owners
  pub takes_part : (n from : ℕ) (xs : List ℕ) → TakeOwners xs w → TakeOwners (take n (drop from xs)) w
  takes_part n from xs h =
      let P : ℕ → Type 0 = λ i. TakesOwner i w in
      record {
        each = All-take P n (drop from xs) (All-drop P from xs h.each);
        once = λ j.
            let behind = ap (times j) (sym (take-append-drop from xs)) ∙ sum_by-append (λ i. hit i j) (take from xs) (drop from xs) in
            let rest = ap (times j) (sym (take-append-drop n (drop from xs))) ∙ sum_by-append (λ i. hit i j) (take n (drop from xs)) (drop n (drop from xs)) in
            let once = h.once j in
            omega (arith, behind, rest, once);
      }
