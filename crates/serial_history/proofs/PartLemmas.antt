-- Parts of a list, and whether some items are one.
use Rattle.std.proofs.Common.{◌≡◌, ℕ, zero, suc, ◌+◌, ◌-◌, ◌<◌, ◌≤◌, Bool, true, false, nat_lt, not, is_some, IsSome, IsTrue, ◌↔◌, List, [], ◌∷◌, ◌++◌, take, drop, length, get_or, reverse, Option, Some, None, refl, sym, ap, ◌∙◌, arith, append-nil, length-append}
use Rattle.std.specs.Borrow.{Bor}
use Rattle.std.specs.Cmp.{IsTotalOrder}
use Rattle.std.specs.List.{slice_get}
use Rattle.std.specs.declared.cmp.Ordering.{Ordering}
use Rattle.std.specs.BTreeMap.Range.{entries_between}
use Rattle.std.proofs.Math.Seq.{take-append_seam, drop-append_seam}
use Rattle.std.proofs.lemmas.Bool.Decides.{nat_tests}
use Rattle.std.proofs.lemmas.List.{get_or-reverse, length-drop, length-reverse, length-take, reverse-append, reverse-reverse, take-append-drop, take_all}
use Rattle.tree_index.specs.Cursor.{Cursor, deref_pair}
use Rattle.version_views.proofs.OptionLemmas.{at_some}
use Rattle.serial_history.specs.Parts.{has_room, is_over, part_of, place_of, turned}
use Rattle.serial_history.specs.RemainingPairs.{IsStart, remaining_of}
use Rattle.serial_history.specs.declared.query.Part.{Part}
use Rattle.serial_history.specs.declared.query.Part.TheVariants as parts
use Rattle.serial_history.proofs.RemainingBackLemmas.{left_at_end}
use Rattle.serial_history.proofs.RemainingPairsLemmas.{all_given, left_at_start}

below : (m n : ℕ) → nat_lt m n ≡ true → m < n
below m n e = grind (arith, nat_tests)

above : (m n : ℕ) → nat_lt m n ≡ false → n ≤ m
above m n e = grind (arith, nat_tests)

at_most : (m n : ℕ) → n ≤ m → nat_lt m n ≡ false
at_most m n h = grind (arith, nat_tests)

module _ {X : Type 0} where
  -- more items than a part may have are none
  pub too_many : (part : Part) (told all : List X) → is_over part (length told) ≡ true → told ≡ part_of part all → ⊥
  too_many parts.All told all over e = absurd cc
  too_many (parts.First most) told all over e = let more = below most (length told) over in omega (arith, more, ap length e, length-take most all)
  too_many (parts.Last most) told all over e = let more = below most (length told) over in omega (arith, more, ap length e, length-drop (length all - most) all)

  -- a part is given before the rest
  abbrev pub rest_of : Part → List X → List X
  rest_of parts.All all = []
  rest_of (parts.First most) all = drop most all
  rest_of (parts.Last most) all = reverse (take (length all - most) all)

  pub begins : (part : Part) (told all : List X) → told ≡ part_of part all → turned part told ++ rest_of part all ≡ turned part all
  begins parts.All told all e = append-nil told ∙ e
  begins (parts.First most) told all e = ap (λ xs. xs ++ drop most all) e ∙ take-append-drop most all
  begins (parts.Last most) told all e =
      ap (λ xs. reverse xs ++ reverse (take (length all - most) all)) e
      ∙ sym (reverse-append (take (length all - most) all) (drop (length all - most) all))
      ∙ ap reverse (take-append-drop (length all - most) all)

  -- as many given items as a part may have are the part
  pub full_given : (part : Part) (told left all : List X) → turned part told ++ left ≡ turned part all → is_over part (length told) ≡ false → has_room part (length told) ≡ false → told ≡ part_of part all
  full_given parts.All told left all e over room = absurd cc
  full_given (parts.First most) told left all e over room =
      let least = above most (length told) over in
      let greatest = above (length told) most room in
      let len : length told ≡ most = omega (arith, least, greatest) in
      sym (take-append_seam told left) ∙ ap (λ k. take k (told ++ left)) len ∙ ap (take most) e
  full_given (parts.Last most) told left all e over room =
      let least = above most (length told) over in
      let greatest = above (length told) most room in
      let whole : all ≡ reverse left ++ told = sym (reverse-reverse all) ∙ ap reverse (sym e) ∙ reverse-append (reverse told) left ∙ ap (λ xs. reverse left ++ xs) (reverse-reverse told) in
      let gone : length (reverse left) ≡ length all - most = omega (arith, least, greatest, ap length whole, length-append (reverse left) told) in
      sym (drop-append_seam (reverse left) told) ∙ ap (λ k. drop k (reverse left ++ told)) gone ∙ ap (drop (length all - most)) (sym whole)

  -- a part that has room may have one more
  pub one_more : (part : Part) (given longer : List X) (x : X) → longer ≡ given ++ x ∷ [] → has_room part (length given) ≡ true → is_over part (length longer) ≡ false
  one_more parts.All given longer x e room = refl
  one_more (parts.First most) given longer x e room = let few = below (length given) most room in at_most most (length longer) (omega (arith, few, ap length e, length-append given (x ∷ [])))
  one_more (parts.Last most) given longer x e room = let few = below (length given) most room in at_most most (length longer) (omega (arith, few, ap length e, length-append given (x ∷ [])))

  -- all items are the part, where they aren't more than it may have
  pub all_are_part : (part : Part) (told all : List X) → told ≡ all → is_over part (length told) ≡ false → told ≡ part_of part all
  all_are_part parts.All told all e over = e
  all_are_part (parts.First most) told all e over =
      let few = above most (length told) over in
      e ∙ sym (take_all most all (omega (arith, ap length e, few)))
  all_are_part (parts.Last most) told all e over =
      let few = above most (length told) over in
      let none : 0 ≡ length all - most = omega (arith, ap length e, few) in
      e ∙ ap (λ k. drop k all) none

  -- a part that may have another item is the whole list
  pub part_is_all : (part : Part) (told all : List X) → has_room part (length told) ≡ true → told ≡ part_of part all → told ≡ all
  part_is_all parts.All told all room e = e
  part_is_all (parts.First most) told all room e =
      let few = below (length told) most room in
      e ∙ take_all most all (omega (arith, few, ap length e, length-take most all))
  part_is_all (parts.Last most) told all room e =
      let few = below (length told) most room in
      let none : length all - most ≡ 0 = omega (arith, few, ap length e, length-drop (length all - most) all) in
      e ∙ ap (λ k. drop k all) none

  -- what is turned twice is as it was
  pub turned_twice : (part : Part) (xs : List X) → turned part (turned part xs) ≡ xs
  turned_twice parts.All xs = refl
  turned_twice (parts.First most) xs = refl
  turned_twice (parts.Last most) xs = reverse-reverse xs

  pub turned_same : (part : Part) (told all : List X) → turned part told ≡ turned part all → told ≡ all
  turned_same part told all e = sym (turned_twice part told) ∙ ap (turned part) e ∙ turned_twice part all

  pub turned_length : (part : Part) (xs : List X) → length (turned part xs) ≡ length xs
  turned_length parts.All xs = refl
  turned_length (parts.First most) xs = refl
  turned_length (parts.Last most) xs = length-reverse xs

  -- what was given is turned to be the part
  pub full_turned : (part : Part) (given left all : List X) → given ++ left ≡ turned part all → is_over part (length given) ≡ false → has_room part (length given) ≡ false → turned part given ≡ part_of part all
  full_turned part given left all e over room =
      full_given part (turned part given) left all (ap (λ xs. xs ++ left) (turned_twice part given) ∙ e)
      (ap (is_over part) (turned_length part given) ∙ over) (ap (has_room part) (turned_length part given) ∙ room)

  pub all_turned : (part : Part) (given all : List X) → given ≡ turned part all → is_over part (length given) ≡ false → turned part given ≡ part_of part all
  all_turned part given all e over =
      all_are_part part (turned part given) all (ap (turned part) e ∙ turned_twice part all) (ap (is_over part) (turned_length part given) ∙ over)

  reversed_at : (xs : List X) (i : ℕ) → i < length xs → slice_get (reverse xs) i ≡ slice_get xs (length xs - 1 - i)
  reversed_at [] i h = absurd (omega (arith, h))
  reversed_at (x ∷ xs) i h =
      let ys : List X = x ∷ xs in
      let y : X = get_or ys (length ys - 1 - i) x in
      at_some i (reverse ys) y x (omega (arith, h, length-reverse ys)) (sym (get_or-reverse ys i x h)) ∙ sym (at_some (length ys - 1 - i) ys y x (omega (arith, h)) refl)

  -- where a turned item stood
  pub turned_at : (part : Part) (xs : List X) (i : ℕ) → i < length xs → slice_get (turned part xs) i ≡ slice_get xs (place_of part i (length xs))
  turned_at parts.All xs i h = refl
  turned_at (parts.First most) xs i h = refl
  turned_at (parts.Last most) xs i h = reversed_at xs i h

  -- one more was given
  pub take_next : (i : ℕ) (xs left : List X) → i < length xs → slice_get left 0 ≡ slice_get xs i → take (i + 1) xs ++ drop 1 left ≡ take i xs ++ left
  take_next i [] left h e = absurd (omega (arith, h))
  take_next zero (x ∷ xs) [] h e = absurd cc
  take_next zero (x ∷ xs) (y ∷ left) h e = let same : y ≡ x = cc in ap (λ z. z ∷ left) (sym same)
  take_next (suc i) (x ∷ xs) left h e =
      let more : suc i + 1 ≡ suc (i + 1) = omega arith in
      ap (λ n. take n (x ∷ xs) ++ drop 1 left) more ∙ ap (λ ys. x ∷ ys) (take_next i xs left (omega (arith, h)) e)

-- a part that may have another pair is what was given exactly where nothing is left
pub part_given : {K V : Type 0} (part : Part) (told left all : List (K × V)) (r : Option (Bor K × Bor V)) (none : Bool) → turned part told ++ left ≡ turned part all → is_some r ≡ not none → deref_pair r ≡ slice_get left 0 → is_over part (length told) ≡ false → has_room part (length told) ≡ true → IsTrue none ↔ (told ≡ part_of part all)
part_given part told left all r none e b f over room =
    let whole = all_given (turned part told) left (turned part all) r none e b f in
    (λ t. all_are_part part told all (turned_same part told all (whole.0 t)) over, λ same. whole.1 (ap (turned part) (part_is_all part told all room same)))

-- what is a pair is there
pub found_some : {K V : Type 0} (r : Option (Bor K × Bor V)) (p : K × V) → deref_pair r ≡ Some p → IsSome r
found_some None p e = absurd cc
found_some (Some q) p e = refl

pub left_at_first : {K V : Type 0} {cmp : K → K → Ordering} → IsTotalOrder cmp → (part : Part) (c : Cursor K V) → IsStart cmp c → remaining_of cmp part c ≡ turned part (entries_between cmp c.lower c.upper c.pairs)
left_at_first o parts.All c s = left_at_start o c s
left_at_first o (parts.First most) c s = left_at_start o c s
left_at_first o (parts.Last most) c s = left_at_end o c s
