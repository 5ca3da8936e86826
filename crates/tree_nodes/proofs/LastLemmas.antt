-- A list whose lower half gives up its last item.
use Rattle.std.proofs.Common.{◌≡◌, ◌<◌, ℕ, ◌+◌, ◌-◌, List, [], ◌∷◌, ◌++◌, length, take, drop, None, Some, sym, ap, ◌∙◌, ⊎_elim, arith, append_assoc}
use Rattle.std.proofs.Math.Seq.{take-length}
use Rattle.std.proofs.lemmas.List.{take-append-drop, take_more}
use Rattle.std.proofs.lemmas.Option.{get_or_from_slice_get, none-some, slice_get_cases, slice_get_within}
use Rattle.std.specs.List.{slice_get}

-- a list is all but its last item, and that
before_last : {X : Type 0} (xs : List X) (x : X) → slice_get xs (length xs - 1) ≡ Some x → xs ≡ take (length xs - 1) xs ++ x ∷ []
before_last xs x e =
    let within = slice_get_within xs (length xs - 1) x e in
    let long : length xs ≡ length xs - 1 + 1 = omega (arith, within) in
    sym (take-length xs) ∙ ap (λ n. take n xs) long ∙ take_more xs (length xs - 1) x within
    ∙ ap (λ y. take (length xs - 1) xs ++ y ∷ []) (get_or_from_slice_get xs (length xs - 1) x x e)

-- what is in front of an item, the item, and what is behind it
pub halves : {X : Type 0} (xs low high rest : List X) (n : ℕ) (x : X) → low ≡ take n xs → high ≡ drop n xs → slice_get low (length low - 1) ≡ Some x → rest ≡ take (length low - 1) low → xs ≡ rest ++ x ∷ high
halves xs low high rest n x lower upper last front =
    sym (take-append-drop n xs) ∙ ap (λ l. l ++ drop n xs) (sym lower ∙ before_last low x last ∙ ap (λ r. r ++ x ∷ []) (sym front))
    ∙ append_assoc rest (x ∷ []) (drop n xs) ∙ ap (λ h. rest ++ x ∷ h) (sym upper)

-- a list with items has a last one
pub has_last : {X : Type 0} (xs : List X) → 0 < length xs → None ≡ slice_get xs (length xs - 1) → ⊥
has_last xs some none = ⊎_elim (λ q. none-some q.0 (none ∙ q.2)) (λ q. omega (arith, some, q.0)) (slice_get_cases xs (length xs - 1)).1
