-- The child on the way to a key is the one at the place where the search of the separators ends.
use Rattle.std.proofs.Common.{◌≡◌, ℕ, suc, List, [], ◌∷◌, Option, Some, None, true, false, cond, refl, sym, ap}
use Rattle.std.specs.Prelude.{slice_get}
use Rattle.std.specs.declared.cmp.Ordering.{Ordering}
use Rattle.std.specs.Ordering.{is_lt}
use Rattle.leaf_array.specs.Cells.{lesser}
use Rattle.tree_nodes.specs.Shape.{child_for, first_child}

abbrev pub child_or : {K : Type 0} → ℕ → Option (K × ℕ) → ℕ
child_or last None = last
child_or last (Some e) = e.1

pub child_at_place : {K : Type 0} (cmp : K → K → Ordering) (key : K) (last : ℕ) (es : List (K × ℕ)) → child_for cmp key es last ≡ child_or last (slice_get es (lesser cmp key es))
child_at_place cmp key last [] = refl
child_at_place cmp key last (e ∷ es) =
    elim (is_lt (cmp e.0 key)) as (λ b. cond b (child_for cmp key es last) e.1 ≡ child_or last (slice_get (e ∷ es) (cond b (suc (lesser cmp key es)) 0))) [
      | true ↦ child_at_place cmp key last es
      | false ↦ refl
    ]

pub first_is : {K : Type 0} (es : List (K × ℕ)) (last : ℕ) (e : K × ℕ) → slice_get es 0 ≡ Some e → e.1 ≡ first_child es last
first_is [] last e h = absurd (let i : None ≡ Some e = h in cc)
first_is {K = K} (x ∷ es) last e h = let i : ◌≡◌ {A = Option (K × ℕ)} (Some x) (Some e) = h in let same : x ≡ e = cc in ap (λ (p : K × ℕ). p.1) (sym same)

pub first_none : {K : Type 0} (es : List (K × ℕ)) (last : ℕ) → slice_get es 0 ≡ None → last ≡ first_child es last
first_none [] last h = refl
first_none (x ∷ es) last h = absurd (let i : Some x ≡ None = h in cc)
