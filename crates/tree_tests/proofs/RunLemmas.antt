-- What a cursor has left behind a run.
use Rattle.std.proofs.Common.{◌≡◌, ◌≤◌, ℕ, zero, suc, ◌+◌, true, false, cond, List, [], ◌∷◌, drop, length, refl, sym, ◌∙◌, arith}
use Rattle.std.specs.Prelude.{nat_lt}
use Rattle.std.proofs.lemmas.List.{drop-drop}
use Rattle.std.proofs.lemmas.Bool.Decides.{nat_tests}
use Rattle.tree_index.specs.declared.cursor.End.{End}
use Rattle.tree_index.specs.declared.cursor.End.TheVariants.{Unopened, At, Done}
use Rattle.tree_index.specs.Cursor.{Cursor, pairs_from, passed, passed_by, unread}

drop_none : {X : Type 0} (n : ℕ) → ◌≡◌ {A = List X} [] (drop n [])
drop_none zero = refl
drop_none (suc n) = refl

drop_all : {X : Type 0} (n : ℕ) (xs : List X) → length xs ≤ n → [] ≡ drop n xs
drop_all n [] h = drop_none n
drop_all zero (x ∷ xs) h = absurd (omega (arith, h))
drop_all (suc n) (x ∷ xs) h = drop_all n xs (omega (arith, h))

module _ {K V : Type 0} where
  rest_from : (n : ℕ) (ps : List (K × V)) (e : End ℕ) → pairs_from ps (passed_by n ps e) ≡ drop n (pairs_from ps e)
  rest_from n ps Unopened = drop_none n
  rest_from n ps Done = drop_none n
  rest_from n ps (At p) =
      (elim (nat_lt (p + n) (length ps)) as (λ b. nat_lt (p + n) (length ps) ≡ b → pairs_from ps (cond b (At (p + n)) Done) ≡ drop n (drop p ps)) [
        | true ↦ λ b. sym (drop-drop n p ps)
        | false ↦ λ b. drop_all (p + n) ps (grind (arith, nat_tests)) ∙ sym (drop-drop n p ps)
      ]) refl

  pub rest_of : (n : ℕ) (c : Cursor K V) → unread (passed n c) ≡ drop n (unread c)
  rest_of n c = rest_from n c.pairs c.forward
