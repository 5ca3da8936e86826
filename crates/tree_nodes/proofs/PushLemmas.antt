-- A pair behind all others goes to the last leaf.
use Rattle.std.proofs.Common.{◌≡◌, ◌≢◌, ◌<◌, ◌⊎◌, inl, inr, ℕ, suc, ◌+◌, ◌==◌, true, false, cond, List, [], ◌∷◌, ◌++◌, length, refl, sym, ap, ◌∙◌, subst, arith}
use Rattle.std.specs.declared.cmp.Ordering.{Ordering}
use Rattle.std.specs.declared.cmp.Ordering.TheVariants.{Less, Greater}
use Rattle.std.specs.Ordering.{is_lt}
use Rattle.std.specs.Cmp.{IsTotalOrder}
use Rattle.std.proofs.lemmas.Bool.Decides.{eqb_tells}
use Rattle.leaf_array.specs.Cells.{lesser}
use Rattle.tree_nodes.specs.declared.arenas.Arenas.{Arenas}
use Rattle.tree_nodes.specs.Shape.{AllKeys, joined_over}
use Rattle.tree_nodes.specs.Chain.{times}
use Rattle.tree_nodes.specs.Content.{pairs_of, leaves_of, leaf_on_way, IsSound}
use Rattle.tree_nodes.specs.Depth.{IsAbove}
use Rattle.tree_nodes.specs.Push.{LastLeafHasRoom}
use Rattle.tree_nodes.specs.Walk.{pairs_in_leaf}
use Rattle.tree_nodes.proofs.ShapeLemmas.{turned}
use Rattle.tree_nodes.proofs.ChainLemmas.{times_append, first_times}
use Rattle.tree_nodes.proofs.WalkLemmas.{all_held, held_is}
use Rattle.tree_nodes.proofs.WithoutLemmas.{part_of, leaf_keys, way_around, rights_hold}

-- all keys of a list below one are so many as the list has
pub lesser_all : {K V : Type 0} (cmp : K → K → Ordering) (key : K) (ps : List (K × V)) → AllKeys (λ k. cmp k key ≡ Less) ps → lesser cmp key ps ≡ length ps
lesser_all cmp key [] a = refl
lesser_all cmp key (p ∷ ps) a = ap (λ b. cond (is_lt b) (suc (lesser cmp key ps)) 0) a.0 ∙ ap suc (lesser_all cmp key ps a.1)

-- no key lies on both sides of another
pub none_between : {K V : Type 0} (cmp : K → K → Ordering) (o : IsTotalOrder cmp) (key : K) (ps : List (K × V)) → AllKeys (λ k. cmp k key ≡ Less) ps → AllKeys (λ k. cmp key k ≡ Less) ps → ps ≡ []
none_between cmp o key [] a b = refl
none_between cmp o key (p ∷ ps) a b = absurd (let e : Greater ≡ Less = sym (turned o p.0 key a.0) ∙ b.0 in cc)

none_held : {K V : Type 0} (ps : List (K × V)) → 0 < length ps → AllKeys (λ k. ⊥) ps → ⊥
none_held [] h a = omega (arith, h)
none_held (p ∷ ps) h a = a.0

-- the last of a row comes behind any other
last_in : (fore lefts rights : List ℕ) (n at : ℕ) → fore ++ n ∷ [] ≡ lefts ++ at ∷ rights → times n (at ∷ rights) ≢ 0
last_in fore [] rights n at e = λ z. let all : times n (fore ++ n ∷ []) ≡ 0 = ap (times n) e ∙ z in omega (arith, all, times_append n fore (n ∷ []), first_times n [])
last_in [] (l ∷ ls) rights n at e = absurd (empty ls (let tail : [] ≡ ls ++ at ∷ rights = cc in tail))
  where
    empty : (xs : List ℕ) → ◌≡◌ {A = List ℕ} [] (xs ++ at ∷ rights) → ⊥
    empty [] h = cc
    empty (x ∷ xs) h = cc
last_in (f ∷ fs) (l ∷ ls) rights n at e = last_in fs ls rights n at (let tail : fs ++ n ∷ [] ≡ ls ++ at ∷ rights = cc in tail)

module _ {K V : Type 0} (cmp : K → K → Ordering) (o : IsTotalOrder cmp) (key : K) (a : Arenas K V) (s : IsSound cmp a) (n : ℕ) (open_ : LastLeafHasRoom a n) (above : IsAbove cmp key (pairs_of a)) where
  -- the way to a key above all others leads to the last leaf
  pub open_way : n ≡ leaf_on_way cmp key a
  open_way =
      let r = way_around cmp o key a s open_.own.0 in
      let at = leaf_on_way cmp key a in
      let less = (part_of (λ k. cmp k key ≡ Less) _ r.back (part_of (λ k. cmp k key ≡ Less) r.front _ (subst (AllKeys (λ k. cmp k key ≡ Less)) r.pairs above)).1).1 in
      let none : joined_over (pairs_in_leaf a) r.rights ≡ [] = rights_hold cmp o key a s open_.own.0 ∙ none_between cmp o key r.back less r.behind in
      split at r.rights none (last_in open_.fore r.lefts r.rights n at (sym open_.last ∙ r.order)) (eqb_tells at n)
    where
      split : (at : ℕ) (rights : List ℕ) → joined_over (pairs_in_leaf a) rights ≡ [] → times n (at ∷ rights) ≢ 0 → ((at == n) ≡ true × (at ≡ n)) ⊎ ((at == n) ≡ false × (at ≢ n)) → n ≡ at
      split at rights none there (inl e) = sym e.1
      split at rights none there (inr e) =
          let here : ◌≡◌ {A = ℕ} (cond (at == n) 1 0) 0 = ap (λ b. cond b 1 0) e.0 in
          let kept = leaf_keys (λ k. ⊥) (pairs_in_leaf a) n rights (λ z. there (omega (arith, here, z))) (subst (AllKeys (λ k. ⊥)) (sym none) tt) in
          absurd (none_held open_.leaf.array.pairs open_.some (subst (AllKeys (λ k. ⊥)) (held_is a n open_.leaf open_.there) kept))

  -- its keys are below it too
  pub open_above : AllKeys (λ k. cmp k key ≡ Less) open_.leaf.array.pairs
  open_above =
      subst (AllKeys (λ k. cmp k key ≡ Less)) (held_is a n open_.leaf open_.there)
      (leaf_keys (λ k. cmp k key ≡ Less) (pairs_in_leaf a) n (leaves_of a) open_.own.1 (subst (AllKeys (λ k. cmp k key ≡ Less)) (all_held a) above))
