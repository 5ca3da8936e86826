-- what is at a place of a list that was mapped
use Rattle.std.proofs.Common.{◌≡◌, ℕ, zero, suc, Some, List, [], ◌∷◌, map, slice_get, ap}
use Rattle.tree_index.proofs.WayLemmas.{some_same}

pub slice_map : {X Y : Type 0} (f : X → Y) (xs : List X) (i : ℕ) (x : X) → slice_get xs i ≡ Some x → slice_get (map f xs) i ≡ Some (f x)
slice_map f [] i x e = absurd (cc)
slice_map f (y ∷ xs) zero x e = ap (λ z. Some (f z)) (some_same e)
slice_map f (y ∷ xs) (suc i) x e = slice_map f xs i x e
