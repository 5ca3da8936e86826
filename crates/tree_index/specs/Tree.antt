-- What a contract sees of a tree.
use Rattle.std.specs.Prelude.{refl, ℕ, List}
use Rattle.std.specs.Coded.{Coded, code_by, coded×, coded_ℕ, coded_list}
use Rattle.tree_index.specs.declared.index.InsertRefused.{InsertRefused}
use Rattle.tree_index.specs.declared.index.InsertRefused.TheVariants.{Duplicate, Memory}

-- its pairs by rising keys; how many nodes lie above a leaf; 0 where these are more than 1, else one more than the number of pairs, each above all others, that it takes at least before they are
pub record Tree (K V : Type 0) : Type 0 where
  pub pairs : List (K × V)
  pub depth : ℕ
  pub ascending_headroom : ℕ

abbrev pub tree_code : {K V : Type 0} → Coded K → Coded V → Coded (Tree K V)
tree_code {K} {V} k v = code_by (List (K × V) × (ℕ × ℕ)) (coded× (coded_list (coded× k v)) (coded× coded_ℕ coded_ℕ)) (λ t. (t.pairs, (t.depth, t.ascending_headroom))) (λ p. record { pairs = p.0; depth = p.1.0; ascending_headroom = p.1.1 }) (λ _. refl)

module _ {K V : Type 0} where
  abbrev pub RefusedAsDuplicate : InsertRefused K V → Type 0
  RefusedAsDuplicate (Duplicate k v) = Unit {0}
  RefusedAsDuplicate (Memory k v) = ⊥

  abbrev pub RefusedForMemory : InsertRefused K V → Type 0
  RefusedForMemory (Duplicate k v) = ⊥
  RefusedForMemory (Memory k v) = Unit {0}

  -- the pair that is returned
  abbrev pub refused_pair : InsertRefused K V → K × V
  refused_pair (Duplicate k v) = (k, v)
  refused_pair (Memory k v) = (k, v)
