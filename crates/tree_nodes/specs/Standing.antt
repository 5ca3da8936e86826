-- The number of a subtree in the arenas of a tree.
use Rattle.std.specs.Prelude.{◌≡◌, refl, ℕ, List, ◌++◌, Option}
use Rattle.std.specs.Coded.{Coded, code_by, coded×, coded_ℕ, coded_list}
use Rattle.std.specs.declared.cmp.Ordering.{Ordering}
use Rattle.std.specs.declared.cmp.Ordering.TheVariants.{Less}
use Rattle.tree_nodes.specs.declared.node.standing.Standing.{Standing}
use Rattle.tree_nodes.specs.Shape.{AllKeys, pairs_under, IsTree}
use Rattle.tree_nodes.specs.Content.{content_of, IsSound}

-- what a contract sees of a node over nodes: the pairs under it, and how many nodes lie from it down to a leaf
pub record Nested (K V : Type 0) : Type 0 where
  pub pairs : List (K × V)
  pub height : ℕ

abbrev pub nested_code : {K V : Type 0} → Coded K → Coded V → Coded (Nested K V)
nested_code {K} {V} k v = code_by (List (K × V) × ℕ) (coded× (coded_list (coded× k v)) coded_ℕ) (λ n. (n.pairs, n.height)) (λ p. record { pairs = p.0; height = p.1 }) (λ _. refl)

-- a list is a contiguous part of another one, between lesser keys than this one and greater ones
pub record IsAround {K V : Type 0} (cmp : K → K → Ordering) (key : K) (part whole : List (K × V)) : Type 0 where
  pub fore : List (K × V)
  pub rear : List (K × V)
  pub all : whole ≡ fore ++ (part ++ rear)
  pub less : AllKeys (λ k. cmp k key ≡ Less) fore
  pub greater : AllKeys (λ k. cmp key k ≡ Less) rear

module _ {K V : Type 0} where
  -- the pairs under it, in order
  abbrev pub standing_pairs : Standing K V → List (K × V)
  standing_pairs s = pairs_under (content_of s.arenas.now) s.height s.at

  -- there is a subtree, within some bounds
  pub record IsStanding (cmp : K → K → Ordering) (s : Standing K V) : Type 0 where
    pub sound : IsSound cmp s.arenas.now
    pub low : Option K
    pub high : Option K
    pub tree : IsTree cmp (content_of s.arenas.now) s.height s.at low high
