-- What a directory holds.
use Rattle.std.proofs.Common.{◌≡◌, ℕ, List, [], ◌∷◌, ◌++◌, length, map, reverse, ap, ◌∙◌, arith}
use Rattle.std.proofs.lemmas.List.{length-map, length-reverse, map-append, reverse-append}
use Rattle.sdd_table.specs.Groups.{name_of}
use Rattle.sdd_table.specs.Holding.{Hold, OwnerGroup}
use Rattle.sdd_table.specs.declared.groups.Group.{Group}
use Rattle.version_views.specs.Items.{names_of}
use Rattle.version_views.specs.declared.row.Row.{Row}

module _ {K : Type 0} where
  -- rows as they are given up
  abbrev pub held : List (Row K Group) → List Hold
  held rows = reverse (map OwnerGroup (names_of rows))

  -- the last row is given up first
  pub held_last : (old new : List (Row K Group)) (r : Row K Group) → old ≡ new ++ r ∷ [] → held old ≡ OwnerGroup (name_of r.segments) ∷ held new
  held_last old new r h =
      ap held h
      ∙ ap (λ (is : List ℕ). reverse (map OwnerGroup is)) (map-append (λ (r : Row K Group). name_of r.segments) new (r ∷ []))
      ∙ ap reverse (map-append OwnerGroup (names_of new) (name_of r.segments ∷ []))
      ∙ reverse-append (map OwnerGroup (names_of new)) (OwnerGroup (name_of r.segments) ∷ [])

  -- where nothing is held there is no row
  pub none_held : (rows : List (Row K Group)) → held rows ≡ [] → length rows ≡ 0
  none_held rows h =
      let none = ap length h in
      let turned = length-reverse (map OwnerGroup (names_of rows)) in
      let first = length-map (names_of rows) OwnerGroup in
      let second = length-map rows (λ (r : Row K Group). name_of r.segments) in
      omega (arith, none, turned, first, second)
