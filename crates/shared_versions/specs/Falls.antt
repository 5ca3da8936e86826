-- no owner of a version has a version, nor the rest of one
use Rattle.std.specs.Prelude.{ℕ, suc, ◌≤◌, List, [], ◌∷◌, ◌++◌, max, Option, None, Some, IsSome}
use Rattle.std.specs.declared.cmp.Ord
use Rattle.std.specs.declared.cmp.PartialEq
use Rattle.std.specs.declared.cmp.PartialOrd
use Rattle.std.specs.declared.mem.ManuallyDrop.{ManuallyDrop}
use Rattle.std.specs.declared.sync.Arc.{Arc}
use Rattle.std.specs.Global.{Global}
use Rattle.std.specs.Mem.{manually_drop_value}
use Rattle.std.specs.Option.{option_map}
use Rattle.std.proofs.Common.{arith}
use Rattle.std.specs.List.{All}
use Rattle.std.proofs.lemmas.List.Elements.{All-cons}
use denote.Param.Weighed.{most, w_this}
use Rattle.sdd_domain.specs.declared.held.Held.{Held}
use Rattle.sdd_domain.specs.formers.held.Held.{the_weighed}
use Rattle.shared_versions.specs.declared.node.Node.{Node}
use Rattle.shared_versions.specs.declared.node.Node.TheVariants as nodes
use Rattle.shared_versions.specs.declared.node.RowOwner.{RowOwner}
use Rattle.shared_versions.specs.declared.node.RowOwner.TheVariants as owners
use Rattle.shared_versions.specs.declared.node.Rest.TheDeep.{deep-Node, deep-Rest, deep-RowOwner, deep-Version}
use Rattle.shared_versions.specs.declared.node.Rest.TheInside.{Inside as Left}
use Rattle.shared_versions.specs.declared.node.Version.TheInside.{Inside}
use Rattle.tree_index.specs.Tree.{Tree}
use Rattle.version_views.specs.declared.row.Row.{Row}
use Rattle.shared_versions.specs.Nodes.{IsItem, OwnsItem, OwnsRow, holds_in, own_segments, row_holds}

most_falls : {X : Type 0} (weight : X → ℕ) (xs : List X) → All (λ x. weight x ≤ 0) xs → most weight xs ≤ 0
most_falls weight [] all = omega arith
most_falls weight (x ∷ xs) all = omega (arith, all 0 x (omega arith), most_falls weight xs (λ k e p. all (suc k) e (omega (arith, p))))

-- the rows are one of the parts of a version, and all of what is left of one
version_max : (n : ℕ) → n ≤ 0 → max (max 0 (max 0 (max n 0))) 0 ≤ 0
version_max n h = omega (arith, h)

rest_max : (n : ℕ) → n ≤ 0 → max n 0 ≤ 0
rest_max n h = omega (arith, h)

module _ {K V : Type 0} (g : Ord.Ghosts K) (g' : PartialEq.Ghosts K) (g'' : PartialOrd.Ghosts K) where
  abbrev weight_of : Held (Node K V) → ℕ
  weight_of = (the_weighed w_this).weight (Node K V) (deep-Node K V g g' g'')

  -- an owner that reads this
  abbrev reads : Held (Node K V) → (o : Option (ManuallyDrop (Node K V))) → IsSome o → Held (Node K V)
  reads h o there = record { slot = h.slot; part = record { part = record { seen = record { ptr = h.part.part.seen.ptr; value = o; life = h.part.part.seen.life }; life = h.part.part.life; same = h.part.part.same }; one = h.part.one }; there = there; low = h.low }

  node_falls : (n : Node K V) → IsItem (Some n) → deep-Node K V g g' g'' n ≤ 0
  node_falls (nodes.Version v) is = absurd is
  node_falls (nodes.Row d) is = omega arith
  node_falls (nodes.Rest os) is = absurd is

  owner_falls : (h : Held (Node K V)) (o : Option (ManuallyDrop (Node K V))) (there : IsSome o) → IsItem (option_map manually_drop_value o) → weight_of (reads h o there) ≤ 0
  owner_falls h None there is = absurd is
  owner_falls h (Some m) there is = let f : deep-Node K V g g' g'' (manually_drop_value m) ≤ 0 = node_falls (manually_drop_value m) is in omega (arith, f)

  row_falls : (own : List (List (Arc (Tree K V) Global))) (row : RowOwner K V) → OwnsRow own row → deep-RowOwner K V g g' g'' row ≤ 0
  row_falls own (owners.Item h) is = let f = owner_falls h h.part.part.seen.value h.there is in omega (arith, f)
  row_falls own (owners.Own at) is = omega arith

  abbrev falls : Row K (RowOwner K V) → Type 0
  falls row = deep-RowOwner K V g g' g'' row.segments ≤ 0

  -- what owns no row falls too
  item_falls : (row : RowOwner K V) (rows : List (Row K (RowOwner K V))) → All OwnsItem (row_holds row ++ holds_in rows) → (deep-RowOwner K V g g' g'' row ≤ 0) × All OwnsItem (holds_in rows)
  item_falls (owners.Item h) rows all = (row_falls [] (owners.Item h) (all 0 h (omega arith)), λ k e p. all (suc k) e (omega (arith, p)))
  item_falls (owners.Own at) rows all = (omega arith, all)

  items_fall : (rows : List (Row K (RowOwner K V))) → All OwnsItem (holds_in rows) → All falls rows
  items_fall [] all = λ k e h. absurd (omega (arith, h))
  items_fall (row ∷ rows) all = let both = item_falls row.segments rows all in All-cons falls row rows both.0 (items_fall rows both.1)

  rows_fall : (own : List (List (Arc (Tree K V) Global))) (rows : List (Row K (RowOwner K V))) → All (λ r. OwnsRow own r.segments) rows → All falls rows
  rows_fall own [] all = λ k e h. absurd (omega (arith, h))
  rows_fall own (row ∷ rows) all = All-cons falls row rows (row_falls own row.segments (all 0 row (omega arith))) (rows_fall own rows (λ k e p. all (suc k) e (omega (arith, p))))

  pub version_falls : (v : Inside K V) → All (λ r. OwnsRow (own_segments v.own.items) r.segments) v.directory.rows.items → deep-Version K V g g' g'' v ≤ 0
  version_falls v all = version_max _ (most_falls _ v.directory.rows.items (λ k e h. rest_max _ (rows_fall (own_segments v.own.items) v.directory.rows.items all k e h)))

  pub rest_falls : (r : Left K V) → All OwnsItem (holds_in r.rows.items) → deep-Rest K V g g' g'' r ≤ 0
  rest_falls r all = rest_max _ (most_falls _ r.rows.items (λ k e h. rest_max _ (items_fall r.rows.items all k e h)))
