-- The owners of rows.
use Rattle.std.proofs.Common.{◌≡◌, ℕ, List, [], ◌∷◌, ◌++◌, length, map, reverse, refl, sym, ap, ◌∙◌, arith, append_assoc, append-nil, length-append}
use Rattle.std.specs.List.{All}
use Rattle.std.proofs.lemmas.List.Elements.{All-cons, All-head, All-nil, All-tail}
use Rattle.std.proofs.lemmas.Grind.{flat_map-append}
use Rattle.std.proofs.lemmas.List.{length-map, length-reverse, map-append, reverse-append}
use Rattle.sdd_domain.specs.Holding.{all_told, told_of}
use Rattle.sdd_domain.specs.declared.held.Held.{Held}
use Rattle.std.specs.Global.{Global}
use Rattle.std.specs.declared.sync.Arc.{Arc}
use Rattle.tree_index.specs.Tree.{Tree}
use Rattle.version_views.specs.Items.{row_owners}
use Rattle.version_views.specs.declared.row.Row.{Row}
use Rattle.shared_versions.specs.Nodes.{OwnsItem, OwnsRow, holds_in, row_holds}
use Rattle.shared_versions.specs.declared.node.Node.{Node}
use Rattle.shared_versions.specs.declared.node.RowOwner.{RowOwner}
use Rattle.shared_versions.specs.declared.node.RowOwner.TheVariants as owners

pub no_length : {X : Type 0} (xs : List X) → length xs ≡ 0 → xs ≡ []
no_length [] h = refl
no_length (x ∷ xs) h = absurd (omega (arith, h))

-- where a list that is told from its end has nothing it has nothing
pub none_told : {X Y : Type 0} (f : X → Y) (xs : List X) → reverse (map f xs) ≡ [] → xs ≡ []
none_told f xs h =
    let none = ap length h in
    let turned = length-reverse (map f xs) in
    let told = length-map xs f in
    no_length xs (omega (arith, none, turned, told))

-- owners are told from the last one on
pub told_both : {T : Type 0} (hs ks : List (Held T)) → all_told (hs ++ ks) ≡ all_told ks ++ all_told hs
told_both hs ks = ap reverse (map-append told_of hs ks) ∙ reverse-append (map told_of hs) (map told_of ks)

module _ {K V : Type 0} (rows : List (Row K (RowOwner K V))) (row : Row K (RowOwner K V)) where
  pub with_last : holds_in (rows ++ row ∷ []) ≡ holds_in rows ++ row_holds row.segments
  with_last = flat_map-append (row_owners row_holds) rows (row ∷ []) ∙ ap (λ os. holds_in rows ++ os) (append-nil (row_holds row.segments))

  -- a last row that is an item has the last owner of all
  pub last_item : (h : Held (Node K V)) → row.segments ≡ owners.Item h → holds_in (rows ++ row ∷ []) ≡ holds_in rows ++ h ∷ []
  last_item h is = with_last ∙ ap (λ o. holds_in rows ++ row_holds o) is

  -- and one that isn't adds none
  pub last_own : (at : ℕ) → row.segments ≡ owners.Own at → holds_in (rows ++ row ∷ []) ≡ holds_in rows
  last_own at is = with_last ∙ ap (λ o. holds_in rows ++ row_holds o) is ∙ append-nil (holds_in rows)

-- what owns rows holds rows
module _ {K V : Type 0} where
  row_held : (own : List (List (Arc (Tree K V) Global))) (row : RowOwner K V) (hs : List (Held (Node K V))) → OwnsRow own row → All OwnsItem hs → All OwnsItem (row_holds row ++ hs)
  row_held own (owners.Item h) hs is all = All-cons OwnsItem h hs is all
  row_held own (owners.Own at) hs is all = all

  pub rows_held : (own : List (List (Arc (Tree K V) Global))) (rows : List (Row K (RowOwner K V))) → All (λ r. OwnsRow own r.segments) rows → All OwnsItem (holds_in rows)
  rows_held own [] all = All-nil OwnsItem
  rows_held own (row ∷ rows) all = row_held own row.segments (holds_in rows) (All-head (λ (r : Row K (RowOwner K V)). OwnsRow own r.segments) row rows all) (rows_held own rows (All-tail (λ (r : Row K (RowOwner K V)). OwnsRow own r.segments) row rows all))
