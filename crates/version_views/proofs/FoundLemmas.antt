-- a look-up tells whether some pair has the key
use Rattle.std.proofs.Common.{◌≡◌, Option, None, Some, Bor, List, sym, ap, ◌∙◌}
use Rattle.std.specs.Prelude.{is_some}
use Rattle.std.specs.declared.cmp.Ordering.{Ordering}
use Rattle.leaf_array.specs.Pairs.{has_key}
use Rattle.tree_index.proofs.LeafLemmas.{has_entry}
use Rattle.version_views.specs.Views.{LooksUp}

pub found_has : {K V : Type 0} (cmp : K → K → Ordering) (key : K) (ps : List (K × V)) (found : Option (Bor K × Bor V)) → LooksUp cmp key ps found → is_some found ≡ has_key cmp key ps
found_has cmp key ps None h = sym (has_entry cmp key ps ∙ ap is_some h)
found_has cmp key ps (Some e) h = sym (has_entry cmp key ps ∙ ap is_some h)
