use Rattle.std.proofs.Common.{◌≡◌, ◌∙◌, suc, List, [], ◌∷◌, length, ap, refl, arith, nat_cmp}
use Rattle.std.proofs.lemmas.Bool.{lt-ltb}
use Rattle.std.specs.declared.cmp.Ordering.{Ordering}
use Rattle.std.specs.declared.ops.Bound.TheVariants.{Unbounded}
use Rattle.tree_index.specs.declared.cursor.End.TheVariants.{Unopened}
use Rattle.tree_index.specs.Cursor.{forth, pairs_from, unread}
use Rattle.tree_tests.proofs.tree.each_call.started.Goals as goal

from_start : {K V : Type 0} (cmp : K → K → Ordering) (pairs : List (K × V)) → pairs_from pairs (forth cmp Unbounded pairs Unopened) ≡ pairs
from_start cmp [] = refl
from_start cmp (p ∷ ps) = rw (lt-ltb 0 (suc (length ps)) (omega arith)) refl

pub returns : goal.returns
returns c = ap unread (c.next-first.ensures.steps.1) ∙ rw c.iter-cursor.ensures.cursor (from_start nat_cmp c.args.tree.now.pairs)
