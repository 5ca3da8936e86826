use Rattle.std.proofs.Common.{cond, None, sym, ap, ◌∙◌}
use Rattle.std.specs.Range.Bound.{bound_map}
use Rattle.std.specs.Borrow.{Bor}
use Rattle.tree_nodes.specs.Content.{pairs_of}
use Rattle.tree_index.specs.Cursor.{kept_below}
use Rattle.tree_nodes.specs.Walk.{position}
use Rattle.std.specs.Prelude.{slice_get}
use Rattle.tree_nodes.proofs.SpotLemmas.{spot_pair}
use Rattle.tree_index.proofs.cursor.given.Goals as goal

pub returns-then-precedes : goal.returns-then-precedes
returns-then-precedes g c =
    let a = c.args.arenas.now in
    let bound = bound_map (λ (k : Bor g.row.K.Denot). k.now) c.args.upper in
    let shown = slice_get (pairs_of a) (position a c.args.spot) in
    let pair = (spot_pair g.K.Ord.cmp a c.requires.sound c.args.spot c.requires.spot).0 ∙ c.requires.own in
    c.below.ensures ∙ sym (ap (kept_below g.K.Ord.cmp bound) pair) ∙ sym (ap (λ b. cond b (kept_below g.K.Ord.cmp bound shown) None) (sym c.precedes.ensures ∙ c.if-precedes.true))

pub returns-else-precedes : goal.returns-else-precedes
returns-else-precedes g c =
    let a = c.args.arenas.now in
    let bound = bound_map (λ (k : Bor g.row.K.Denot). k.now) c.args.upper in
    let shown = slice_get (pairs_of a) (position a c.args.spot) in
    sym (ap (λ b. cond b (kept_below g.K.Ord.cmp bound shown) None) (sym c.precedes.ensures ∙ c.if-precedes.false))
