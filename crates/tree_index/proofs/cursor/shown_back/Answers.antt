use Rattle.std.proofs.Common.{◌≡◌, sym, ap, ◌∙◌, subst}
use Rattle.std.specs.Range.Bound.{bound_map}
use Rattle.std.specs.Borrow.{Bor}
use Rattle.tree_nodes.specs.declared.walk.Position.{Position}
use Rattle.tree_index.specs.declared.cursor.End.{End}
use Rattle.tree_nodes.specs.Content.{pairs_of}
use Rattle.tree_index.specs.Cursor.{kept_above, pair_at, deref_pair}
use Rattle.tree_nodes.specs.Walk.{IsPosition}
use Rattle.tree_index.specs.Ends.{IsEnd, end_position}
use Rattle.tree_nodes.proofs.SpotLemmas.{spot_pair}
use Rattle.tree_index.proofs.cursor.shown_back.Goals as goal

pub returns-in-At : goal.returns-in-At
returns-in-At g c =
    let a = c.args.arenas.now in
    let bound = bound_map (λ (k : Bor g.row.K.Denot). k.now) c.args.lower in
    let spot : IsPosition a c.in-At.spot = subst (IsEnd a) c.in-At.is c.requires.end in
    let pair = (spot_pair g.K.Ord.cmp a c.requires.sound c.in-At.spot spot).0 ∙ c.pair.ensures in
    subst (λ (e : End (Position g.row.K.Denot g.row.V.Denot)). deref_pair c.above.result ≡ kept_above g.K.Ord.cmp bound (pair_at (pairs_of a) (end_position a e))) (sym c.in-At.is)
    (c.above.ensures ∙ sym (ap (kept_above g.K.Ord.cmp bound) pair))
