use Rattle.std.proofs.Common.{length, ap, ◌∙◌, arith}
use Rattle.leaf_array.specs.Cells.{lesser}
use Rattle.tree_index.specs.Cursor.{whole}
use Rattle.tree_index.specs.declared.cursor.End.TheVariants.{Unopened}
use Rattle.version_views.specs.Cuts.{pairs_in}
use Rattle.version_views.specs.CursorEnds.{fore_place, rear_place}
use Rattle.version_views.specs.declared.position.CursorEnd.TheVariants as cursor_ends
use Rattle.version_views.proofs.CursorEndLemmas.{block_some}
use Rattle.version_views.proofs.LocatingLemmas.{exact_at, one_walks, is_inside, first_at, last_at}
use Rattle.version_views.proofs.PlaceLemmas.{has_around}
use Rattle.version_views.proofs.view.VersionView.locate.Goals as goal

pub walk_at-requires : goal.walk_at-requires
walk_at-requires g c =
    let cmp = g.K.Ord.cmp in
    let total = g.met.K.Ord.total in
    let key = c.args.key.now in
    let blocks = c.args.self.now in
    let i = c.around-segment.result in
    let b = c.tree.result.now.pairs in
    let rise = c.laws.ensures.rising in
    let at = exact_at cmp total key blocks rise i c.around-segment.ensures b c.tree.ensures.pairs c.in-Exact.cursor c.in-Exact.ensures.0 c.in-Exact.ensures.1 in
    one_walks cmp total key blocks rise i c.around-segment.ensures b c.tree.ensures.pairs (lesser cmp key (pairs_in blocks)) _ at

pub returns-in-Exact : goal.returns-in-Exact
returns-in-Exact g c =
    let cmp = g.K.Ord.cmp in
    let total = g.met.K.Ord.total in
    let key = c.args.key.now in
    let blocks = c.args.self.now in
    let i = c.around-segment.result in
    let b = c.tree.result.now.pairs in
    let rise = c.laws.ensures.rising in
    let at = exact_at cmp total key blocks rise i c.around-segment.ensures b c.tree.ensures.pairs c.in-Exact.cursor c.in-Exact.ensures.0 c.in-Exact.ensures.1 in
    (has_around cmp total key blocks i c.around-segment.ensures b c.tree.ensures.pairs ∙ c.in-Exact.ensures.0, c.walk_at.ensures ∙ ap (λ x. whole (pairs_in blocks) x Unopened) at.place)

pub returns-in-Between : goal.returns-in-Between
returns-in-Between g c =
    let cmp = g.K.Ord.cmp in
    let total = g.met.K.Ord.total in
    let key = c.args.key.now in
    let blocks = c.args.self.now in
    let i = c.around-segment.result in
    let b = c.tree.result.now.pairs in
    let rise = c.laws.ensures.rising in
    let inside = is_inside cmp total key blocks rise i c.around-segment.ensures b c.tree.ensures.pairs c.in-Between.cursor c.in-Between.ensures.1 c.in-Between.ensures.2 c.in-Between.ensures.3 in
    let ends = ap (λ x. whole (pairs_in blocks) (fore_place blocks (cursor_ends.At (record { segment = i; cursor = x }))) (rear_place blocks (cursor_ends.At (record { segment = i; cursor = c.in-Between.cursor })))) c.clone.ensures in (
      has_around cmp total key blocks i c.around-segment.ensures b c.tree.ensures.pairs ∙ c.in-Between.ensures.0,
      inside.some,
      inside.within,
      c.walk_at-in-Between.ensures ∙ ends ∙ inside.ends,
    )

pub behind_last-requires-clause-last : goal.behind_last-requires-clause-last
behind_last-requires-clause-last g c =
    let cmp = g.K.Ord.cmp in
    let total = g.met.K.Ord.total in
    let key = c.args.key.now in
    let blocks = c.args.self.now in
    let i = c.around-segment.result in
    let b = c.tree.result.now.pairs in
    let rise = c.laws.ensures.rising in
    let some = block_some cmp blocks i b rise c.tree.ensures.pairs in
    (last_at cmp total key blocks rise i c.around-segment.ensures b c.tree.ensures.pairs c.in-Smaller.cursor c.in-Smaller.ensures.1 some c.in-Smaller.ensures.2).0

pub returns-in-Smaller : goal.returns-in-Smaller
returns-in-Smaller g c =
    let cmp = g.K.Ord.cmp in
    let total = g.met.K.Ord.total in
    let key = c.args.key.now in
    let blocks = c.args.self.now in
    let i = c.around-segment.result in
    let b = c.tree.result.now.pairs in
    let rise = c.laws.ensures.rising in
    let some = block_some cmp blocks i b rise c.tree.ensures.pairs in
    let last = last_at cmp total key blocks rise i c.around-segment.ensures b c.tree.ensures.pairs c.in-Smaller.cursor c.in-Smaller.ensures.1 some c.in-Smaller.ensures.2 in
    (c.behind_last.ensures key last.1 last.2)

pub before_first-requires-clause-first : goal.before_first-requires-clause-first
before_first-requires-clause-first g c =
    let cmp = g.K.Ord.cmp in
    let total = g.met.K.Ord.total in
    let key = c.args.key.now in
    let blocks = c.args.self.now in
    let i = c.around-segment.result in
    let b = c.tree.result.now.pairs in
    let rise = c.laws.ensures.rising in
    (first_at cmp total key blocks rise i c.around-segment.ensures b c.tree.ensures.pairs c.in-Larger.cursor c.in-Larger.ensures.1 c.in-Larger.ensures.2 c.in-Larger.ensures.3).0

pub returns-in-Larger : goal.returns-in-Larger
returns-in-Larger g c =
    let cmp = g.K.Ord.cmp in
    let total = g.met.K.Ord.total in
    let key = c.args.key.now in
    let blocks = c.args.self.now in
    let i = c.around-segment.result in
    let b = c.tree.result.now.pairs in
    let rise = c.laws.ensures.rising in
    let first = first_at cmp total key blocks rise i c.around-segment.ensures b c.tree.ensures.pairs c.in-Larger.cursor c.in-Larger.ensures.1 c.in-Larger.ensures.2 c.in-Larger.ensures.3 in
    (c.before_first.ensures key first.1 (has_around cmp total key blocks i c.around-segment.ensures b c.tree.ensures.pairs ∙ c.in-Larger.ensures.0))

pub unreachable-requires : goal.unreachable-requires
unreachable-requires g c =
    let cmp = g.K.Ord.cmp in
    let total = g.met.K.Ord.total in
    let key = c.args.key.now in
    let blocks = c.args.self.now in
    let i = c.around-segment.result in
    let b = c.tree.result.now.pairs in
    let rise = c.laws.ensures.rising in
    let some = block_some cmp blocks i b rise c.tree.ensures.pairs in
    let none = ap length c.in-Empty.ensures in
    omega (arith, some, none)
