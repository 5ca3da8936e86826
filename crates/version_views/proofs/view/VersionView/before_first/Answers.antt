use Rattle.std.proofs.Common.{◌-◌, sym, ap, ◌∙◌, arith, subst}
use Rattle.tree_index.specs.Cursor.{whole}
use Rattle.tree_index.specs.declared.cursor.End.TheVariants.{At, Unopened}
use Rattle.version_views.specs.Cuts.{pairs_in}
use Rattle.version_views.specs.CursorEnds.{fore_place, pairs_before_block, rear_place, swapped, IsWalking}
use Rattle.version_views.specs.declared.position.CursorEnd.TheVariants as cursor_ends
use Rattle.version_views.proofs.FlipLemmas.{fore_inside, stands_between}
use Rattle.version_views.proofs.view.VersionView.before_first.Goals as goal

pub walk_at-requires : goal.walk_at-requires
walk_at-requires g c =
    let cmp = g.K.Ord.cmp in
    let blocks = c.args.self.now in
    let between = stands_between cmp blocks (pairs_before_block blocks c.args.first.segment) c.in-Some.smaller c.args.first c.requires.rising c.in-Some.ensures.some.0 c.requires.first in
    subst (λ f. IsWalking cmp blocks f (cursor_ends.At c.swapped-in-Some.result)) (sym c.swapped.ensures) (subst (λ b. IsWalking cmp blocks (swapped cmp (cursor_ends.At c.in-Some.smaller)) b) (sym c.swapped-in-Some.ensures) between.walking)

pub returns-in-Some : goal.returns-in-Some
returns-in-Some g c = λ key there absent.
    let cmp = g.K.Ord.cmp in
    let blocks = c.args.self.now in
    let n = pairs_before_block blocks c.args.first.segment in
    let found = c.in-Some.ensures.some.0 in
    let between = stands_between cmp blocks n c.in-Some.smaller c.args.first c.requires.rising found c.requires.first in
    let ends = ap (λ f. whole (pairs_in blocks) (fore_place blocks f) (rear_place blocks (cursor_ends.At c.swapped-in-Some.result))) c.swapped.ensures ∙ ap (λ b. whole (pairs_in blocks) (fore_place blocks (swapped cmp (cursor_ends.At c.in-Some.smaller))) (rear_place blocks b)) c.swapped-in-Some.ensures in (
      absent,
      omega (arith, there, found.some),
      omega (arith, there, fore_inside cmp blocks n c.args.first c.requires.first),
      c.walk_at.ensures ∙ ends ∙ between.cursor ∙ sym (ap (λ m. whole (pairs_in blocks) (At (m - 1)) (At m)) there),
    )

pub returns-in-None : goal.returns-in-None
returns-in-None g c = λ key there absent.
    let blocks = c.args.self.now in
    let none = c.in-None.ensures.none in (
      absent,
      there ∙ none,
      omega (arith, none, fore_inside g.K.Ord.cmp blocks (pairs_before_block blocks c.args.first.segment) c.args.first c.requires.first),
      c.walk_at-in-None.ensures ∙ ap (λ x. whole (pairs_in blocks) x Unopened) (c.requires.first.place ∙ ap (λ m. At m) none),
    )
