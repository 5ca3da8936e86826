use Rattle.std.proofs.Common.{◌≡◌, true, sym, ap, ◌∙◌, subst}
use Rattle.std.specs.Borrow.{Bor}
use Rattle.std.specs.Range.Bound.{bound_map}
use Rattle.tree_index.specs.Cursor.{can_turn, turned}
use Rattle.version_views.specs.CursorEnds.{swapped, IsWalking}
use Rattle.version_views.proofs.FlipLemmas.{ends_turned, walk_of, walk_turned}
use Rattle.version_views.proofs.walking.Walk.flip.Goals as goal

pub invariant_of-self : goal.invariant_of-self
invariant_of-self g c =
    let cmp = g.K.Ord.cmp in
    let blocks = c.self.inside.version in
    let lower = bound_map (λ (k : Bor g.row.K.Denot). k.now) c.self.inside.lower in
    let upper = bound_map (λ (k : Bor g.row.K.Denot). k.now) c.self.inside.upper in
    let turns : can_turn cmp (walk_of cmp blocks lower upper c.self.inside.forward c.self.inside.backward) ≡ true = ap (can_turn cmp) c.self.view_is ∙ sym c.can_turn-turns.ensures ∙ c.if-turns.true in
    let after = ends_turned cmp blocks lower upper c.self.inside.forward c.self.inside.backward c.self.invariant turns in
    let forward = c.swapped-self-inside.ensures ∙ ap (swapped cmp) c.replace-backward.ensures.value in
    let backward = c.replace-backward.ensures.after ∙ c.swapped.ensures ∙ ap (swapped cmp) c.replace-forward.ensures.value in
    subst (λ f. IsWalking cmp blocks f c.replace-backward.new.dest) (sym forward) (subst (λ b. IsWalking cmp blocks (swapped cmp c.self.inside.backward) b) (sym backward) after.walking)

pub returns-then-turns-clause-turned : goal.returns-then-turns-clause-turned
returns-then-turns-clause-turned g c =
    let cmp = g.K.Ord.cmp in
    let blocks = c.self.inside.version in
    let lower = bound_map (λ (k : Bor g.row.K.Denot). k.now) c.self.inside.lower in
    let upper = bound_map (λ (k : Bor g.row.K.Denot). k.now) c.self.inside.upper in
    let turns : can_turn cmp (walk_of cmp blocks lower upper c.self.inside.forward c.self.inside.backward) ≡ true = ap (can_turn cmp) c.self.view_is ∙ sym c.can_turn-turns.ensures ∙ c.if-turns.true in
    let after = ends_turned cmp blocks lower upper c.self.inside.forward c.self.inside.backward c.self.invariant turns in
    let forward = c.swapped-self-inside.ensures ∙ ap (swapped cmp) c.replace-backward.ensures.value in
    let backward = c.replace-backward.ensures.after ∙ c.swapped.ensures ∙ ap (swapped cmp) c.replace-forward.ensures.value in
    ap (λ f. walk_of cmp blocks lower upper f c.replace-backward.new.dest) forward
    ∙ ap (walk_of cmp blocks lower upper (swapped cmp c.self.inside.backward)) backward
    ∙ walk_turned cmp blocks lower upper c.self.inside.forward c.self.inside.backward after turns
    ∙ ap (turned cmp) c.self.view_is
