use Rattle.std.proofs.Common.{◌≡◌, ◌≤◌, ◌+◌, ◌<◌, ℕ, length, refl, sym, ap, ◌∙◌, subst, arith}
use Rattle.std.proofs.lemmas.List.{length-drop}
use Rattle.tree_nodes.specs.Content.{pairs_of}
use Rattle.tree_nodes.specs.Copy.{place, IsPositionOrEnd}
use Rattle.tree_nodes.specs.Walk.{position, IsPosition}
use Rattle.tree_nodes.proofs.SpotLemmas.{spot_pair}
use Rattle.tree_index.specs.Cursor.{pairs_from, passed_by}
use Rattle.tree_index.specs.Ends.{IsEnd, cursor_of, end_position}
use Rattle.tree_index.specs.declared.cursor.End.{End}
use Rattle.tree_index.specs.declared.cursor.End.TheVariants.{At}
use Rattle.tree_index.proofs.EndLemmas.{passed_at, passed_out}
use Rattle.tree_index.proofs.cursor.Ends.push_run.Goals.{in-Some, in-None}
use Rattle.tree_index.proofs.cursor.Ends.push_run.Goals as goal

pub push_run-requires-clause-within : goal.push_run-requires-clause-within
push_run-requires-clause-within g c =
    let a = c.args.self.now.arenas.now in
    let pairs = pairs_of a in
    let is : IsPosition a c.in-At.spot = subst (IsEnd a) c.in-At.is c.requires.ready.forward in
    let less = (spot_pair g.K.Ord.cmp a c.requires.ready.sound c.in-At.spot is).1 in
    let left : c.args.count ≤ length (pairs_from pairs (end_position a (At c.in-At.spot))) = subst (λ e. c.args.count ≤ length (pairs_from pairs (end_position a e))) c.in-At.is c.requires.within in
    let long = length-drop (position a c.in-At.spot) pairs in
    omega (arith, less, left, long)

pub returns-clause-passed : goal.returns-clause-passed
returns-clause-passed g c lower upper =
    let a = c.args.self.now.arenas.now in
    let pairs = pairs_of a in
    let there = c.in_ok-next.ensures.there in
    let end : end_position a c.match-next.self ≡ passed_by c.args.count pairs (end_position a c.args.self.now.forward) = elim c.match-next.branch [
      | in-Some w ↦
          let is : IsPosition a w.in-Some.spot = subst (IsPositionOrEnd a) w.in-Some.is c.in_ok-next.ensures.spot in
          let at : position a w.in-Some.spot ≡ position a c.in-At.spot + c.args.count = sym (ap (place a) w.in-Some.is) ∙ there in
          let within = (spot_pair g.K.Ord.cmp a c.requires.ready.sound w.in-Some.spot is).1 in
          ap (end_position a) w.self-is ∙ (passed_at pairs (position a c.in-At.spot) c.args.count (position a w.in-Some.spot) at within ∙ sym (ap (λ e. passed_by c.args.count pairs (end_position a e)) c.in-At.is))
      | in-None w ↦
          let at : length pairs ≡ position a c.in-At.spot + c.args.count = sym (ap (place a) w.in-None.is) ∙ there in
          ap (end_position a) w.self-is ∙ (passed_out pairs (position a c.in-At.spot) c.args.count (length pairs) at refl ∙ sym (ap (λ e. passed_by c.args.count pairs (end_position a e)) c.in-At.is))
    ] in
    ap (λ e. record (cursor_of c.args.self.now lower upper) { forward = e }) end
