use Rattle.std.proofs.Common.{◌≡◌, ◌-◌, ℕ, refl, sym, ap, ◌∙◌, subst, arith}
use Rattle.std.specs.Option.{IfSome}
use Rattle.leaf_array.specs.Edits.{upserted}
use Rattle.leaf_array.specs.Pairs.{has_key}
use Rattle.leaf_array.specs.Results.{given_back}
use Rattle.tree_nodes.specs.Content.{content_of, pairs_of, leaf_on_way, LeafHasRoom}
use Rattle.tree_nodes.specs.Depth.{IsAbove}
use Rattle.tree_nodes.specs.Shape.{way}
use Rattle.tree_nodes.proofs.arenas.Arenas.put.Goals as goal

pub put_full-requires-clause-above : goal.put_full-requires-clause-above
put_full-requires-clause-above g c some =
    let cmp = g.K.Ord.cmp in
    let b = c.insert.new.self in
    let depth = c.insert.ensures.depth in
    let key : c.in-Full.key ≡ c.args.key = ap (λ p. p.0) c.in-Full.ensures.back in
    c.way_to-above.ensures.above (λ e. some (depth ∙ e)) ∙ sym (c.insert.ensures.way (c.args.self.now.height - 1)) ∙ ap (λ (h : ℕ). way cmp (content_of b) c.args.key (h - 1) b.root) (sym depth) ∙ ap (λ k. way cmp (content_of b) k (b.height - 1) b.root) (sym key)

pub put_full-requires-clause-on : goal.put_full-requires-clause-on
put_full-requires-clause-on g c =
    let cmp = g.K.Ord.cmp in
    let b = c.insert.new.self in
    let depth = c.insert.ensures.depth in
    let key : c.in-Full.key ≡ c.args.key = ap (λ p. p.0) c.in-Full.ensures.back in
    c.way_to-above.ensures.leaf ∙ sym (c.insert.ensures.way c.args.self.now.height) ∙ ap (λ (h : ℕ). way cmp (content_of b) c.args.key h b.root) (sym depth) ∙ ap (λ k. leaf_on_way cmp k b) (sym key)

-- what was handed on to `put_full` is the pair that was passed, and the pairs are those that stood
pub returns-in-Full-clause-back : goal.returns-in-Full-clause-back
returns-in-Full-clause-back g c =
    subst (λ q. IfSome (given_back c.put_full.result) (λ p. p ≡ q)) c.in-Full.ensures.back c.put_full.ensures.back

pub returns-in-Full-clause-kept : goal.returns-in-Full-clause-kept
returns-in-Full-clause-kept g c some = c.put_full.ensures.kept some ∙ c.in-Full.ensures.kept refl

pub returns-in-Full-clause-depth : goal.returns-in-Full-clause-depth
returns-in-Full-clause-depth g c some = c.put_full.ensures.depth some ∙ c.in-Full.ensures.depth

pub returns-in-Full-clause-absent : goal.returns-in-Full-clause-absent
returns-in-Full-clause-absent g c full = c.in-Full.ensures.absent tt

pub returns-in-Full-clause-duplicate : goal.returns-in-Full-clause-duplicate
returns-in-Full-clause-duplicate g c there =
    let cmp = g.K.Ord.cmp in
    sym (ap (λ p. has_key cmp p.0 (pairs_of c.insert.new.self)) c.in-Full.ensures.back ∙ ap (has_key cmp c.args.key) (c.in-Full.ensures.kept refl)) ∙ c.put_full.ensures.duplicate there

pub returns-in-Full-clause-unique : goal.returns-in-Full-clause-unique
returns-in-Full-clause-unique g c done insert = c.in-Full.ensures.absent tt

pub returns-in-Full-clause-done : goal.returns-in-Full-clause-done
returns-in-Full-clause-done g c done =
    let cmp = g.K.Ord.cmp in
    c.put_full.ensures.done done ∙ ap (λ p. upserted cmp p.0 p.1 (pairs_of c.insert.new.self)) c.in-Full.ensures.back ∙ ap (upserted cmp c.args.key c.args.val) (c.in-Full.ensures.kept refl)

pub returns-in-Full-clause-ascending_headroom : goal.returns-in-Full-clause-ascending_headroom
returns-in-Full-clause-ascending_headroom g c some = c.put_full.ensures.ascending_headroom some ∙ c.in-Full.ensures.ascending_headroom refl

pub returns-in-Full-clause-ascending : goal.returns-in-Full-clause-ascending
returns-in-Full-clause-ascending g c done above =
    let cmp = g.K.Ord.cmp in
    let kept = subst (IsAbove cmp c.args.key) (sym (c.in-Full.ensures.kept refl)) above in
    let handed = subst (λ k. IsAbove cmp k (pairs_of c.insert.new.self)) (sym (ap (λ p. p.0) c.in-Full.ensures.back)) kept in
    omega (arith, c.put_full.ensures.ascending done handed, c.in-Full.ensures.ascending_headroom refl)

pub put_full-requires-clause-absent : goal.put_full-requires-clause-absent
put_full-requires-clause-absent g c =
    let cmp = g.K.Ord.cmp in
    ap (λ p. has_key cmp p.0 (pairs_of c.insert.new.self)) c.in-Full.ensures.back ∙ ap (has_key cmp c.args.key) (c.in-Full.ensures.kept refl) ∙ c.in-Full.ensures.absent tt

pub put_full-requires-clause-full : goal.put_full-requires-clause-full
put_full-requires-clause-full g c room =
    c.in-Full.ensures.still tt (subst (λ k. LeafHasRoom g.K.Ord.cmp k c.insert.new.self) (ap (λ p. p.0) c.in-Full.ensures.back) room)

-- what `insert` answers of anything else is what is answered
pub returns-in_default : goal.returns-in_default
returns-in_default g c =
    let e = c.insert.ensures in
    record {
      sound = e.sound;
      back = e.back;
      kept = e.kept;
      depth = λ _. e.depth;
      absent = e.absent;
      duplicate = e.duplicate;
      repeated = e.repeated;
      unique = e.unique;
      done = e.done;
      ascending_headroom = e.ascending_headroom;
      ascending = e.ascending;
    }
