use Rattle.std.proofs.Common.{◌≡◌, ◌-◌, true, false, sym, ap, ◌∙◌}
use Rattle.std.specs.Range.Bound.{bound_map}
use Rattle.std.specs.Borrow.{Bor}
use Rattle.std.specs.BTreeMap.Range.{is_from_start, is_past_end}
use Rattle.tree_nodes.specs.SplitPoints.{key_at}
use Rattle.tree_nodes.proofs.WithoutLemmas.{all_within, not_true}
use Rattle.tree_nodes.proofs.leaf.Leaf.lies_within.Goals as goal

pub returns-then-starts_in-clause-within : goal.returns-then-starts_in-clause-within
returns-then-starts_in-clause-within g c inside =
    let cmp = g.K.Ord.cmp in
    let lower = bound_map (λ (k : Bor g.row.K.Denot). k.now) c.args.lower.now in
    let upper = bound_map (λ (k : Bor g.row.K.Denot). k.now) c.args.upper.now in
    let starts : is_from_start cmp lower c.key-first.result.now ≡ true = sym c.starts_in.ensures ∙ c.if-starts_in.true in
    let ends : is_past_end cmp upper c.key-last.result.now ≡ false = sym c.ends_out.ensures ∙ not_true c.ends_out.result inside in
    all_within g.met.K.Ord.total lower upper c.args.self.now.array.pairs c.key-first.result.now c.key-last.result.now c.len-len.ensures.ordered c.key-first.ensures (ap (key_at c.args.self.now.array.pairs) (ap (λ n. n - 1) (sym c.len-len.ensures.count)) ∙ c.key-last.ensures) starts ends
