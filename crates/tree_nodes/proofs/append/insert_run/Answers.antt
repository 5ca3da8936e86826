use Rattle.std.proofs.Common.{◌≡◌, ◌++◌, [], length, drop, take, Some, None, refl, ap, ◌∙◌, arith}
use Rattle.slab.specs.Slab.{with_value, Updates}
use Rattle.slab.proofs.SlabLemmas.{Updates-with_value}
use Rattle.leaf_array.specs.Cells.{Cells}
use Rattle.tree_nodes.specs.declared.leaf.Leaf.{Leaf}
use Rattle.tree_nodes.proofs.ExtendLemmas.{run_length}
use Rattle.tree_nodes.proofs.WayLemmas.{some_same}
use Rattle.tree_nodes.proofs.append.insert_run.Goals as goal

pub returns : goal.returns
returns g c =
    let fresh = c.insert_reserved-fresh.result in
    let empty : Leaf g.row.K.Denot g.row.V.Denot = record { array = c.new.result; prev = c.args.prev; next = None } in
    let was : Leaf g.row.K.Denot g.row.V.Denot = c.in-Some.leaf.now in
    let new : Leaf g.row.K.Denot g.row.V.Denot = c.extend.new.self in
    let same : was ≡ empty = some_same (c.in-Some.ensures.value ∙ c.insert_reserved-fresh.ensures.updates.changed) in
    let none : was.array.pairs ≡ [] = ap (λ (l : Leaf g.row.K.Denot g.row.V.Denot). l.array.pairs) same ∙ ap (λ (x : Cells g.row.K.Denot g.row.V.Denot). x.pairs) c.new.ensures in
    let unused : was.array.used ≡ 0 = ap (λ (l : Leaf g.row.K.Denot g.row.V.Denot). l.array.used) same ∙ ap (λ (x : Cells g.row.K.Denot g.row.V.Denot). x.used) c.new.ensures in
    let run = take c.args.count (drop c.args.from c.args.source.now.array.pairs) in
    let holds : new.array.pairs ≡ run = c.in_ok-extend-in-Some.ensures.pairs ∙ ap (λ ps. ps ++ run) none in
    let long = ap length holds ∙ run_length c.args.from c.args.count c.args.source.now.array.pairs c.requires.within in
    let u : Updates c.insert_reserved-fresh.new.self (with_value c.insert_reserved-fresh.new.self fresh new) fresh (Some new) = Updates-with_value c.insert_reserved-fresh.new.self fresh new (rw c.insert_reserved-fresh.ensures.updates.changed refl) in
    record {
      leaf = new;
      is = record {
        thawed = c.extend.ensures.frozen ∙ ap (λ (l : Leaf g.row.K.Denot g.row.V.Denot). l.array.frozen) same ∙ ap (λ (x : Cells g.row.K.Denot g.row.V.Denot). x.frozen) c.new.ensures;
        packed = omega (arith, c.in_ok-extend-in-Some.ensures.used, unused, long);
        prev = c.extend.ensures.prev ∙ ap (λ (l : Leaf g.row.K.Denot g.row.V.Denot). l.prev) same;
        next = c.extend.ensures.next ∙ ap (λ (l : Leaf g.row.K.Denot g.row.V.Denot). l.next) same;
      };
      holds = holds;
      vacant = c.insert_reserved-fresh.ensures.was_vacant;
      added = record { changed = u.changed; others = λ n d. u.others n d ∙ c.insert_reserved-fresh.ensures.updates.others n d };
    }
