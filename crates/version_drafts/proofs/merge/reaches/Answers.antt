use Rattle.std.proofs.Common.{◌≡◌, sym, ap, ◌∙◌, subst}
use Rattle.std.specs.declared.cmp.Ordering.TheVariants.{Less}
use Rattle.tree_index.proofs.WayLemmas.{some_same}
use Rattle.tree_index.specs.Shape.{AllKeys}
use Rattle.version_drafts.proofs.MergeLemmas.{all_under, block_rises, greatest_pair, none_greatest}
use Rattle.version_drafts.proofs.merge.reaches.Goals as goal

pub returns-in-Greater-clause-passed : goal.returns-in-Greater-clause-passed
returns-in-Greater-clause-passed g c = λ e b here change there.
    let p = greatest_pair b c.in-Some-greatest_near.last.now (c.in-Some-greatest_near.ensures b here) in
    let same = some_same (sym there ∙ sym c.in-Some.ensures) in
    let over = ap (λ k. g.K.Ord.cmp k p.0.0) (ap (λ x. x.0) same) ∙ (ap (λ k. g.K.Ord.cmp c.in-Some.key.now k) p.2 ∙ sym c.in-Greater.ensures) in
    all_under g.met.K.Ord.total change.0 b p.0 (block_rises g.K.Ord.cmp c.args.here.now.place c.args.old.now b here c.requires.old.rising) p.1 over

pub returns-in-None-greatest_near-clause-passed : goal.returns-in-None-greatest_near-clause-passed
returns-in-None-greatest_near-clause-passed g c = λ e b here change there. subst (AllKeys (λ k. g.K.Ord.cmp k change.0 ≡ Less)) (sym (none_greatest b (c.in-None-greatest_near.ensures b here))) tt

pub returns-in-Less-clause-reached : goal.returns-in-Less-clause-reached
returns-in-Less-clause-reached g c = λ e b here.
    let p = greatest_pair b c.in-Some-greatest_near.last.now (c.in-Some-greatest_near.ensures b here) in
    let order = ap (λ k. g.K.Ord.cmp c.in-Some.key.now k) p.2 ∙ sym c.in-Less.ensures in
    record { change = _; pair = p.0; first = sym c.in-Some.ensures; last = p.1; upto = λ more. let no = sym order ∙ more in cc }

pub returns-in-Equal-clause-reached : goal.returns-in-Equal-clause-reached
returns-in-Equal-clause-reached g c = λ e b here.
    let p = greatest_pair b c.in-Some-greatest_near.last.now (c.in-Some-greatest_near.ensures b here) in
    let order = ap (λ k. g.K.Ord.cmp c.in-Some.key.now k) p.2 ∙ sym c.in-Equal.ensures in
    record { change = _; pair = p.0; first = sym c.in-Some.ensures; last = p.1; upto = λ more. let no = sym order ∙ more in cc }
