use Rattle.std.proofs.Common.{◌++◌, ◌∷◌, ◌∙◌, ◌<◌, List, subst, sym, ap, inr}
use Rattle.sdd_steps.specs.State.{Has}
use Rattle.sdd_homes.specs.declared.Garbage.{Garbage}
use Rattle.domain_table.specs.Plays.{SlotsApart}
use Rattle.domain_table.proofs.BagLemmas.{newest, has_oldest, has_right, apart_right, takes}
use Rattle.domain_table.proofs.private_chains.take_noted.Goals as goal

pub load_link-found-requires-clause-table : goal.load_link-found-requires-clause-table
load_link-found-requires-clause-table g c = let t = c.requires.table in let b = c.requires.bag in let n = newest b.1 c.args.bag c.in-Some.ends c.in-Some.is b.3 in let o = has_oldest n.0 n.1 in
    let there : Has c.args.seat.now.me.0.collected o.0 = subst (λ (ws : List Garbage). Has ws o.0) (sym (b.2 ∙ ap (λ (cs : List Garbage). b.0 ++ cs) n.2)) (has_right b.0 (n.0 ∷ n.1) o.0 o.1) in
    (t.0, t.1, t.2, t.3, subst (λ k. k < c.args.place.sizes.now.slots) (o.2 ∙ sym n.4) (c.requires.acts.1 o.0 there), t.4)

pub returns-then-ends-clause-taken : goal.returns-then-ends-clause-taken
returns-then-ends-clause-taken g c = λ ps cs is b. let l = c.load_link-found.ensures in let apart = apart_right ps cs (subst SlotsApart is l.apart.1) in
    (takes cs c.args.bag c.in-Some.ends c.load_link-found.result c.in-Some.is b apart (λ w has at some_. l.told w (inr (subst (λ (ws : List Garbage). Has ws w) (sym is) (has_right ps cs w has))) at some_)).0 c.if-ends.true

pub overflow_sub-result : goal.overflow_sub-result
overflow_sub-result g c = let q = c.requires.bag in let ps = q.0 in let cs = q.1 in let is = q.2 in let b = q.3 in let l = c.load_link-found.ensures in let apart = apart_right ps cs (subst SlotsApart is l.apart.1) in
    ((takes cs c.args.bag c.in-Some.ends c.load_link-found.result c.in-Some.is b apart (λ w has at some_. l.told w (inr (subst (λ (ws : List Garbage). Has ws w) (sym is) (has_right ps cs w has))) at some_)).1 c.if-ends.false).0

pub returns-clause-taken : goal.returns-clause-taken
returns-clause-taken g c = λ ps cs is b. let l = c.load_link-found.ensures in let apart = apart_right ps cs (subst SlotsApart is l.apart.1) in
    ((takes cs c.args.bag c.in-Some.ends c.load_link-found.result c.in-Some.is b apart (λ w has at some_. l.told w (inr (subst (λ (ws : List Garbage). Has ws w) (sym is) (has_right ps cs w has))) at some_)).1 c.if-ends.false).1
