use Rattle.std.proofs.Common.{IfSome, sym, subst}
use Rattle.sdd_plain.specs.Epochs.{tag_number}
use Rattle.sdd_domain.specs.Comparing.{code_of}
use Rattle.shared_containers.specs.Taken.{IsLinkOf}
use Rattle.shared_containers.proofs.TakenLemmas.{read_some, taken_behind, marked_behind}
use Rattle.shared_containers.proofs.stack.Stack.pop_under.Goals as goal

pub returns-in-Some-take-clause-popped : goal.returns-in-Some-take-clause-popped
returns-in-Some-take-clause-popped g c = let a = c.args.local.now in let b = c.load-found.new.local in let d = c.take.new.local in let p = c.load-found.result in let cell = c.args.self.now.first.cell in let home = c.load-found.ensures.same.0.0.0 in
    let before = read_some a b cell (tag_number p.tag) (code_of p.slot) c.load-found.ensures.looked in let link = c.in-Some-of_item.link.now.cell in (
      λ plain. taken_behind a b d home before cell c.in-Some-take.owner (c.in-Some-take.ensures.taken plain),
      λ front. let m = c.in-Some-take.ensures.marked front in (link, subst (λ o. IfSome o (λ i. IsLinkOf c.args.links.now i link)) (sym m.0) c.in-Some-of_item.ensures.link, marked_behind a b d home before link m.1),
    )
