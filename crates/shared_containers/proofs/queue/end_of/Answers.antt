use Rattle.std.proofs.Common.{◌≡◌, ℕ, Some, ap, sym, ◌∙◌, subst, IfSome}
use Rattle.sdd_plain.specs.Epochs.{tag_number}
use Rattle.sdd_domain.specs.Comparing.{code_of}
use Rattle.shared_lists.proofs.StillLemmas.{still, still_itself}
use Rattle.shared_containers.specs.Put.{HasWalked}
use Rattle.shared_containers.proofs.PutLemmas.{not_walked, walked_more, walked_next}
use Rattle.shared_containers.proofs.TakenLemmas.{none_made, read_some, some_then}
use Rattle.shared_containers.proofs.queue.end_of.Goals as goal

pub loop-i-init : goal.loop-i-init
loop-i-init g c = record { same = still_itself c.args.local.now; walked = not_walked c.args.links.now c.args.local.now c.args.from.slot; some = none_made c.args.local.now }

pub returns-then-eq-clause-walked : goal.returns-then-eq-clause-walked
returns-then-eq-clause-walked g c = let a = c.args.local.now in let b = c.loop-i.local in let n = c.load-next.new.local in let links = c.args.links.now in let from = c.args.from.slot in let k : ℕ = c.in-Some.slot in let p = c.load-next.result in let cell : ℕ = c.in-Some-at.link.now.cell in
    let is : c.loop-i.at.slot ≡ Some k = sym c.slot.ensures ∙ c.in-Some.is in
    let walk = subst (λ o. IfSome o (λ j. HasWalked a links from j b)) is c.loop-i.invariant.walked in
    subst (λ o. IfSome o (λ j. HasWalked a links from j n)) (sym is) (walked_more links a b n from k walk (read_some b n cell (tag_number p.tag) (code_of p.slot) c.load-next.ensures.looked))

pub loop-i-preserved : goal.loop-i-preserved
loop-i-preserved g c = let a = c.args.local.now in let b = c.loop-i.local in let n = c.load-next.new.local in let links = c.args.links.now in let from = c.args.from.slot in let k : ℕ = c.in-Some.slot in let p = c.load-next.result in let cell : ℕ = c.in-Some-at.link.now.cell in
    let is : c.loop-i.at.slot ≡ Some k = sym c.slot.ensures ∙ c.in-Some.is in let before = c.loop-i.invariant in
    let walk = subst (λ o. IfSome o (λ j. HasWalked a links from j b)) is before.walked in record {
      same = still a b n before.same (c.load-next.ensures.same.0, ap (λ m. m.nesting) c.load-next.ensures.same.1);
      walked = walked_next links a b n from p.slot k cell (tag_number p.tag) before.same.0.0.0 walk c.in-Some-at.ensures.link c.load-next.ensures.looked;
      some = some_then a b n before.some (read_some b n cell (tag_number p.tag) (code_of p.slot) c.load-next.ensures.looked);
    }
