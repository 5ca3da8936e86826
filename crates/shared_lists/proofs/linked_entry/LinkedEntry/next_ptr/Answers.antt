use Rattle.std.proofs.Common.{◌≡◌, ◌<◌, ◌≤◌, ◌+◌, ℕ, Option, None, Some, IfNone, IfSome, inl, inr, refl, sym, ap, ◌∙◌, subst, arith}
use Rattle.std.proofs.lemmas.Bool.{false≢true}
use Rattle.sdd_plain.specs.Epochs.{tag_number}
use Rattle.sdd_domain.specs.CellSteps.{HasReadCell}
use Rattle.sdd_domain.specs.Comparing.{code_of}
use Rattle.shared_lists.proofs.WalkLemmas.{not_walked, walked_on, found_next, none_found}
use Rattle.shared_lists.proofs.StillLemmas.{still, still_itself}
use Rattle.shared_lists.proofs.linked_entry.LinkedEntry.next_ptr.Goals as goal

pub loop-i-init : goal.loop-i-init
loop-i-init g c = record { same = still_itself c.args.local.now; inside = c.requires.entry.0; walked = not_walked c.args.self.now.links.now c.args.self.now.link.now.cell c.args.local.now }

pub returns-in_default-clause-none : goal.returns-in_default-clause-none
returns-in_default-clause-none g c = let p = c.load.result in
    none_found c.args.self.now.links.now c.args.self.now.link.now.cell c.args.local.now c.loop-i.local c.load.new.local c.loop-i.link.now.cell c.loop-i._i (tag_number p.tag) p.slot c.without_tag-next.result.slot c.without_tag-next.ensures.slot c.loop-i.invariant.same.0.0.0 c.loop-i.invariant.walked c.load.ensures.looked

pub loop-i-preserved : goal.loop-i-preserved
loop-i-preserved g c = let a = c.args.local.now in let b = c.loop-i.local in let n = c.load.new.local in let d = c.tag.new.local in let at : ℕ = c.loop-i.link.now.cell in let p = c.load.result in let k : ℕ = c.in-Some.slot in
    let links = c.args.self.now.links.now in let next : ℕ = c.in-Some-at.after.now.cell in let before = c.loop-i.invariant in let t : ℕ = tag_number p.tag in
    let is : p.slot ≡ Some k = sym c.without_tag-next.ensures.slot ∙ (sym c.slot.ensures ∙ c.in-Some.is) in let code : code_of p.slot ≡ k + 1 = ap code_of is in
    let read = subst (λ z. HasReadCell b at t z n) code c.load.ensures.looked in let found = c.tag.ensures.looked in let around = c.requires.entry.1 in let inside = c.in-Some-at.ensures.inside in record {
      same = still a n d (still a b n before.same (c.load.ensures.same.0, ap (λ m. m.nesting) c.load.ensures.same.1)) (c.tag.ensures.same.0, ap (λ m. m.nesting) c.tag.ensures.same.1);
      inside = subst (λ z. next < z) around inside;
      walked = walked_on links c.args.self.now.link.now.cell a b n d at c.loop-i._i before.same.0.0.0 (c.load.ensures.same.0.0.0 ∙ before.same.0.0.0) before.walked next k t found.0 (tag_number c.tag.result) read c.in-Some-at.ensures.link found.1 (c.if-not-tells_deleted.ensures.0 refl);
    }
