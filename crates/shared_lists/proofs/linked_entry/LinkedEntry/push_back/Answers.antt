use Rattle.std.proofs.Common.{◌≡◌, ◌≢◌, ℕ, Some, inl, inr, sym, ap, ◌∙◌, subst}
use Rattle.sdd_plain.specs.Epochs.{tag_number}
use Rattle.sdd_domain.specs.Comparing.{owner_code}
use Rattle.shared_lists.specs.Entries.{HasPushed}
use Rattle.shared_lists.specs.Lists.{IsLinkOf}
use Rattle.shared_lists.proofs.Made.{quiet_some}
use Rattle.shared_lists.proofs.Pushes.{pushed_behind, deleted_behind, many_more, many_some, some_many}
use Rattle.shared_lists.proofs.StillLemmas.{still}
use Rattle.shared_lists.proofs.linked_entry.LinkedEntry.push_back.Goals as goal

pub loop-i-init : goal.loop-i-init
loop-i-init g c = let a = c.args.local.now in let lent = c.get_guarded_ptr-entry in let e = lent.ensures in
    record { same = (e.same.0, ap (λ m. m.nesting) e.same.1); back = (e.home, e.item); many = some_many a lent.new.local (quiet_some a lent.new.local e.cells) }

pub returns-in-Done-clause-pushed : goal.returns-in-Done-clause-pushed
returns-in-Done-clause-pushed g c = let a = c.args.local.now in let b = c.loop-i.local in let d = c.try_push.new.local in let before = c.loop-i.invariant in let q = c.loop-i.entry in let own : ℕ = c.in-Some.link.now.cell in let cell : ℕ = c.args.self.now.link.now.cell in
    let done = c.in-Done.ensures.tried in let code : ℕ = owner_code (Some q) in let first = c.slot.ensures in let second = c.slot-2.ensures in let same : c.slot-2.result ≡ c.args.entry.slot = cc in
    let ne : c.args.entry.slot ≢ c.args.self.now.slot = (λ h. c.if-slot-self.false (cc)) in
    let pushed = pushed_behind a b d before.same.0.0.0 own cell done.0 (tag_number c.tag_of-tag.result) code (many_some a b c.loop-i._i before.many) done.2 in
    (own, done.0, q, done.1, ne, subst (λ k. IsLinkOf c.args.self.now.links.now k own) same c.in-Some.ensures.link, before.back, subst (λ m. HasPushed a own cell done.0 m code d) c.tag_of-tag.ensures pushed)

pub returns-in-Deleted-clause-refused : goal.returns-in-Deleted-clause-refused
returns-in-Deleted-clause-refused g c = let a = c.args.local.now in let b = c.loop-i.local in let before = c.loop-i.invariant in
    inr (inr (inl (deleted_behind a b c.try_push.new.local before.same.0.0.0 c.args.self.now.link.now.cell (many_some a b c.loop-i._i before.many) c.in-Deleted.ensures.tried.1)))

pub loop-i-preserved : goal.loop-i-preserved
loop-i-preserved g c = let a = c.args.local.now in let b = c.loop-i.local in let d = c.try_push.new.local in let before = c.loop-i.invariant in let slow = c.in-Slow.ensures.tried in
    record { same = still a b d before.same c.try_push.ensures.same; back = (slow.0.0 ∙ before.back.0, λ x o. slow.0.2 x (before.back.1 x o)); many = many_more a b d before.same.0.0.0 c.loop-i._i 1 before.many slow.1 }
