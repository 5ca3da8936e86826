use Rattle.std.proofs.Common.{◌≡◌, ◌+◌, ℕ, inl, inr, arith}
use Rattle.sdd_plain.specs.Epochs.{tag_number}
use Rattle.sdd_domain.specs.Comparing.{code_of}
use Rattle.sdd_domain.proofs.CellSteps.{only_often, often_again, fewer_often, found_behind, read_and_tagged}
use Rattle.sdd_domain.proofs.atomic_shared.AtomicShared.update_tag_if.Goals as goal

pub returns-in-Some-clause-set : goal.returns-in-Some-clause-set
returns-in-Some-clause-set g c = λ yes. let s = c.in-Some.ensures.set yes in let p = s.0 in let cell : ℕ = c.args.self.now.cell in let before = c.loop-i.invariant in
    (p, s.1, read_and_tagged cell c.args.local.now c.loop-i.local c.try_update.new.local (tag_number p.tag) (code_of p.slot) (tag_number c.args.tag) before.same.0.0.0 (only_often cell c.args.local.now c.loop-i.local c.loop-i._i before.looked) s.2)

pub returns-in-Some-clause-kept : goal.returns-in-Some-clause-kept
returns-in-Some-clause-kept g c = λ no. let s = c.in-Some.ensures.kept no in let p = s.0 in let before = c.loop-i.invariant in
    inl (p, s.1, found_behind c.args.self.now.cell c.args.local.now c.loop-i.local c.try_update.new.local c.loop-i._i (tag_number p.tag) (code_of p.slot) before.same.0.0.0 before.looked s.2)

pub returns-in-Some-try_update-clause-set : goal.returns-in-Some-try_update-clause-set
returns-in-Some-try_update-clause-set g c = λ yes. let s = c.in-Some-try_update.ensures.set yes in let p = s.0 in let cell : ℕ = c.args.self.now.cell in let before = c.loop-i.invariant in
    (p, s.1, read_and_tagged cell c.args.local.now c.loop-i.local c.try_update-2.new.local (tag_number p.tag) (code_of p.slot) (tag_number c.args.tag) before.same.0.0.0 (only_often cell c.args.local.now c.loop-i.local c.loop-i._i before.looked) s.2)

pub returns-in-Some-try_update-clause-kept : goal.returns-in-Some-try_update-clause-kept
returns-in-Some-try_update-clause-kept g c = λ no. let s = c.in-Some-try_update.ensures.kept no in let p = s.0 in let before = c.loop-i.invariant in
    inl (p, s.1, found_behind c.args.self.now.cell c.args.local.now c.loop-i.local c.try_update-2.new.local c.loop-i._i (tag_number p.tag) (code_of p.slot) before.same.0.0.0 before.looked s.2)

-- each try was outrun
pub returns-clause-kept : goal.returns-clause-kept
returns-clause-kept g c = λ _. let before = c.loop-i.invariant in let cell : ℕ = c.args.self.now.cell in let now = c.try_update-2.new.local in let done = c.loop-i-test.false in
    inr (fewer_often cell c.args.local.now now (c.loop-i._i + 1) 18446744073709551616 (omega (arith, done)) (often_again cell c.args.local.now c.loop-i.local now c.loop-i._i 1 before.same.0.0.0 before.looked c.in-None.ensures.looked))
