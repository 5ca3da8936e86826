use Rattle.std.proofs.Common.{ℕ, arith}
use Rattle.sdd_plain.specs.Epochs.{tag_number}
use Rattle.sdd_domain.specs.Comparing.{code_of}
use Rattle.sdd_domain.proofs.CellSteps.{one_read, read_often, word_often, often_again, fewer_often, read_and_set}
use Rattle.sdd_domain.proofs.atomic_shared.AtomicShared.try_update.Goals as goal

pub returns-then-try_tag-clause-set : goal.returns-then-try_tag-clause-set
returns-then-try_tag-clause-set g c = let p = c.load-found.result in let t : ℕ = tag_number p.tag in let k : ℕ = code_of p.slot in let cell : ℕ = c.args.self.now.cell in
    λ _. (
      p,
      c.if-not-f.ensures,
      read_and_set cell c.args.local.now c.load-found.new.local c.try_tag.new.local t k (tag_number c.args.tag) c.load-found.ensures.same.0.0.0
          (one_read cell c.args.local.now c.load-found.new.local t k c.load-found.ensures.looked)
          (c.try_tag.ensures.set t k (c.names.ensures.word c.if-not-names.false) c.if-try_tag.true),
    )

pub returns-then-not-f-clause-kept : goal.returns-then-not-f-clause-kept
returns-then-not-f-clause-kept g c = λ _. let p = c.load-found.result in (p, c.if-not-f.ensures, c.load-found.ensures.looked)

pub returns-then-not-names-clause-looked : goal.returns-then-not-names-clause-looked
returns-then-not-names-clause-looked g c = let p = c.load-found.result in read_often c.args.self.now.cell c.args.local.now c.load-found.new.local (tag_number p.tag) (code_of p.slot) c.load-found.ensures.looked

pub returns-else-try_tag-clause-looked : goal.returns-else-try_tag-clause-looked
returns-else-try_tag-clause-looked g c = let p = c.load-found.result in let t : ℕ = tag_number p.tag in let k : ℕ = code_of p.slot in let cell : ℕ = c.args.self.now.cell in let w = c.try_tag.ensures.kept c.if-try_tag.false in
    fewer_often cell c.args.local.now c.try_tag.new.local 2 1 (omega arith) (often_again cell c.args.local.now c.load-found.new.local c.try_tag.new.local 1 1 c.load-found.ensures.same.0.0.0 (read_often cell c.args.local.now c.load-found.new.local t k c.load-found.ensures.looked) (word_often cell c.load-found.new.local c.try_tag.new.local w.0 w.1))
