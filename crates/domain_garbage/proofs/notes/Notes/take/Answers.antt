use Rattle.std.proofs.Common.{◌≡◌, ◌-◌, ◌<◌, ℕ, sym, ap, ◌∙◌, arith}
use Rattle.domain_garbage.proofs.RunLemmas.{runs, third_last, second_last}
use Rattle.domain_table.proofs.Reclaims.{snoc_same}
use Rattle.domain_garbage.proofs.notes.Notes.take.Goals as goal

pub returns-then-self-gt0 : goal.returns-then-self-gt0
returns-then-self-gt0 c = λ ns n e.
    let w = c.self.inside in
    let some : 0 < w.oldest.count = omega (arith, c.if-self-gt0.true) in
    (snoc_same (runs w.newest.count w.newest.note w.middle.count w.middle.note (w.oldest.count - 1) w.oldest.note) ns w.oldest.note n (sym (third_last w.newest.count w.newest.note w.middle.count w.middle.note w.oldest.count w.oldest.note some) ∙ (c.self.view_is ∙ e))).0

pub returns-then-self-gt0-2 : goal.returns-then-self-gt0-2
returns-then-self-gt0-2 c = λ ns n e.
    let w = c.self.inside in
    let some : 0 < w.middle.count = omega (arith, c.if-self-gt0-2.true) in
    let none : w.oldest.count ≡ 0 = omega (arith, c.if-self-gt0.false) in
    let was = ap (λ (k : ℕ). runs w.newest.count w.newest.note w.middle.count w.middle.note k w.oldest.note) (sym none) in
    ap (λ (k : ℕ). runs w.newest.count w.newest.note (w.middle.count - 1) w.middle.note k w.oldest.note) none
    ∙ (snoc_same (runs w.newest.count w.newest.note (w.middle.count - 1) w.middle.note 0 w.oldest.note) ns w.middle.note n (sym (second_last w.newest.count w.newest.note w.middle.count w.middle.note w.oldest.note some) ∙ (was ∙ (c.self.view_is ∙ e)))).0
