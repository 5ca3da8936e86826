use Rattle.std.proofs.Common.{◌≡◌, ◌-◌, ◌<◌, ℕ, sym, ap, ◌∙◌, arith}
use Rattle.domain_garbage.proofs.RunLemmas.{runs, third_last, second_last}
use Rattle.domain_garbage.proofs.notes.Notes.oldest.Goals as goal

pub returns-then-self-gt0-clause-some : goal.returns-then-self-gt0-clause-some
returns-then-self-gt0-clause-some c =
    let w = c.self.inside in
    let some : 0 < w.oldest.count = omega (arith, c.if-self-gt0.true) in
    (runs w.newest.count w.newest.note w.middle.count w.middle.note (w.oldest.count - 1) w.oldest.note, sym c.self.view_is ∙ third_last w.newest.count w.newest.note w.middle.count w.middle.note w.oldest.count w.oldest.note some)

pub returns-then-self-gt0-2-clause-some : goal.returns-then-self-gt0-2-clause-some
returns-then-self-gt0-2-clause-some c =
    let w = c.self.inside in
    let some : 0 < w.middle.count = omega (arith, c.if-self-gt0-2.true) in
    let none : w.oldest.count ≡ 0 = omega (arith, c.if-self-gt0.false) in (
      runs w.newest.count w.newest.note (w.middle.count - 1) w.middle.note 0 w.oldest.note,
      sym c.self.view_is ∙ (ap (λ (k : ℕ). runs w.newest.count w.newest.note w.middle.count w.middle.note k w.oldest.note) none ∙ second_last w.newest.count w.newest.note w.middle.count w.middle.note w.oldest.note some),
    )
