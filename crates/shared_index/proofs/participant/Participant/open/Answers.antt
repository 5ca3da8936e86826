use Rattle.std.proofs.Common.{◌≡◌, ℕ, ◌+◌, None, Some, sym, ap, ◌∙◌}
use Rattle.shared_index.proofs.participant.Participant.open.Goals as goal

pub invariant_of-self-2 : goal.invariant_of-self-2
invariant_of-self-2 g c =
    let rest = c.self.invariant.rests (c.self.view_is ∙ c.requires) in
    let now = c.replace.ensures.after in
    record {
      home = c.in_ok-opened.ensures.same.0 ∙ c.self.invariant.home;
      bare = c.in_ok-opened.ensures.same.2 ∙ c.self.invariant.bare;
      reads = λ s some.
          let both : Some c.in_ok-opened.opened ≡ Some s = sym now ∙ some in
          let same : s ≡ c.in_ok-opened.opened = cc in
          (rw same c.in_ok-opened.ensures.nest, c.in_ok-opened.ensures.opened ∙ ap (λ (n : ℕ). n + 1) rest);
      rests = λ none. let bad : Some c.in_ok-opened.opened ≡ None = sym now ∙ none in absurd (cc);
    }
