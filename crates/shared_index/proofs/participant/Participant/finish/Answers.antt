use Rattle.std.proofs.Common.{◌≡◌, None, Some, refl, sym, ◌∙◌}
use Rattle.shared_index.proofs.participant.Participant.finish.Goals as goal

pub invariant_of-self : goal.invariant_of-self
invariant_of-self g c =
    let value = c.take.ensures.value in
    let is = c.in-Some.is in
    let was : c.self.inside.session ≡ Some c.in-Some.session = cc in
    let held = c.self.invariant.reads c.in-Some.session was in
    record {
      home = c.close.ensures.same.0 ∙ c.self.invariant.home;
      bare = c.close.ensures.same.2 ∙ c.self.invariant.bare;
      reads = λ s some. let bad : None ≡ Some s = sym c.take.ensures.after ∙ some in absurd (cc);
      rests = λ _. rw (c.close.ensures.closed, held.1) refl;
    }
