use Rattle.std.proofs.Common.{◌≡◌, ◌<◌, ◌≤◌, ℕ, List, length, get_or, subst, arith}
use Rattle.sdd_table.specs.Chains.{Shown, participant_in}
use Rattle.sdd_table.specs.declared.bags.Participant.{Participant}
use Rattle.sdd_table.proofs.ThreadLemmas.{none_open}
use Rattle.sdd_table.proofs.bags.Participants.any_open.Goals as goal

pub returns-clause-none : goal.returns-clause-none
returns-clause-none c = λ no p.
    let xs = c.self.inside.all.items in
    let same = c.deref-participant-items.ensures.value in
    let end : length xs ≤ c.loop-participant.participant-index = subst (λ (l : List Participant). length l ≤ c.loop-participant.participant-index) same c.loop-participant-test.false in
    let all : (k : ℕ) (d : Participant) → k < c.loop-participant.participant-index → (get_or xs k d).local.nesting ≡ 0 = subst (λ (l : List Participant). (k : ℕ) (d : Participant) → k < c.loop-participant.participant-index → (get_or l k d).local.nesting ≡ 0) same c.loop-participant.invariant in
    subst (λ (s : Shown). (participant_in s.all p).local.nesting ≡ 0) c.self.view_is (none_open (length c.self.inside.links.items) c.self.inside.links.items xs (λ k d lt. all k d (omega (arith, lt, end))) p)
