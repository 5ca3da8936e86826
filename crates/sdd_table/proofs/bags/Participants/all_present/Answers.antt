use Rattle.std.proofs.Common.{arith, ◌≡◌, ◌∙◌, ◌<◌, ◌≤◌, true, false, get_or, length, sym, ap, subst, List}
use Rattle.std.specs.List.{list_all}
use Rattle.sdd_table.specs.State.{is_present}
use Rattle.sdd_table.specs.Chains.{Shown, no_participant}
use Rattle.sdd_table.specs.declared.bags.Participant.{Participant}
use Rattle.sdd_table.proofs.ThreadLemmas.{is_on, all_on, passes, fails, behind}
use Rattle.sdd_table.proofs.bags.Participants.all_present.Goals as goal

pub returns-then-participant-count : goal.returns-then-participant-count
returns-then-participant-count c =
    let n = c.args.count in
    let a = c.self.inside in
    let its = c.deref-participant-items.result.now in
    let here : is_on n (get_or its c.loop-participant.participant-index no_participant) ≡ false = behind n (get_or its c.loop-participant.participant-index no_participant) c.if-participant-ne0.true c.if-participant-count.true in
    let no : list_all (is_on n) its ≡ false = fails (is_on n) its c.loop-participant.participant-index no_participant c.loop-participant-test.true here in
    sym (ap (λ (s : Shown). list_all (is_present n) s.all) (sym c.self.view_is) ∙ all_on n (length a.links.items) a.links.items a.all.items ∙ ap (list_all (is_on n)) (sym c.deref-participant-items.ensures.value) ∙ no)

pub returns : goal.returns
returns c =
    let n = c.args.count in
    let a = c.self.inside in
    let xs = a.all.items in
    let end : length xs ≤ c.loop-participant.participant-index = subst (λ (l : List Participant). length l ≤ c.loop-participant.participant-index) c.deref-participant-items.ensures.value c.loop-participant-test.false in
    let yes : list_all (is_on n) xs ≡ true = passes (is_on n) xs (subst (λ (l : List Participant). (k : _) (d : Participant) → k < length xs → is_on n (get_or l k d) ≡ true) c.deref-participant-items.ensures.value (λ k d l. c.loop-participant.invariant k d (omega (arith, l, end)))) in
    sym (ap (λ (s : Shown). list_all (is_present n) s.all) (sym c.self.view_is) ∙ all_on n (length a.links.items) a.links.items xs ∙ yes)
