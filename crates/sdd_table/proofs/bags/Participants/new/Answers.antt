use Rattle.std.proofs.Common.{◌≡◌, ◌++◌, ◌∷◌, [], ℕ, List, replicate, sym, ap, ◌∙◌, arith}
use Rattle.sdd_table.specs.Chains.{no_participant}
use Rattle.sdd_table.specs.declared.bags.Participant.{Participant}
use Rattle.sdd_table.proofs.ListLemmas.{replicate-push}
use Rattle.sdd_table.proofs.ThreadLemmas.{new_inside}
use Rattle.sdd_table.proofs.bags.Participants.new.Goals as goal

pub loop-preserved : goal.loop-preserved
loop-preserved c = c.in_ok-push.ensures.items ∙ ap (λ (xs : List ℕ). xs ++ 0 ∷ []) c.loop.invariant ∙ sym (replicate-push c.loop.counter 0)

pub loop-2-preserved : goal.loop-2-preserved
loop-2-preserved c = c.in_ok-push-2.ensures.items ∙ ap (λ (qs : List Participant). qs ++ no_participant ∷ []) c.loop-2.invariant ∙ sym (replicate-push c.loop-2.counter no_participant)

pub invariant_of-result : goal.invariant_of-result
invariant_of-result c =
    let places : c.loop.counter ≡ c.args.places = omega (arith, c.loop-test.false, c.loop.auto.counter-end) in
    let n : c.loop-2.counter ≡ c.args.n = omega (arith, c.loop-2-test.false, c.loop-2.auto.counter-end) in
    (new_inside (record { links = c.loop.links; all = c.loop-2.all }) c.args.places c.args.n (c.loop.invariant ∙ ap (λ k. replicate k 0) places) (c.loop-2.invariant ∙ ap (λ k. replicate k no_participant) n)).0

pub returns : goal.returns
returns c =
    let places : c.loop.counter ≡ c.args.places = omega (arith, c.loop-test.false, c.loop.auto.counter-end) in
    let n : c.loop-2.counter ≡ c.args.n = omega (arith, c.loop-2-test.false, c.loop-2.auto.counter-end) in
    (new_inside (record { links = c.loop.links; all = c.loop-2.all }) c.args.places c.args.n (c.loop.invariant ∙ ap (λ k. replicate k 0) places) (c.loop-2.invariant ∙ ap (λ k. replicate k no_participant) n)).1
