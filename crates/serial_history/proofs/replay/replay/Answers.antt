use Rattle.std.proofs.Common.{◌∙◌, sym, ap, [], take}
use Rattle.std.proofs.lemmas.List.{take_rest}
use Rattle.serial_history.specs.Serial.{after_all}
use Rattle.serial_history.proofs.ReplayLemmas.{after_split}
use Rattle.serial_history.proofs.replay.replay.Goals as goal

pub returns : goal.returns
returns g c =
    let kept = g.L.Start.pairs c.args.start.now in
    let whole = after_split g.K.Ord.cmp c.in-Some.at c.args.history.now kept in
    rw c.new-list.ensures.empty at c.in_ok-apply_history-2.ensures
    ∙ ap (λ ts. after_all g.K.Ord.cmp ts []) (take_rest c.args.history.now c.in-Some.at)
    ∙ c.in-Some.ensures.forgets [] (after_all g.K.Ord.cmp (take c.in-Some.at c.args.history.now) kept)
    ∙ sym whole
