use Rattle.version_tests.proofs.schedule.play.Goals as goal

pub loop-turn-preserved : goal.loop-turn-preserved
loop-turn-preserved g c =
    let i = c.loop-turn.invariant in
    let found = c.pass-found.ensures in
    record {
      participants = found.participants;
      reader = λ h. found.reader (i.reader h);
      counted = λ hand h. found.counted hand (i.counted hand h);
    }
