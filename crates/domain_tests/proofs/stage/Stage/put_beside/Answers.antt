use Rattle.domain_tests.proofs.stage.Stage.put_beside.Goals as goal

pub invariant_of-self-clause-rests : goal.invariant_of-self-clause-rests
invariant_of-self-clause-rests c = rw c.replace-older.ensures.after c.requires

pub ended-requires : goal.ended-requires
ended-requires c = rw c.replace-older.ensures.value c.args.self.now.rests
