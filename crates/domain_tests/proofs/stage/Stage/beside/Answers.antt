use Rattle.domain_tests.proofs.stage.Stage.beside.Goals as goal

pub acting-requires : goal.acting-requires
acting-requires c = rw c.take.ensures.value c.args.self.now.rests
