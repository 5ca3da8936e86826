use Rattle.local_index.proofs.DeskLemmas.{keeps-all-same, serves-same}
use Rattle.local_index.proofs.play.play_commit.Goals as goal

pub returns-in-Ok-clause-serves : goal.returns-in-Ok-clause-serves
returns-in-Ok-clause-serves g c = serves-same c.args.index.now c.commit.new.self c.args.desk.now c.requires.serves c.commit.ensures.sessions

pub returns-in-Ok-clause-keeps_all : goal.returns-in-Ok-clause-keeps_all
returns-in-Ok-clause-keeps_all g c = keeps-all-same c.args.index.now c.commit.new.self c.args.desk.now c.commit.ensures.sessions

pub returns-in-Memory-clause-keeps_all : goal.returns-in-Memory-clause-keeps_all
returns-in-Memory-clause-keeps_all g c = keeps-all-same c.args.index.now c.commit.new.self c.args.desk.now c.commit.ensures.sessions

pub returns-clause-keeps_all : goal.returns-clause-keeps_all
returns-clause-keeps_all g c = keeps-all-same c.args.index.now c.commit.new.self c.args.desk.now c.commit.ensures.sessions
