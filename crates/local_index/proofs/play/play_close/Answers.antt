use Rattle.std.proofs.Common.{lit<}
use Rattle.local_index.proofs.DeskLemmas.{keeps-all-leave, leaves}
use Rattle.local_index.proofs.play.play_close.Goals as goal

pub close_session-requires : goal.close_session-requires
close_session-requires g c =
    let shown = c.in-Some.ensures.some in
    (lit< tt, c.requires.opened shown.0 c.in-Some.field-0 shown.1.there)

pub returns-in-Some-clause-step : goal.returns-in-Some-clause-step
returns-in-Some-clause-step g c =
    (leaves c.args.index.now c.close_session.new.self c.args.desk.now c.leave.new.self c.args.label c.close_session.result c.in-Some.field-0 c.requires c.in-Some.ensures.some c.close_session.ensures.receipt c.close_session.ensures.closes).0

pub returns-in-Some-clause-serves : goal.returns-in-Some-clause-serves
returns-in-Some-clause-serves g c =
    (leaves c.args.index.now c.close_session.new.self c.args.desk.now c.leave.new.self c.args.label c.close_session.result c.in-Some.field-0 c.requires c.in-Some.ensures.some c.close_session.ensures.receipt c.close_session.ensures.closes).1

pub returns-in-Some-clause-keeps_all : goal.returns-in-Some-clause-keeps_all
returns-in-Some-clause-keeps_all g c =
    keeps-all-leave (record { index = c.args.index.now; desk = c.args.desk.now }) (record { index = c.close_session.new.self; desk = c.leave.new.self }) c.args.label c.close_session.result (returns-in-Some-clause-step g c)
