use Rattle.local_index.proofs.DeskLemmas.{keeps-all-keep, serves-keep, serves-free, takes}
use Rattle.local_index.proofs.play.play_open.Goals as goal

pub keep-requires : goal.keep-requires
keep-requires g c = serves-free c.args.index.now c.args.desk.now c.in-Ok.session.place c.requires c.in-Ok.ensures.opens.free

pub returns-in-Ok-clause-step : goal.returns-in-Ok-clause-step
returns-in-Ok-clause-step g c =
    takes g.K.Ord.cmp c.args.index.now c.open.new.self c.args.desk.now c.keep.new.self c.args.label c.number-number.result c.in-Ok.session c.in_default.ensures.none c.in-Ok.ensures.opens c.number-number.ensures c.keep.ensures

pub returns-in-Ok-clause-serves : goal.returns-in-Ok-clause-serves
returns-in-Ok-clause-serves g c =
    rw c.keep.ensures (serves-keep g.K.Ord.cmp c.args.index.now c.open.new.self c.args.desk.now (record { label = c.args.label; session = c.in-Ok.session }) c.requires c.in-Ok.ensures.opens)

pub returns-in-Ok-clause-keeps_all : goal.returns-in-Ok-clause-keeps_all
returns-in-Ok-clause-keeps_all g c =
    keeps-all-keep g.K.Ord.cmp c.args.index.now c.open.new.self c.args.desk.now c.keep.new.self (record { label = c.args.label; session = c.in-Ok.session }) c.in-Ok.ensures.opens c.keep.ensures
    (serves-free c.args.index.now c.args.desk.now c.in-Ok.session.place c.requires c.in-Ok.ensures.opens.free)
