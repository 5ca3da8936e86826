use Rattle.std.proofs.Common.{List, Option, None, Some, sym, ap, ◌∙◌, lit<, subst}
use Rattle.std.specs.List.{slice_get}
use Rattle.local_index.specs.Desk.{KeepsAll, Serves}
use Rattle.local_index.specs.declared.desk.Ticket.{Ticket}
use Rattle.local_index.proofs.DeskLemmas.{keeps-all-read, read-there, serves-read, set-there, files-again, files-unchanged}
use Rattle.local_index.proofs.play.play_read.Goals as goal

pub read-answer-requires : goal.read-answer-requires
read-answer-requires g c =
    let shown = c.in-Some.ensures.some in
    (lit< tt, (c.requires.serves.opened shown.0 c.in-Some.field-0 shown.1.there, (c.requires.keys, c.requires.values)))

pub keep-requires : goal.keep-requires
keep-requires g c =
    let ticket = c.in-Some.field-0 in
    let shown = c.in-Some.ensures.some in
    let there = read-there g.K.Ord.cmp g.row.S c.args.index.now c.args.query c.read-answer.result ticket.session c.read-answer.new.session c.read-answer.ensures.read c.read-answer.ensures.refused in
    ap (slice_get c.leave.new.self) (there.0 ∙ c.requires.serves.placed shown.0 ticket shown.1.there) ∙ ap (λ d. slice_get d shown.0) shown.2 ∙ set-there c.args.desk.now shown.0 None (Some ticket) shown.1.there

pub returns-in-Ok-clause-step : goal.returns-in-Ok-clause-step
returns-in-Ok-clause-step g c =
    let ticket = c.in-Some.field-0 in
    let shown = c.in-Some.ensures.some in
    let there = read-there g.K.Ord.cmp g.row.S c.args.index.now c.args.query c.read-answer.result ticket.session c.read-answer.new.session c.read-answer.ensures.read c.read-answer.ensures.refused in
    let again : Ticket _ _ = record { label = ticket.label; session = c.read-answer.new.session } in
    let ticketed = files-again c.args.desk.now c.leave.new.self c.keep.new.self shown.0 c.read-answer.new.session.place again shown.2 (there.0 ∙ c.requires.serves.placed shown.0 ticket shown.1.there) c.keep.ensures in
    (shown.0, ticket, c.read-answer.new.session, shown.1, c.in-Ok.ensures.read, ap (λ (d : List (Option (Ticket _ _))). record { index = c.args.index.now; desk = d }) ticketed)

pub returns-in-Ok-clause-serves : goal.returns-in-Ok-clause-serves
returns-in-Ok-clause-serves g c =
    let ticket = c.in-Some.field-0 in
    let shown = c.in-Some.ensures.some in
    let there = read-there g.K.Ord.cmp g.row.S c.args.index.now c.args.query c.read-answer.result ticket.session c.read-answer.new.session c.read-answer.ensures.read c.read-answer.ensures.refused in
    let again : Ticket _ _ = record { label = ticket.label; session = c.read-answer.new.session } in
    let ticketed = files-again c.args.desk.now c.leave.new.self c.keep.new.self shown.0 c.read-answer.new.session.place again shown.2 (there.0 ∙ c.requires.serves.placed shown.0 ticket shown.1.there) c.keep.ensures in
    subst (λ (d : List (Option (Ticket _ _))). Serves (record { index = c.args.index.now; desk = d })) (sym ticketed) (serves-read c.args.index.now c.args.desk.now c.args.label shown.0 ticket c.read-answer.new.session c.requires.serves shown.1 there.0 there.1)

pub returns-in-Ok-clause-keeps_all : goal.returns-in-Ok-clause-keeps_all
returns-in-Ok-clause-keeps_all g c =
    let ticket = c.in-Some.field-0 in
    let shown = c.in-Some.ensures.some in
    let there = read-there g.K.Ord.cmp g.row.S c.args.index.now c.args.query c.read-answer.result ticket.session c.read-answer.new.session c.read-answer.ensures.read c.read-answer.ensures.refused in
    let again : Ticket _ _ = record { label = ticket.label; session = c.read-answer.new.session } in
    let ticketed = files-again c.args.desk.now c.leave.new.self c.keep.new.self shown.0 c.read-answer.new.session.place again shown.2 (there.0 ∙ c.requires.serves.placed shown.0 ticket shown.1.there) c.keep.ensures in
    λ keeps. subst (λ (d : List (Option (Ticket _ _))). KeepsAll (record { index = c.args.index.now; desk = d })) (sym ticketed) (keeps-all-read c.args.index.now c.args.desk.now shown.0 again keeps)

pub returns-in-Err-clause-err : goal.returns-in-Err-clause-err
returns-in-Err-clause-err g c =
    let ticket = c.in-Some.field-0 in
    let shown = c.in-Some.ensures.some in
    let there = read-there g.K.Ord.cmp g.row.S c.args.index.now c.args.query c.read-answer.result ticket.session c.read-answer.new.session c.read-answer.ensures.read c.read-answer.ensures.refused in
    let again : Ticket _ _ = record { label = ticket.label; session = c.read-answer.new.session } in
    let ticketed = files-again c.args.desk.now c.leave.new.self c.keep.new.self shown.0 c.read-answer.new.session.place again shown.2 (there.0 ∙ c.requires.serves.placed shown.0 ticket shown.1.there) c.keep.ensures in
    files-unchanged c.args.desk.now c.keep.new.self c.args.label shown.0 ticket again shown.1 ticketed (ap (λ s. record ticket { session = s }) c.in-Err.ensures.refused)

pub returns-in-Err-clause-serves : goal.returns-in-Err-clause-serves
returns-in-Err-clause-serves g c =
    let ticket = c.in-Some.field-0 in
    let shown = c.in-Some.ensures.some in
    let there = read-there g.K.Ord.cmp g.row.S c.args.index.now c.args.query c.read-answer.result ticket.session c.read-answer.new.session c.read-answer.ensures.read c.read-answer.ensures.refused in
    let again : Ticket _ _ = record { label = ticket.label; session = c.read-answer.new.session } in
    let ticketed = files-again c.args.desk.now c.leave.new.self c.keep.new.self shown.0 c.read-answer.new.session.place again shown.2 (there.0 ∙ c.requires.serves.placed shown.0 ticket shown.1.there) c.keep.ensures in
    subst (λ (d : List (Option (Ticket _ _))). Serves (record { index = c.args.index.now; desk = d })) (sym ticketed) (serves-read c.args.index.now c.args.desk.now c.args.label shown.0 ticket c.read-answer.new.session c.requires.serves shown.1 there.0 there.1)

pub returns-in-Err-clause-keeps_all : goal.returns-in-Err-clause-keeps_all
returns-in-Err-clause-keeps_all g c =
    let ticket = c.in-Some.field-0 in
    let shown = c.in-Some.ensures.some in
    let there = read-there g.K.Ord.cmp g.row.S c.args.index.now c.args.query c.read-answer.result ticket.session c.read-answer.new.session c.read-answer.ensures.read c.read-answer.ensures.refused in
    let again : Ticket _ _ = record { label = ticket.label; session = c.read-answer.new.session } in
    let ticketed = files-again c.args.desk.now c.leave.new.self c.keep.new.self shown.0 c.read-answer.new.session.place again shown.2 (there.0 ∙ c.requires.serves.placed shown.0 ticket shown.1.there) c.keep.ensures in
    λ keeps. subst (λ (d : List (Option (Ticket _ _))). KeepsAll (record { index = c.args.index.now; desk = d })) (sym ticketed) (keeps-all-read c.args.index.now c.args.desk.now shown.0 again keeps)
