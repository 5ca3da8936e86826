use Rattle.std.proofs.Common.{◌∷◌, [], refl, ap, ◌∙◌, arith}
use Rattle.version_drafts.specs.declared.segments.Part.TheVariants as parts
use Rattle.version_drafts.specs.declared.segments.SegmentBuilder.{SegmentBuilder}
use Rattle.version_drafts.proofs.CuttingLemmas.{counts_run, above_tail, cutting_more, given_more, spent_more, cutting_next, given_next, spent_next}
use Rattle.version_drafts.proofs.segments.push.Goals as goal

pub push-requires-clause-above : goal.push-requires-clause-above
push-requires-clause-above g c = above_tail g.met.K.Ord.total c.requires.whole c.args.key c.args.value c.requires.rising

pub push-requires-clause-room : goal.push-requires-clause-room
push-requires-clause-room g c =
    let size = c.len.ensures in
    let less = c.if-len.true in
    let most = c.requires.whole.most in
    omega (arith, size, less, most)

pub returns-in-Ok-clause-whole : goal.returns-in-Ok-clause-whole
returns-in-Ok-clause-whole g c =
    let c' : SegmentBuilder g.row.K.Denot g.row.V.Denot = record c.args.out.now { tail = c.push.new.self; length = c.in-Some.length } in
    let size = c.len.ensures in
    let less = c.if-len.true in
    cutting_more g.met.K.Ord.total c.requires.whole c.args.key c.args.value c.requires.rising c' refl refl c.in-Ok.ensures.pushed (omega (arith, size, less))

pub returns-in-Ok-clause-pairs : goal.returns-in-Ok-clause-pairs
returns-in-Ok-clause-pairs g c =
    let c' : SegmentBuilder g.row.K.Denot g.row.V.Denot = record c.args.out.now { tail = c.push.new.self; length = c.in-Some.length } in
    given_more g.met.K.Ord.total c.requires.whole c.args.key c.args.value c.requires.rising c' refl refl c.in-Ok.ensures.pushed

pub returns-in-Ok-clause-spent : goal.returns-in-Ok-clause-spent
returns-in-Ok-clause-spent g c =
    let c' : SegmentBuilder g.row.K.Denot g.row.V.Denot = record c.args.out.now { tail = c.push.new.self; length = c.in-Some.length } in
    spent_more g.met.K.Ord.total c.requires.whole c.args.key c.args.value c.requires.rising c' refl refl c.in-Ok.ensures.pushed

pub returns-in_ok-close-clause-whole : goal.returns-in_ok-close-clause-whole
returns-in_ok-close-clause-whole g c =
    let c' : SegmentBuilder g.row.K.Denot g.row.V.Denot = record c.close.new.out { length = c.in-Some.length } in
    let size = c.len.ensures in
    let more = c.if-len.false in
    let room = c.requires.whole.room in
    let e = c.in_ok-close.ensures in
    cutting_next g.met.K.Ord.total c.requires.whole c.args.key c.args.value c.requires.rising c' (parts.Made c.args.out.now.tail) refl e.parts (ap (λ t. t.pairs) e.tail ∙ c.in_ok-next.ensures) tt (omega (arith, size, more, room)) e.last e.held

pub returns-in_ok-close-clause-pairs : goal.returns-in_ok-close-clause-pairs
returns-in_ok-close-clause-pairs g c =
    let c' : SegmentBuilder g.row.K.Denot g.row.V.Denot = record c.close.new.out { length = c.in-Some.length } in
    let e = c.in_ok-close.ensures in
    given_next g.met.K.Ord.total c.requires.whole c.args.key c.args.value c.requires.rising c' (parts.Made c.args.out.now.tail) refl e.parts (ap (λ t. t.pairs) e.tail ∙ c.in_ok-next.ensures)

pub returns-in_ok-close-clause-spent : goal.returns-in_ok-close-clause-spent
returns-in_ok-close-clause-spent g c =
    let c' : SegmentBuilder g.row.K.Denot g.row.V.Denot = record c.close.new.out { length = c.in-Some.length } in
    let size = c.len.ensures in
    let more = c.if-len.false in
    let room = c.requires.whole.room in
    let e = c.in_ok-close.ensures in
    spent_next g.met.K.Ord.total c.requires.whole c.args.key c.args.value c.requires.rising c' (parts.Made c.args.out.now.tail) refl e.parts (ap (λ t. t.pairs) e.tail ∙ c.in_ok-next.ensures) (omega (arith, size, more, room)) refl

pub returns-in-Ok-clause-counted : goal.returns-in-Ok-clause-counted
returns-in-Ok-clause-counted g c =
    let c' : SegmentBuilder g.row.K.Denot g.row.V.Denot = record c.args.out.now { tail = c.push.new.self; length = c.in-Some.length } in
    counts_run c.args.old.now c.args.out.now c' ((c.args.key, c.args.value) ∷ []) (returns-in-Ok-clause-pairs g c) c.in-Some.ensures.1

pub returns-in_ok-close-clause-counted : goal.returns-in_ok-close-clause-counted
returns-in_ok-close-clause-counted g c =
    let c' : SegmentBuilder g.row.K.Denot g.row.V.Denot = record c.close.new.out { length = c.in-Some.length } in
    counts_run c.args.old.now c.args.out.now c' ((c.args.key, c.args.value) ∷ []) (returns-in_ok-close-clause-pairs g c) c.in-Some.ensures.1
