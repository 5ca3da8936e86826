use Rattle.std.proofs.Common.{◌+◌, ◌++◌, drop, length, refl, take, ap, arith}
use Rattle.std.proofs.lemmas.List.{length-drop, length-take}
use Rattle.version_drafts.specs.Changes.{apply_delta}
use Rattle.version_drafts.specs.Cutting.{given_pairs}
use Rattle.version_drafts.specs.Gone.{without_gone}
use Rattle.version_drafts.specs.Parts.{blocks_of_parts}
use Rattle.version_drafts.specs.declared.segments.SegmentBuilder.{SegmentBuilder}
use Rattle.version_drafts.proofs.CuttingLemmas.{counts_run, cutting_run, run_given_behind, spent_run, tail_run}
use Rattle.version_drafts.proofs.MergeLemmas.{taken}
use Rattle.version_drafts.proofs.RunLemmas.{passed_of, run_filled, run_given, run_reached, run_rises, run_sorted, run_split}
use Rattle.version_views.specs.Cuts.{pairs_in}
use Rattle.version_drafts.proofs.merge.copy_run.Goals as goal

pub push_run-requires-clause-rising : goal.push_run-requires-clause-rising
push_run-requires-clause-rising g c = λ n below.
    let cmp = g.K.Ord.cmp in
    let blocks = c.args.old.now in
    let rest = without_gone cmp c.args.gone.now (pairs_in (drop (c.args.place + 1) c.args.old.now)) in
    let cs = c.args.changes.now in
    let ps = c.args.pairs.now in
    let out = c.args.out.now in
    run_rises g.met.K.Ord.total cs ps rest n (passed_of cmp cs (take n ps) c.key.result c.key.ensures below) (pairs_in (blocks_of_parts blocks out.row.parts.items)) out.tail.pairs c.requires.rising

pub returns-clause-whole : goal.returns-clause-whole
returns-clause-whole g c =
    let cmp = g.K.Ord.cmp in
    let blocks = c.args.old.now in
    let rest = without_gone cmp c.args.gone.now (pairs_in (drop (c.args.place + 1) c.args.old.now)) in
    let cs = c.args.changes.now in
    let ps = c.args.pairs.now in
    let out = c.args.out.now in
    let n = c.in_ok-count.count in
    let e = c.in_ok-count.ensures in
    let passed = passed_of cmp cs (take n ps) c.key.result c.key.ensures e.below in
    let out' : SegmentBuilder g.row.K.Denot g.row.V.Denot = record out { tail = c.push_run.new.into; length = c.in-Some.length } in
    let up = run_given g.met.K.Ord.total cs ps rest n passed (given_pairs blocks out) c.requires.rising in
    let size = length-take n ps in
    let room = c.requires.whole.room in
    cutting_run c.requires.whole (take n ps) up out' refl refl e.pushed (omega (arith, size, room, e.most, c.len-room.ensures))

pub returns-clause-list : goal.returns-clause-list
returns-clause-list g c =
    let cmp = g.K.Ord.cmp in
    let blocks = c.args.old.now in
    let rest = without_gone cmp c.args.gone.now (pairs_in (drop (c.args.place + 1) c.args.old.now)) in
    let cs = c.args.changes.now in
    let ps = c.args.pairs.now in
    let out = c.args.out.now in
    let n = c.in_ok-count.count in
    let e = c.in_ok-count.ensures in
    let passed = passed_of cmp cs (take n ps) c.key.result c.key.ensures e.below in
    let out' : SegmentBuilder g.row.K.Denot g.row.V.Denot = record out { tail = c.push_run.new.into; length = c.in-Some.length } in
    let up = run_given g.met.K.Ord.total cs ps rest n passed (given_pairs blocks out) c.requires.rising in
    let size = length-take n ps in
    let split = run_split g.met.K.Ord.total cs ps rest n passed c.push_run.new.self e.passed in
    taken (given_pairs blocks out) (given_pairs blocks out') (take n ps) (apply_delta cmp cs (c.push_run.new.self ++ rest)) (apply_delta cmp cs (ps ++ rest)) (run_given_behind c.requires.whole (take n ps) up out' refl refl e.pushed) split

pub returns-clause-counted : goal.returns-clause-counted
returns-clause-counted g c =
    let cmp = g.K.Ord.cmp in
    let blocks = c.args.old.now in
    let rest = without_gone cmp c.args.gone.now (pairs_in (drop (c.args.place + 1) c.args.old.now)) in
    let cs = c.args.changes.now in
    let ps = c.args.pairs.now in
    let out = c.args.out.now in
    let n = c.in_ok-count.count in
    let e = c.in_ok-count.ensures in
    let passed = passed_of cmp cs (take n ps) c.key.result c.key.ensures e.below in
    let out' : SegmentBuilder g.row.K.Denot g.row.V.Denot = record out { tail = c.push_run.new.into; length = c.in-Some.length } in
    let up = run_given g.met.K.Ord.total cs ps rest n passed (given_pairs blocks out) c.requires.rising in
    let size = length-take n ps in
    counts_run blocks out out' (take n ps) (run_given_behind c.requires.whole (take n ps) up out' refl refl e.pushed) (omega (arith, size, e.within, c.in-Some.ensures.1))

pub returns-clause-sorted : goal.returns-clause-sorted
returns-clause-sorted g c =
    let cmp = g.K.Ord.cmp in
    let blocks = c.args.old.now in
    let rest = without_gone cmp c.args.gone.now (pairs_in (drop (c.args.place + 1) c.args.old.now)) in
    let cs = c.args.changes.now in
    let ps = c.args.pairs.now in
    let out = c.args.out.now in
    let n = c.in_ok-count.count in
    let e = c.in_ok-count.ensures in
    let passed = passed_of cmp cs (take n ps) c.key.result c.key.ensures e.below in
    run_sorted g.met.K.Ord.total cs ps rest n passed c.push_run.new.self e.passed c.requires.sorted

pub returns-clause-filled : goal.returns-clause-filled
returns-clause-filled g c =
    let cmp = g.K.Ord.cmp in
    let blocks = c.args.old.now in
    let rest = without_gone cmp c.args.gone.now (pairs_in (drop (c.args.place + 1) c.args.old.now)) in
    let cs = c.args.changes.now in
    let ps = c.args.pairs.now in
    let out = c.args.out.now in
    let n = c.in_ok-count.count in
    let e = c.in_ok-count.ensures in
    let passed = passed_of cmp cs (take n ps) c.key.result c.key.ensures e.below in
    let out' : SegmentBuilder g.row.K.Denot g.row.V.Denot = record out { tail = c.push_run.new.into; length = c.in-Some.length } in
    let up = run_given g.met.K.Ord.total cs ps rest n passed (given_pairs blocks out) c.requires.rising in
    let size = length-take n ps in
    let left = length-drop n ps in
    let next = ap length e.passed in
    let spent = spent_run c.requires.whole (take n ps) up out' refl refl e.pushed in
    let more = tail_run c.requires.whole (take n ps) up out' refl refl e.pushed in
    run_filled g.row.S _ _ n out out' (omega (arith, spent, size, e.within)) (omega (arith, left, next, e.within)) (omega (arith, more, size, e.within)) refl

pub returns-clause-reached : goal.returns-clause-reached
returns-clause-reached g c =
    let cmp = g.K.Ord.cmp in
    let blocks = c.args.old.now in
    let rest = without_gone cmp c.args.gone.now (pairs_in (drop (c.args.place + 1) c.args.old.now)) in
    let cs = c.args.changes.now in
    let ps = c.args.pairs.now in
    let out = c.args.out.now in
    let n = c.in_ok-count.count in
    let e = c.in_ok-count.ensures in
    let passed = passed_of cmp cs (take n ps) c.key.result c.key.ensures e.below in
    run_reached g.met.K.Ord.total cs ps n e.within passed c.push_run.new.self e.passed
