use Rattle.std.proofs.Common.{◌-◌, Some, length, refl, sym, ap, ◌∙◌}
use Rattle.tree_index.proofs.WayLemmas.{some_same}
use Rattle.version_views.specs.Cuts.{separators_of}
use Rattle.version_drafts.specs.declared.segments.Row.{Row}
use Rattle.version_drafts.specs.declared.segments.SegmentBuilder.{SegmentBuilder}
use Rattle.version_drafts.proofs.TakenLemmas.{cutting_stretch, given_stretch, trees_stretch}
use Rattle.version_drafts.proofs.segments.take_stretch.Goals as goal

pub returns-clause-last : goal.returns-clause-last
returns-clause-last g c = λ b here. c.len-out.ensures.count ∙ ap length (some_same (c.segment.ensures ∙ sym here))

pub returns-clause-whole : goal.returns-clause-whole
returns-clause-whole g c =
    let s = c.in_ok-seal.ensures in
    let n = c.in_ok-push.ensures.items in
    let r = c.requires in
    let mid = c.seal.new.out in
    let row : Row g.row.K.Denot g.row.V.Denot = record mid.row { parts = c.push.new.self; last = c.len-out.result } in
    let c' : SegmentBuilder g.row.K.Denot g.row.V.Denot = record mid { row = row; held = Some (c.args.upto - 1) } in
    cutting_stretch r.whole c.args.from c.args.upto r.some r.within mid c' n s.tail r.apart (separators_of c.args.old.now) r.old s.row s.pairs s.last s.same (returns-clause-last g c) refl r.rising

pub returns-clause-pairs : goal.returns-clause-pairs
returns-clause-pairs g c =
    let s = c.in_ok-seal.ensures in
    let n = c.in_ok-push.ensures.items in
    let r = c.requires in
    let mid = c.seal.new.out in
    let row : Row g.row.K.Denot g.row.V.Denot = record mid.row { parts = c.push.new.self; last = c.len-out.result } in
    let c' : SegmentBuilder g.row.K.Denot g.row.V.Denot = record mid { row = row; held = Some (c.args.upto - 1) } in
    given_stretch r.whole c.args.from c.args.upto r.some r.within mid c' n s.tail s.pairs

pub returns-clause-trees : goal.returns-clause-trees
returns-clause-trees g c =
    let s = c.in_ok-seal.ensures in
    let n = c.in_ok-push.ensures.items in
    let r = c.requires in
    let mid = c.seal.new.out in
    let row : Row g.row.K.Denot g.row.V.Denot = record mid.row { parts = c.push.new.self; last = c.len-out.result } in
    let c' : SegmentBuilder g.row.K.Denot g.row.V.Denot = record mid { row = row; held = Some (c.args.upto - 1) } in
    trees_stretch r.whole c.args.from c.args.upto r.some r.within mid c' n s.tail s.made
