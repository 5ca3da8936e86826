use Rattle.std.proofs.Common.{◌≤◌, length, subst, ◌∙◌, lit<}
use Rattle.version_views.specs.Sizes.{segments_for}
use Rattle.local_index.proofs.IndexLemmas.{session_reads}
use Rattle.local_index.proofs.index.LocalIndex.list_read_at.Goals as goal

pub reader-requires : goal.reader-requires
reader-requires g c =
    let v = session_reads g.K.Ord.cmp c.self.inside.history c.self.invariant _ c.args.place c.args.number c.self.view_is c.requires in
    (lit< tt, (lit< tt, (v.0, v.1)))

pub returns-clause-list : goal.returns-clause-list
returns-clause-list g c =
    let v = session_reads g.K.Ord.cmp c.self.inside.history c.self.invariant _ c.args.place c.args.number c.self.view_is c.requires in
    c.reader.ensures.pairs v.0 v.1 ∙ v.2

pub returns-clause-few : goal.returns-clause-few
returns-clause-few g c = subst (λ ps. length c.reader.result ≤ segments_for g.row.S (length ps)) (returns-clause-list g c) c.reader.ensures.few
