use Rattle.std.proofs.Common.{Some, sym, ap, ◌∙◌, arith}
use Rattle.version_views.proofs.OptionLemmas.{mapped_some, read_there}
use Rattle.local_versions.specs.Store.{Version, read_by}
use Rattle.local_versions.proofs.StoreLemmas.{reader_known}
use Rattle.local_versions.proofs.store.readers.read_at.Goals as goal

pub bounds-readers-place : goal.bounds-readers-place
bounds-readers-place g c =
    let r = mapped_some (read_by c.args.w.now) c.args.readers.now c.args.place c.requires.reader.0 c.requires.reader.1 in
    (read_there c.args.readers.now c.args.place (Some r.0) r.1).0

pub unreachable-requires : goal.unreachable-requires
unreachable-requires g c =
    let r = mapped_some (read_by c.args.w.now) c.args.readers.now c.args.place c.requires.reader.0 c.requires.reader.1 in
    let none = sym (read_there c.args.readers.now c.args.place (Some r.0) r.1).1 ∙ c.in-None.is in
    cc

pub returns-clause-version : goal.returns-clause-version
returns-clause-version g c = c.seen.ensures.version

pub seen-requires : goal.seen-requires
seen-requires g c =
    let r = reader_known g.K.Ord.cmp c.args.w.now c.requires.store.0 c.args.readers.now c.requires.store.1 c.args.place c.requires.reader.0 c.in-Some.opened c.requires.reader.1 c.in-Some.is in
    (omega arith, (omega arith, (c.args.place, r.reads)))

pub returns-clause-is : goal.returns-clause-is
returns-clause-is g c = λ v shown.
    let r = reader_known g.K.Ord.cmp c.args.w.now c.requires.store.0 c.args.readers.now c.requires.store.1 c.args.place v c.in-Some.opened shown c.in-Some.is in
    ap (λ (x : Version _ _). x.pairs) (c.seen.ensures.is ∙ r.shows)
