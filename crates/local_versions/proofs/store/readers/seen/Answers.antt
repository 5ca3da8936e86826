use Rattle.std.proofs.Common.{ℕ, List, sym, ap, ◌∙◌, arith}
use Rattle.sdd_world.specs.State.{value_at}
use Rattle.version_views.specs.Versions.{list_of}
use Rattle.local_versions.specs.Store.{version_in}
use Rattle.local_versions.proofs.StoreLemmas.{reads_readable, version_is}
use Rattle.local_versions.proofs.store.readers.seen.Goals as goal

pub version_at-requires : goal.version_at-requires
version_at-requires g c =
    let reads = c.requires.1 in
    (omega arith, (reads_readable g.K.Ord.cmp c.args.w.now c.requires.0 c.args.opened.now reads, (reads.slot, reads.number, reads.pairs, reads.named, reads.version)))

pub returns-clause-is : goal.returns-clause-is
returns-clause-is g c =
    let reads = c.requires.1 in
    let read = c.version_at.ensures.is reads.slot reads.number reads.pairs reads.named reads.version in
    ap (λ (n : ℕ). record { number = n; pairs = list_of c.args.w.now.groups (value_at c.args.w.now) c.version_at.result.now }) read.1
    ∙ ap (λ (ps : List _). record { number = reads.number; pairs = ps }) read.0
    ∙ sym (ap (version_in c.args.w.now) reads.named ∙ version_is g.K.Ord.cmp c.args.w.now reads.slot reads.number reads.pairs reads.version)
