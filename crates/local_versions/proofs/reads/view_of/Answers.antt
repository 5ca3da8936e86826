use Rattle.std.proofs.Common.{sym, ◌∙◌}
use Rattle.sdd_world.specs.State.{value_at}
use Rattle.version_views.proofs.VersionLemmas.{version_viewed, viewed_blocks}
use Rattle.local_versions.proofs.reads.view_of.Goals as goal

pub new-requires : goal.new-requires
new-requires g c = rw c.table.ensures (version_viewed g.K.Ord.cmp c.args.w.now.groups (value_at c.args.w.now) c.args.dir.now c.requires)

pub returns : goal.returns
returns g c = (rw c.table.ensures at c.new.ensures) ∙ sym (viewed_blocks g.K.Ord.cmp c.args.w.now.groups (value_at c.args.w.now) c.args.dir.now)
