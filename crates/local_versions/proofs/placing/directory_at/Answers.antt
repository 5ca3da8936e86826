use Rattle.sdd_world.specs.Tokens.{loaded_slot}
use Rattle.local_versions.proofs.RowStretchLemmas.{live_readable}
use Rattle.local_versions.proofs.placing.directory_at.Goals as goal

pub read_loaded-requires : goal.read_loaded-requires
read_loaded-requires g c = live_readable c.args.w.now (loaded_slot c.args.older.now) c.requires.there.0 c.requires.there.1 c.requires.there.2.live
