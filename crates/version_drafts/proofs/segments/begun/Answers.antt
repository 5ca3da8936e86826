use Rattle.std.proofs.Common.{refl}
use Rattle.version_drafts.proofs.CuttingLemmas.{cutting_none}
use Rattle.version_drafts.proofs.segments.begun.Goals as goal

pub returns-clause-whole : goal.returns-clause-whole
returns-clause-whole g c = cutting_none g.K.Ord.cmp g.row.S c.args.old.now _ c.requires.0 c.requires.1 c.in_ok-parts.ensures.items refl refl c.new.ensures
