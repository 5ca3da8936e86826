use Rattle.std.proofs.Common.{inl, refl}
use Rattle.tree_nodes.proofs.arenas.Arenas.new.Goals as goal

pub returns-clause-sound : goal.returns-clause-sound
returns-clause-sound g c =
    record {
      stands = inl (record { flat = refl; empty = λ at. rw c.new.ensures.empty refl });
      linked = λ h. absurd (h refl);
      count = rw c.new.ensures.empty refl;
    }
