use Rattle.version_drafts.proofs.gone.covers.Given as goal

abbrev pub invariant-loop-range : goal.invariant-loop-range
invariant-loop-range g l = Unit {0}
