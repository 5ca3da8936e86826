use Rattle.std.proofs.Common.{◌≡◌, false, length}
use Rattle.tree_index.specs.Shape.{AllKeys}
use Rattle.version_drafts.specs.Gone.{is_gone}
use Rattle.version_drafts.proofs.gone.has_gone.Given as goal

-- those that are left decide
abbrev pub invariant-loop-key : goal.invariant-loop-key
invariant-loop-key g l = record {
  all : AllKeys (λ k. is_gone g.K.Ord.cmp l.gone k ≡ false) l.pairs → AllKeys (λ k. is_gone g.K.Ord.cmp l.gone k ≡ false) l.tree.pairs;
  rest : AllKeys (λ k. is_gone g.K.Ord.cmp l.gone k ≡ false) l.tree.pairs → AllKeys (λ k. is_gone g.K.Ord.cmp l.gone k ≡ false) l.pairs;
}

abbrev pub decreases-loop-key : goal.decreases-loop-key
decreases-loop-key g l = length l.pairs
