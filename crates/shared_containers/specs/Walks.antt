-- what walks show to clauses
use Rattle.std.specs.Prelude.{ℕ}
use Rattle.shared_containers.specs.declared.iter.Iter.{Iter}

-- how many items a walk gives at most
abbrev pub left_of : {T : Type 0} → Iter T → ℕ
left_of walk = walk.left
