-- what containers show to clauses
use Rattle.std.specs.Prelude.{◌≡◌, ◌<◌, ℕ, true, false}
use Rattle.sdd_domain.specs.Cells.{cell_number}
use Rattle.sdd_domain.specs.Tokens.{cell_count}
use Rattle.sdd_domain.specs.declared.domain.Domain.{Domain}
pub use Rattle.shared_lists.specs.Lists.{IsRowOf, AreLinksOf, IsReady, IsOpenIn, IsStill, IsAsBefore}
use Rattle.shared_containers.specs.declared.bag.Bag.{Bag}
use Rattle.shared_containers.specs.declared.queue.Queue.{Queue}
use Rattle.shared_containers.specs.declared.stack.Stack.{Stack}

-- the cell of a stack is one of a place with as many cells as this one
abbrev pub IsStackOf : {T : Type 0} → Stack T → Domain T → Type 0
IsStackOf s d = cell_number s.first < cell_count d

-- and both cells of a queue, whose front is one
abbrev pub IsQueueOf : {T : Type 0} → Queue T → Domain T → Type 0
IsQueueOf q d = IsStackOf q.front d × (cell_number q.last < cell_count d) × (q.front.is_front ≡ true)

-- and all of a bag, whose overflow is no front of a queue
abbrev pub IsBagOf : {T : Type 0} → {n : ℕ} → Bag T n → Domain T → Type 0
IsBagOf b d = IsRowOf b.primary d × IsStackOf b.overflow d × (b.overflow.is_front ≡ false)
