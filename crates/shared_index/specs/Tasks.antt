-- what tasks over an index came to
use Rattle.std.specs.Prelude.{ℕ, List, map}
use Rattle.std.specs.List.{sum}
use Rattle.shared_index.specs.declared.tasks.Ended.{Ended}

-- how many commits of them were accepted, in all
abbrev pub commits_of : {A : Type 0} → List (Ended A) → ℕ
commits_of ended = sum (map (λ e. e.commits) ended)
