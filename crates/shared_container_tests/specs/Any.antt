-- containers of any kind, why there is no clone, and participants that rest
use Rattle.std.specs.Prelude.{◌≡◌, ℕ, []}
use Rattle.sdd_domain.specs.Tokens.{place_of, home_of, hand_of, own_of}
use Rattle.sdd_domain.specs.declared.domain.Domain.{Domain}
use Rattle.sdd_domain.specs.declared.local.Local.{Local}
use Rattle.shared_containers.specs.Containers.{IsBagOf, IsQueueOf, IsStackOf}
use Rattle.shared_containers.specs.declared.outcome.NotCloned.{NotCloned}
use Rattle.shared_containers.specs.declared.outcome.NotCloned.TheVariants.{Memory, Refused}
use Rattle.shared_containers.specs.declared.outcome.PushRefused.{PushRefused}
use Rattle.shared_container_tests.specs.declared.kinds.Any.{Any}
use Rattle.shared_container_tests.specs.declared.kinds.Any.TheVariants as any

-- its cells are cells of a place with as many as this one
abbrev pub IsAnyOf : Any → Domain ℕ → Type 0
IsAnyOf (any.Stack s) d = IsStackOf s d
IsAnyOf (any.Queue q) d = IsQueueOf q d
IsAnyOf (any.Bag b) d = IsBagOf b d

-- what holds of the refusal of a clone, if that was refused a place
abbrev pub IfRefused : {T : Type 0} → NotCloned T → (PushRefused T → Type 0) → Type 0
IfRefused Memory P = Unit {0}
IfRefused (Refused r) P = P r

-- the participant is of the place, with no owner in its hand and no guard open
pub record Rests {T : Type 0} (d : Domain T) (l : Local T) : Type 0 where
  pub home : home_of l ≡ place_of d
  pub bare : hand_of l ≡ []
  pub closed : (own_of l).nesting ≡ 0
