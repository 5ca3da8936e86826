-- why a value wasn't pushed
use Rattle.world_containers.specs.declared.refusal.PushRefused.{PushRefused}
use Rattle.world_containers.specs.declared.refusal.PushRefused.TheVariants as refused

abbrev pub refused_value : {T : Type 0} → PushRefused T → T
refused_value (refused.Condition v) = v
refused_value (refused.NoSlot v) = v

abbrev pub IsCondition : {T : Type 0} → PushRefused T → Type 0
IsCondition (refused.Condition v) = Unit {0}
IsCondition (refused.NoSlot v) = ⊥

abbrev pub IsNoSlot : {T : Type 0} → PushRefused T → Type 0
IsNoSlot (refused.Condition v) = ⊥
IsNoSlot (refused.NoSlot v) = Unit {0}
