-- why a participant may have a lease
use Rattle.std.specs.Prelude.{◌≡◌, ◌⊎◌, ℕ, ◌<◌}
use Rattle.sdd_steps.specs.declared.participant.Phase.TheVariants.{Opened}
use Rattle.sdd_steps.specs.declared.participant.Participant.{Participant}
use Rattle.sdd_steps.specs.declared.participant.Loaded.{Loaded}
use Rattle.sdd_steps.specs.declared.item.Item.{Item}
use Rattle.sdd_steps.specs.State.{State, At, Has}

-- p has loaded i under its open guard
abbrev pub Loads : State → ℕ → ℕ → Type 0
Loads s p i = (x : Participant) × (e : ℕ) × (h : Loaded) × At s.participants p x × (x.phase ≡ Opened e) × Has x.loaded h × (h.item ≡ i)

-- p has loaded i, or it has an owner of i in hand, by what `grip` says
abbrev pub Why : State → (ℕ → ℕ → Type 0) → ℕ → ℕ → Type 0
Why s grip p i = Loads s p i ⊎ grip p i

-- what is in hand by `grip` has an owner in hand
abbrev pub Grips : State → (ℕ → ℕ → Type 0) → Type 0
Grips s grip = (p i : ℕ) → grip p i → (it : Item) × At s.items i it × (0 < it.hand)
