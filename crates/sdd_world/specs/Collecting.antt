-- what collecting an item makes of a place and of a collector
use Rattle.std.specs.Prelude.{◌≡◌, ℕ, List}
use Rattle.sdd_table.specs.Holding.{Hold}
use Rattle.sdd_table.specs.State.{State}
use Rattle.sdd_table.specs.Steps.{set_aside, enqueued, purged, left_waiting, released}
use Rattle.sdd_table.specs.Place.{IsOwned}
use Rattle.sdd_world.specs.Tokens.{waiting_in, room_of}
use Rattle.sdd_world.specs.declared.collector.PrivateCollector.{PrivateCollector}

module _ {T : Type 0} (holds : T → List Hold) (p : ℕ) (c : PrivateCollector T) where
  -- p reclaims what is overdue at the front of c
  abbrev pub swept_by : State T → State T
  swept_by w = purged holds p (waiting_in c) w

  -- what is left in c then
  abbrev pub left_in : State T → List ℕ
  left_in w = left_waiting holds p (waiting_in c) w

  -- p reclaims what is overdue at the front of c, and then slot i waits at the end of it
  abbrev pub collected : ℕ → State T → State T
  collected i w = set_aside p (room_of c) (left_in w) i (swept_by w)

  -- p reclaims what is overdue at the front of c, and then gives an owner of the item in slot i back
  abbrev pub swept_and_released : ℕ → State T → State T
  swept_and_released i w = released p i (swept_by w)

  abbrev pub left_with : ℕ → State T → List ℕ
  left_with i w = enqueued (room_of c) (left_in w) i

  -- c, which becomes d, takes in the owned item of slot i, unless that was reclaimed before
  pub record CollectsOwned (i : ℕ) (d : PrivateCollector T) (w w' : State T) : Type 0 where
    pub state : IsOwned (swept_by w) i → w' ≡ collected i w
    pub left : IsOwned (swept_by w) i → waiting_in d ≡ left_with i w
    pub gone : ¬ IsOwned (swept_by w) i → w' ≡ swept_by w
    pub others : ¬ IsOwned (swept_by w) i → waiting_in d ≡ left_in w
