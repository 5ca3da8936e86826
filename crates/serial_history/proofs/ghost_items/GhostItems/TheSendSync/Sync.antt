-- It owns nothing, so any thread may share it.
use denote.RattleType.{RattleType}
use denote.Param.Send.{IsSync, part_keyless}
use Rattle.serial_history.specs.contracts.ghost_items.GhostItems.{the_row}
use Rattle.serial_history.proofs.ghost_items.GhostItems.TheSendSync.Send.{send}

pub sync : (X : RattleType) → IsSync (the_row X)
sync X = record { shared = λ d b o κ q. part_keyless (the_row X) (send X) q d b o }
