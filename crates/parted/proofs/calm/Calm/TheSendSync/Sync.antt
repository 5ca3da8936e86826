-- A badge crosses threads, and through a `&` to one at rest nothing more than its empty bytes is had.
use Prim.Native.Nat.{◌+◌}
use denote.Param.Send.{IsSync, part_keyless}
use denote.RattleType.{RattleType}
use Rattle.atomic_table.specs.contracts.badge.Badge as badge
use Rattle.atomic_table.proofs.badge.Badge.TheSendSync.{the_send}
use Rattle.parted.specs.contracts.calm.Calm.{the_row}

pub sync : (V : RattleType) → IsSync (the_row V)
sync V = record { shared = λ d b o κ. ((((λ q. part_keyless (badge.the_row V) (the_send V) q d.badge b (o + 0)), tt), (λ q. tt)), tt) }
