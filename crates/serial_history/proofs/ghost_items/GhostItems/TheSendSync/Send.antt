-- It owns nothing, so it may go to another thread.
use denote.RattleType.{RattleType}
use denote.Param.Send.{IsSend}
use Rattle.serial_history.specs.contracts.ghost_items.GhostItems.{the_row}

pub send : (X : RattleType) → IsSend (the_row X)
send X = record { owned = λ d vs. ((λ vss. (tt, ((λ uss. (tt, tt)), tt))), tt); leaving = λ k f vs. tt }
