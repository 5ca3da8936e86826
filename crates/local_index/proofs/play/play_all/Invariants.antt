use Rattle.std.proofs.Common.{◌≡◌, ◌++◌, length}
use Rattle.std.specs.Vec.Iter.{into_iter_items, into_iter_len}
use Rattle.local_index.specs.Desk.{KeepsAll, Serves, Run}
use Rattle.local_index.proofs.play.play_all.Given as goal

-- the calls so far and their replies are a run, and the others are yet to be made
abbrev pub invariant-loop-call : goal.invariant-loop-call
invariant-loop-call g l = record {
  whole : l.yielded ++ into_iter_items l.call-iterator ≡ l.fn.calls.items;
  counted : into_iter_len l.call-iterator ≡ length (into_iter_items l.call-iterator);
  played : Run g.K.Ord.cmp g.row.S (record { index = l.fn.index; desk = l.fn.desk }) l.yielded l.replies.items (record { index = l.index; desk = l.desk });
  serves : Serves (record { index = l.index; desk = l.desk });
  keeps_all : KeepsAll (record { index = l.fn.index; desk = l.fn.desk }) → KeepsAll (record { index = l.index; desk = l.desk });
}
