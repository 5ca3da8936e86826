use Rattle.std.proofs.Common.{◌≡◌, ◌≤◌, length, take, vec_capacity}
use Rattle.serial_history.proofs.transaction.copied_replies.Given as goal

-- so many are copied, and there is room for all
abbrev pub invariant-loop-reply : goal.invariant-loop-reply
invariant-loop-reply l = record {
  copied : l.room.items ≡ take l.reply-index l.replies;
  fits : length l.replies ≤ vec_capacity l.room;
}
