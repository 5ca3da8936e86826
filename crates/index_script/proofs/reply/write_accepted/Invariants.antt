use Rattle.std.proofs.Common.{◌≡◌, ◌++◌, take, decimal}
use Rattle.std.specs.Prelude.{codes}
use Rattle.std.specs.String.{string_bytes}
use Rattle.index_script.specs.Replies.{told_texts}
use Rattle.index_script.proofs.reply.write_accepted.Given as goal

-- the number, and what the writes so far were told
abbrev pub invariant-loop-reply : goal.invariant-loop-reply
invariant-loop-reply l = string_bytes l.text ≡ (string_bytes l.fn.text ++ codes "ok " ++ decimal l.number) ++ told_texts (take l.reply-index l.reply-items)
