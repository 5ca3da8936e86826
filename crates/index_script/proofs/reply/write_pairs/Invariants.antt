use Rattle.std.proofs.Common.{◌≡◌, ◌++◌, take, decimal}
use Rattle.std.specs.Prelude.{codes}
use Rattle.std.specs.String.{string_bytes}
use Rattle.index_script.specs.Replies.{pair_texts}
use Rattle.index_script.proofs.reply.write_pairs.Given as goal

-- how many pairs there are, and those so far
abbrev pub invariant-loop-pair : goal.invariant-loop-pair
invariant-loop-pair l = string_bytes l.text ≡ (string_bytes l.fn.text ++ codes "pairs " ++ decimal l.count ++ codes "\n") ++ pair_texts (take l.pair-index l.pairs)
