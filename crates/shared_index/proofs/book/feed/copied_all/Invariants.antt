use Rattle.std.proofs.Common.{◌≡◌, take}
use Rattle.shared_index.proofs.book.feed.copied_all.Given as goal

abbrev pub invariant-loop-transaction : goal.invariant-loop-transaction
invariant-loop-transaction g l = l.copy.items ≡ take l.transaction-index l.transactions
