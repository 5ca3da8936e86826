use Rattle.std.proofs.Common.{sym}
use Rattle.tree_index.proofs.index.TreeIndex.peek_with.Goals as goal

pub returns-in-Some : goal.returns-in-Some
returns-in-Some g c = (c.in-Some.stored, c.in-Some.value, rw (sym c.self.view_is) c.in-Some.ensures, c.f.ensures)
