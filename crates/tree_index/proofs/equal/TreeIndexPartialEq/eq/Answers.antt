use Rattle.std.proofs.Common.{sym}
use Rattle.tree_index.proofs.equal.TreeIndexPartialEq.eq.Goals as goal

pub returns : goal.returns
returns g c = rw (sym c.self.view_is, sym c.other.view_is) c.equals.ensures
