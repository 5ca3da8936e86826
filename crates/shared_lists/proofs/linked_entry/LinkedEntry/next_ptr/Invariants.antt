use Rattle.std.proofs.Common.{◌<◌}
use Rattle.sdd_domain.specs.Tokens.{cell_count}
use Rattle.shared_lists.specs.Lists.{IsStill}
use Rattle.shared_lists.proofs.WalkLemmas.{HasWalked}
use Rattle.shared_lists.proofs.linked_entry.LinkedEntry.next_ptr.Given as goal

abbrev pub invariant-loop-i : goal.invariant-loop-i
invariant-loop-i g l = record {
  same : IsStill l.fn.local l.local;
  inside : l.link.cell < cell_count l.domain;
  walked : HasWalked l.fn.local l.self.links.now l.self.link.now.cell l._i l.link.cell l.local;
}
