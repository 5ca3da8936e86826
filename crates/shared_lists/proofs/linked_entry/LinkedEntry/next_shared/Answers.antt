use Rattle.shared_lists.specs.Lists.{links_count}
use Rattle.shared_lists.proofs.WalkLemmas.{found_before}
use Rattle.shared_lists.proofs.linked_entry.LinkedEntry.next_shared.Goals as goal

pub returns-clause-found : goal.returns-clause-found
returns-clause-found g c = found_before c.args.self.now.links.now c.args.self.now.link.now.cell c.args.local.now c.next_ptr.new.local c.get_shared.new.local c.get_shared.result c.next_ptr.result.slot (links_count c.args.self.now.links.now) c.get_shared.ensures.exact c.get_shared.ensures.cells c.next_ptr.ensures.found
