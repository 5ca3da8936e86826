use Rattle.sdd_world.proofs.FrameLemmas.{owned_protected, stays_until_closed}
use Rattle.sdd_world.proofs.laws.guards_protect.Goals as goal

pub returns-clause-owned : goal.returns-clause-owned
returns-clause-owned g c = owned_protected

pub returns-clause-stays : goal.returns-clause-stays
returns-clause-stays g c = λ q i w later h opens live run. stays_until_closed q i w later opens (owned_protected w q i h live) run
