use Rattle.std.proofs.Common.{rules, refl, sym, ◌∙◌}
use Rattle.std.proofs.lemmas.List.{nil_from_length}
use Rattle.version_drafts.proofs.segments.expect.Goals as goal

pub returns-in_ok-out-clause-row : goal.returns-in_ok-out-clause-row
returns-in_ok-out-clause-row g c = refl

pub returns-in_ok-out-clause-held : goal.returns-in_ok-out-clause-held
returns-in_ok-out-clause-held g c = refl

pub returns-in_ok-out-clause-length : goal.returns-in_ok-out-clause-length
returns-in_ok-out-clause-length g c = refl

-- the tree that is begun is as empty as the one that was open
pub returns-in_ok-out-clause-tail : goal.returns-in_ok-out-clause-tail
returns-in_ok-out-clause-tail g c = c.in_ok-out.ensures ∙ sym (nil_from_length c.args.out.now.tail.pairs (search rules))

pub returns-else-pairs-gt0-clause-row : goal.returns-else-pairs-gt0-clause-row
returns-else-pairs-gt0-clause-row g c = refl

pub returns-else-pairs-gt0-clause-held : goal.returns-else-pairs-gt0-clause-held
returns-else-pairs-gt0-clause-held g c = refl

pub returns-else-pairs-gt0-clause-tail : goal.returns-else-pairs-gt0-clause-tail
returns-else-pairs-gt0-clause-tail g c = refl

pub returns-else-pairs-gt0-clause-length : goal.returns-else-pairs-gt0-clause-length
returns-else-pairs-gt0-clause-length g c = refl
