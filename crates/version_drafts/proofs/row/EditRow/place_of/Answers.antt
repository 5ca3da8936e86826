use Rattle.std.proofs.Common.{rules, of_calls}
use Rattle.std.proofs.lemmas.Fn.{always_returns_same}
use Rattle.version_drafts.proofs.RowLemmas.{searched_found, searched_missing}
use Rattle.version_drafts.proofs.row.EditRow.place_of.Goals as goal

pub returns-clause-found : goal.returns-clause-found
returns-clause-found g c =
    let facts = c.binary_search_by.ensures in
    let by_key = facts.position (λ p. g.K.Ord.cmp p.0 c.args.key.now) (always_returns_same _ _ _ (λ a r f called. search (rules, of_calls))) in
    rw (← c.self.view_is, ← c.deref.ensures.value) (searched_found g.met.K.Ord.total c.args.key.now _ _ (rw c.deref.ensures.value c.self.invariant) facts.bound by_key)

pub returns-clause-missing : goal.returns-clause-missing
returns-clause-missing g c =
    let facts = c.binary_search_by.ensures in
    let by_key = facts.position (λ p. g.K.Ord.cmp p.0 c.args.key.now) (always_returns_same _ _ _ (λ a r f called. search (rules, of_calls))) in
    rw (← c.self.view_is, ← c.deref.ensures.value) (searched_missing g.met.K.Ord.total c.args.key.now _ _ (rw c.deref.ensures.value c.self.invariant) facts.bound by_key)
