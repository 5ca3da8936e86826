use Rattle.std.proofs.Common.{◌≡◌, ◌≤◌, ◌<◌, ◌+◌, ◌^◌, ◌-◌, ℕ, None, sym, ap, ◌∙◌, subst}
use Rattle.std.specs.List.{All}
use Rattle.local_index.specs.Invariant.{index_state}
use Rattle.local_index.specs.State.{State}
use Rattle.local_versions.specs.Store.{Store}
use Rattle.local_index.proofs.IndexLemmas.{kept_same}
use Rattle.local_index.proofs.index.LocalIndex.reclaim_once.Goals as goal

pub invariant_of-self : goal.invariant_of-self
invariant_of-self g c = kept_same g.K.Ord.cmp c.self.inside.history c.self.invariant c.reclaim_once.new.self c.reclaim_once.new.self.used c.reclaim_once.new.self.raises c.reclaim_once.ensures.same

pub returns-clause-changed : goal.returns-clause-changed
returns-clause-changed g c =
    let now = c.reclaim_once.new.self in
    ap (λ (x : Store _ _). index_state x c.self.inside.history) c.reclaim_once.ensures.same ∙ ap (λ (x : State _ _). record x { used = now.used; raises = now.raises }) c.self.view_is

pub returns-clause-fewer : goal.returns-clause-fewer
returns-clause-fewer g c = subst (λ (x : State _ _). c.reclaim_once.new.self.used ≤ x.used) c.self.view_is c.reclaim_once.ensures.fewer

-- the index has a session where the store has a reader
pub returns-clause-raised : goal.returns-clause-raised
returns-clause-raised g c = λ idle raises.
    let none = subst (λ (x : State _ _). All (λ p. p ≡ None) x.places) (sym c.self.view_is) idle in
    let once = c.reclaim_once.ensures.raised none (subst (λ (x : State _ _). x.raises < 2 ^ 64 - 1) (sym c.self.view_is) raises) in
    once ∙ ap (λ (x : State _ _). x.raises + 1) c.self.view_is
