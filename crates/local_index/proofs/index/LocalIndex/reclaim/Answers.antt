use Rattle.std.proofs.Common.{◌≡◌, ◌≤◌, ◌^◌, ◌-◌, None, length, sym, ap, ◌∙◌, subst}
use Rattle.std.specs.List.{All}
use Rattle.local_index.specs.Invariant.{index_state}
use Rattle.version_views.specs.Sizes.{room_for}
use Rattle.local_index.specs.State.{State, present}
use Rattle.local_versions.specs.Store.{Store}
use Rattle.local_index.proofs.IndexLemmas.{kept_same, present_pairs}
use Rattle.local_index.proofs.index.LocalIndex.reclaim.Goals as goal

pub invariant_of-self : goal.invariant_of-self
invariant_of-self g c = kept_same g.K.Ord.cmp c.self.inside.history c.self.invariant c.reclaim.new.self c.reclaim.new.self.used c.reclaim.new.self.raises c.reclaim.ensures.same

pub returns : goal.returns
returns g c =
    let now = c.reclaim.new.self in
    record {
      changed = ap (λ (x : Store _ _). index_state x c.self.inside.history) c.reclaim.ensures.same ∙ ap (λ (x : State _ _). record x { used = now.used; raises = now.raises }) c.self.view_is;
      fewer = subst (λ (x : State _ _). now.used ≤ x.used) c.self.view_is c.reclaim.ensures.fewer;
      left = λ idle raises.
          let none = subst (λ (x : State _ _). All (λ p. p ≡ None) x.places) (sym c.self.view_is) idle in
          let left = c.reclaim.ensures.left none (subst (λ (x : State _ _). x.raises ≤ 2 ^ 64 - 9) (sym c.self.view_is) raises) in
          subst (λ ps. now.used ≤ room_for g.row.S (length ps)) (present_pairs g.K.Ord.cmp c.self.inside.history c.self.invariant ∙ ap (present g.K.Ord.cmp) c.self.view_is) left;
    }
