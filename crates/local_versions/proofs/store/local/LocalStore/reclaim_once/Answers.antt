use Rattle.std.proofs.Common.{◌≡◌, ◌≤◌, ◌+◌, ℕ, None, sym, ap, ◌∙◌, subst, arith}
use Rattle.std.specs.List.{All}
use Rattle.sdd_world.specs.Passing.{passed_times}
use Rattle.sdd_world.specs.State.{State, in_use}
use Rattle.sdd_world.specs.Tokens.{shared_cell}
use Rattle.version_views.specs.Items.{held_by}
use Rattle.local_versions.specs.Store.{Store, read_by}
use Rattle.version_views.proofs.OptionLemmas.{all_none}
use Rattle.local_versions.proofs.PassLemmas.{Reclaimed, raises_once, reclaimed}
use Rattle.local_versions.proofs.store.local.LocalStore.reclaim_once.Goals as goal

pub invariant_of-self : goal.invariant_of-self
invariant_of-self g c =
    let long = c.len.ensures ∙ c.self.inside.readers.ok.0 in
    let now = c.run_passes.ensures ∙ ap (λ (n : ℕ). passed_times held_by n 1 c.self.inside.world) long in
    let r = subst (λ (w : State _). Reclaimed g.K.Ord.cmp (shared_cell c.self.inside.root) c.self.inside.readers.items c.self.inside.world w) (sym now) (reclaimed g.K.Ord.cmp 1 c.self.inside.world (shared_cell c.self.inside.root) c.self.inside.readers.items c.self.invariant.0) in
    (r.store, c.self.invariant.1)

pub returns-clause-same : goal.returns-clause-same
returns-clause-same g c =
    let long = c.len.ensures ∙ c.self.inside.readers.ok.0 in
    let now = c.run_passes.ensures ∙ ap (λ (n : ℕ). passed_times held_by n 1 c.self.inside.world) long in
    let r = subst (λ (w : State _). Reclaimed g.K.Ord.cmp (shared_cell c.self.inside.root) c.self.inside.readers.items c.self.inside.world w) (sym now) (reclaimed g.K.Ord.cmp 1 c.self.inside.world (shared_cell c.self.inside.root) c.self.inside.readers.items c.self.invariant.0) in
    r.shows ∙ ap (λ (x : Store _ _). record x { used = in_use c.run_passes.new.w; raises = c.run_passes.new.w.count }) c.self.view_is

pub returns-clause-fewer : goal.returns-clause-fewer
returns-clause-fewer g c =
    let long = c.len.ensures ∙ c.self.inside.readers.ok.0 in
    let now = c.run_passes.ensures ∙ ap (λ (n : ℕ). passed_times held_by n 1 c.self.inside.world) long in
    let r = subst (λ (w : State _). Reclaimed g.K.Ord.cmp (shared_cell c.self.inside.root) c.self.inside.readers.items c.self.inside.world w) (sym now) (reclaimed g.K.Ord.cmp 1 c.self.inside.world (shared_cell c.self.inside.root) c.self.inside.readers.items c.self.invariant.0) in
    subst (λ (x : Store _ _). in_use c.run_passes.new.w ≤ x.used) c.self.view_is r.fewer

-- no reader has a guard open
pub returns-clause-raised : goal.returns-clause-raised
returns-clause-raised g c = λ idle raises.
    let long = c.len.ensures ∙ c.self.inside.readers.ok.0 in
    let now = c.run_passes.ensures ∙ ap (λ (n : ℕ). passed_times held_by n 1 c.self.inside.world) long in
    let count = ap (λ (x : Store _ _). x.raises) c.self.view_is in
    let once = raises_once g.K.Ord.cmp c.self.inside.world (shared_cell c.self.inside.root) c.self.inside.readers.items c.self.invariant.0 (all_none (read_by c.self.inside.world) c.self.inside.readers.items (subst (λ (x : Store _ _). All (λ r. r ≡ None) x.readers) (sym c.self.view_is) idle)) (omega (arith, count, raises)) in
    ap (λ (w : State _). w.count) now ∙ once ∙ ap (λ (n : ℕ). n + 1) count
