use Rattle.std.proofs.Common.{◌≤◌, length, ap, ◌∙◌, sym, subst, arith}
use Rattle.std.specs.List.{slice_get}
use Rattle.sdd_world.specs.Tokens.{shared_cell}
use Rattle.version_views.specs.Cuts.{pairs_in}
use Rattle.version_views.specs.Sizes.{segments_for}
use Rattle.local_versions.specs.Store.{Store}
use Rattle.version_views.proofs.BlockListLemmas.{blocks_fit}
use Rattle.local_versions.proofs.store.local.LocalStore.reader.Goals as goal

pub read_at-requires : goal.read_at-requires
read_at-requires g c = rw c.deref.ensures.value (omega arith, (omega arith, ((shared_cell c.self.inside.root, c.self.invariant.0), (c.requires.0, ap (λ (x : Store _ _). slice_get x.readers c.args.place) c.self.view_is ∙ c.requires.1))))

pub returns-clause-pairs : goal.returns-clause-pairs
returns-clause-pairs g c = λ v shown.
    let is = rw c.deref.ensures.value at c.read_at.ensures.is in
    let pairs = is v (ap (λ (x : Store _ _). slice_get x.readers c.args.place) c.self.view_is ∙ shown) in
    ap pairs_in c.view_of.ensures ∙ pairs

pub returns-clause-few : goal.returns-clause-few
returns-clause-few g c =
    subst (λ bs. length bs ≤ segments_for g.row.S (length (pairs_in bs))) (sym c.view_of.ensures) (blocks_fit g.row.S _ c.read_at.ensures.version.cut.tight)
