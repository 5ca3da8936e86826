use Rattle.std.proofs.Common.{◌≤◌, length, List, sym, ap, subst, ◌∙◌}
use Rattle.version_views.specs.Cuts.{IsTight, pairs_in}
use Rattle.version_views.specs.Sizes.{segments_for}
use Rattle.version_views.proofs.BlockListLemmas.{blocks_fit}
use Rattle.shared_versions.specs.Readers.{blocks_in}
use Rattle.shared_sessions.proofs.session.SharedSession.view.Goals as goal

pub returns-clause-list : goal.returns-clause-list
returns-clause-list g c =
    ap pairs_in (c.view_of.ensures ∙ ap blocks_in c.version-version.ensures.version) ∙ ap (λ s. s.list) c.self.view_is

pub returns-clause-few : goal.returns-clause-few
returns-clause-few g c =
    let version = c.version-version.result.now in
    let tight = subst (λ w. IsTight w version.blocks) c.version-version.ensures.width c.laws.ensures.tight in
    let few = blocks_fit g.row.S c.view_of.result (subst (λ (bs : List (List _)). IsTight g.row.S bs) (sym c.view_of.ensures) tight) in
    subst (λ (ps : List _). length c.view_of.result ≤ segments_for g.row.S (length ps)) (returns-clause-list g c) few
