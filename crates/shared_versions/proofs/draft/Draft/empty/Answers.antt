use Rattle.std.proofs.Common.{ap, ◌∙◌}
use Rattle.version_views.specs.declared.directory.Directory.{Directory}
use Rattle.shared_versions.proofs.EmptyLemmas.{empty_listed, empty_placeable}
use Rattle.shared_versions.proofs.draft.Draft.empty.Goals as goal

pub returns-clause-list : goal.returns-clause-list
returns-clause-list g c =
    let is = c.new-shelves.ensures in
    empty_listed g.row.S (record { shelves = c.new-shelves.result }) (ap (λ (d : Directory _ _). d.rows.items) is ∙ c.new.ensures.items)

pub returns-clause-placeable : goal.returns-clause-placeable
returns-clause-placeable g c =
    let is = c.new-shelves.ensures in
    empty_placeable g.row.S (record { shelves = c.new-shelves.result })
    (ap (λ (d : Directory _ _). d.rows.items) is ∙ c.new.ensures.items)
    g.K.Ord.cmp
    (ap (λ (d : Directory _ _). d.separators.items) is ∙ c.new-2.ensures.items)
    (ap (λ (d : Directory _ _). d.ends.items) is ∙ c.new-3.ensures.items)
    (ap (λ (d : Directory _ _). d.length) is)
