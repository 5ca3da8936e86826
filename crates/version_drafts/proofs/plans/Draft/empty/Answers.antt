use Rattle.std.proofs.Common.{ap, ◌∙◌, arith}
use Rattle.version_views.specs.Cuts.{pairs_in}
use Rattle.version_views.specs.declared.directory.Directory.{Directory}
use Rattle.version_drafts.specs.Shelves.{made_on_all}
use Rattle.version_drafts.proofs.PlanLemmas.{blocks_none, planned_none}
use Rattle.version_drafts.proofs.plans.Draft.empty.Goals as goal

pub invariant_of-result : goal.invariant_of-result
invariant_of-result g c =
    let rows = ap (λ (d : Directory _ _). d.rows.items) c.new-shelves.ensures ∙ c.new.ensures.items in
    let none = ap made_on_all rows in
    record { few = omega arith; counted = omega (arith, none) }

pub returns-clause-slots : goal.returns-clause-slots
returns-clause-slots g c =
    let none = ap made_on_all (ap (λ (d : Directory _ _). d.rows.items) c.new-shelves.ensures ∙ c.new.ensures.items) in
    omega (arith, none)

pub returns-clause-list : goal.returns-clause-list
returns-clause-list g c = λ blocks. ap pairs_in (blocks_none c.new-shelves.result (ap (λ (d : Directory _ _). d.rows.items) c.new-shelves.ensures ∙ c.new.ensures.items) blocks)

pub returns-clause-planned : goal.returns-clause-planned
returns-clause-planned g c =
    let is = c.new-shelves.ensures in
    planned_none c.new-shelves.result (ap (λ (d : Directory _ _). d.rows.items) is ∙ c.new.ensures.items) g.K.Ord.cmp g.row.S (ap (λ (d : Directory _ _). d.separators.items) is ∙ c.new-2.ensures.items) (ap (λ (d : Directory _ _). d.ends.items) is ∙ c.new-3.ensures.items) (ap (λ (d : Directory _ _). d.length) is)
