use Rattle.std.proofs.Common.{◌≡◌, ◌≤◌, length, sym, ap, ◌∙◌, subst}
use Rattle.std.proofs.lemmas.Result.{IfOk-weaker}
use Rattle.std.specs.List.{All}
use Rattle.version_views.specs.Rows.{CutsInRows, IsRowed}
use Rattle.version_views.specs.declared.directory.Directory.{Directory}
use Rattle.version_drafts.specs.Parts.{LiesWithin, blocks_of_parts}
use Rattle.version_drafts.specs.Shelves.{LiesOn, shelf_blocks, shelved_blocks}
use Rattle.version_drafts.proofs.ListedLemmas.{cuts_none, none_at, view_none}
use Rattle.version_drafts.proofs.listed.shelved_alone.Goals as goal

pub new-old-requires : goal.new-old-requires
new-old-requires g c =
    let is = c.new-none.ensures in
    view_none _ (ap (λ (d : Directory _ _). d.rows.items) is ∙ c.new.ensures.items) (ap (λ (d : Directory _ _). d.separators.items) is ∙ c.new-2.ensures.items) g.K.Ord.cmp _ _ _ _ (ap (λ (d : Directory _ _). d.ends.items) is ∙ c.new-3.ensures.items) (ap (λ (d : Directory _ _). d.length) is)

pub shelved-requires-clause-rows : goal.shelved-requires-clause-rows
shelved-requires-clause-rows g c =
    let is = c.new-none.ensures in
    let rows = ap (λ (d : Directory _ _). d.rows.items) is ∙ c.new.ensures.items in
    let old = c.new-old.ensures ∙ none_at _ _ c.new-none.result rows in
    subst (λ bs. CutsInRows bs c.new-none.result) (sym old) (cuts_none c.new-none.result rows (ap (λ (d : Directory _ _). d.separators.items) is ∙ c.new-2.ensures.items) (ap (λ (d : Directory _ _). d.ends.items) is ∙ c.new-3.ensures.items))

pub shelved-requires-clause-within : goal.shelved-requires-clause-within
shelved-requires-clause-within g c =
    let rows = ap (λ (d : Directory _ _). d.rows.items) c.new-none.ensures ∙ c.new.ensures.items in
    let old = c.new-old.ensures ∙ none_at _ _ c.new-none.result rows in
    subst (λ bs. All (LiesWithin (length bs)) c.args.segments.parts.items) (sym old) c.requires.within

pub shelved-requires-clause-some : goal.shelved-requires-clause-some
shelved-requires-clause-some g c =
    let rows = ap (λ (d : Directory _ _). d.rows.items) c.new-none.ensures ∙ c.new.ensures.items in
    let old = c.new-old.ensures ∙ none_at _ _ c.new-none.result rows in
    subst (λ bs. All (λ b. 1 ≤ length b) (blocks_of_parts bs c.args.segments.parts.items)) (sym old) c.requires.some

pub returns-clause-given : goal.returns-clause-given
returns-clause-given g c =
    let rows = ap (λ (d : Directory _ _). d.rows.items) c.new-none.ensures ∙ c.new.ensures.items in
    let old = c.new-old.ensures ∙ none_at _ _ c.new-none.result rows in
    IfOk-weaker c.shelved.result _ _ (λ made is. subst (λ bs. shelved_blocks bs made.rows.items ≡ blocks_of_parts bs c.args.segments.parts.items) old is) c.shelved.ensures.given

pub returns-clause-rowed : goal.returns-clause-rowed
returns-clause-rowed g c =
    let rows = ap (λ (d : Directory _ _). d.rows.items) c.new-none.ensures ∙ c.new.ensures.items in
    let old = c.new-old.ensures ∙ none_at _ _ c.new-none.result rows in
    IfOk-weaker c.shelved.result _ _ (λ made is. subst (λ bs. IsRowed (shelf_blocks bs) made) old is) c.shelved.ensures.rowed

pub returns-clause-there : goal.returns-clause-there
returns-clause-there g c =
    let ends = ap (λ (d : Directory _ _). d.ends.items) c.new-none.ensures ∙ c.new-3.ensures.items in
    IfOk-weaker c.shelved.result _ _ (λ made is. subst (λ es. All (λ r. LiesOn es r.segments) made.rows.items) ends is) c.shelved.ensures.there
