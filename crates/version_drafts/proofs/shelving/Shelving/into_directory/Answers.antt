use Rattle.std.proofs.Common.{◌++◌, sym, ap, ◌∙◌}
use Rattle.std.specs.Option.{option_to_list}
use Rattle.version_views.specs.declared.directory.Directory.{Directory}
use Rattle.version_drafts.proofs.ShelfLemmas.{none_left, shelved_all}
use Rattle.version_drafts.proofs.shelving.Shelving.into_directory.Goals as goal

pub returns-clause-whole : goal.returns-clause-whole
returns-clause-whole g c = λ blocks ends h.
    let is = c.new.ensures in
    let out = c.close.new.out in
    let popped = c.pop-last.ensures in
    shelved_all blocks ends c.args.self out c.new.result c.pop-last.result (c.in_ok-close.ensures.closed blocks ends h) c.in_ok-close.ensures.none
    (ap (λ (d : Directory _ _). d.rows.items) is)
    (ap (λ (d : Directory _ _). d.ends.items) is)
    (popped.items ∙ ap (λ (d : Directory _ _). d.separators.items ++ option_to_list c.pop-last.result) (sym is))
    (λ none. ap (λ (d : Directory _ _). d.separators.items) is ∙ none_left out.greatest c.pop-last.new.self c.pop-last.result popped.cases none)
