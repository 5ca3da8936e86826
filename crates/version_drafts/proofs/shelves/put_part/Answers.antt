use Rattle.std.proofs.Common.{◌≤◌, [], length, sym, subst}
use Rattle.std.proofs.lemmas.List.Elements.{All-head}
use Rattle.std.proofs.lemmas.Result.{IfOk-weaker}
use Rattle.std.specs.List.{All}
use Rattle.version_drafts.specs.Parts.{makes, part_blocks}
use Rattle.version_drafts.specs.Shelves.{TakesMore}
use Rattle.version_drafts.proofs.shelves.put_part.Goals as goal

pub put_made-requires-clause-some : goal.put_made-requires-clause-some
put_made-requires-clause-some g c = All-head (λ b. 1 ≤ length b) c.in-Made.tree.pairs [] (subst (λ p. All (λ b. 1 ≤ length b) (part_blocks c.args.old.now p)) c.in-Made.is c.requires.some)

pub returns-in-Made : goal.returns-in-Made
returns-in-Made g c =
    let blocks = c.args.old.now in
    let ends = c.args.rows.now.ends.items in
    IfOk-weaker c.put_made.result _ _
    (λ _ taken. subst (λ p. TakesMore blocks ends (part_blocks blocks p) (makes p) c.args.out.now c.put_made.new.out) (sym c.in-Made.is) (taken blocks ends c.requires.whole))
    c.put_made.ensures
