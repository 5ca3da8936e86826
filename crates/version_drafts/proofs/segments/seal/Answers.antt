use Rattle.std.proofs.Common.{◌≡◌, ◌++◌, ◌<◌, ◌==◌, false, length, refl, sym, ap, ◌∙◌, arith, append-nil}
use Rattle.std.proofs.lemmas.Bool.{eqb-true}
use Rattle.std.proofs.lemmas.Bool.Decides.{nat_tests}
use Rattle.std.proofs.lemmas.List.{nil_from_length}
use Rattle.version_views.specs.Cuts.{pairs_in}
use Rattle.version_drafts.specs.Parts.{blocks_of_parts}
use Rattle.version_drafts.specs.declared.segments.Part.TheVariants as parts
use Rattle.version_drafts.proofs.CuttingLemmas.{made_closed, open_none, open_one, pairs_closed, row_closed}
use Rattle.version_drafts.proofs.segments.seal.Goals as goal

pub returns-then-is_empty-clause-row : goal.returns-then-is_empty-clause-row
returns-then-is_empty-clause-row g c = c.requires.whole.row

pub returns-then-is_empty-clause-pairs : goal.returns-then-is_empty-clause-pairs
returns-then-is_empty-clause-pairs g c =
    let none = nil_from_length c.args.out.now.tail.pairs (eqb-true (length c.args.out.now.tail.pairs) 0 (sym c.is_empty.ensures ∙ c.if-is_empty.true)) in
    let front = pairs_in (blocks_of_parts c.args.old.now c.args.out.now.row.parts.items) in
    sym (append-nil front) ∙ ap (λ ps. front ++ ps) (sym none)

pub returns-then-is_empty-clause-made : goal.returns-then-is_empty-clause-made
returns-then-is_empty-clause-made g c =
    let none = open_none c.args.out.now.tail.pairs (eqb-true (length c.args.out.now.tail.pairs) 0 (sym c.is_empty.ensures ∙ c.if-is_empty.true)) in
    omega (arith, none)

pub returns-then-is_empty-clause-last : goal.returns-then-is_empty-clause-last
returns-then-is_empty-clause-last g c = λ some. let none = eqb-true (length c.args.out.now.tail.pairs) 0 (sym c.is_empty.ensures ∙ c.if-is_empty.true) in absurd (omega (arith, none, some))

pub returns-then-is_empty-clause-tail : goal.returns-then-is_empty-clause-tail
returns-then-is_empty-clause-tail g c = nil_from_length c.args.out.now.tail.pairs (eqb-true (length c.args.out.now.tail.pairs) 0 (sym c.is_empty.ensures ∙ c.if-is_empty.true))

pub join-requires-clause-some : goal.join-requires-clause-some
join-requires-clause-some g c =
    let filled : (length c.args.out.now.tail.pairs == 0) ≡ false = sym c.is_empty.ensures ∙ c.if-is_empty.false in
    grind (arith, nat_tests)

pub returns-clause-row : goal.returns-clause-row
returns-clause-row g c = row_closed c.join.new.out c.in_ok-join.ensures.closing _ (parts.Made c.join.new.out.tail) refl c.in_ok-close.ensures.parts tt c.in_ok-close.ensures.last

pub returns-clause-pairs : goal.returns-clause-pairs
returns-clause-pairs g c = pairs_closed c.join.new.out c.in_ok-join.ensures.closing c.close.new.out.row (parts.Made c.join.new.out.tail) refl c.in_ok-close.ensures.parts ∙ c.in_ok-join.ensures.pairs

pub returns-clause-made : goal.returns-clause-made
returns-clause-made g c =
    let more = made_closed c.join.new.out c.in_ok-join.ensures.closing c.close.new.out.row (parts.Made c.join.new.out.tail) refl c.in_ok-close.ensures.parts refl in
    let same = c.in_ok-join.ensures.made in
    let filled : (length c.args.out.now.tail.pairs == 0) ≡ false = sym c.is_empty.ensures ∙ c.if-is_empty.false in
    let one = open_one c.args.out.now.tail.pairs (grind (arith, nat_tests)) in
    omega (arith, more, same, one)

pub returns-clause-last : goal.returns-clause-last
returns-clause-last g c = λ some. let last = c.in_ok-close.ensures.last in let tail = c.in_ok-join.ensures.tail in omega (arith, last, tail)

pub returns-clause-same : goal.returns-clause-same
returns-clause-same g c = λ none.
    let filled : (length c.args.out.now.tail.pairs == 0) ≡ false = sym c.is_empty.ensures ∙ c.if-is_empty.false in
    let some : 0 < length c.args.out.now.tail.pairs = grind (arith, nat_tests) in
    absurd (omega (arith, none, some))

pub returns-clause-tail : goal.returns-clause-tail
returns-clause-tail g c = ap (λ t. t.pairs) c.in_ok-close.ensures.tail ∙ c.new-next.ensures
