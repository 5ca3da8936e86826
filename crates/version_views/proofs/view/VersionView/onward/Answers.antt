use Rattle.std.proofs.Common.{◌≡◌, ◌+◌, length, sym, ap, ◌∙◌, arith, subst}
use Rattle.std.proofs.lemmas.Option.{slice_get_within}
use Rattle.tree_index.specs.Cursor.{pair_at}
use Rattle.tree_index.specs.declared.cursor.End.TheVariants.{At, Done}
use Rattle.version_views.specs.Cuts.{pairs_in}
use Rattle.version_views.specs.CursorEnds.{pairs_before_block, FoundFore}
use Rattle.version_views.proofs.CursorEndLemmas.{on_less, on_more}
use Rattle.version_views.proofs.view.VersionView.onward.Goals as goal

-- what was found in the copy of the version
abbrev found_of : (g : _) (c : goal.In-Some g) → FoundFore c.args.self.now (pairs_before_block c.args.self.now (c.args.segment + 1)) (c.in-Some.next, c.in-Some.pair)
found_of g c = subst (λ v. FoundFore v (pairs_before_block v (c.args.segment + 1)) (c.in-Some.next, c.in-Some.pair)) c.copy-version.ensures c.in-Some.ensures.some

pub returns-in-Some-clause-stands : goal.returns-in-Some-clause-stands
returns-in-Some-clause-stands g c = (found_of g c).0.stands

pub returns-in-Some-clause-alone : goal.returns-in-Some-clause-alone
returns-in-Some-clause-alone g c = (found_of g c).0.alone

pub returns-in-Some-clause-place : goal.returns-in-Some-clause-place
returns-in-Some-clause-place g c =
    let found = found_of g c in
    let pairs = pairs_in c.args.self.now in
    let n = pairs_before_block c.args.self.now (c.args.segment + 1) in
    found.0.place ∙ sym (on_less n (length pairs) (At n) Done (slice_get_within pairs n _ found.1))

pub returns-in-Some-clause-pair : goal.returns-in-Some-clause-pair
returns-in-Some-clause-pair g c =
    let found = found_of g c in
    sym (ap (pair_at (pairs_in c.args.self.now)) found.0.place ∙ found.1)

pub returns-in-None-clause-place : goal.returns-in-None-clause-place
returns-in-None-clause-place g c =
    let pairs = pairs_in c.args.self.now in
    let n = pairs_before_block c.args.self.now (c.args.segment + 1) in
    let none : n ≡ length pairs = subst (λ w. pairs_before_block w (c.args.segment + 1) ≡ length (pairs_in w)) c.copy-version.ensures c.in-None.ensures.none in
    sym (on_more n (length pairs) (At n) Done (omega (arith, none)))
