use Rattle.std.proofs.Common.{◌≡◌, length, sym, ap, ◌∙◌, arith, subst}
use Rattle.std.proofs.lemmas.Option.{slice_get_within}
use Rattle.tree_index.specs.Cursor.{pair_at}
use Rattle.tree_index.specs.declared.cursor.End.TheVariants.{At, Unopened}
use Rattle.version_views.specs.Cuts.{pairs_in}
use Rattle.version_views.specs.CursorEnds.{count_before, fore_place, AreRising, FoundFore, IsForeAlone, StandsFore}
use Rattle.version_views.proofs.CursorEndLemmas.{on_less, on_more}
use Rattle.version_views.proofs.view.VersionView.opened.Goals as goal

-- what was found in the copy of the version
abbrev found_of : (g : _) (c : goal.In-Some g) → FoundFore c.args.self.now (count_before g.K.Ord.cmp c.args.lower (pairs_in c.args.self.now)) (c.in-Some.first, c.in-Some.pair)
found_of g c = subst (λ v. FoundFore v (count_before g.K.Ord.cmp c.args.lower (pairs_in v)) (c.in-Some.first, c.in-Some.pair)) c.copy-version.ensures c.in-Some.ensures.some

pub first_within-requires : goal.first_within-requires
first_within-requires g c = subst (AreRising g.K.Ord.cmp) (sym c.copy-version.ensures) c.requires.rising

pub returns-in-Some-clause-stands : goal.returns-in-Some-clause-stands
returns-in-Some-clause-stands g c = (found_of g c).0.stands

pub returns-in-Some-clause-alone : goal.returns-in-Some-clause-alone
returns-in-Some-clause-alone g c = (found_of g c).0.alone

pub returns-in-Some-clause-place : goal.returns-in-Some-clause-place
returns-in-Some-clause-place g c =
    let found = found_of g c in
    let pairs = pairs_in c.args.self.now in
    let n = count_before g.K.Ord.cmp c.args.lower pairs in
    found.0.place ∙ sym (on_less n (length pairs) (At n) Unopened (slice_get_within pairs n _ found.1))

pub returns-in-Some-clause-pair : goal.returns-in-Some-clause-pair
returns-in-Some-clause-pair g c =
    let found = found_of g c in
    sym (ap (pair_at (pairs_in c.args.self.now)) found.0.place ∙ found.1)

pub returns-in-None-clause-stands : goal.returns-in-None-clause-stands
returns-in-None-clause-stands g c = subst (StandsFore c.args.self.now) (sym c.requires.unopened) tt

pub returns-in-None-clause-alone : goal.returns-in-None-clause-alone
returns-in-None-clause-alone g c = subst IsForeAlone (sym c.requires.unopened) tt

pub returns-in-None-clause-place : goal.returns-in-None-clause-place
returns-in-None-clause-place g c =
    let v = c.args.self.now in
    let pairs = pairs_in v in
    let n = count_before g.K.Ord.cmp c.args.lower pairs in
    let none : n ≡ length pairs = subst (λ w. count_before g.K.Ord.cmp c.args.lower (pairs_in w) ≡ length (pairs_in w)) c.copy-version.ensures c.in-None.ensures.none in
    ap (fore_place v) c.requires.unopened ∙ sym (on_more n (length pairs) (At n) Unopened (omega (arith, none)))

pub returns-in-None-clause-pair : goal.returns-in-None-clause-pair
returns-in-None-clause-pair g c = sym (ap (λ e. pair_at (pairs_in c.args.self.now) (fore_place c.args.self.now e)) c.requires.unopened)
