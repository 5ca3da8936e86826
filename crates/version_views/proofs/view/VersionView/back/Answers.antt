use Rattle.std.proofs.Common.{◌≡◌, ◌+◌, ◌-◌, ◌<◌, length, sym, ap, ◌∙◌, arith, subst}
use Rattle.std.specs.Borrow.{Bor}
use Rattle.std.specs.Range.Bound.{bound_map}
use Rattle.std.proofs.lemmas.Option.{slice_get_within}
use Rattle.tree_index.specs.Cursor.{back, deref_pair}
use Rattle.tree_index.specs.declared.cursor.End.TheVariants.{At, Done}
use Rattle.version_views.specs.Cuts.{pairs_in}
use Rattle.version_views.specs.CursorEnds.{pairs_before_block, rear_place, StandsRear}
use Rattle.version_views.proofs.CursorEndLemmas.{leaves_rear, on_less, on_more, rear_pair, stays_rear, IsRearStep}
use Rattle.version_views.proofs.view.VersionView.back.Goals as goal

-- the step stays in its segment
abbrev step_of : (g : _) (c : goal.In-Some g) → IsRearStep g.K.Ord.cmp c.args.self.now c.in-At.position c.step_back.new.self
step_of g c =
    let stood = subst (StandsRear c.args.self.now) c.in-At.is c.requires.stands in
    stays_rear g.K.Ord.cmp c.args.self.now c.in-At.position c.step_back.new.self c.step_back.ensures.segment c.step_back.result stood c.step_back.ensures.cursor c.step_back.ensures.pair c.in-Some.pair c.in-Some.is

pub returns-in-Some-clause-stands : goal.returns-in-Some-clause-stands
returns-in-Some-clause-stands g c = (step_of g c).stands

pub returns-in-Some-clause-place : goal.returns-in-Some-clause-place
returns-in-Some-clause-place g c =
    let blocks = c.args.self.now in
    let upper = bound_map (λ (k : Bor g.row.K.Denot). k.now) c.args.upper in
    (step_of g c).place upper ∙ ap (λ e. back g.K.Ord.cmp upper (pairs_in blocks) (rear_place blocks e)) (sym c.in-At.is)

pub returns-in-Some-clause-pair : goal.returns-in-Some-clause-pair
returns-in-Some-clause-pair g c = sym (ap deref_pair c.in-Some.is) ∙ c.step_back.ensures.pair ∙ (step_of g c).pair

pub last_before-requires-clause-within : goal.last_before-requires-clause-within
last_before-requires-clause-within g c =
    let blocks = c.args.self.now in
    let stood = subst (StandsRear blocks) c.in-At.is c.requires.stands in
    subst (λ i. i < length blocks) (sym c.step_back.ensures.segment) (slice_get_within blocks c.in-At.position.segment c.in-At.position.cursor.pairs stood.here)

pub returns-in-Some-last_before-clause-place : goal.returns-in-Some-last_before-clause-place
returns-in-Some-last_before-clause-place g c =
    let cmp = g.K.Ord.cmp in
    let blocks = c.args.self.now in
    let s = c.in-At.position in
    let t = c.step_back.new.self in
    let upper = bound_map (λ (k : Bor g.row.K.Denot). k.now) c.args.upper in
    let stood = subst (StandsRear blocks) c.in-At.is c.requires.stands in
    let left = leaves_rear cmp blocks s t c.step_back.ensures.segment c.step_back.result stood c.step_back.ensures.cursor c.step_back.ensures.pair c.in_default.is in
    let found = c.in-Some-last_before.ensures.some in
    let at = pairs_before_block blocks s.segment + stood.place in
    let same : pairs_before_block blocks t.segment - 1 ≡ at - 1 = ap (λ n. n - 1) left in
    let some : 0 < at = subst (λ n. 0 < n) left found.0.some in
    found.0.place ∙ ap (λ n. At n) same ∙ sym (ap (λ e. back cmp upper (pairs_in blocks) (rear_place blocks e)) c.in-At.is ∙ ap (back cmp upper (pairs_in blocks)) (rear_pair cmp blocks s stood).0 ∙ on_less 0 at (At (at - 1)) Done some)

pub returns-in-None-clause-place : goal.returns-in-None-clause-place
returns-in-None-clause-place g c =
    let cmp = g.K.Ord.cmp in
    let blocks = c.args.self.now in
    let s = c.in-At.position in
    let t = c.step_back.new.self in
    let upper = bound_map (λ (k : Bor g.row.K.Denot). k.now) c.args.upper in
    let stood = subst (StandsRear blocks) c.in-At.is c.requires.stands in
    let left = leaves_rear cmp blocks s t c.step_back.ensures.segment c.step_back.result stood c.step_back.ensures.cursor c.step_back.ensures.pair c.in_default.is in
    let at = pairs_before_block blocks s.segment + stood.place in
    sym (ap (λ e. back cmp upper (pairs_in blocks) (rear_place blocks e)) c.in-At.is ∙ ap (back cmp upper (pairs_in blocks)) (rear_pair cmp blocks s stood).0 ∙ on_more 0 at (At (at - 1)) Done (omega (arith, left, c.in-None.ensures.none)))
