use Rattle.std.proofs.Common.{◌<◌, cond, length, nat_lt, sym, ap, ◌∙◌, subst}
use Rattle.std.specs.Borrow.{Bor}
use Rattle.std.specs.Range.Bound.{bound_map}
use Rattle.std.proofs.lemmas.Option.{slice_get_within}
use Rattle.tree_index.specs.Cursor.{forth, deref_pair}
use Rattle.tree_index.specs.declared.cursor.End.TheVariants.{At, Done}
use Rattle.version_views.specs.Cuts.{pairs_in}
use Rattle.version_views.specs.CursorEnds.{fore_place, StandsFore}
use Rattle.version_views.proofs.CursorEndLemmas.{fore_pair, leaves_fore, stays_fore, IsForeStep}
use Rattle.version_views.proofs.view.VersionView.forth.Goals as goal

-- the step stays in its segment
abbrev step_of : (g : _) (c : goal.In-Some g) → IsForeStep g.K.Ord.cmp c.args.self.now c.in-At.position c.step.new.self
step_of g c =
    let stood = subst (StandsFore c.args.self.now) c.in-At.is c.requires.stands in
    stays_fore g.K.Ord.cmp c.args.self.now c.in-At.position c.step.new.self c.step.ensures.segment c.step.result stood c.step.ensures.cursor c.step.ensures.pair c.in-Some.pair c.in-Some.is

pub returns-in-Some-clause-stands : goal.returns-in-Some-clause-stands
returns-in-Some-clause-stands g c = (step_of g c).stands

pub returns-in-Some-clause-place : goal.returns-in-Some-clause-place
returns-in-Some-clause-place g c =
    let blocks = c.args.self.now in
    let lower = bound_map (λ (k : Bor g.row.K.Denot). k.now) c.args.lower in
    (step_of g c).place lower ∙ ap (λ e. forth g.K.Ord.cmp lower (pairs_in blocks) (fore_place blocks e)) (sym c.in-At.is)

pub returns-in-Some-clause-pair : goal.returns-in-Some-clause-pair
returns-in-Some-clause-pair g c = sym (ap deref_pair c.in-Some.is) ∙ c.step.ensures.pair ∙ (step_of g c).pair

pub onward-requires-clause-within : goal.onward-requires-clause-within
onward-requires-clause-within g c =
    let blocks = c.args.self.now in
    let stood = subst (StandsFore blocks) c.in-At.is c.requires.stands in
    subst (λ i. i < length blocks) (sym c.step.ensures.segment) (slice_get_within blocks c.in-At.position.segment c.in-At.position.cursor.pairs stood.here)

-- the step leaves its segment
pub returns-in_default-clause-place : goal.returns-in_default-clause-place
returns-in_default-clause-place g c =
    let cmp = g.K.Ord.cmp in
    let blocks = c.args.self.now in
    let s = c.in-At.position in
    let lower = bound_map (λ (k : Bor g.row.K.Denot). k.now) c.args.lower in
    let stood = subst (StandsFore blocks) c.in-At.is c.requires.stands in
    let left = leaves_fore cmp blocks s c.step.new.self c.step.ensures.segment c.step.result stood c.step.ensures.cursor c.step.ensures.pair c.in_default.is in
    c.onward.ensures.place ∙ ap (λ n. cond (nat_lt n (length (pairs_in blocks))) (At n) Done) left ∙ sym (ap (λ e. forth cmp lower (pairs_in blocks) (fore_place blocks e)) c.in-At.is ∙ ap (forth cmp lower (pairs_in blocks)) (fore_pair cmp blocks s stood).0)

pub returns-in-Unopened-clause-place : goal.returns-in-Unopened-clause-place
returns-in-Unopened-clause-place g c =
    let blocks = c.args.self.now in
    let lower = bound_map (λ (k : Bor g.row.K.Denot). k.now) c.args.lower in
    c.opened.ensures.place ∙ sym (ap (λ e. forth g.K.Ord.cmp lower (pairs_in blocks) (fore_place blocks e)) c.in-Unopened.is)
