use Rattle.std.proofs.Common.{◌≤◌, ◌+◌, ◌*◌, ◌/◌, length, sym, ap, ◌∙◌, subst, arith}
use Rattle.version_views.specs.Cuts.{IsCut, pairs_in, separators_of}
use Rattle.version_views.specs.declared.directory.Directory.{Directory}
use Rattle.version_views.proofs.BlockListLemmas.{blocks_fit}
use Rattle.version_drafts.specs.Drafts.{IsPlanned}
use Rattle.version_drafts.specs.Parts.{made_in}
use Rattle.version_drafts.specs.Shelves.{made_on_all, shelved_blocks}
use Rattle.version_drafts.proofs.PartLemmas.{made_fewer, segments_many}
use Rattle.version_drafts.proofs.plans.build.Goals as goal

pub shelved-requires-clause-some : goal.shelved-requires-clause-some
shelved-requires-clause-some g c = λ k d h. (c.in_ok-segments.ensures.cut.sizes k d h).0

-- each new segment takes a slot, and they are few
pub of-requires : goal.of-requires
of-requires g c =
    let e = c.in_ok-segments.ensures in
    let ps = c.in_ok-segments.segments.parts.items in
    let few = blocks_fit g.row.S _ e.cut.tight in
    let many = segments_many c.args.old.now ps e.within in
    let fewer = made_fewer ps in
    let made = c.made_of-slots.ensures.count ∙ ap made_in c.deref.ensures.value in
    let same = c.in_ok-shelves.ensures.made in (
      omega arith,
      (
        omega (arith, made, same),
        subst (λ n. c.made_of-slots.result + 1 ≤ 2 * (n / (g.row.S + 1)) + 2) (sym (c.in_ok-shelves.ensures.length ∙ e.length)) (omega (arith, few, many, fewer, made)),
      ),
    )

pub returns-clause-number : goal.returns-clause-number
returns-clause-number g c = ap (λ (d : Directory _ _). d.number) c.of.ensures ∙ c.in_ok-shelves.ensures.number

pub returns-clause-list : goal.returns-clause-list
returns-clause-list g c = ap (λ (d : Directory _ _). pairs_in (shelved_blocks c.args.old.now d.rows.items)) c.of.ensures ∙ ap pairs_in c.in_ok-shelves.ensures.given ∙ c.in_ok-segments.ensures.list

pub returns-clause-few : goal.returns-clause-few
returns-clause-few g c =
    let same = ap (λ (d : Directory _ _). made_on_all d.rows.items) c.of.ensures ∙ c.in_ok-shelves.ensures.made in
    let few = c.in_ok-segments.ensures.few in
    omega (arith, same, few)

pub returns-clause-planned : goal.returns-clause-planned
returns-clause-planned g c =
    let e = c.in_ok-segments.ensures in
    let s = c.in_ok-shelves.ensures in
    subst (λ d. IsPlanned {s = g.row.S} g.K.Ord.cmp c.args.old.now c.args.rows.now.ends.items (record { shelves = d })) (sym c.of.ensures) (record {
      cut = subst (λ bs. IsCut g.K.Ord.cmp g.row.S bs (separators_of bs)) (sym s.given) e.cut;
      rowed = s.rowed;
      counted = s.length ∙ e.length ∙ ap (λ bs. length (pairs_in bs)) (sym s.given);
      there = s.there;
    })
