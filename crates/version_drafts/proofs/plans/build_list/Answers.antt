use Rattle.std.proofs.Common.{◌≤◌, ◌+◌, ◌*◌, ◌/◌, [], length, sym, ap, ◌∙◌, subst, arith}
use Rattle.version_views.specs.Cuts.{IsCut, pairs_in, separators_of}
use Rattle.version_views.specs.declared.directory.Directory.{Directory}
use Rattle.version_drafts.specs.Drafts.{IsPlanned}
use Rattle.version_drafts.specs.Parts.{made_in}
use Rattle.version_drafts.specs.Shelves.{made_on_all, shelved_blocks}
use Rattle.version_drafts.proofs.PartLemmas.{few_of, made_fewer}
use Rattle.version_drafts.proofs.PlanLemmas.{planned_alone, shelved_alone, times_next}
use Rattle.version_drafts.proofs.plans.build_list.Goals as goal

pub shelved_alone-requires-clause-some : goal.shelved_alone-requires-clause-some
shelved_alone-requires-clause-some g c = λ k d h. ((c.in_ok-segments.ensures.cut []).sizes k d h).0

-- each new segment takes a slot, and they are few
pub of-requires : goal.of-requires
of-requires g c =
    let e = c.in_ok-segments.ensures in
    let ps = c.in_ok-segments.segments.parts.items in
    let few = few_of g.row.S ps c.args.pairs.now (e.cut []).tight e.within (e.list []) in
    let fewer = made_fewer ps in
    let made = c.made_of-slots.ensures.count ∙ ap made_in c.deref.ensures.value in
    let same = c.in_ok-shelves.ensures.made in (
      omega arith,
      (
        omega (arith, made, same),
        subst (λ n. c.made_of-slots.result + 1 ≤ 2 * (n / (g.row.S + 1)) + 2) (sym (c.in_ok-shelves.ensures.length ∙ e.length)) (omega (arith, few, fewer, made)),
      ),
    )

pub returns-clause-number : goal.returns-clause-number
returns-clause-number g c = ap (λ (d : Directory _ _). d.number) c.of.ensures ∙ c.in_ok-shelves.ensures.number

pub returns-clause-list : goal.returns-clause-list
returns-clause-list g c = λ blocks.
    let s = c.in_ok-shelves.ensures in
    ap (λ (d : Directory _ _). pairs_in (shelved_blocks blocks d.rows.items)) c.of.ensures ∙ ap pairs_in (sym (shelved_alone blocks [] c.in_ok-shelves.shelves s.there) ∙ s.given) ∙ c.in_ok-segments.ensures.list []

pub returns-clause-length : goal.returns-clause-length
returns-clause-length g c = ap (λ (d : Directory _ _). d.length) c.of.ensures ∙ c.in_ok-shelves.ensures.length ∙ c.in_ok-segments.ensures.length

pub returns-clause-few : goal.returns-clause-few
returns-clause-few g c =
    let same = ap (λ (d : Directory _ _). made_on_all d.rows.items) c.of.ensures ∙ c.in_ok-shelves.ensures.made in
    let e = c.in_ok-segments.ensures in
    let few = few_of g.row.S c.in_ok-segments.segments.parts.items c.args.pairs.now (e.cut []).tight e.within (e.list []) in
    let fewer = made_fewer c.in_ok-segments.segments.parts.items in
    omega (arith, same, few, fewer)

pub returns-clause-fewest : goal.returns-clause-fewest
returns-clause-fewest g c =
    let m = made_on_all c.of.result.shelves.rows.items in
    let same = ap (λ (d : Directory _ _). made_on_all d.rows.items) c.of.ensures ∙ c.in_ok-shelves.ensures.made ∙ c.in_ok-segments.ensures.new in
    let many = ap (λ n. g.row.S * n) same in
    let one = times_next g.row.S m in
    let few = c.in_ok-segments.ensures.fewest in
    omega (arith, many, one, few)

pub returns-clause-planned : goal.returns-clause-planned
returns-clause-planned g c = λ blocks ends.
    let e = c.in_ok-segments.ensures in
    let s = c.in_ok-shelves.ensures in
    subst (λ d. IsPlanned {s = g.row.S} g.K.Ord.cmp blocks ends (record { shelves = d })) (sym c.of.ensures) (planned_alone blocks ends c.in_ok-shelves.shelves s.there g.K.Ord.cmp g.row.S
    (subst (λ bs. IsCut g.K.Ord.cmp g.row.S bs (separators_of bs)) (sym s.given) (e.cut []))
    s.rowed
    (s.length ∙ e.length ∙ sym (ap length (ap pairs_in s.given ∙ e.list []))))
