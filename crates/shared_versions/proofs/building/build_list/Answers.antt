use Rattle.std.proofs.Common.{◌≡◌, ℕ, ◌≤◌, ◌<◌, ◌+◌, ◌*◌, length, map, ap, ◌∙◌, arith}
use Rattle.std.proofs.lemmas.Result.{IfOk-weaker}
use Rattle.version_views.specs.declared.directory.Directory.{Directory}
use Rattle.shared_versions.specs.Drafts.{IsPlaceable, list_planned, nothing, slots_for}
use Rattle.shared_versions.specs.Nodes.{blocks_of, own_segments, placed_blocks}
use Rattle.shared_versions.proofs.DirectoryLemmas.{planned_placeable}
use Rattle.shared_versions.proofs.EmptyLemmas.{empty_readable}
use Rattle.shared_versions.proofs.building.build_list.Goals as goal

pub of-draft-requires : goal.of-draft-requires
of-draft-requires g c =
    let d = c.new-none.result in
    let is = c.new-none.ensures in
    let readable = empty_readable (own_segments c.deref.result.now) d (ap (λ (x : Directory _ _). x.rows.items) is ∙ c.new.ensures.items) (ap (λ (x : Directory _ _). x.separators.items) is ∙ c.new-2.ensures.items) (ap (λ (x : Directory _ _). x.ends.items) is ∙ c.new-3.ensures.items) in
    (omega arith, (omega arith, (readable, (c.in_ok-plan.ensures.planned (blocks_of (own_segments c.deref.result.now) d) d.ends.items).there)))

pub returns-clause-list : goal.returns-clause-list
returns-clause-list g c =
    let d = c.new-none.result in
    let none = ap (map (λ r. placed_blocks r.segments)) (ap (λ (x : Directory _ _). x.rows.items) c.new-none.ensures ∙ c.new.ensures.items) in
    IfOk-weaker c.of-draft.result _ (λ made. list_planned nothing made ≡ c.args.pairs.now)
    (λ made is. (planned_placeable (own_segments c.deref.result.now) g.K.Ord.cmp g.row.S d c.in_ok-plan.plan made nothing none (c.in_ok-plan.ensures.planned (blocks_of (own_segments c.deref.result.now) d) d.ends.items) is).1 ∙ c.in_ok-plan.ensures.list (blocks_of (own_segments c.deref.result.now) d))
    c.of-draft.ensures

pub returns-clause-placeable : goal.returns-clause-placeable
returns-clause-placeable g c =
    let d = c.new-none.result in
    let none = ap (map (λ r. placed_blocks r.segments)) (ap (λ (x : Directory _ _). x.rows.items) c.new-none.ensures ∙ c.new.ensures.items) in
    IfOk-weaker c.of-draft.result _ (IsPlaceable g.K.Ord.cmp g.row.S nothing)
    (λ made is. (planned_placeable (own_segments c.deref.result.now) g.K.Ord.cmp g.row.S d c.in_ok-plan.plan made nothing none (c.in_ok-plan.ensures.planned (blocks_of (own_segments c.deref.result.now) d) d.ends.items) is).0)
    c.of-draft.ensures

less_of : (s m n k : ℕ) → m ≤ n → s * n < k → s * m < k
less_of s m n k le lt = let up : s * m ≤ s * n = grind arith in omega (arith, up, lt)

pub returns-clause-fewest : goal.returns-clause-fewest
returns-clause-fewest g c =
    IfOk-weaker c.of-draft.result _ (λ made. g.row.S * slots_for made < length c.args.pairs.now + 2 * g.row.S)
    (λ made is. less_of g.row.S (slots_for made) _ _ is.slots c.in_ok-plan.ensures.fewest)
    c.of-draft.ensures
