use Rattle.std.proofs.Common.{◌≡◌, ◌≤◌, None, length, replicate, sym, ap, subst, arith}
use Rattle.std.proofs.lemmas.Result.{IfOk-weaker}
use Rattle.version_views.specs.Sizes.{room_for}
use Rattle.local_versions.specs.Placing.{StandsAlone}
use Rattle.local_versions.specs.Store.{Store}
use Rattle.local_index.proofs.FromBaseLemmas.{Holds, holds_list, renumbered, same_slots}
use Rattle.local_index.proofs.index.from_base.stored.Goals as goal

pub holding-requires : goal.holding-requires
holding-requires g c = (omega arith, (omega arith, (c.requires.size, subst (λ d. StandsAlone {s = g.row.S} g.K.Ord.cmp (record { shelves = d })) (sym c.numbered.ensures) (renumbered g.K.Ord.cmp c.in-Ok.built c.args.number c.in-Ok.ensures.alone))))

pub returns-clause-store : goal.returns-clause-store
returns-clause-store g c =
    IfOk-weaker c.holding.result
    (Holds c.in-Ok.built c.numbered.result c.args.number c.args.places c.args.slots c.args.pairs.now c.numbered.ensures c.in-Ok.ensures.list)
    (λ (s : Store _ _). s ≡ record { present = record { number = c.args.number; pairs = c.args.pairs.now }; readers = replicate c.args.places None; slots = c.args.slots; used = s.used; raises = 0 })
    (holds_list c.in-Ok.built c.numbered.result c.args.number c.args.places c.args.slots c.args.pairs.now c.numbered.ensures c.in-Ok.ensures.list)
    c.holding.ensures.holds

pub returns-clause-room : goal.returns-clause-room
returns-clause-room g c =
    let same = same_slots c.in-Ok.built c.numbered.result c.args.number c.args.places c.args.slots c.args.pairs.now c.numbered.ensures c.in-Ok.ensures.list in
    let few = c.in-Ok.ensures.few in
    IfOk-weaker c.holding.result
    (Holds c.in-Ok.built c.numbered.result c.args.number c.args.places c.args.slots c.args.pairs.now c.numbered.ensures c.in-Ok.ensures.list)
    (λ (s : Store _ _). s.used ≤ room_for g.row.S (length c.args.pairs.now))
    (λ s e. let used = ap (λ (t : Store _ _). t.used) e in omega (arith, used, same, few))
    c.holding.ensures.holds

pub returns-clause-full : goal.returns-clause-full
returns-clause-full g c = λ none.
    let same = same_slots c.in-Ok.built c.numbered.result c.args.number c.args.places c.args.slots c.args.pairs.now c.numbered.ensures c.in-Ok.ensures.list in
    let few = c.in-Ok.ensures.few in
    let less = c.holding.ensures.full.0 none in
    omega (arith, same, few, less)
