use Rattle.std.proofs.Common.{◌≡◌, ℕ, ◌<◌, ◌∷◌, [], drop, length, take, ap, ◌∙◌, subst, arith}
use Rattle.leaf_slots.specs.Places.{live_pairs, IsEmptied}
use Rattle.leaf_slots.proofs.ExtendLemmas.{behind_head, filled_front, first_empty}
use Rattle.leaf_slots.proofs.row.extend.LinkExtend.extend.Goals as goal

pub fill-requires : goal.fill-requires
fill-requires g c =
    let none : c.args.skip ≡ 0 = omega (arith, c.if-skip-gt0.false) in
    let rest = g.R.Extend.places c.args.self.now.rest in
    first_empty c.args.self.now.head rest (subst (λ (k : ℕ). IsEmptied (drop k (c.args.self.now.head ∷ rest))) none c.requires.empty)

pub returns-then-skip-gt0-clause-places : goal.returns-then-skip-gt0-clause-places
returns-then-skip-gt0-clause-places g c =
    let rest = g.R.Extend.places c.args.self.now.rest in
    behind_head c.args.self.now.head rest (g.R.Extend.places c.extend.new.self) c.args.skip c.args.bitmap c.extend.result (take c.extend.result (drop c.args.from (live_pairs c.args.source.now))) (omega (arith, c.if-skip-gt0.true)) c.extend.ensures.places

pub returns-in-Some-clause-places : goal.returns-in-Some-clause-places
returns-in-Some-clause-places g c =
    let none : c.args.skip ≡ 0 = omega (arith, c.if-skip-gt0.false) in
    let rest = g.R.Extend.places c.args.self.now.rest in
    let ps = live_pairs c.args.source.now in
    let within = c.requires.within in
    let less : c.args.from < length ps = omega (arith, within, c.if-count-eq0.false) in
    filled_front c.fill.new.place c.args.self.now.head rest (g.R.Extend.places c.extend-in-Some.new.self) c.args.skip c.args.bitmap c.args.from c.extend-in-Some.result ps none less (ap (λ p. p ∷ []) c.fill.ensures ∙ c.in-Some.ensures) c.extend-in-Some.ensures.places
