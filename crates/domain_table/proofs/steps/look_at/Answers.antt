use Rattle.std.proofs.Common.{◌≡◌, ◌≢◌, ◌+◌, rules, arith, refl, inl, inr, sym, ◌∙◌, eq-eqb}
use Rattle.std.proofs.lemmas.Bool.{false≢true}
use Rattle.domain_table.proofs.Looks.{looks}
use Rattle.domain_table.proofs.steps.look_at.Goals as goal

pub load-found-requires : goal.load-found-requires
load-found-requires g c = let r = c.requires.open in (search rules, search rules, looks _ _ _ _ _ _ c.args.other c.args.epoch r.0 r.2 r.3 r.4 (λ e. r.1 (sym e)) c.requires.table.1 c.requires.below)

pub returns-then-found-eq0-clause-noted : goal.returns-then-found-eq0-clause-noted
returns-then-found-eq0-clause-noted g c = λ _. (c.load-found.ensures.2 c.args.other c.args.epoch refl c.requires.open.2).0 (inl c.if-found-eq0.true)

pub returns-else-found-eq0-clause-noted : goal.returns-else-found-eq0-clause-noted
returns-else-found-eq0-clause-noted g c = λ e. let below = c.requires.below in let hit : c.load-found.result ≡ c.args.epoch + 1 = search rules in
    (c.load-found.ensures.2 c.args.other c.args.epoch refl c.requires.open.2).0 (inr (omega arith))

pub returns-else-found-eq0-clause-not_noted : goal.returns-else-found-eq0-clause-not_noted
returns-else-found-eq0-clause-not_noted g c = λ e. let below = c.requires.below in let miss : c.load-found.result ≢ c.args.epoch + 1 = (λ h. false≢true (sym e ∙ eq-eqb c.load-found.result (c.args.epoch + 1) h)) in
    (c.load-found.ensures.2 c.args.other c.args.epoch refl c.requires.open.2).1 c.if-found-eq0.false (λ h. miss (omega arith))
