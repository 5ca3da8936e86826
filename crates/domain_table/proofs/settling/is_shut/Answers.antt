use Rattle.std.proofs.Common.{◌∙◌, rules, refl, sym, eq-eqb}
use Rattle.std.proofs.lemmas.Bool.{false≢true}
use Rattle.domain_table.proofs.Settles.{looks_shut}
use Rattle.domain_table.proofs.settling.is_shut.Goals as goal

pub load-found-requires : goal.load-found-requires
load-found-requires g c = let r = c.requires.read in (search rules, search rules, looks_shut _ _ _ _ _ _ c.args.other r.2.0 r.0 r.2.1 (λ e. r.1 (sym e)) c.requires.table.1)

pub returns-clause-not_noted : goal.returns-clause-not_noted
returns-clause-not_noted g c = λ e. (c.load-found.ensures.2 c.args.other refl).1 (λ h. false≢true (sym e ∙ eq-eqb c.load-found.result 0 h))
