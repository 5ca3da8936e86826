use Rattle.std.proofs.Common.{refl, sym}
use Rattle.std.proofs.lemmas.Bool.{false≢true}
use Rattle.local_index.specs.declared.refused.DeskRefused.TheVariants.{NoSession, Commit, Behind, Ahead}
use Rattle.local_index.proofs.DeskLemmas.{no_refusal}
use Rattle.local_index.proofs.play.DeskReply.into_result.Goals as goal

pub returns-in-NoSession-clause-which : goal.returns-in-NoSession-clause-which
returns-in-NoSession-clause-which g c = (λ e. (NoSession c.in-NoSession.writes, sym c.in-NoSession.is), λ r. refl)

pub returns-in-Refused-clause-which : goal.returns-in-Refused-clause-which
returns-in-Refused-clause-which g c = (λ e. (Commit c.in-Refused.refused, sym c.in-Refused.is), λ r. refl)

pub returns-in-Behind-clause-which : goal.returns-in-Behind-clause-which
returns-in-Behind-clause-which g c = (λ e. (Behind c.in-Behind.number, sym c.in-Behind.is), λ r. refl)

pub returns-in-Ahead-clause-which : goal.returns-in-Ahead-clause-which
returns-in-Ahead-clause-which g c = (λ e. (Ahead c.in-Ahead.number, sym c.in-Ahead.is), λ r. refl)

pub returns-in_default : goal.returns-in_default
returns-in_default g c =
    let d = c.in_default in
    record {
      done = refl;
      refused = tt;
      which = (λ e. absurd (false≢true e), λ r. absurd (no_refusal c.args.self d.not-NoPlace d.not-Busy d.not-NoSession d.not-Refused d.not-Behind d.not-Ahead r.0 r.1));
    }
