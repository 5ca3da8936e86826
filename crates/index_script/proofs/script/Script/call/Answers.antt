use Rattle.std.proofs.Common.{◌≡◌, ◌++◌, ◌∙◌, ap, subst, sym}
use Rattle.std.specs.String.{string_bytes}
use Rattle.index_script.specs.Replies.{Prints}
use Rattle.index_script.proofs.CallLemmas.{stays_staged}
use Rattle.index_script.proofs.script.Script.call.Goals as goal

pub returns-clause-ok : goal.returns-clause-ok
returns-clause-ok g c =
    let told = c.in_ok-reply.ensures in
    let line = ap (λ s. s.line) c.self.view_is ∙ told.line in
    let behind = subst (λ old. Prints c.self.inside.line c.args.label c.in_ok-reply.reply (λ t. string_bytes c.write_reply.new.text ≡ old ++ t)) c.requires.empty c.in_ok-write_reply.ensures in
    record {
      reply = c.in_ok-reply.reply;
      stepped = told.step;
      printed = subst (λ n. Prints n c.args.label c.in_ok-reply.reply (λ t. string_bytes c.write_reply.new.text ≡ t)) line behind;
      left = told.staged ∙ sym (stays_staged g.row.S c.args.self.now.machine c.play.new.self.machine c.args.call c.in_ok-reply.reply c.args.self.now.staged c.requires.call told.step);
      same_line = told.line;
    }
