use Rattle.std.proofs.Common.{◌++◌, append_assoc, ap, ◌∙◌, decimal, lit<, arith}
use Rattle.std.proofs.lemmas.List.{take_all}
use Rattle.std.specs.Prelude.{codes}
use Rattle.std.specs.String.{string_bytes}
use Rattle.index_script.specs.Replies.{told_texts}
use Rattle.index_script.proofs.TextLemmas.{told_more}
use Rattle.index_script.proofs.reply.write_accepted.Goals as goal

pub loop-reply-preserved : goal.loop-reply-preserved
loop-reply-preserved c =
    told_more _ c.deref-reply-items.result.now c.loop-reply.reply-index _ _ c.told_text.result.now c.loop-reply-test.true
    c.loop-reply.invariant c.told_text.ensures c.in_ok-push_str.ensures.bytes

pub returns : goal.returns
returns c =
    let all = take_all c.loop-reply.reply-index c.deref-reply-items.result.now (omega (arith, c.loop-reply-test.false)) ∙ c.deref-reply-items.ensures.value in
    let told = c.loop-reply.invariant ∙ ap (λ rs. (string_bytes c.args.text.now ++ codes "ok " ++ decimal c.args.accepted.now.number) ++ told_texts rs) all in
    let before = string_bytes c.args.text.now in
    let number = decimal c.args.accepted.now.number in
    let replies = told_texts c.args.accepted.now.replies.items in
    let ok = codes "ok " in
    let flat = ap (λ e. e ++ replies ++ codes "\n") (append_assoc before ok number) ∙ ap (λ e. e ++ codes "\n") (append_assoc before (ok ++ number) replies) ∙ append_assoc before (ok ++ number ++ replies) (codes "\n") in
    c.in_ok-push.ensures.bytes ∙ ap (λ e. string_bytes c.loop-reply.text ++ e) (c.in_ok-push.ensures.ascii (lit< tt)) ∙ ap (λ t. t ++ codes "\n") told ∙ flat
