use Rattle.std.proofs.Common.{sym, ap, ◌∙◌, subst}
use Rattle.std.specs.Option.{option_copied}
use Rattle.std.specs.Str.{IsUtf8}
use Rattle.index_script.specs.Requests.{Asks}
use Rattle.index_script.proofs.NumberLemmas.{kept_some, read_text}
use Rattle.index_script.proofs.request.read_line.Goals as goal

pub returns : goal.returns
returns c = λ whole e.
    let k = kept_some c.in-Some.bytes.now whole (ap (λ l. option_copied l) (sym c.in-Some.is) ∙ e) in
    read_text whole c.in_ok-request.request k.1 (subst IsUtf8 k.0 c.in-Ok.ensures.cases.1)
    (subst (λ l. Asks l c.in_ok-request.request) (c.in-Ok.ensures.cases.0 ∙ k.0) c.in_ok-request.ensures)
