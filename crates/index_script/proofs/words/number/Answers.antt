use Rattle.std.proofs.Common.{◌<◌, get_or, length, sym, ap, ◌∙◌, subst}
use Rattle.index_script.proofs.NumberLemmas.{not_empty, not_plus, not_zero_first, parsed, not_parsed, empty_length, alone}
use Rattle.index_script.proofs.words.number.Goals as goal

pub returns-then-is_empty-clause-none : goal.returns-then-is_empty-clause-none
returns-then-is_empty-clause-none c =
    not_empty c.args.word.now (ap length (sym c.as_bytes-bytes.ensures.value) ∙ empty_length (length c.as_bytes-bytes.result.now) c.if-is_empty.ensures)

pub returns-then-bytes-eq43-clause-none : goal.returns-then-bytes-eq43-clause-none
returns-then-bytes-eq43-clause-none c =
    not_plus c.args.word.now (ap (λ w. get_or w 0 0) (sym c.as_bytes-bytes.ensures.value) ∙ c.if-bytes-eq43.true)

pub returns-then-bytes-gt1-clause-none : goal.returns-then-bytes-gt1-clause-none
returns-then-bytes-gt1-clause-none c =
    not_zero_first c.args.word.now (ap (λ w. get_or w 0 0) (sym c.as_bytes-bytes.ensures.value) ∙ c.if-bytes-eq48.true)
    (subst (λ w. 1 < length w) c.as_bytes-bytes.ensures.value c.if-bytes-gt1.true)

pub returns-in-Ok-clause-some : goal.returns-in-Ok-clause-some
returns-in-Ok-clause-some c =
    let same = c.as_bytes-bytes.ensures.value in
    parsed c.args.word.now c.in-Ok.number c.parse.result c.parse.ensures.value.0 c.in-Ok.is
    (λ e. c.if-bytes-eq43.false (ap (λ w. get_or w 0 0) same ∙ e))
    (alone c.as_bytes-bytes.result.now c.args.word.now same c.if-is_empty.ensures c.else-bytes-eq48.either)

pub returns-in-Err-clause-none : goal.returns-in-Err-clause-none
returns-in-Err-clause-none c = not_parsed c.args.word.now c.in-Err.field-0 c.parse.result c.parse.ensures.value.0 c.in-Err.is
