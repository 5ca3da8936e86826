use Rattle.index_script.proofs.NumberLemmas.{no_second, not_two}
use Rattle.index_script.proofs.request.two_words.Goals as goal

pub returns-in_default-clause-none : goal.returns-in_default-clause-none
returns-in_default-clause-none c = λ one two. no_second c.args.rest.now one two c.in_default.ensures.none

pub returns-in-Some-split_word-clause-none : goal.returns-in-Some-split_word-clause-none
returns-in-Some-split_word-clause-none c = λ one two.
    not_two c.args.rest.now c.in-Some.one.now c.in-Some.two.now c.in-Some-split_word.field-0.0.now c.in-Some-split_word.field-0.1.now one two c.in-Some.ensures.some
    c.in-Some-split_word.ensures.some.0
