use Rattle.std.proofs.lemmas.Str.Pattern.{strip_prefix_char}
use Rattle.index_script.proofs.NumberLemmas.{mark_some, mark_none}
use Rattle.index_script.proofs.words.marked.Goals as goal

pub returns-clause-some : goal.returns-clause-some
returns-clause-some c = mark_some c.args.mark c.args.word.now c.strip_prefix.result (strip_prefix_char c.args.mark c.args.word.now c.strip_prefix.result c.strip_prefix.ensures.cases c.requires)

pub returns-clause-none : goal.returns-clause-none
returns-clause-none c = mark_none c.args.mark c.args.word.now c.strip_prefix.result (strip_prefix_char c.args.mark c.args.word.now c.strip_prefix.result c.strip_prefix.ensures.cases c.requires)
