use Rattle.std.proofs.Common.{◌≡◌, ℕ, List, Option, None, Some, ◌++◌, ◌∷◌, Bor, IfSome, IfNone, arith}
use Rattle.std.proofs.lemmas.Str.Pattern.{split_parts, IsSplitOnceResult}
use Rattle.index_script.specs.Lines.{Lacks}
use Rattle.index_script.proofs.NumberLemmas.{lacks_by_index}
use Rattle.index_script.proofs.words.split_word.Goals as goal

some_parts : (bs : List ℕ) (r : Option (Bor (List ℕ) × Bor (List ℕ))) → IsSplitOnceResult 32 bs r → IfSome r (λ parts. (bs ≡ parts.0.now ++ 32 ∷ parts.1.now) × Lacks 32 parts.0.now)
some_parts bs None h = tt
some_parts bs (Some x) h = let cut = split_parts 32 bs (Some x) h (omega arith) in (cut.0, lacks_by_index 32 x.0.now cut.1)

no_parts : (bs : List ℕ) (r : Option (Bor (List ℕ) × Bor (List ℕ))) → IsSplitOnceResult 32 bs r → IfNone r (Lacks 32 bs)
no_parts bs None h = lacks_by_index 32 bs (split_parts 32 bs None h (omega arith))
no_parts bs (Some x) h = tt

pub returns-clause-some : goal.returns-clause-some
returns-clause-some c = some_parts c.args.text.now c.split_once.result c.split_once.ensures.cases

pub returns-clause-none : goal.returns-clause-none
returns-clause-none c = no_parts c.args.text.now c.split_once.result c.split_once.ensures.cases
