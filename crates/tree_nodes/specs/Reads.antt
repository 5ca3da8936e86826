-- Functions that are called on a pair.
use Rattle.std.specs.Prelude.{◌≡◌, Option, Some, None, MatchOption}
use Rattle.std.specs.Fn.{Once}
use denote.Ref.{Bor}

-- f may be called once at a `&` to the key of a pair and one to its value
abbrev pub FnOnceTakesPair : {F K V R : Type 0} → Once F (Bor K × (Bor V × Unit {0})) R → F → K × V → Type 0
FnOnceTakesPair {F} {K} {V} g f e = (k : Bor K) (v : Bor V) → k.now ≡ e.0 → v.now ≡ e.1 → g.pre f (k, (v, tt))

-- r is an answer that such a call at this pair may give; where there is no pair, there is no answer
abbrev pub FnOnceReadsPair : {F K V R : Type 0} → Once F (Bor K × (Bor V × Unit {0})) R → F → Option (K × V) → Option R → Type 0
FnOnceReadsPair {F} {K} {V} g f pair answer = MatchOption answer (pair ≡ None) (λ r. (k : Bor K) × (v : Bor V) × (pair ≡ Some (k.now, v.now)) × g.post f (k, (v, tt)) r)
