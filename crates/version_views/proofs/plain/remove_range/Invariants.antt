use Rattle.std.proofs.Common.{◌≡◌, ◌++◌, not, drop}
use Rattle.std.specs.List.{filter}
use Rattle.std.specs.BTreeMap.Range.{range_contains}
use Rattle.version_views.proofs.plain.remove_range.Given as goal

-- what is copied, and what is yet to be
abbrev pub invariant-loop-pair : goal.invariant-loop-pair
invariant-loop-pair g l =
    l.out.items ++ filter (λ p. not (range_contains g.K.Ord.cmp l.lower l.upper p.0)) (drop l.pair-index l.pairs)
    ≡ filter (λ p. not (range_contains g.K.Ord.cmp l.lower l.upper p.0)) l.pairs
