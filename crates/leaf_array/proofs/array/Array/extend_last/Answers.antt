use Rattle.std.proofs.Common.{◌≡◌, ◌≤◌, ◌+◌, ◌++◌, ℕ, false, drop, length, take, sym, subst, arith}
use Rattle.std.specs.List.Sorted.{IsStrictlySortedBy}
use Rattle.std.specs.Map.{keys_of}
use Rattle.leaf_slots.specs.Places.{live_pairs, IsEmptied}
use Rattle.leaf_array.proofs.ExtendLemmas.{empty_last, run_behind}
use Rattle.leaf_array.proofs.array.Array.extend_last.Goals as goal

pub extend-done-requires-clause-empty : goal.extend-done-requires-clause-empty
extend-done-requires-clause-empty g c =
    let packed : c.self.inside.used ≡ length (live_pairs c.self.inside.slots) = rw (← c.self.view_is) at c.requires.packed in
    subst (λ (k : ℕ). IsEmptied (drop k c.self.inside.slots)) (sym c.from-at.ensures) (empty_last g.K.Ord.cmp g.met.K.Ord.total c.self.inside.slots c.self.inside.len c.self.inside.used c.self.invariant packed).1

pub invariant_of-self : goal.invariant_of-self
invariant_of-self g c =
    let ps = live_pairs c.self.inside.slots in
    let qs = live_pairs c.source.inside.slots in
    let packed : c.self.inside.used ≡ length ps = rw (← c.self.view_is) at c.requires.packed in
    let room : c.self.inside.used + c.args.count ≤ 15 = rw (← c.self.view_is) at c.requires.room in
    let within : c.args.from + c.args.count ≤ length qs = rw (← c.source.view_is) at c.requires.within in
    let up : IsStrictlySortedBy g.K.Ord.cmp (keys_of (ps ++ take c.args.count (drop c.args.from qs))) = rw (← c.self.view_is, ← c.source.view_is) at c.requires.rising in
    let all = run_behind g.K.Ord.cmp g.met.K.Ord.total c.self.inside.slots c.source.inside.slots c.extend-done.new.self c.self.inside.len c.self.inside.used c.from-at.result c.args.from c.args.count c.extend-done.result c.self.invariant packed c.from-at.ensures room c.extend-done.ensures.most within up c.extend-done.ensures.places in
    all.sound

pub returns-clause-cells : goal.returns-clause-cells
returns-clause-cells g c =
    let ps = live_pairs c.self.inside.slots in
    let qs = live_pairs c.source.inside.slots in
    let packed : c.self.inside.used ≡ length ps = rw (← c.self.view_is) at c.requires.packed in
    let room : c.self.inside.used + c.args.count ≤ 15 = rw (← c.self.view_is) at c.requires.room in
    let within : c.args.from + c.args.count ≤ length qs = rw (← c.source.view_is) at c.requires.within in
    let up : IsStrictlySortedBy g.K.Ord.cmp (keys_of (ps ++ take c.args.count (drop c.args.from qs))) = rw (← c.self.view_is, ← c.source.view_is) at c.requires.rising in
    let all = run_behind g.K.Ord.cmp g.met.K.Ord.total c.self.inside.slots c.source.inside.slots c.extend-done.new.self c.self.inside.len c.self.inside.used c.from-at.result c.args.from c.args.count c.extend-done.result c.self.invariant packed c.from-at.ensures room c.extend-done.ensures.most within up c.extend-done.ensures.places in
    let living : c.self.inside.retired ≡ false = rw (← c.self.view_is) at c.requires.living in
    rw (← c.self.view_is, ← c.source.view_is, living) (all.cells c.self.inside.frozen)

pub returns-clause-pairs : goal.returns-clause-pairs
returns-clause-pairs g c =
    let ps = live_pairs c.self.inside.slots in
    let qs = live_pairs c.source.inside.slots in
    let packed : c.self.inside.used ≡ length ps = rw (← c.self.view_is) at c.requires.packed in
    let room : c.self.inside.used + c.args.count ≤ 15 = rw (← c.self.view_is) at c.requires.room in
    let within : c.args.from + c.args.count ≤ length qs = rw (← c.source.view_is) at c.requires.within in
    let up : IsStrictlySortedBy g.K.Ord.cmp (keys_of (ps ++ take c.args.count (drop c.args.from qs))) = rw (← c.self.view_is, ← c.source.view_is) at c.requires.rising in
    let all = run_behind g.K.Ord.cmp g.met.K.Ord.total c.self.inside.slots c.source.inside.slots c.extend-done.new.self c.self.inside.len c.self.inside.used c.from-at.result c.args.from c.args.count c.extend-done.result c.self.invariant packed c.from-at.ensures room c.extend-done.ensures.most within up c.extend-done.ensures.places in
    rw (← c.self.view_is, ← c.source.view_is) all.pairs
