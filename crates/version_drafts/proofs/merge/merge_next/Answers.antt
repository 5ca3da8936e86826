use Rattle.std.proofs.Common.{[], ◌∷◌, ◌++◌, ◌+◌, drop, length, inl, inr, sym, ap, ◌∙◌, refl, subst, arith}
use Rattle.std.proofs.lemmas.Bool.{false≢true}
use Rattle.leaf_array.specs.Pairs.{IsAscending}
use Rattle.version_drafts.specs.Changes.{apply_delta, pair_left}
use Rattle.version_views.specs.Cuts.{pairs_in}
use Rattle.version_drafts.specs.Gone.{without_gone}
use Rattle.version_drafts.specs.Cutting.{given_pairs}
use Rattle.version_drafts.proofs.MergeLemmas.{filled_none, filled_one, head_of, length_first, none_of, none_reach, taken, rising_part, rising_rest, rest_of_pairs, change_first, both_first, pair_first, drop_both, first_both, touched_later}
use Rattle.version_drafts.proofs.merge.merge_next.Goals as goal

pub returns-in_default-clause-done : goal.returns-in_default-clause-done
returns-in_default-clause-done g c = λ e. none_of c.args.pairs.now c.in_default.ensures

pub copy-requires-clause-rising : goal.copy-requires-clause-rising
copy-requires-clause-rising g c =
    let p : g.row.K.Denot × g.row.V.Denot = (c.in-Some.key.now, c.in-Some.value.now) in
    let rest = without_gone g.K.Ord.cmp c.args.gone.now (pairs_in (drop (c.args.place + 1) c.args.old.now)) in
    let cs = c.args.changes.now in
    let ps = c.args.pairs.now ++ rest in
    let both = first_both c.args.pairs.now rest p (head_of c.args.pairs.now p c.in-Some.ensures) in
    let split = rest_of_pairs g.met.K.Ord.total cs ps p (none_of cs c.in_default-front.ensures) both in
    rising_part g.K.Ord.cmp (given_pairs c.args.old.now c.args.out.now) (p ∷ []) (apply_delta g.K.Ord.cmp cs (drop 1 ps)) (apply_delta g.K.Ord.cmp cs ps) split c.requires.rising

pub returns-in_default-front-clause-list : goal.returns-in_default-front-clause-list
returns-in_default-front-clause-list g c =
    let p : g.row.K.Denot × g.row.V.Denot = (c.in-Some.key.now, c.in-Some.value.now) in
    let rest = without_gone g.K.Ord.cmp c.args.gone.now (pairs_in (drop (c.args.place + 1) c.args.old.now)) in
    let blocks = c.args.old.now in
    let cs = c.args.changes.now in
    let ps = c.args.pairs.now ++ rest in
    let first = head_of c.args.pairs.now p c.in-Some.ensures in
    let next = drop_both c.args.pairs.now rest p first ∙ ap (λ qs. qs ++ rest) (sym c.step.ensures) in
    let split = rest_of_pairs g.met.K.Ord.total cs ps p (none_of cs c.in_default-front.ensures) (first_both c.args.pairs.now rest p first) ∙ ap (λ qs. p ∷ [] ++ apply_delta g.K.Ord.cmp cs qs) next in
    taken (given_pairs blocks c.args.out.now) (given_pairs blocks c.copy.new.out) (p ∷ []) (apply_delta g.K.Ord.cmp cs (c.step.new.self ++ rest)) (apply_delta g.K.Ord.cmp cs ps) c.in_ok-copy.ensures.pairs split

pub returns-in_default-front-clause-sorted : goal.returns-in_default-front-clause-sorted
returns-in_default-front-clause-sorted g c =
    let p : g.row.K.Denot × g.row.V.Denot = (c.in-Some.key.now, c.in-Some.value.now) in
    let rest = without_gone g.K.Ord.cmp c.args.gone.now (pairs_in (drop (c.args.place + 1) c.args.old.now)) in
    let first = head_of c.args.pairs.now p c.in-Some.ensures in
    let next = drop_both c.args.pairs.now rest p first ∙ ap (λ qs. qs ++ rest) (sym c.step.ensures) in
    subst (IsAscending g.K.Ord.cmp) next (rising_rest g.K.Ord.cmp (c.args.pairs.now ++ rest) p (first_both c.args.pairs.now rest p first) c.requires.sorted)

pub put-requires-clause-rising : goal.put-requires-clause-rising
put-requires-clause-rising g c =
    let p : g.row.K.Denot × g.row.V.Denot = (c.in-Some.key.now, c.in-Some.value.now) in
    let rest = without_gone g.K.Ord.cmp c.args.gone.now (pairs_in (drop (c.args.place + 1) c.args.old.now)) in
    let cs = c.args.changes.now in
    let ps = c.args.pairs.now ++ rest in
    let both = first_both c.args.pairs.now rest p (head_of c.args.pairs.now p c.in-Some.ensures) in
    let k = c.in-Some-front.changed.now in
    let to = c.in-Some-front.to.now in
    let split = change_first g.met.K.Ord.total cs ps k to p (head_of cs (k, to) c.in-Some-front.ensures) both (sym c.in-Less.ensures) c.requires.sorted in
    rising_part g.K.Ord.cmp (given_pairs c.args.old.now c.args.out.now) (pair_left k to) (apply_delta g.K.Ord.cmp (drop 1 cs) ps) (apply_delta g.K.Ord.cmp cs ps) split c.requires.rising

pub put-requires-in-Equal-clause-rising : goal.put-requires-in-Equal-clause-rising
put-requires-in-Equal-clause-rising g c =
    let p : g.row.K.Denot × g.row.V.Denot = (c.in-Some.key.now, c.in-Some.value.now) in
    let rest = without_gone g.K.Ord.cmp c.args.gone.now (pairs_in (drop (c.args.place + 1) c.args.old.now)) in
    let cs = c.args.changes.now in
    let ps = c.args.pairs.now ++ rest in
    let both = first_both c.args.pairs.now rest p (head_of c.args.pairs.now p c.in-Some.ensures) in
    let k = c.in-Some-front.changed.now in
    let to = c.in-Some-front.to.now in
    let split = both_first g.met.K.Ord.total cs ps k to p (head_of cs (k, to) c.in-Some-front.ensures) both (sym c.in-Equal.ensures) c.requires.sorted in
    rising_part g.K.Ord.cmp (given_pairs c.args.old.now c.args.out.now) (pair_left k to) (apply_delta g.K.Ord.cmp (drop 1 cs) (drop 1 ps)) (apply_delta g.K.Ord.cmp cs ps) split c.requires.rising

pub copy-requires-in-Greater-clause-rising : goal.copy-requires-in-Greater-clause-rising
copy-requires-in-Greater-clause-rising g c =
    let p : g.row.K.Denot × g.row.V.Denot = (c.in-Some.key.now, c.in-Some.value.now) in
    let rest = without_gone g.K.Ord.cmp c.args.gone.now (pairs_in (drop (c.args.place + 1) c.args.old.now)) in
    let cs = c.args.changes.now in
    let ps = c.args.pairs.now ++ rest in
    let both = first_both c.args.pairs.now rest p (head_of c.args.pairs.now p c.in-Some.ensures) in
    let k = c.in-Some-front.changed.now in
    let to = c.in-Some-front.to.now in
    let split = pair_first g.met.K.Ord.total cs ps k to p (head_of cs (k, to) c.in-Some-front.ensures) both (sym c.in-Greater.ensures) in
    rising_part g.K.Ord.cmp (given_pairs c.args.old.now c.args.out.now) (p ∷ []) (apply_delta g.K.Ord.cmp cs (drop 1 ps)) (apply_delta g.K.Ord.cmp cs ps) split c.requires.rising

pub returns-in_ok-put-in-Less-clause-list : goal.returns-in_ok-put-in-Less-clause-list
returns-in_ok-put-in-Less-clause-list g c =
    let p : g.row.K.Denot × g.row.V.Denot = (c.in-Some.key.now, c.in-Some.value.now) in
    let rest = without_gone g.K.Ord.cmp c.args.gone.now (pairs_in (drop (c.args.place + 1) c.args.old.now)) in
    let blocks = c.args.old.now in
    let cs = c.args.changes.now in
    let ps = c.args.pairs.now ++ rest in
    let both = first_both c.args.pairs.now rest p (head_of c.args.pairs.now p c.in-Some.ensures) in
    let k = c.in-Some-front.changed.now in
    let to = c.in-Some-front.to.now in
    let split = change_first g.met.K.Ord.total cs ps k to p (head_of cs (k, to) c.in-Some-front.ensures) both (sym c.in-Less.ensures) c.requires.sorted ∙ ap (λ xs. pair_left k to ++ apply_delta g.K.Ord.cmp xs ps) (sym c.step-in-Less.ensures) in
    taken (given_pairs blocks c.args.out.now) (given_pairs blocks c.put.new.out) (pair_left k to) (apply_delta g.K.Ord.cmp c.step-in-Less.new.self ps) (apply_delta g.K.Ord.cmp cs ps) c.in_ok-put-in-Less.ensures.pairs split

pub returns-in_ok-put-in-Equal-clause-list : goal.returns-in_ok-put-in-Equal-clause-list
returns-in_ok-put-in-Equal-clause-list g c =
    let p : g.row.K.Denot × g.row.V.Denot = (c.in-Some.key.now, c.in-Some.value.now) in
    let rest = without_gone g.K.Ord.cmp c.args.gone.now (pairs_in (drop (c.args.place + 1) c.args.old.now)) in
    let blocks = c.args.old.now in
    let cs = c.args.changes.now in
    let ps = c.args.pairs.now ++ rest in
    let first = head_of c.args.pairs.now p c.in-Some.ensures in
    let next = drop_both c.args.pairs.now rest p first ∙ ap (λ qs. qs ++ rest) (sym c.step-in-Equal-2.ensures) in
    let k = c.in-Some-front.changed.now in
    let to = c.in-Some-front.to.now in
    let split = both_first g.met.K.Ord.total cs ps k to p (head_of cs (k, to) c.in-Some-front.ensures) (first_both c.args.pairs.now rest p first) (sym c.in-Equal.ensures) c.requires.sorted ∙ (ap (λ xs. pair_left k to ++ apply_delta g.K.Ord.cmp xs (drop 1 ps)) (sym c.step-in-Equal.ensures) ∙ ap (λ qs. pair_left k to ++ apply_delta g.K.Ord.cmp c.step-in-Equal.new.self qs) next) in
    taken (given_pairs blocks c.args.out.now) (given_pairs blocks c.put-in-Equal.new.out) (pair_left k to) (apply_delta g.K.Ord.cmp c.step-in-Equal.new.self (c.step-in-Equal-2.new.self ++ rest)) (apply_delta g.K.Ord.cmp cs ps) c.in_ok-put-in-Equal.ensures.pairs split

pub returns-in_ok-put-in-Equal-clause-sorted : goal.returns-in_ok-put-in-Equal-clause-sorted
returns-in_ok-put-in-Equal-clause-sorted g c =
    let p : g.row.K.Denot × g.row.V.Denot = (c.in-Some.key.now, c.in-Some.value.now) in
    let rest = without_gone g.K.Ord.cmp c.args.gone.now (pairs_in (drop (c.args.place + 1) c.args.old.now)) in
    let first = head_of c.args.pairs.now p c.in-Some.ensures in
    let next = drop_both c.args.pairs.now rest p first ∙ ap (λ qs. qs ++ rest) (sym c.step-in-Equal-2.ensures) in
    subst (IsAscending g.K.Ord.cmp) next (rising_rest g.K.Ord.cmp (c.args.pairs.now ++ rest) p (first_both c.args.pairs.now rest p first) c.requires.sorted)

pub returns-in_ok-copy-in-Greater-clause-list : goal.returns-in_ok-copy-in-Greater-clause-list
returns-in_ok-copy-in-Greater-clause-list g c =
    let p : g.row.K.Denot × g.row.V.Denot = (c.in-Some.key.now, c.in-Some.value.now) in
    let rest = without_gone g.K.Ord.cmp c.args.gone.now (pairs_in (drop (c.args.place + 1) c.args.old.now)) in
    let blocks = c.args.old.now in
    let cs = c.args.changes.now in
    let ps = c.args.pairs.now ++ rest in
    let first = head_of c.args.pairs.now p c.in-Some.ensures in
    let next = drop_both c.args.pairs.now rest p first ∙ ap (λ qs. qs ++ rest) (sym c.step-in-Greater.ensures) in
    let k = c.in-Some-front.changed.now in
    let to = c.in-Some-front.to.now in
    let split = pair_first g.met.K.Ord.total cs ps k to p (head_of cs (k, to) c.in-Some-front.ensures) (first_both c.args.pairs.now rest p first) (sym c.in-Greater.ensures) ∙ ap (λ qs. p ∷ [] ++ apply_delta g.K.Ord.cmp cs qs) next in
    taken (given_pairs blocks c.args.out.now) (given_pairs blocks c.copy-in-Greater.new.out) (p ∷ []) (apply_delta g.K.Ord.cmp cs (c.step-in-Greater.new.self ++ rest)) (apply_delta g.K.Ord.cmp cs ps) c.in_ok-copy-in-Greater.ensures.pairs split

pub returns-in_ok-copy-in-Greater-clause-sorted : goal.returns-in_ok-copy-in-Greater-clause-sorted
returns-in_ok-copy-in-Greater-clause-sorted g c =
    let p : g.row.K.Denot × g.row.V.Denot = (c.in-Some.key.now, c.in-Some.value.now) in
    let rest = without_gone g.K.Ord.cmp c.args.gone.now (pairs_in (drop (c.args.place + 1) c.args.old.now)) in
    let first = head_of c.args.pairs.now p c.in-Some.ensures in
    let next = drop_both c.args.pairs.now rest p first ∙ ap (λ qs. qs ++ rest) (sym c.step-in-Greater.ensures) in
    subst (IsAscending g.K.Ord.cmp) next (rising_rest g.K.Ord.cmp (c.args.pairs.now ++ rest) p (first_both c.args.pairs.now rest p first) c.requires.sorted)

pub returns-in_ok-copy-in-Greater-clause-reached : goal.returns-in_ok-copy-in-Greater-clause-reached
returns-in_ok-copy-in-Greater-clause-reached g c = λ h.
    let p : g.row.K.Denot × g.row.V.Denot = (c.in-Some.key.now, c.in-Some.value.now) in
    let first = head_of c.args.pairs.now p c.in-Some.ensures in
    let change = head_of c.args.changes.now _ c.in-Some-front.ensures in
    inl (touched_later g.K.Ord.cmp c.args.changes.now c.args.pairs.now c.step-in-Greater.new.self _ p h first change (sym c.in-Greater.ensures) c.step-in-Greater.ensures)

pub returns-in_default-clause-whole : goal.returns-in_default-clause-whole
returns-in_default-clause-whole g c = c.requires.whole

pub returns-in_default-clause-list : goal.returns-in_default-clause-list
returns-in_default-clause-list g c = refl

pub returns-in_default-clause-sorted : goal.returns-in_default-clause-sorted
returns-in_default-clause-sorted g c = c.requires.sorted

pub returns-in_default-clause-filled : goal.returns-in_default-clause-filled
returns-in_default-clause-filled g c = filled_none g.row.S _ _ c.args.out.now (omega arith)

pub returns-in_default-clause-reached : goal.returns-in_default-clause-reached
returns-in_default-clause-reached g c = λ h. inl h

pub returns-in_default-clause-fewer : goal.returns-in_default-clause-fewer
returns-in_default-clause-fewer g c = λ e. absurd (false≢true e)

pub returns-in_default-clause-less : goal.returns-in_default-clause-less
returns-in_default-clause-less g c = omega arith

pub copy-requires-clause-keys : goal.copy-requires-clause-keys
copy-requires-clause-keys g c = c.requires.keys

pub copy-requires-clause-values : goal.copy-requires-clause-values
copy-requires-clause-values g c = c.requires.values

pub copy-requires-clause-whole : goal.copy-requires-clause-whole
copy-requires-clause-whole g c = c.requires.whole

pub put-requires-clause-keys : goal.put-requires-clause-keys
put-requires-clause-keys g c = c.requires.keys

pub put-requires-clause-values : goal.put-requires-clause-values
put-requires-clause-values g c = c.requires.values

pub put-requires-clause-whole : goal.put-requires-clause-whole
put-requires-clause-whole g c = c.requires.whole

pub put-requires-in-Equal-clause-keys : goal.put-requires-in-Equal-clause-keys
put-requires-in-Equal-clause-keys g c = c.requires.keys

pub put-requires-in-Equal-clause-values : goal.put-requires-in-Equal-clause-values
put-requires-in-Equal-clause-values g c = c.requires.values

pub put-requires-in-Equal-clause-whole : goal.put-requires-in-Equal-clause-whole
put-requires-in-Equal-clause-whole g c = c.requires.whole

pub copy-requires-in-Greater-clause-keys : goal.copy-requires-in-Greater-clause-keys
copy-requires-in-Greater-clause-keys g c = c.requires.keys

pub copy-requires-in-Greater-clause-values : goal.copy-requires-in-Greater-clause-values
copy-requires-in-Greater-clause-values g c = c.requires.values

pub copy-requires-in-Greater-clause-whole : goal.copy-requires-in-Greater-clause-whole
copy-requires-in-Greater-clause-whole g c = c.requires.whole

pub returns-in_default-front-clause-whole : goal.returns-in_default-front-clause-whole
returns-in_default-front-clause-whole g c = c.in_ok-copy.ensures.whole

pub returns-in_default-front-clause-filled : goal.returns-in_default-front-clause-filled
returns-in_default-front-clause-filled g c =
    let p : g.row.K.Denot × g.row.V.Denot = (c.in-Some.key.now, c.in-Some.value.now) in
    let pair = length_first c.args.pairs.now [] p (head_of c.args.pairs.now p c.in-Some.ensures) in
    let pairs' = ap length c.step.ensures in
    filled_one g.row.S _ _ c.args.out.now c.copy.new.out (omega (arith, pair, pairs')) c.in_ok-copy.ensures.filled

pub returns-in_default-front-clause-reached : goal.returns-in_default-front-clause-reached
returns-in_default-front-clause-reached g c = λ h. absurd (none_reach g.K.Ord.cmp c.args.changes.now c.args.pairs.now (none_of c.args.changes.now c.in_default-front.ensures) h)

pub returns-in_default-front-clause-fewer : goal.returns-in_default-front-clause-fewer
returns-in_default-front-clause-fewer g c = λ e.
    let p : g.row.K.Denot × g.row.V.Denot = (c.in-Some.key.now, c.in-Some.value.now) in
    let pair = length_first c.args.pairs.now [] p (head_of c.args.pairs.now p c.in-Some.ensures) in
    let pairs' = ap length c.step.ensures in
    omega (arith, pair, pairs')

pub returns-in_default-front-clause-less : goal.returns-in_default-front-clause-less
returns-in_default-front-clause-less g c = omega arith

pub returns-in_default-front-clause-done : goal.returns-in_default-front-clause-done
returns-in_default-front-clause-done g c = λ e. absurd (false≢true (sym e))

pub returns-in_ok-put-in-Less-clause-whole : goal.returns-in_ok-put-in-Less-clause-whole
returns-in_ok-put-in-Less-clause-whole g c = c.in_ok-put-in-Less.ensures.whole

pub returns-in_ok-put-in-Less-clause-sorted : goal.returns-in_ok-put-in-Less-clause-sorted
returns-in_ok-put-in-Less-clause-sorted g c = c.requires.sorted

pub returns-in_ok-put-in-Less-clause-filled : goal.returns-in_ok-put-in-Less-clause-filled
returns-in_ok-put-in-Less-clause-filled g c =
    let change = length_first c.args.changes.now [] _ (head_of c.args.changes.now _ c.in-Some-front.ensures) in
    let changes' = ap length c.step-in-Less.ensures in
    filled_one g.row.S _ _ c.args.out.now c.put.new.out (omega (arith, change, changes')) c.in_ok-put-in-Less.ensures.filled

pub returns-in_ok-put-in-Less-clause-reached : goal.returns-in_ok-put-in-Less-clause-reached
returns-in_ok-put-in-Less-clause-reached g c = λ h.
    let change = length_first c.args.changes.now [] _ (head_of c.args.changes.now _ c.in-Some-front.ensures) in
    let changes' = ap length c.step-in-Less.ensures in
    inr (omega (arith, change, changes'))

pub returns-in_ok-put-in-Less-clause-fewer : goal.returns-in_ok-put-in-Less-clause-fewer
returns-in_ok-put-in-Less-clause-fewer g c = λ e.
    let change = length_first c.args.changes.now [] _ (head_of c.args.changes.now _ c.in-Some-front.ensures) in
    let changes' = ap length c.step-in-Less.ensures in
    omega (arith, change, changes')

pub returns-in_ok-put-in-Less-clause-less : goal.returns-in_ok-put-in-Less-clause-less
returns-in_ok-put-in-Less-clause-less g c =
    let change = length_first c.args.changes.now [] _ (head_of c.args.changes.now _ c.in-Some-front.ensures) in
    let changes' = ap length c.step-in-Less.ensures in
    omega (arith, change, changes')

pub returns-in_ok-put-in-Less-clause-done : goal.returns-in_ok-put-in-Less-clause-done
returns-in_ok-put-in-Less-clause-done g c = λ e. absurd (false≢true (sym e))

pub returns-in_ok-put-in-Equal-clause-whole : goal.returns-in_ok-put-in-Equal-clause-whole
returns-in_ok-put-in-Equal-clause-whole g c = c.in_ok-put-in-Equal.ensures.whole

pub returns-in_ok-put-in-Equal-clause-filled : goal.returns-in_ok-put-in-Equal-clause-filled
returns-in_ok-put-in-Equal-clause-filled g c =
    let change = length_first c.args.changes.now [] _ (head_of c.args.changes.now _ c.in-Some-front.ensures) in
    let changes' = ap length c.step-in-Equal.ensures in
    let p : g.row.K.Denot × g.row.V.Denot = (c.in-Some.key.now, c.in-Some.value.now) in
    let pair = length_first c.args.pairs.now [] p (head_of c.args.pairs.now p c.in-Some.ensures) in
    let pairs' = ap length c.step-in-Equal-2.ensures in
    filled_one g.row.S _ _ c.args.out.now c.put-in-Equal.new.out (omega (arith, change, changes', pair, pairs')) c.in_ok-put-in-Equal.ensures.filled

pub returns-in_ok-put-in-Equal-clause-reached : goal.returns-in_ok-put-in-Equal-clause-reached
returns-in_ok-put-in-Equal-clause-reached g c = λ h.
    let change = length_first c.args.changes.now [] _ (head_of c.args.changes.now _ c.in-Some-front.ensures) in
    let changes' = ap length c.step-in-Equal.ensures in
    inr (omega (arith, change, changes'))

pub returns-in_ok-put-in-Equal-clause-fewer : goal.returns-in_ok-put-in-Equal-clause-fewer
returns-in_ok-put-in-Equal-clause-fewer g c = λ e.
    let change = length_first c.args.changes.now [] _ (head_of c.args.changes.now _ c.in-Some-front.ensures) in
    let changes' = ap length c.step-in-Equal.ensures in
    let p : g.row.K.Denot × g.row.V.Denot = (c.in-Some.key.now, c.in-Some.value.now) in
    let pair = length_first c.args.pairs.now [] p (head_of c.args.pairs.now p c.in-Some.ensures) in
    let pairs' = ap length c.step-in-Equal-2.ensures in
    omega (arith, change, changes', pair, pairs')

pub returns-in_ok-put-in-Equal-clause-less : goal.returns-in_ok-put-in-Equal-clause-less
returns-in_ok-put-in-Equal-clause-less g c =
    let change = length_first c.args.changes.now [] _ (head_of c.args.changes.now _ c.in-Some-front.ensures) in
    let changes' = ap length c.step-in-Equal.ensures in
    omega (arith, change, changes')

pub returns-in_ok-put-in-Equal-clause-done : goal.returns-in_ok-put-in-Equal-clause-done
returns-in_ok-put-in-Equal-clause-done g c = λ e. absurd (false≢true (sym e))

pub returns-in_ok-copy-in-Greater-clause-whole : goal.returns-in_ok-copy-in-Greater-clause-whole
returns-in_ok-copy-in-Greater-clause-whole g c = c.in_ok-copy-in-Greater.ensures.whole

pub returns-in_ok-copy-in-Greater-clause-filled : goal.returns-in_ok-copy-in-Greater-clause-filled
returns-in_ok-copy-in-Greater-clause-filled g c =
    let p : g.row.K.Denot × g.row.V.Denot = (c.in-Some.key.now, c.in-Some.value.now) in
    let pair = length_first c.args.pairs.now [] p (head_of c.args.pairs.now p c.in-Some.ensures) in
    let pairs' = ap length c.step-in-Greater.ensures in
    filled_one g.row.S _ _ c.args.out.now c.copy-in-Greater.new.out (omega (arith, pair, pairs')) c.in_ok-copy-in-Greater.ensures.filled

pub returns-in_ok-copy-in-Greater-clause-fewer : goal.returns-in_ok-copy-in-Greater-clause-fewer
returns-in_ok-copy-in-Greater-clause-fewer g c = λ e.
    let p : g.row.K.Denot × g.row.V.Denot = (c.in-Some.key.now, c.in-Some.value.now) in
    let pair = length_first c.args.pairs.now [] p (head_of c.args.pairs.now p c.in-Some.ensures) in
    let pairs' = ap length c.step-in-Greater.ensures in
    omega (arith, pair, pairs')

pub returns-in_ok-copy-in-Greater-clause-less : goal.returns-in_ok-copy-in-Greater-clause-less
returns-in_ok-copy-in-Greater-clause-less g c = omega arith

pub returns-in_ok-copy-in-Greater-clause-done : goal.returns-in_ok-copy-in-Greater-clause-done
returns-in_ok-copy-in-Greater-clause-done g c = λ e. absurd (false≢true (sym e))
