use Rattle.std.proofs.Common.{◌++◌, inr, length, sym, ap, ◌∙◌, subst, arith}
use Rattle.std.proofs.lemmas.List.{length-append}
use Rattle.std.proofs.lemmas.Option.{slice_get_within}
use Rattle.leaf_array.specs.Pairs.{IsAscending}
use Rattle.tree_index.proofs.WayLemmas.{some_same}
use Rattle.version_drafts.proofs.CuttingLemmas.{closing_apart, closing_fresh, closing_joined, given_joined, held_at, held_rising, held_size, made_joined}
use Rattle.version_drafts.proofs.segments.join.Goals as goal

pub returns-in-None-clause-closing : goal.returns-in-None-clause-closing
returns-in-None-clause-closing g c = closing_fresh c.requires.whole c.requires.some c.in-None.is

pub returns-then-len-out-clause-closing : goal.returns-then-len-out-clause-closing
returns-then-len-out-clause-closing g c =
    let room = c.requires.whole.room in
    let more = c.if-len-out.true in
    let size = c.len.ensures in
    closing_apart c.requires.whole c.requires.some (inr (omega (arith, more, size, room)))

pub segment-requires : goal.segment-requires
segment-requires g c = slice_get_within c.args.old.now c.in-Some.place _ (held_at c.requires.whole c.in-Some.place c.in-Some.is).there

pub absorb-requires-clause-rising : goal.absorb-requires-clause-rising
absorb-requires-clause-rising g c =
    let h = held_at c.requires.whole c.in-Some.place c.in-Some.is in
    let same = some_same (c.segment.ensures ∙ h.there) in
    subst (λ ps. IsAscending g.K.Ord.cmp (ps ++ c.args.out.now.tail.pairs)) (sym same) (held_rising c.requires.whole c.in-Some.place c.in-Some.is)

pub absorb-requires-clause-room : goal.absorb-requires-clause-room
absorb-requires-clause-room g c =
    let h = held_at c.requires.whole c.in-Some.place c.in-Some.is in
    let same = ap length (some_same (c.segment.ensures ∙ h.there)) in
    let room = c.requires.whole.room in
    let less = c.if-len-out.false in
    let size = c.len.ensures in
    let most = c.requires.whole.most in
    let last = held_size c.requires.whole c.in-Some.place c.in-Some.is in
    omega (arith, same, less, size, room, most, last)

pub returns-clause-closing : goal.returns-clause-closing
returns-clause-closing g c =
    let h = held_at c.requires.whole c.in-Some.place c.in-Some.is in
    let same = some_same (c.segment.ensures ∙ h.there) in
    let room = c.requires.whole.room in
    let less = c.if-len-out.false in
    let size = c.len.ensures in
    let parts = c.in_ok-shorten.ensures h.front h.from h.is in
    closing_joined c.requires.whole c.in-Some.place c.in-Some.is _ (omega (arith, less, size, room)) c.requires.some parts (c.in_ok-absorb.ensures ∙ ap (λ ps. ps ++ c.args.out.now.tail.pairs) same)

pub returns-clause-pairs : goal.returns-clause-pairs
returns-clause-pairs g c =
    let h = held_at c.requires.whole c.in-Some.place c.in-Some.is in
    let same = some_same (c.segment.ensures ∙ h.there) in
    let parts = c.in_ok-shorten.ensures h.front h.from h.is in
    given_joined c.requires.whole c.in-Some.place c.in-Some.is _ parts _ (c.in_ok-absorb.ensures ∙ ap (λ ps. ps ++ c.args.out.now.tail.pairs) same)

pub returns-clause-made : goal.returns-clause-made
returns-clause-made g c =
    let h = held_at c.requires.whole c.in-Some.place c.in-Some.is in
    let parts = c.in_ok-shorten.ensures h.front h.from h.is in
    made_joined c.requires.whole c.in-Some.place c.in-Some.is _ parts

pub returns-clause-tail : goal.returns-clause-tail
returns-clause-tail g c =
    let size = length-append c.segment.result.now.pairs c.args.out.now.tail.pairs in
    let both = ap length c.in_ok-absorb.ensures in
    omega (arith, size, both)

pub shorten-requires : goal.shorten-requires
shorten-requires g c = let h = held_at c.requires.whole c.in-Some.place c.in-Some.is in (h.front, h.from, h.is)
