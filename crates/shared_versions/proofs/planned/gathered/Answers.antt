use Rattle.std.proofs.Common.{◌≡◌, ◌+◌, ◌++◌, ◌∷◌, [], List, length, map, sym, ap, ◌∙◌, append-nil, append_assoc, arith, subst}
use Rattle.std.specs.List.{All}
use Rattle.std.specs.Vec.Iter.{into_iter_items}
use Rattle.std.proofs.lemmas.Bool.{false≢true}
use Rattle.std.proofs.lemmas.List.{map-append}
use Rattle.std.proofs.lemmas.List.Elements.{All-tail}
use Rattle.std.proofs.lemmas.List.Sums.{sum_by-cons}
use Rattle.version_drafts.specs.Parts.{blocks_of_parts, made_in, makes, part_blocks}
use Rattle.version_drafts.specs.Shelves.{LiesInside}
use Rattle.shared_versions.specs.Nodes.{blocks_of, own_segments, segment_pairs}
use Rattle.shared_versions.proofs.OwnerLemmas.{no_length}
use Rattle.shared_versions.proofs.planned.gathered.Goals as goal

-- a new segment more is there
pub loop-part-preserved-in-Made : goal.loop-part-preserved-in-Made
loop-part-preserved-in-Made g c =
    let i = c.loop-part.invariant in
    let step = rw c.in-Some-part.is at c.next.ensures.steps in
    let rest = into_iter_items c.next.new.self in
    let part = c.in-Some-part.part in
    let old = blocks_of (own_segments c.args.own.now) c.args.old.now in
    let segments = c.loop-part.segments.items in
    let one = c.in_ok-new-in-Made.field-0 in
    let longer = c.in_ok-push-in-Made.ensures.items in
    let lies = subst (All (LiesInside c.args.old.now.ends.items)) step.0 i.lies in
    let made : made_in (into_iter_items c.loop-part.part-iterator) ≡ makes part + made_in rest = ap made_in step.0 ∙ sum_by-cons makes part rest in
    let makes_one : makes part ≡ 1 = ap makes c.in-Made.is in
    record {
      counted = omega (arith, step.1, i.counted, ap length step.0);
      blocks =
          ap (λ xs. map segment_pairs xs ++ blocks_of_parts old rest) longer
          ∙ ap (λ bs. bs ++ blocks_of_parts old rest) (map-append segment_pairs segments (one ∷ []))
          ∙ append_assoc (map segment_pairs segments) (segment_pairs one ∷ []) (blocks_of_parts old rest)
          ∙ ap (λ b. map segment_pairs segments ++ (b ++ blocks_of_parts old rest)) (ap (λ t. t.pairs ∷ []) c.in_ok-new-in-Made.ensures.ok ∙ sym (ap (part_blocks old) c.in-Made.is))
          ∙ ap (λ ps. map segment_pairs segments ++ blocks_of_parts old ps) (sym step.0)
          ∙ i.blocks;
      lies = All-tail (LiesInside c.args.old.now.ends.items) part rest lies;
      new = λ _. omega (arith, i.made, made, makes_one);
      made = omega (arith, i.made, made, makes_one);
      older = λ e. absurd (false≢true (sym e));
    }

-- the segments of a stretch are shared
pub loop-part-preserved : goal.loop-part-preserved
loop-part-preserved g c =
    let i = c.loop-part.invariant in
    let step = rw c.in-Some-part.is at c.next.ensures.steps in
    let rest = into_iter_items c.next.new.self in
    let part = c.in-Some-part.part in
    let old = blocks_of (own_segments c.args.own.now) c.args.old.now in
    let segments = c.loop-part.segments.items in
    let lies = subst (All (LiesInside c.args.old.now.ends.items)) step.0 i.lies in
    let made : made_in (into_iter_items c.loop-part.part-iterator) ≡ makes part + made_in rest = ap made_in step.0 ∙ sum_by-cons makes part rest in
    let makes_none : makes part ≡ 0 = ap makes c.in-Taken.is in
    record {
      counted = omega (arith, step.1, i.counted, ap length step.0);
      blocks =
          ap (λ bs. bs ++ blocks_of_parts old rest) c.in_ok-share-in-Taken.ensures
          ∙ append_assoc (map segment_pairs segments) _ (blocks_of_parts old rest)
          ∙ ap (λ p. map segment_pairs segments ++ (part_blocks old p ++ blocks_of_parts old rest)) (sym c.in-Taken.is)
          ∙ ap (λ ps. map segment_pairs segments ++ blocks_of_parts old ps) (sym step.0)
          ∙ i.blocks;
      lies = All-tail (LiesInside c.args.old.now.ends.items) part rest lies;
      new = λ e. let n = i.new e in omega (arith, n, made, makes_none);
      made = omega (arith, i.made, made, makes_none);
      older = λ e. let n = i.older e in omega (arith, n, made, makes_none);
    }

pub returns-clause-blocks : goal.returns-clause-blocks
returns-clause-blocks g c =
    let i = c.loop-part.invariant in
    let none = no_length (into_iter_items c.loop-part.part-iterator) (omega (arith, i.counted, c.in-None.ensures.steps.0)) in
    let segments = map segment_pairs c.loop-part.segments.items in
    sym (append-nil segments) ∙ ap (λ ps. segments ++ blocks_of_parts (blocks_of (own_segments c.args.own.now) c.args.old.now) ps) (sym none) ∙ i.blocks

pub returns-clause-older : goal.returns-clause-older
returns-clause-older g c =
    let i = c.loop-part.invariant in
    let none = no_length (into_iter_items c.loop-part.part-iterator) (omega (arith, i.counted, c.in-None.ensures.steps.0)) in
    λ e. i.older e ∙ ap made_in none
