use Rattle.std.proofs.Common.{◌≡◌, ◌≤◌, ◌∷◌, [], ◌++◌, length, map, refl, sym, ap, ◌∙◌, arith, append_assoc, subst}
use Rattle.std.proofs.lemmas.List.Sums.{sum_by-cons}
use Rattle.std.specs.List.{sum_by}
use Rattle.std.specs.Vec.Iter.{into_iter_items}
use Rattle.sdd_world.specs.State.{status_at, vacancy}
use Rattle.sdd_world.specs.Steps.{times}
use Rattle.sdd_world.specs.Tokens.{kept_slot}
use Rattle.version_drafts.specs.Parts.{blocks_of_parts, made_in, makes, part_blocks, segments_in}
use Rattle.version_drafts.proofs.CuttingLemmas.{blocks_behind, made_behind}
use Rattle.local_versions.specs.Placing.{CanTakeOver, HasPlaced, StandsIn, blocks_at, older_slot, part_slots, slots_at, taken_slots}
use Rattle.local_versions.proofs.PlacingLemmas.{stands_none}
use Rattle.local_versions.proofs.StretchPlacingLemmas.{next_there, rest_there, slots_still, taken_fore}
use Rattle.local_versions.proofs.TakingLemmas.{owners_still, stands_part, times_both}
use Rattle.local_versions.proofs.placing.place_parts.Goals as goal

pub loop-part-init : goal.loop-part-init
loop-part-init g c =
    let w = c.args.w.now in
    let older = older_slot c.args.older in
    let all : into_iter_items c.into_iter-part-iterator.result ≡ c.args.parts.items = search in
    let none = ap length c.requires.empty in
    record {
      whole = all;
      counted = search;
      stands = subst (λ owners. StandsIn 0 (map kept_slot owners) [] w w) (sym c.requires.empty) (stands_none w);
      room = omega (arith, none, c.requires.room, ap segments_in all);
      free = subst (λ ps. made_in ps ≤ sum_by vacancy w.states) (sym all) c.requires.free;
      once = λ j. subst (λ ps. times j (taken_slots (slots_at w older) ps) ≤ 1) (sym all) (c.requires.once j);
      there = subst (CanTakeOver w older) (sym all) c.requires.there;
      still = λ j some. refl;
    }

pub place_part-requires : goal.place_part-requires
place_part-requires g c =
    let i = c.loop-part.invariant in
    let u = c.args.w.now in
    let v = c.loop-part.w in
    let older = older_slot c.args.older in
    let slots = slots_at u older in
    let step = rw c.in-Some.is at c.next.ensures.steps in
    let part = c.in-Some.part in
    let rest = into_iter_items c.next.new.self in
    let there = subst (CanTakeOver u older) step.0 i.there in
    let same = slots_still u v _ _ _ i.stands older there.there in
    let still = λ (j : _). subst (λ ps. 1 ≤ times j (taken_slots slots ps) → status_at v j ≡ status_at u j) step.0 (i.still j) in
    let once = λ (j : _). let o = subst (λ ps. times j (taken_slots slots ps) ≤ 1) step.0 (i.once j) in let both = times_both j (part_slots slots part) (taken_slots slots rest) in subst (λ is. times j (part_slots is part) ≤ 1) (sym same) (omega (arith, o, both)) in
    let sum = sum_by-cons makes part rest in
    (omega arith, (omega (arith, i.room, ap segments_in step.0), (omega (arith, i.free, ap made_in step.0, sum), (once, next_there u v older _ _ _ i.stands part rest there still))))

pub loop-part-preserved : goal.loop-part-preserved
loop-part-preserved g c =
    let i = c.loop-part.invariant in
    let u = c.args.w.now in
    let v = c.loop-part.w in
    let w = c.place_part.new.w in
    let older = older_slot c.args.older in
    let slots = slots_at u older in
    let step = rw c.in-Some.is at c.next.ensures.steps in
    let owners = c.loop-part.owners.items in
    let part = c.in-Some.part in
    let yielded = c.loop-part.yielded in
    let rest = into_iter_items c.next.new.self in
    let there = subst (CanTakeOver u older) step.0 i.there in
    let still = λ (j : _). subst (λ ps. 1 ≤ times j (taken_slots slots ps) → status_at v j ≡ status_at u j) step.0 (i.still j) in
    let once = λ (j : _). subst (λ ps. times j (taken_slots slots ps) ≤ 1) step.0 (i.once j) in
    let same = slots_still u v _ _ _ i.stands older there.there in
    let placed = c.place_part.ensures.placed in
    let has : HasPlaced slots part placed.0 v w = subst (λ is. HasPlaced is part placed.0 v w) same placed.2 in
    let behind = rest_there u v older _ _ _ i.stands part rest there in
    let stands = stands_part u slots _ v w _ placed.0 _ i.stands part (taken_fore u older part rest there) has in
    let made = made_behind yielded part in
    let blocks = blocks_behind (blocks_at u older) yielded part in
    let before = i.stands.adds.frees in
    let after = stands.adds.frees in
    let left = ap made_in step.0 in
    let sum = sum_by-cons makes part rest in
    record {
      whole = append_assoc yielded (part ∷ []) rest ∙ ap (λ r. yielded ++ r) (sym step.0) ∙ i.whole;
      counted = omega (arith, step.1, i.counted, ap length step.0);
      stands = subst (λ xs. StandsIn (made_in (yielded ++ part ∷ [])) xs (blocks_of_parts (blocks_at u older) (yielded ++ part ∷ [])) u w) (sym placed.1) (subst (λ bs. StandsIn (made_in (yielded ++ part ∷ [])) (map kept_slot owners ++ placed.0) bs u w) (sym blocks) (subst (λ m. StandsIn m (map kept_slot owners ++ placed.0) (blocks_of_parts (blocks_at u older) yielded ++ part_blocks (blocks_at u older) part) u w) (sym made) stands));
      room = omega (arith, i.room, c.place_part.ensures.long, ap segments_in step.0, c.place_part.ensures.room);
      free = (let free = i.free in omega (arith, free, before, after, left, sum));
      once = λ j. let o = once j in let both = times_both j (part_slots slots part) (taken_slots slots rest) in omega (arith, o, both);
      there = behind;
      still = owners_still u slots _ v _ _ i.stands part rest still w placed.0 behind.segments once has;
    }
