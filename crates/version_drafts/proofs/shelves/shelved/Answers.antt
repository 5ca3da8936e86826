use Rattle.std.proofs.Common.{◌≡◌, ◌≤◌, ◌++◌, ◌∷◌, [], length, sym, ap, ◌∙◌, append_assoc, append-nil, subst, arith}
use Rattle.std.proofs.lemmas.List.Elements.{All-head, All-tail}
use Rattle.std.proofs.lemmas.Result.{IfOk-weaker}
use Rattle.std.specs.List.{All}
use Rattle.std.specs.Vec.Iter.{into_iter_items}
use Rattle.version_drafts.specs.Parts.{LiesWithin, blocks_of_parts, made_in, part_blocks}
use Rattle.version_drafts.specs.Shelves.{made_on_all}
use Rattle.version_drafts.proofs.CuttingLemmas.{made_behind}
use Rattle.version_drafts.proofs.ShelfLemmas.{both_have, given_none, given_part, no_length, shelving_none}
use Rattle.version_drafts.proofs.shelves.shelved.Goals as goal

pub loop-part-init : goal.loop-part-init
loop-part-init g c =
    let blocks = c.args.old.now in
    let ends = c.args.rows.now.ends.items in
    let out = c.in_ok-out.out in
    let none = c.in_ok-out.ensures in
    let all : into_iter_items c.into_iter-part-iterator.result ≡ c.args.segments.parts.items = search in
    record {
      all = all;
      counted = search;
      whole = shelving_none blocks ends out none.rows none.greatest none.ends none.count none.parts none.keys;
      given = given_none blocks ends out none.rows none.parts;
      trees = (let rows = ap made_on_all none.rows in let made = ap made_in none.parts in omega (arith, rows, made));
      within = subst (All (LiesWithin (length blocks))) (sym all) c.requires.within;
      some = subst (λ ps. All (λ b. 1 ≤ length b) (blocks_of_parts blocks ps)) (sym all) c.requires.some;
    }

pub put_part-requires-clause-within : goal.put_part-requires-clause-within
put_part-requires-clause-within g c =
    let step = rw c.in-Some.is at c.next.ensures.steps in
    All-head (LiesWithin (length c.args.old.now)) c.in-Some.part (into_iter_items c.next.new.self) (subst (All (LiesWithin (length c.args.old.now))) step.0 c.loop-part.invariant.within)

pub put_part-requires-clause-some : goal.put_part-requires-clause-some
put_part-requires-clause-some g c =
    let blocks = c.args.old.now in
    let step = rw c.in-Some.is at c.next.ensures.steps in
    (both_have (λ b. 1 ≤ length b) (part_blocks blocks c.in-Some.part) (blocks_of_parts blocks (into_iter_items c.next.new.self)) (subst (λ ps. All (λ b. 1 ≤ length b) (blocks_of_parts blocks ps)) step.0 c.loop-part.invariant.some)).0

pub loop-part-preserved : goal.loop-part-preserved
loop-part-preserved g c =
    let blocks = c.args.old.now in
    let ends = c.args.rows.now.ends.items in
    let i = c.loop-part.invariant in
    let part = c.in-Some.part in
    let rest = into_iter_items c.next.new.self in
    let step = rw c.in-Some.is at c.next.ensures.steps in
    let yielded = c.loop-part.yielded in
    let taken = c.in_ok-put_part.ensures in
    record {
      all = append_assoc yielded (part ∷ []) rest ∙ ap (λ r. yielded ++ r) (sym step.0) ∙ i.all;
      counted = omega (arith, step.1, i.counted, ap length step.0);
      whole = taken.whole;
      given = given_part blocks ends c.loop-part.out c.put_part.new.out yielded part i.given taken;
      trees = (let more = taken.trees in let before = i.trees in let made = made_behind yielded part in omega (arith, more, before, made));
      within = All-tail (LiesWithin (length blocks)) part rest (subst (All (LiesWithin (length blocks))) step.0 i.within);
      some = (both_have (λ b. 1 ≤ length b) (part_blocks blocks part) (blocks_of_parts blocks rest) (subst (λ ps. All (λ b. 1 ≤ length b) (blocks_of_parts blocks ps)) step.0 i.some)).1;
    }

pub returns-clause-given : goal.returns-clause-given
returns-clause-given g c =
    let blocks = c.args.old.now in
    let ends = c.args.rows.now.ends.items in
    let i = c.loop-part.invariant in
    let none = no_length (into_iter_items c.loop-part.part-iterator) (omega (arith, i.counted, c.in-None.ensures.steps.0)) in
    let all = sym (append-nil c.loop-part.yielded) ∙ ap (λ r. c.loop-part.yielded ++ r) (sym none) ∙ i.all in
    IfOk-weaker c.into_directory.result _ _
    (λ _ whole. (whole blocks ends i.whole).given ∙ i.given ∙ ap (blocks_of_parts blocks) all)
    c.into_directory.ensures.whole

pub returns-clause-made : goal.returns-clause-made
returns-clause-made g c =
    let blocks = c.args.old.now in
    let ends = c.args.rows.now.ends.items in
    let i = c.loop-part.invariant in
    let none = no_length (into_iter_items c.loop-part.part-iterator) (omega (arith, i.counted, c.in-None.ensures.steps.0)) in
    let all = sym (append-nil c.loop-part.yielded) ∙ ap (λ r. c.loop-part.yielded ++ r) (sym none) ∙ i.all in
    IfOk-weaker c.into_directory.result _ _
    (λ _ whole. (whole blocks ends i.whole).trees ∙ i.trees ∙ ap made_in all)
    c.into_directory.ensures.whole

pub returns-clause-rowed : goal.returns-clause-rowed
returns-clause-rowed g c = IfOk-weaker c.into_directory.result _ _ (λ _ whole. (whole c.args.old.now c.args.rows.now.ends.items c.loop-part.invariant.whole).rowed) c.into_directory.ensures.whole

pub returns-clause-there : goal.returns-clause-there
returns-clause-there g c = IfOk-weaker c.into_directory.result _ _ (λ _ whole. (whole c.args.old.now c.args.rows.now.ends.items c.loop-part.invariant.whole).there) c.into_directory.ensures.whole
