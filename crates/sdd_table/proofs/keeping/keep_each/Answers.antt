use Rattle.std.proofs.Common.{◌≡◌, ◌+◌, [], ◌∷◌, ◌++◌, append_assoc, get_or, length, length-append, map, set, take, refl, sym, ap, ◌∙◌, arith}
use Rattle.std.proofs.Math.ListN.{get_or-map as at_map}
use Rattle.std.proofs.lemmas.List.{length-map, map-append, take_more}
use Rattle.sdd_table.specs.State.{uses_alone}
use Rattle.sdd_table.specs.Tokens.{kept_slot}
use Rattle.sdd_table.specs.declared.status.Status.TheVariants as status
use Rattle.sdd_table.proofs.BagInvariantLemmas.{inside_by}
use Rattle.sdd_table.proofs.KeepingLemmas.{adds_kept, no_kept, read_shared, takes_kept}
use Rattle.sdd_table.proofs.keeping.keep_each.Goals as goal

pub index_mut-requires : goal.index_mut-requires
index_mut-requires c =
    let states = c.loop-kept.states.items in
    let next = takes_kept c.args.row.now c.loop-kept.kept-index c.loop-kept-test.true (uses_alone c.args.states.now.items) (uses_alone states) c.loop-kept.invariant.raised c.requires.takes in
    let inside = inside_by states _ (status.Shared next.0) (sym next.1) (λ e. cc) in
    omega (arith, inside, c.loop-kept.states.ok.0)

pub overflow_add-owners : goal.overflow_add-owners
overflow_add-owners c =
    let states = c.loop-kept.states.items in
    let next = takes_kept c.args.row.now c.loop-kept.kept-index c.loop-kept-test.true (uses_alone c.args.states.now.items) (uses_alone states) c.loop-kept.invariant.raised c.requires.takes in
    let read = read_shared states _ next.0 c.index_mut.result.now next.1 c.index_mut.ensures.value in
    let same : c.in-Shared.owners ≡ next.0 = cc in
    let few = next.2 in
    omega (arith, same, few)

pub unreachable-requires : goal.unreachable-requires
unreachable-requires c =
    let states = c.loop-kept.states.items in
    let next = takes_kept c.args.row.now c.loop-kept.kept-index c.loop-kept-test.true (uses_alone c.args.states.now.items) (uses_alone states) c.loop-kept.invariant.raised c.requires.takes in
    c.in_default.not-Shared next.0 (read_shared states _ next.0 c.index_mut.result.now next.1 c.index_mut.ensures.value)

pub loop-kept-preserved : goal.loop-kept-preserved
loop-kept-preserved c =
    let i = c.loop-kept.invariant in
    let row = c.args.row.now in
    let k = c.loop-kept.kept-index in
    let slot = kept_slot (get_or row k no_kept) in
    let states = c.loop-kept.states.items in
    let next = takes_kept row k c.loop-kept-test.true (uses_alone c.args.states.now.items) (uses_alone states) i.raised c.requires.takes in
    let read = read_shared states slot next.0 c.index_mut.result.now next.1 c.index_mut.ensures.value in
    let same : status.Shared next.0 ≡ status.Shared c.in-Shared.owners = sym read ∙ c.in-Shared.is in
    let raised = uses_alone (set states slot (status.Shared (c.in-Shared.owners + 1))) in
    let one = take_more (map kept_slot row) k 0 (omega (arith, c.loop-kept-test.true, length-map row kept_slot)) in
    let here = at_map kept_slot row k no_kept in
    let names = ap (map kept_slot) c.push_reserved.ensures.items ∙ map-append kept_slot c.loop-kept.into.items (get_or row k no_kept ∷ []) in
    record {
      owners = names ∙ (ap (λ xs. xs ++ slot ∷ []) i.owners ∙ (append_assoc (map kept_slot c.args.into.now.items) (take k (map kept_slot row)) (slot ∷ []) ∙ ap (λ xs. map kept_slot c.args.into.now.items ++ xs) (ap (λ x. take k (map kept_slot row) ++ x ∷ []) (sym here) ∙ sym one)));
      raised = adds_kept row k c.loop-kept-test.true (uses_alone c.args.states.now.items) (uses_alone states) raised i.raised (c.in-Shared.owners, next.1 ∙ same, refl);
      long = (let longer = ap length c.push_reserved.ensures.items ∙ length-append c.loop-kept.into.items (get_or row k no_kept ∷ []) in omega (arith, i.long, longer));
      room = omega (arith, i.room, c.push_reserved.ensures.capacity);
    }
