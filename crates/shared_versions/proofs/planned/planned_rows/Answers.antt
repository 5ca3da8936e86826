use Rattle.std.proofs.Common.{◌≡◌, ◌+◌, ◌++◌, ◌∷◌, [], List, length, map, sym, ap, ◌∙◌, append-nil, append_assoc, arith, subst}
use Rattle.std.specs.List.{All}
use Rattle.std.specs.Vec.Iter.{into_iter_items}
use Rattle.std.proofs.lemmas.List.{map-append}
use Rattle.std.proofs.lemmas.List.Elements.{All-head, All-tail}
use Rattle.std.proofs.lemmas.List.Sums.{sum_by-cons, sum_by_push}
use Rattle.version_drafts.specs.Shelves.{LiesOn, made_on, made_on_all, shelf_blocks}
use Rattle.version_views.specs.Items.{row_keys}
use Rattle.version_views.specs.declared.row.Row.{Row}
use Rattle.shared_versions.specs.Drafts.{planned_blocks, slots_on, slots_on_all}
use Rattle.shared_versions.specs.Nodes.{blocks_of, own_segments, rows_of}
use Rattle.shared_versions.proofs.OwnerLemmas.{no_length}
use Rattle.shared_versions.proofs.planned.planned_rows.Goals as goal

pub planned_row-requires-clause-lies : goal.planned_row-requires-clause-lies
planned_row-requires-clause-lies g c =
    let step = rw c.in-Some.is at c.next.ensures.steps in
    let ends = c.args.old.now.ends.items in
    let Lies = λ (r : Row _ _). LiesOn ends r.segments in
    let here = All-head Lies c.in-Some.row (into_iter_items c.next.new.self) (subst (All Lies) step.0 c.loop-row.invariant.lies) in
    subst (LiesOn ends) (sym (ap (λ (r : Row _ _). r.segments) c.into_parts-shelf.ensures)) here

-- a row more is planned
pub loop-row-preserved : goal.loop-row-preserved
loop-row-preserved g c =
    let i = c.loop-row.invariant in
    let step = rw c.in-Some.is at c.next.ensures.steps in
    let rest = into_iter_items c.next.new.self in
    let row = c.in-Some.row in
    let shelf = c.into_parts-shelf.result.0 in
    let keys = c.into_parts-shelf.result.1 in
    let is : row ≡ record { segments = shelf; separators = keys } = sym c.into_parts-shelf.ensures in
    let old = c.args.old.now in
    let planned_of = λ (r : Row _ _). planned_blocks (rows_of old) r.segments in
    let shelf_of = λ (r : Row _ _). shelf_blocks (blocks_of (own_segments c.args.own.now) old) r.segments in
    let rows = c.loop-row.rows.items in
    let new = c.new.result in
    let new_is = c.new.ensures in
    let longer = c.in_ok-push.ensures.items in
    let e = c.in_ok-segments.ensures in
    let lies = subst (All (λ (r : Row _ _). LiesOn old.ends.items r.segments)) step.0 i.lies in
    let made : made_on_all (into_iter_items c.loop-row.row-iterator) ≡ made_on row.segments + made_on_all rest = ap made_on_all step.0 ∙ sum_by-cons (λ (r : Row _ _). made_on r.segments) row rest in
    let made_is = ap (λ (r : Row _ _). made_on r.segments) is in
    let pushed = ap slots_on_all longer ∙ sum_by_push (λ (r : Row _ _). slots_on r.segments) rows new in
    let slots_is = ap (λ (r : Row _ _). slots_on r.segments) new_is in
    let sum = c.in-Some-checked_add.ensures.1 in
    record {
      counted = omega (arith, step.1, i.counted, ap length step.0);
      blocks =
          ap (λ rs. map planned_of rs ++ map shelf_of rest) longer
          ∙ ap (λ bs. bs ++ map shelf_of rest) (map-append planned_of rows (new ∷ []))
          ∙ append_assoc (map planned_of rows) (planned_of new ∷ []) (map shelf_of rest)
          ∙ ap (λ b. map planned_of rows ++ b ∷ map shelf_of rest) (ap planned_of new_is ∙ e.blocks ∙ sym (ap shelf_of is))
          ∙ ap (λ rs. map planned_of rows ++ map shelf_of rs) (sym step.0)
          ∙ i.blocks;
      keys =
          ap (λ rs. map row_keys rs ++ map row_keys rest) longer
          ∙ ap (λ ks. ks ++ map row_keys rest) (map-append row_keys rows (new ∷ []))
          ∙ append_assoc (map row_keys rows) (row_keys new ∷ []) (map row_keys rest)
          ∙ ap (λ k. map row_keys rows ++ k ∷ map row_keys rest) (ap row_keys new_is ∙ sym (ap row_keys is))
          ∙ ap (λ rs. map row_keys rows ++ map row_keys rs) (sym step.0)
          ∙ i.keys;
      lies = All-tail (λ (r : Row _ _). LiesOn old.ends.items r.segments) row rest lies;
      slots = omega (arith, i.slots, pushed, slots_is, e.slots, sum);
      few = omega (arith, i.few, made, made_is, e.few, sum);
    }

pub returns-clause-blocks : goal.returns-clause-blocks
returns-clause-blocks g c =
    let i = c.loop-row.invariant in
    let none = no_length (into_iter_items c.loop-row.row-iterator) (omega (arith, i.counted, c.in-None.ensures.steps.0)) in
    let planned = map (λ (r : Row _ _). planned_blocks (rows_of c.args.old.now) r.segments) c.loop-row.rows.items in
    sym (append-nil planned) ∙ ap (λ rs. planned ++ map (λ (r : Row _ _). shelf_blocks (blocks_of (own_segments c.args.own.now) c.args.old.now) r.segments) rs) (sym none) ∙ i.blocks

pub returns-clause-keys : goal.returns-clause-keys
returns-clause-keys g c =
    let i = c.loop-row.invariant in
    let none = no_length (into_iter_items c.loop-row.row-iterator) (omega (arith, i.counted, c.in-None.ensures.steps.0)) in
    let keys = map row_keys c.loop-row.rows.items in
    sym (append-nil keys) ∙ ap (λ rs. keys ++ map row_keys rs) (sym none) ∙ i.keys
