use Rattle.std.proofs.Common.{◌≡◌, ◌≤◌, ◌∷◌, [], ◌++◌, ◌+◌, length, map, sym, ap, ◌∙◌, arith, append_assoc, length-append, subst}
use Rattle.std.proofs.lemmas.List.{map-append, nil_from_length}
use Rattle.std.proofs.lemmas.List.Sums.{sum_by-append, sum_by-cons}
use Rattle.std.specs.List.{sum_by}
use Rattle.std.specs.Vec.Iter.{into_iter_items}
use Rattle.sdd_world.specs.Groups.{free_names, name_of}
use Rattle.sdd_world.specs.State.{vacancy}
use Rattle.sdd_world.specs.declared.groups.Group.{Group}
use Rattle.version_views.specs.Items.{names_of, row_keys}
use Rattle.version_views.specs.declared.row.Row.{Row}
use Rattle.version_drafts.specs.Shelves.{made_on, made_on_all, shelf_blocks}
use Rattle.version_drafts.specs.declared.shelves.Shelf.{Shelf}
use Rattle.local_versions.specs.Placing.{CanPlace, StandOn, StandsOn, blocks_at, older_slot}
use Rattle.local_versions.specs.Rooms.{RoomsFit, new_size, new_sizes}
use Rattle.local_versions.proofs.RowOnceLemmas.{next_placeable, next_stands}
use Rattle.local_versions.proofs.RowPlacingLemmas.{stand_none}
use Rattle.local_versions.proofs.RowRoomLemmas.{no_room}
use Rattle.local_versions.proofs.placing.place_rows.Goals as goal

pub loop-shelf-init : goal.loop-shelf-init
loop-shelf-init g c =
    let w = c.args.w.now in
    let all : into_iter_items c.into_iter-shelf-iterator.result ≡ c.args.shelves.items = search in
    let none = ap length c.requires.empty in
    record {
      whole = all;
      counted = search;
      stands = subst (λ rows. StandOn 0 (names_of rows) [] w w) (sym c.requires.empty) (stand_none w);
      keys = ap (map row_keys) c.requires.empty;
      many = none;
      room = omega (arith, none, c.requires.room, ap length all);
      rooms = subst (λ rows. RoomsFit c.args.rooms.items (new_sizes rows)) (sym all) c.requires.rooms;
      free = subst (λ rows. made_on_all rows ≤ sum_by vacancy w.states) (sym all) c.requires.free;
      names = subst (λ rows. length rows ≤ free_names w.groups) (sym all) c.requires.names;
    }

pub place_row-group-requires : goal.place_row-group-requires
place_row-group-requires g c =
    let cmp = g.K.Ord.cmp in
    let u = c.args.w.now in
    let v = c.loop-shelf.w in
    let older = older_slot c.args.older in
    let i = c.loop-shelf.invariant in
    let step = rw c.in-Some.is at c.next.ensures.steps in
    let shelf = c.in-Some.shelf in
    let rest = into_iter_items c.next.new.self in
    let segments = ap (λ (r : Row _ (Shelf _ _)). r.segments) c.into_parts-segments.ensures in
    let fits = subst (λ s. RoomsFit c.loop-shelf.rooms.items (new_size s ++ new_sizes rest)) (sym segments) (subst (λ rows. RoomsFit c.loop-shelf.rooms.items (new_sizes rows)) step.0 i.rooms) in
    let sum = sum_by-cons (λ (r : Row _ (Shelf _ _)). made_on r.segments) shelf rest in
    let one = ap made_on segments in
    let left = ap made_on_all step.0 in
    let free = i.free in
    let names = i.names in
    let fewer = ap length step.0 in
    let whole = ap (λ rows. c.loop-shelf.yielded ++ rows) (sym step.0) ∙ i.whole in
    let there = subst (CanPlace cmp v older) (sym segments) (next_placeable cmp u v older c.loop-shelf.yielded shelf _ _ i.stands c.requires.settled g.met.K.Ord.total rest c.args.shelves.items whole c.requires.rows c.laws.ensures) in
    (omega arith, ((new_sizes rest, fits), (omega (arith, sum, one, left, free), (omega (arith, names, fewer), there))))

pub loop-shelf-preserved : goal.loop-shelf-preserved
loop-shelf-preserved g c =
    let i = c.loop-shelf.invariant in
    let step = rw c.in-Some.is at c.next.ensures.steps in
    let shelf = c.in-Some.shelf in
    let rest = into_iter_items c.next.new.self in
    let segments = ap (λ (r : Row _ (Shelf _ _)). r.segments) c.into_parts-segments.ensures in
    let cmp = g.K.Ord.cmp in
    let u = c.args.w.now in
    let v = c.loop-shelf.w in
    let w = c.place_row-group.new.w in
    let older = older_slot c.args.older in
    let yielded = c.loop-shelf.yielded in
    let rows = c.loop-shelf.rows.items in
    let group = c.place_row-group.result in
    let row = c.new.result in
    let pushed = c.push_reserved.ensures.items in
    let fits = subst (λ s. RoomsFit c.loop-shelf.rooms.items (new_size s ++ new_sizes rest)) (sym segments) (subst (λ rows. RoomsFit c.loop-shelf.rooms.items (new_sizes rows)) step.0 i.rooms) in
    let on = subst (λ s. StandsOn (made_on s) (name_of group) (shelf_blocks (blocks_at v older) s) v w) segments c.place_row-group.ensures.stands in
    let all = next_stands cmp u v older yielded shelf _ _ i.stands c.requires.settled c.requires.rows.there (made_on shelf.segments) (name_of group) w on in
    let weigh = λ (r : Row _ (Shelf _ _)). made_on r.segments in
    let split = sum_by-append weigh yielded (shelf ∷ []) in
    let single = sum_by-cons weigh shelf [] in
    let made : made_on_all (yielded ++ shelf ∷ []) ≡ made_on_all yielded + made_on shelf.segments = omega (arith, split, single) in
    let names = ap names_of pushed ∙ map-append (λ (r : Row _ Group). name_of r.segments) rows (row ∷ []) ∙ ap (λ (r : Row _ Group). names_of rows ++ name_of r.segments ∷ []) c.new.ensures in
    let sum = sum_by-cons weigh shelf rest in
    let left = ap made_on_all step.0 in
    let before = i.stands.adds.frees in
    let after = all.adds.frees in
    let long = ap length pushed in
    let more = length-append rows (row ∷ []) in
    let count = length-append yielded (shelf ∷ []) in
    let fewer = ap length step.0 in
    record {
      whole = append_assoc yielded (shelf ∷ []) rest ∙ ap (λ r. yielded ++ r) (sym step.0) ∙ i.whole;
      counted = omega (arith, step.1, i.counted, fewer);
      stands = subst (λ gs. StandOn (made_on_all (yielded ++ shelf ∷ [])) gs (map (λ (r : Row _ (Shelf _ _)). shelf_blocks (blocks_at u older) r.segments) (yielded ++ shelf ∷ [])) u w) (sym names) (subst (λ n. StandOn n (names_of rows ++ name_of group ∷ []) (map (λ (r : Row _ (Shelf _ _)). shelf_blocks (blocks_at u older) r.segments) (yielded ++ shelf ∷ [])) u w) (sym made) all);
      keys =
          ap (map row_keys) pushed
          ∙ map-append row_keys rows (row ∷ [])
          ∙ ap (λ ks. ks ++ row_keys row ∷ []) i.keys
          ∙ ap (λ k. map row_keys yielded ++ k ∷ []) (ap row_keys c.new.ensures ∙ ap row_keys c.into_parts-segments.ensures)
          ∙ sym (map-append row_keys yielded (shelf ∷ []));
      many = omega (arith, long, more, count, i.many);
      room = omega (arith, i.room, fewer, long, more, c.push_reserved.ensures.capacity);
      rooms = c.place_row-group.ensures.left (new_sizes rest) fits;
      free = (let free = i.free in omega (arith, free, before, after, left, sum, made));
      names = (let some = i.names in let one = on.names in omega (arith, some, one, fewer));
    }

-- no room is left where no row is
pub destroy_empty-requires : goal.destroy_empty-requires
destroy_empty-requires g c =
    let rest = into_iter_items c.loop-shelf.shelf-iterator in
    let rooms = c.loop-shelf.rooms in
    let ended = c.in-None.ensures.steps.0 in
    let counted = c.loop-shelf.invariant.counted in
    let none : rest ≡ [] = nil_from_length rest (omega (arith, ended, counted)) in
    let empty = no_room rooms.items (subst (λ rows. RoomsFit rooms.items (new_sizes rows)) none c.loop-shelf.invariant.rooms) in
    let long = ap length empty in
    omega (arith, long, rooms.ok.0)
