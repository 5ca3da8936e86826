use Rattle.world_containers.proofs.Names.{◌≡◌, List, [], ◌∷◌, refl, subst, ℕ, status_at, shared_cell, Entry, IsStack, can_hang, still_hung, new_fits, put_leaves, same_use}
use Rattle.sdd_world.specs.declared.status.Status.TheVariants as status
use Rattle.sdd_world.specs.declared.tag.Tag.TheVariants as tag
use Rattle.world_containers.proofs.world.row.put.Goals as goal

pub put_first-requires : goal.put_first-requires
put_first-requires g c = let a = c.in-Ok in can_hang c.args.w.now c.make_one.new.w a.ensures.leaves (shared_cell c.args.cell.now) _ _ tag.None c.args.value c.requires.entries c.requires.is a.ensures.made refl

pub returns-in-Ok-clause-put : goal.returns-in-Ok-clause-put
returns-in-Ok-clause-put g c =
    let a = c.in-Ok.ensures in
    let m = a.made in
    let at = shared_cell c.args.cell.now in
    let put = λ (es : List (Entry _)) (h : IsStack c.args.w.now at es). c.put_first.ensures.put tag.None es m.entry (still_hung c.args.w.now c.make_one.new.w a.leaves at tag.None es h) m.loose (new_fits c.args.w.now at tag.None c.args.value m.entry es h m.new) m.at in
    record {
      entry = m.entry;
      new = m.new;
      owners = same_use c.make_one.new.w c.put_first.new.w (at ∷ m.entry.link ∷ []) m.entry.slot 1 (put c.requires.entries c.requires.is).1 (subst (λ (i : ℕ). status_at c.make_one.new.w i ≡ status.Shared 1) m.at a.one);
      puts = λ es h. (put es h).0;
    }

pub returns-in-Ok-clause-leaves : goal.returns-in-Ok-clause-leaves
returns-in-Ok-clause-leaves g c =
    let a = c.in-Ok.ensures in
    let m = a.made in
    let at = shared_cell c.args.cell.now in
    let es = c.requires.entries in
    let put = c.put_first.ensures.put tag.None es m.entry (still_hung c.args.w.now c.make_one.new.w a.leaves at tag.None es c.requires.is) m.loose (new_fits c.args.w.now at tag.None c.args.value m.entry es c.requires.is m.new) m.at in
    put_leaves c.args.w.now c.make_one.new.w a.leaves c.put_first.new.w at m.entry.link put.1 m.new.link.1
