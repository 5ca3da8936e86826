use Rattle.world_containers.proofs.Names.{List, [], ◌∷◌, ◌∙◌, sym, subst, ℕ, shared_cell, IsShared, Entry, IsStack, entry_link, item_shared, can_hang, still_hung, new_fits, put_leaves, same_use}
use Rattle.sdd_world.specs.declared.tag.Tag.TheVariants as tag
use Rattle.world_containers.proofs.world.stack.push.Goals as goal

pub put_first-requires : goal.put_first-requires
put_first-requires g c = let a = c.in-Ok in can_hang c.args.w.now c.make.new.w a.ensures.leaves (shared_cell c.args.stack.now.newest) _ _ tag.None c.args.value c.requires.entries c.requires.is a.ensures.made a.ensures.both

pub returns-in-Ok-clause-pushed : goal.returns-in-Ok-clause-pushed
returns-in-Ok-clause-pushed g c =
    let a = c.in-Ok.ensures in
    let m = a.made in
    let at = shared_cell c.args.stack.now.newest in
    let put = λ (es : List (Entry _)) (h : IsStack c.args.w.now at es). c.put_first.ensures.put tag.None es m.entry (still_hung c.args.w.now c.make.new.w a.leaves at tag.None es h) m.loose (new_fits c.args.w.now at tag.None c.args.value m.entry es h m.new) (a.both ∙ m.at) in
    record {
      entry = m.entry;
      new = m.new;
      at = m.at;
      owners = same_use c.make.new.w c.put_first.new.w (at ∷ m.entry.link ∷ []) c.in-Ok.entry.slot 2 (put c.requires.entries c.requires.is).1 a.two;
      puts = λ es h. (put es h).0;
    }

pub returns-in-Ok-clause-live : goal.returns-in-Ok-clause-live
returns-in-Ok-clause-live g c =
    let p = returns-in-Ok-clause-pushed g c in
    let h = p.puts c.requires.entries c.requires.is in
    subst (λ (i : ℕ). IsShared c.put_first.new.w i) (sym p.at) (item_shared entry_link c.put_first.new.w p.entry h.1)

pub returns-in-Ok-clause-list : goal.returns-in-Ok-clause-list
returns-in-Ok-clause-list g c = let p = returns-in-Ok-clause-pushed g c in record { entries = p.entry ∷ c.requires.entries; is = p.puts c.requires.entries c.requires.is }

pub returns-in-Ok-clause-leaves : goal.returns-in-Ok-clause-leaves
returns-in-Ok-clause-leaves g c =
    let a = c.in-Ok.ensures in
    let m = a.made in
    let es = c.requires.entries in
    let h = c.requires.is in
    let put = c.put_first.ensures.put tag.None es m.entry (still_hung c.args.w.now c.make.new.w a.leaves (shared_cell c.args.stack.now.newest) tag.None es h) m.loose (new_fits c.args.w.now (shared_cell c.args.stack.now.newest) tag.None c.args.value m.entry es h m.new) (a.both ∙ m.at) in
    put_leaves c.args.w.now c.make.new.w a.leaves c.put_first.new.w (shared_cell c.args.stack.now.newest) m.entry.link put.1 m.new.link.1
