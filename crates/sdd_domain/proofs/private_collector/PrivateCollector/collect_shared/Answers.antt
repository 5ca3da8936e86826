use Rattle.std.proofs.Common.{refl, ◌≡◌, ◌<◌, ◌≤◌, ◌==◌, ◌+◌, ◌^◌, cond, true, List, ◌∷◌, map, ap, sym, ◌∙◌, subst, arith}
use Rattle.std.specs.VecDeque.{deque_capacity}
use Rattle.atomic_table.specs.Seated.{TableId}
use Rattle.atomic_table.specs.Table.{Me}
use Rattle.sdd_plain.specs.declared.sizes.Sizes.{Sizes}
use Rattle.sdd_plain.specs.declared.local_state.LocalState.{LocalState}
use Rattle.sdd_steps.specs.declared.participant.Phase.TheVariants.{Idle, Opened}
use Rattle.sdd_steps.specs.State.{Has}
use Rattle.sdd_homes.specs.declared.Garbage.{Garbage}
use Rattle.sdd_homes.specs.declared.Lease.{Lease}
use Rattle.domain_table.specs.Ledgers.{WaitsIn}
use Rattle.domain_table.specs.Views.{rereading}
use Rattle.sdd_domain.specs.Collecting.{IsSwept}
use Rattle.domain_table.specs.Layout.{claim_word}
use Rattle.domain_table.specs.Leases.{life_number, lease_told, row_slots, all_below}
use Rattle.domain_table.specs.declared.board.Acting.{Acting}
use Rattle.domain_table.proofs.Rows.{none_same}
use Rattle.domain_garbage.specs.Bag.{bag_in, garbage_told}
use Rattle.sdd_domain.proofs.Collected.{noted, all, at_last, spare_there, swept_told, put_told, kept_most}
use Rattle.sdd_domain.proofs.Handed.{owner}
use Rattle.sdd_domain.proofs.private_collector.PrivateCollector.collect_shared.Goals as goal

pub sweep-note-requires-clause-rows : goal.sweep-note-requires-clause-rows
sweep-note-requires-clause-rows g c = let l = c.args.local.now in let is = c.take_bag.ensures.taken (bag_in c.args.self.calm.badge.views) c.args.self.at in
    let sizes : l.seat.me.0.sizes ≡ c.place-place.result.sizes.now = ap (λ (t : TableId × Sizes). t.1) c.requires.home ∙ (sym c.args.domain.now.sized.0 ∙ sym c.place-place.ensures.sizes) in
    ((life_number l.life, l.lends.0 ∙ sym (ap (λ (z : Me _ Acting). map (lease_told (life_number l.life)) z.0.leases) is)), subst (λ (z : Sizes). all_below z.slots (row_slots l.rows.items) ≡ true) sizes l.lends.2)

pub invariant_of-local : goal.invariant_of-local
invariant_of-local g c = let l = c.args.local.now in let d = l.seat.me.0 in let ws0 = bag_in c.args.self.calm.badge.views in let o = owner c.args.shared in let m1 = c.take_bag.new.seat.me in let m2 : Me _ Acting = (record m1.0 { known = rereading c.sweep-note.result m1.0.known }, m1.1) in let m3 = c.sweep-note.new.seat.me in let m4 = c.take_in.new.seat.me in let m5 = c.put_in-last.new.seat.me in let m6 = c.part_bag-calm.new.seat.me in
    let s = c.sweep-note.ensures.swept in let taken = c.take_bag.ensures.taken ws0 c.args.self.at in let came = c.take_in.ensures.taken o c.args.shared.owns in let p = c.put_in-last.ensures.given o m3.0.hand (ap (λ (z : Me _ Acting). z.0.hand) came) in
    let is = all l c.sweep-note.result ws0 m1 m2 taken refl m3 s.0 s.1 s.2 s.3 s.4 s.5 o m4 m5 m6 came p.0 p.1 p.2 p.3 c.part_bag-calm.ensures.seat.2 in
    let same = at_last l c.sweep-note.result ws0 m1 m2 taken refl m3 s.0 s.1 s.2 s.3 s.4 s.5 o m4 m5 m6 came p.0 p.1 p.2 p.3 c.part_bag-calm.ensures.seat.2 in
    let rows = c.put_in-last.new.rows in let bags = c.sweep-note.new.bags in let own = c.flag_waiting.ensures c.place-place.result.sizes.now.slots m3.0.waits c.sweep-note.ensures.waits.0 in
    let table = c.part_bag-calm.ensures.seat.0 ∙ (c.put_in-last.ensures.seat.0 ∙ (c.take_in.ensures.seat.0 ∙ (c.sweep-note.ensures.seat.0 ∙ c.take_bag.ensures.seat.0))) in record {
      acts = (
        ap (λ (z : Me _ Acting). z.0.kind) is ∙ l.acts.0,
        ap (λ (z : Me _ Acting). z.0.number) is ∙ l.acts.1,
        ap (λ (z : Me _ Acting). z.0.scan) is ∙ l.acts.2,
        l.acts.3,
        subst (λ (z : TableId). claim_word l.number < z.words) (sym table) l.acts.4,
        ap (λ (z : Me _ Acting). z.0.releasing) is ∙ l.acts.5,
      );
      has_spare = (ap (λ (z : Me _ Acting). z.0.spare) is ∙ l.has_spare.0, l.has_spare.1, spare_there l c.sweep-note.result ws0 m1 m2 taken refl m3 s.0 s.1 s.2 s.3 s.4 s.5 o m4 m5 m6 came p.0 p.1 p.2 p.3 c.part_bag-calm.ensures.seat.2);
      lends = (
        c.put_in-last.ensures.rows (life_number l.life) (c.sweep-note.ensures.rows.0 (life_number l.life) (l.lends.0 ∙ sym (ap (λ (z : Me _ Acting). map (lease_told (life_number l.life)) z.0.leases) (noted l c.sweep-note.result ws0 m1 m2 taken refl)))
            ∙ sym (ap (λ (z : Me _ Acting). map (lease_told (life_number l.life)) z.0.leases) came)) ∙ sym (ap (λ (z : Me _ Acting). map (lease_told (life_number l.life)) z.0.leases) c.part_bag-calm.ensures.seat.2),
        subst (λ (z : Me _ Acting). z.0.sizes.slots ≤ deque_capacity rows) (sym is) (subst (λ n. d.sizes.slots ≤ n) (sym (c.put_in-last.ensures.same.0 ∙ c.sweep-note.ensures.rows.1)) l.lends.1),
        subst (λ (z : Me _ Acting). all_below z.0.sizes.slots (row_slots rows.items) ≡ true) (sym is) (ap (all_below d.sizes.slots) (c.put_in-last.ensures.same.1 ∙ c.sweep-note.ensures.rows.2) ∙ l.lends.2),
      );
      shut = λ e. (ap (λ (z : LocalState). z.nesting) own ∙ (l.shut e).0, ap (λ (z : Me _ Acting). z.0.leases) is ∙ none_same p.1 (same ∙ ap (map (λ (x : Lease). x.slot)) (l.shut e).1));
      alive = λ f e. subst (λ (z : LocalState). (0 < z.nesting) × (f.count + z.nesting ≡ 2 ^ 63)) (sym own) (l.alive f e);
      phase = ap (λ (z : Me _ Acting). z.0.known.phase) is ∙ (l.phase ∙ ap (λ (z : LocalState). cond (z.nesting == 0) Idle (Opened z.previous)) (sym own));
      found = ap (λ (z : Me _ Acting). z.0.known.found) is ∙ (l.found ∙ sym (ap (λ (z : LocalState). z.previous) own));
      noted = ap (λ (z : LocalState). z.published) own ∙ (l.noted ∙ sym (ap (λ (z : LocalState). z.previous) own));
      fills = (ap (λ (z : Me _ Acting). z.0.filling) is ∙ l.fills.0, l.fills.1, subst (λ (z : Me _ Acting). l.number < z.0.sizes.participants) (sym is) l.fills.2);
      waits = (subst (λ (z : Me _ Acting). WaitsIn z.0.sizes.slots z.0.waits bags) (sym is) (subst (λ (z : Sizes). WaitsIn z.slots s.1 bags) (sym (ap (λ (t : TableId × Sizes). t.1) c.requires.home ∙ (sym c.args.domain.now.sized.0 ∙ sym c.place-place.ensures.sizes))) (subst (λ (zs : List Garbage). WaitsIn c.place-place.result.sizes.now.slots zs bags) (ap (λ (z : Me _ Acting). z.0.waits) s.5) c.sweep-note.ensures.waits.0)), c.sweep-note.ensures.waits.1 ∙ l.waits.1);
    }

pub returns-clause-held : goal.returns-clause-held
returns-clause-held g c = let ws0 = bag_in c.args.self.calm.badge.views in let m1 = c.take_bag.new.seat.me in let m3 = c.sweep-note.new.seat.me in let m4 = c.take_in.new.seat.me in let m5 = c.put_in-last.new.seat.me in
    let taken = c.take_bag.ensures.taken ws0 c.args.self.at in let born = ap (λ (z : Me _ Acting). z.0.born) taken in let least = c.sweep-note.ensures.least in let most = c.sweep-note.ensures.most in
    let note = c.sweep-note.result in let was : m1.0.collected ≡ ws0 = ap (λ (z : Me _ Acting). z.0.collected) taken in let old = m3.0.collected in
    let came : m4.0.collected ≡ old = ap (λ (z : Me _ Acting). z.0.collected) (c.take_in.ensures.taken (owner c.args.shared) c.args.shared.owns) in (
      note,
      map garbage_told old,
      subst (λ (ws : List Garbage). IsSwept note (map garbage_told ws) (map garbage_told old)) was (swept_told note m1.0.collected old c.sweep-note.ensures.left),
      ap (λ (vs : List Acting). map garbage_told (bag_in vs)) c.part_bag-calm.ensures.bag.1 ∙ (put_told c.put_in-last.result (c.args.shared.slot, note) m4.0.collected m5.0.collected c.put_in-last.ensures.last c.put_in-last.ensures.more ∙ ap (λ (ws : List Garbage). cond c.put_in-last.result ((c.args.shared.slot, note) ∷ map garbage_told ws) (map garbage_told ws)) came),
      omega arith,
      omega arith,
    )

pub put_in-last-requires-clause-most : goal.put_in-last-requires-clause-most
put_in-last-requires-clause-most g c = λ w has. let m1 = c.take_bag.new.seat.me in let m3 = c.sweep-note.new.seat.me in let came = ap (λ (z : Me _ Acting). z.0.collected) (c.take_in.ensures.taken (owner c.args.shared) c.args.shared.owns) in
    kept_most c.sweep-note.result m1.0.collected m3.0.collected c.sweep-note.ensures.left c.sweep-note.ensures.noted_most w (subst (λ (ws : List Garbage). Has ws w) came has)
