use Rattle.std.proofs.Common.{◌≡◌, ◌<◌, ◌≤◌, ◌==◌, ◌+◌, ◌^◌, ◌∷◌, [], cond, true, List, map, ap, sym, ◌∙◌, subst}
use Rattle.std.specs.VecDeque.{deque_capacity}
use Rattle.atomic_table.specs.Seated.{TableId}
use Rattle.atomic_table.specs.Table.{Me}
use Rattle.sdd_plain.specs.declared.sizes.Sizes.{Sizes}
use Rattle.sdd_plain.specs.declared.local_state.LocalState.{LocalState}
use Rattle.sdd_steps.specs.declared.participant.Phase.TheVariants.{Idle, Opened}
use Rattle.domain_table.specs.Contents.{is_blank}
use Rattle.domain_table.specs.Ledgers.{WaitsIn}
use Rattle.domain_table.specs.Layout.{claim_word}
use Rattle.domain_table.specs.Leases.{life_number, lease_told, row_slots, all_below, leased_homes, has_all}
use Rattle.domain_table.specs.Plays.{own_spare}
use Rattle.domain_table.specs.declared.board.Acting.{Acting}
use Rattle.domain_garbage.specs.Bag.{bag_in}
use Rattle.sdd_domain.proofs.private_collector.PrivateCollector.hand_over.Goals as goal

pub invariant_of-local : goal.invariant_of-local
invariant_of-local g c = let l = c.args.local.now in let d = l.seat.me.0 in let ws0 = bag_in c.args.self.calm.badge.views in let m2 = c.hand_all.new.seat.me in let h = c.hand_all.ensures.handed in let bags = c.hand_all.new.bags in
    let is : m2 ≡ (record d { collected = []; waits = h.0 }, l.seat.me.1) = h.2 ∙ ap (λ (z : Me _ Acting). (record z.0 { collected = []; waits = h.0 }, z.1)) (c.take_bag.ensures.taken ws0 c.args.self.at) in
    let sizes : m2.0.sizes ≡ c.place-place.result.sizes.now = ap (λ (z : Me _ Acting). z.0.sizes) is ∙ (ap (λ (t : TableId × Sizes). t.1) c.requires.home ∙ (sym c.args.domain.now.sized.0 ∙ sym c.place-place.ensures.sizes)) in
    let own = c.flag_waiting.ensures c.place-place.result.sizes.now.slots m2.0.waits c.hand_all.ensures.waits in let table = c.hand_all.ensures.seat.0 ∙ c.take_bag.ensures.seat.0 in record {
      acts = (
        ap (λ (z : Me _ Acting). z.0.kind) is ∙ l.acts.0,
        ap (λ (z : Me _ Acting). z.0.number) is ∙ l.acts.1,
        ap (λ (z : Me _ Acting). z.0.scan) is ∙ l.acts.2,
        l.acts.3,
        subst (λ (z : TableId). claim_word l.number < z.words) (sym table) l.acts.4,
        ap (λ (z : Me _ Acting). z.0.releasing) is ∙ l.acts.5,
      );
      has_spare = (ap (λ (z : Me _ Acting). z.0.spare) is ∙ l.has_spare.0, l.has_spare.1, subst (λ (z : Me _ Acting). has_all is_blank (own_spare z.0 l.spare ∷ leased_homes z.0 z.0.leases) z.1 ≡ true) (sym is) l.has_spare.2);
      lends = (
        l.lends.0 ∙ sym (ap (λ (z : Me _ Acting). map (lease_told (life_number l.life)) z.0.leases) is),
        subst (λ (z : Me _ Acting). z.0.sizes.slots ≤ deque_capacity l.rows) (sym is) l.lends.1,
        subst (λ (z : Me _ Acting). all_below z.0.sizes.slots (row_slots l.rows.items) ≡ true) (sym is) l.lends.2,
      );
      shut = λ e. (ap (λ (z : LocalState). z.nesting) own ∙ (l.shut e).0, ap (λ (z : Me _ Acting). z.0.leases) is ∙ (l.shut e).1);
      alive = λ f e. subst (λ (z : LocalState). (0 < z.nesting) × (f.count + z.nesting ≡ 2 ^ 63)) (sym own) (l.alive f e);
      phase = ap (λ (z : Me _ Acting). z.0.known.phase) is ∙ (l.phase ∙ ap (λ (z : LocalState). cond (z.nesting == 0) Idle (Opened z.previous)) (sym own));
      found = ap (λ (z : Me _ Acting). z.0.known.found) is ∙ (l.found ∙ sym (ap (λ (z : LocalState). z.previous) own));
      noted = ap (λ (z : LocalState). z.published) own ∙ (l.noted ∙ sym (ap (λ (z : LocalState). z.previous) own));
      fills = (ap (λ (z : Me _ Acting). z.0.filling) is ∙ l.fills.0, l.fills.1, subst (λ (z : Me _ Acting). l.number < z.0.sizes.participants) (sym is) l.fills.2);
      waits = (subst (λ (z : Sizes). WaitsIn z.slots m2.0.waits bags) (sym sizes) c.hand_all.ensures.waits, c.hand_all.ensures.bags ∙ l.waits.1);
    }
