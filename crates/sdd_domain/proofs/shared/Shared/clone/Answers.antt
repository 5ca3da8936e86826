use Rattle.std.proofs.Common.{◌≡◌, ◌<◌, ◌≤◌, true, List, ◌∷◌, map, drop, ap, sym, ◌∙◌, subst}
use Rattle.std.specs.VecDeque.{deque_capacity}
use Rattle.atomic_table.specs.Seated.{TableId}
use Rattle.atomic_table.specs.Table.{Me}
use Rattle.sdd_homes.specs.declared.Lease.{Lease}
use Rattle.domain_table.specs.Ledgers.{WaitsIn}
use Rattle.domain_table.specs.Contents.{is_blank}
use Rattle.domain_table.specs.Layout.{claim_word}
use Rattle.domain_table.specs.Leases.{lease_told, life_number, leased_homes, has_all, row_slots, all_below}
use Rattle.domain_table.specs.Plays.{own_spare, others_in}
use Rattle.domain_table.specs.declared.board.Acting.{Acting}
use Rattle.sdd_domain.proofs.Handed.{owner, mine, first, told, same_slots}
use Rattle.domain_table.proofs.Rows.{same_homes, none_same}
use Rattle.sdd_domain.proofs.shared.Shared.clone.Goals as goal

-- the owner is in hand twice, and then once
pub part_with-other-requires-clause-owner : goal.part_with-other-requires-clause-owner
part_with-other-requires-clause-owner g c = let l = c.args.local.now in let s = c.args.self in let f = first l s c.take_in.new.seat.me c.take_in.ensures.taken in
    (owner s, l.seat.me.0.hand, ap (λ (z : Me _ Acting). z.0.hand) c.part_with-calm.ensures.seat.2 ∙ ap (λ (z : Me _ Acting). drop 1 z.0.hand) (c.in-Some.ensures.cloned.2 (owner s) l.seat.me.0.hand f).1)

pub part_with-calm-requires-in-None-clause-owner : goal.part_with-calm-requires-in-None-clause-owner
part_with-calm-requires-in-None-clause-owner g c = let l = c.args.local.now in let s = c.args.self in
    (owner s, l.seat.me.0.hand, ap (λ (z : Me _ Acting). z.0.hand) c.in-None.ensures.refused ∙ first l s c.take_in.new.seat.me c.take_in.ensures.taken)

pub invariant_of-local : goal.invariant_of-local
invariant_of-local g c = let l = c.args.local.now in let d = l.seat.me.0 in let s = c.args.self in let m1 = c.take_in.new.seat.me in let taken = c.take_in.ensures.taken in let made = c.in-Some.ensures.cloned in let ls : List Lease = made.0 in let rows = c.clone.new.rows in
    let twice = (made.2 (owner s) d.hand (first l s m1 taken)).1 in
    let all : c.part_with-other.new.seat.me ≡ (record d { leases = ls }, l.seat.me.1) = c.part_with-other.ensures.seat.2 ∙ (ap (λ (z : Me _ Acting). (others_in z.0, z.1)) c.part_with-calm.ensures.seat.2
    ∙ (ap (λ (z : Me _ Acting). (others_in (others_in z.0), z.1)) twice ∙ ap (λ (z : Me _ Acting). (record z.0 { hand = d.hand; leases = ls }, z.1)) (mine l s m1 taken))) in
    let slots = same_slots l s m1 taken ls made.1 in let table = c.part_with-other.ensures.seat.0 ∙ (c.part_with-calm.ensures.seat.0 ∙ (c.clone.ensures.seat.0 ∙ c.take_in.ensures.seat.0)) in record {
      acts = (
        ap (λ (z : Me _ Acting). z.0.kind) all ∙ l.acts.0,
        ap (λ (z : Me _ Acting). z.0.number) all ∙ l.acts.1,
        ap (λ (z : Me _ Acting). z.0.scan) all ∙ l.acts.2,
        l.acts.3,
        subst (λ (z : TableId). claim_word l.number < z.words) (sym table) l.acts.4,
        ap (λ (z : Me _ Acting). z.0.releasing) all ∙ l.acts.5,
      );
      has_spare = (
        ap (λ (z : Me _ Acting). z.0.spare) all ∙ l.has_spare.0,
        l.has_spare.1,
        subst (λ (z : Me _ Acting). has_all is_blank (own_spare z.0 l.spare ∷ leased_homes z.0 z.0.leases) z.1 ≡ true) (sym all)
            (ap (λ ks. has_all is_blank (own_spare d l.spare ∷ ks) l.seat.me.1) (same_homes d ls d.leases slots) ∙ l.has_spare.2),
      );
      lends = (
        c.in-Some.ensures.rows (life_number l.life) (told l s m1 taken (life_number l.life) l.lends.0) ∙ (ap (λ (z : Me _ Acting). map (lease_told (life_number l.life)) z.0.leases) twice ∙ sym (ap (λ (z : Me _ Acting). map (lease_told (life_number l.life)) z.0.leases) all)),
        subst (λ (z : Me _ Acting). z.0.sizes.slots ≤ deque_capacity rows) (sym all) (subst (λ n. d.sizes.slots ≤ n) (sym c.clone.ensures.same.0) l.lends.1),
        subst (λ (z : Me _ Acting). all_below z.0.sizes.slots (row_slots rows.items) ≡ true) (sym all) (ap (all_below d.sizes.slots) c.clone.ensures.same.1 ∙ l.lends.2),
      );
      shut = λ e. ((l.shut e).0, ap (λ (z : Me _ Acting). z.0.leases) all ∙ none_same ls (slots ∙ ap (map (λ (x : Lease). x.slot)) (l.shut e).1));
      alive = l.alive;
      phase = ap (λ (z : Me _ Acting). z.0.known.phase) all ∙ l.phase;
      found = ap (λ (z : Me _ Acting). z.0.known.found) all ∙ l.found;
      noted = l.noted;
      fills = (ap (λ (z : Me _ Acting). z.0.filling) all ∙ l.fills.0, l.fills.1, subst (λ (z : Me _ Acting). l.number < z.0.sizes.participants) (sym all) l.fills.2);
      waits = (subst (λ (z : Me _ Acting). WaitsIn z.0.sizes.slots z.0.waits l.bags) (sym all) l.waits.0, l.waits.1);
    }

-- where it wasn't raised the owner leaves the hand again
pub invariant_of-local-in-None : goal.invariant_of-local-in-None
invariant_of-local-in-None g c =
    let l = c.args.local.now in
    let d = l.seat.me.0 in
    let s = c.args.self in
    let rows = c.clone.new.rows in
    let taken = c.take_in.ensures.taken in
    let parted = c.part_with-calm-in-None.ensures.seat in
    let all : c.part_with-calm-in-None.new.seat.me ≡ l.seat.me = parted.2 ∙ ap (λ (z : Me _ Acting). (others_in z.0, z.1)) (c.in-None.ensures.refused ∙ mine l s c.take_in.new.seat.me taken) in
    let table = parted.0 ∙ (c.clone.ensures.seat.0 ∙ c.take_in.ensures.seat.0) in record {
      acts = (
        ap (λ (z : Me _ Acting). z.0.kind) all ∙ l.acts.0,
        ap (λ (z : Me _ Acting). z.0.number) all ∙ l.acts.1,
        ap (λ (z : Me _ Acting). z.0.scan) all ∙ l.acts.2,
        l.acts.3,
        subst (λ (z : TableId). claim_word l.number < z.words) (sym table) l.acts.4,
        ap (λ (z : Me _ Acting). z.0.releasing) all ∙ l.acts.5,
      );
      has_spare = (
        ap (λ (z : Me _ Acting). z.0.spare) all ∙ l.has_spare.0,
        l.has_spare.1,
        subst (λ (z : Me _ Acting). has_all is_blank (own_spare z.0 l.spare ∷ leased_homes z.0 z.0.leases) z.1 ≡ true) (sym all) l.has_spare.2,
      );
      lends = (
        c.clone.ensures.rows (life_number l.life) (told l s c.take_in.new.seat.me taken (life_number l.life) l.lends.0) ∙ sym (ap (λ (z : Me _ Acting). map (lease_told (life_number l.life)) z.0.leases) parted.2),
        subst (λ (z : Me _ Acting). z.0.sizes.slots ≤ deque_capacity rows) (sym all) (subst (λ n. d.sizes.slots ≤ n) (sym c.clone.ensures.same.0) l.lends.1),
        subst (λ (z : Me _ Acting). all_below z.0.sizes.slots (row_slots rows.items) ≡ true) (sym all) (ap (all_below d.sizes.slots) c.clone.ensures.same.1 ∙ l.lends.2),
      );
      shut = λ e. ((l.shut e).0, ap (λ (z : Me _ Acting). z.0.leases) all ∙ (l.shut e).1);
      alive = l.alive;
      phase = ap (λ (z : Me _ Acting). z.0.known.phase) all ∙ l.phase;
      found = ap (λ (z : Me _ Acting). z.0.known.found) all ∙ l.found;
      noted = l.noted;
      fills = (ap (λ (z : Me _ Acting). z.0.filling) all ∙ l.fills.0, l.fills.1, subst (λ (z : Me _ Acting). l.number < z.0.sizes.participants) (sym all) l.fills.2);
      waits = (subst (λ (z : Me _ Acting). WaitsIn z.0.sizes.slots z.0.waits l.bags) (sym all) l.waits.0, l.waits.1);
    }
