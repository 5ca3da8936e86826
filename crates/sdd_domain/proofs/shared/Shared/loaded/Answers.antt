use Rattle.std.proofs.Common.{◌≡◌, ◌<◌, ◌≤◌, true, ◌∷◌, map, sym, ap, ◌∙◌, subst}
use Rattle.std.specs.VecDeque.{deque_capacity}
use Rattle.atomic_table.specs.Seated.{TableId}
use Rattle.atomic_table.specs.Table.{Me}
use Rattle.sdd_plain.specs.declared.sizes.Sizes.{Sizes}
use Rattle.domain_table.specs.Ledgers.{WaitsIn}
use Rattle.domain_table.specs.Contents.{is_blank}
use Rattle.domain_table.specs.Layout.{claim_word}
use Rattle.domain_table.specs.Leases.{lease_told, life_number, row_slots, all_below, leased_homes, has_all}
use Rattle.domain_table.specs.Plays.{own_spare, others_in}
use Rattle.domain_table.specs.declared.board.Acting.{Acting}
use Rattle.sdd_domain.proofs.Handed.{owner, mine, first}
use Rattle.sdd_domain.proofs.shared.Shared.loaded.Goals as goal

-- the owner stays in hand
pub part_with-calm-requires-clause-owner : goal.part_with-calm-requires-clause-owner
part_with-calm-requires-clause-owner g c = let l = c.args.local.now in let s = c.args.self in
    (owner s, l.seat.me.0.hand, ap (λ (z : Acting). z.hand) c.lease_own-at.ensures.loaded.2 ∙ first l s c.take_in.new.seat.me c.take_in.ensures.taken)

pub invariant_of-local : goal.invariant_of-local
invariant_of-local g c = let l = c.args.local.now in let d = l.seat.me.0 in let s = c.args.self in let m1 = c.take_in.new.seat.me in let taken = c.take_in.ensures.taken in let m = c.lease_own-at.new.seat.me in let made = c.lease_own-at.ensures.loaded in let m2 = c.part_with-calm.new.seat.me in
    let back = c.part_with-calm.ensures.seat.2 in let told = c.lease_own-at.ensures.rows in let rows = c.lease_own-at.new.rows in let in_hand = mine l s m1 taken in
    let e : m2.0 ≡ record d { known = record d.known { loaded = made.0 }; leases = made.1 } = ap (λ (z : Me _ Acting). z.0) back
    ∙ (ap others_in made.2 ∙ ap (λ (z : Me _ Acting). others_in (record z.0 { known = record z.0.known { loaded = made.0 }; leases = made.1 })) in_hand) in
    let table = c.part_with-calm.ensures.seat.0 ∙ (c.lease_own-at.ensures.seat.0 ∙ c.take_in.ensures.seat.0) in let sizes : m2.0.sizes ≡ d.sizes = ap (λ (z : Acting). z.sizes) e in
    let home : d.sizes ≡ c.place-place.result.sizes.now = ap (λ (t : TableId × Sizes). t.1) c.requires.home ∙ (sym c.args.domain.now.sized.0 ∙ sym c.place-place.ensures.sizes) in
    let out = c.lease_own-at.ensures.out (own_spare d l.spare) (subst (λ (z : Me _ Acting). has_all is_blank (own_spare d l.spare ∷ leased_homes z.0 z.0.leases) z.1 ≡ true) (sym in_hand) l.has_spare.2) in record {
      acts = (
        ap (λ (z : Acting). z.kind) e ∙ l.acts.0,
        ap (λ (z : Acting). z.number) e ∙ l.acts.1,
        ap (λ (z : Acting). z.scan) e ∙ l.acts.2,
        l.acts.3,
        subst (λ (z : TableId). claim_word l.number < z.words) (sym table) l.acts.4,
        ap (λ (z : Acting). z.releasing) e ∙ l.acts.5,
      );
      has_spare = (
        ap (λ (z : Acting). z.spare) e ∙ l.has_spare.0,
        l.has_spare.1,
        ap (λ (z : Acting). has_all is_blank (own_spare z l.spare ∷ leased_homes m2.0 m2.0.leases) m2.1) e ∙ (ap (λ (z : Me _ Acting). has_all is_blank (own_spare d l.spare ∷ leased_homes z.0 z.0.leases) z.1) back ∙ out),
      );
      lends = (
        told.0 ∙ sym (ap (λ (z : Me _ Acting). map (lease_told c.in-Some.life.id) z.0.leases) back),
        subst (λ (z : Sizes). z.slots ≤ deque_capacity rows) (sym sizes) (subst (λ n. d.sizes.slots ≤ n) (sym told.2) l.lends.1),
        subst (λ (z : Sizes). all_below z.slots (row_slots rows.items) ≡ true) (sym (sizes ∙ home)) told.1,
      );
      shut = λ x. absurd (cc);
      alive = λ f x. l.alive f (c.in-Some.is ∙ x);
      phase = ap (λ (z : Acting). z.known.phase) e ∙ l.phase;
      found = ap (λ (z : Acting). z.known.found) e ∙ l.found;
      noted = l.noted;
      fills = (ap (λ (z : Acting). z.filling) e ∙ l.fills.0, l.fills.1, subst (λ (z : Sizes). l.number < z.participants) (sym sizes) l.fills.2);
      waits = (subst (λ (z : Acting). WaitsIn z.sizes.slots z.waits l.bags) (sym e) l.waits.0, l.waits.1);
    }

pub returns-clause-seen : goal.returns-clause-seen
returns-clause-seen g c = let l = c.args.local.now in
    λ j. (l.number, (c.seen_like-seen.ensures.under c.in-Some.life.id c.lease_own-at.new.seat.me.0.leases c.lease_own-at.ensures.rows.0 ∙ sym (ap life_number c.in-Some.is)) j)
