use Rattle.std.proofs.Common.{◌≡◌, ◌<◌, ◌≤◌, true, List, ◌∷◌, map, ap, sym, ◌∙◌, subst}
use Rattle.std.specs.VecDeque.{deque_capacity}
use Rattle.atomic_table.specs.Seated.{TableId}
use Rattle.atomic_table.specs.Table.{Me}
use Rattle.sdd_homes.specs.declared.Lease.{Lease}
use Rattle.domain_table.specs.Ledgers.{WaitsIn}
use Rattle.domain_table.specs.Contents.{is_blank}
use Rattle.domain_table.specs.Layout.{claim_word}
use Rattle.domain_table.specs.Leases.{lease_told, life_number, leased_homes, has_all, row_slots, all_below}
use Rattle.domain_table.specs.Plays.{own_spare, others_in}
use Rattle.domain_table.specs.declared.board.Acting.{Acting}
use Rattle.domain_table.proofs.Rows.{same_homes, none_same}
use Rattle.sdd_domain.proofs.shared.Shared.of_leased.Goals as goal

-- the new owner is first in hand
pub part_with-calm-requires-clause-owner : goal.part_with-calm-requires-clause-owner
part_with-calm-requires-clause-owner g c = let made = c.in_ok-part.ensures.owned in (made.0, c.args.local.now.seat.me.0.hand, ap (λ (z : Me _ Acting). z.0.hand) made.5)

pub invariant_of-local-2 : goal.invariant_of-local-2
invariant_of-local-2 g c = let l = c.args.local.now in let d = l.seat.me.0 in let made = c.in_ok-part.ensures.owned in let ls : List Lease = made.1 in let slots = made.4 in let rows = c.own_leased.new.rows in
    let all : c.part_with-calm.new.seat.me ≡ (record d { leases = ls }, l.seat.me.1) = c.part_with-calm.ensures.seat.2 ∙ ap (λ (z : Me _ Acting). (others_in z.0, z.1)) made.5 in
    let table = c.part_with-calm.ensures.seat.0 ∙ c.own_leased.ensures.seat.0 in record {
      acts = (
        ap (λ (z : Me _ Acting). z.0.kind) all ∙ l.acts.0,
        ap (λ (z : Me _ Acting). z.0.number) all ∙ l.acts.1,
        ap (λ (z : Me _ Acting). z.0.scan) all ∙ l.acts.2,
        l.acts.3,
        subst (λ (z : TableId). claim_word l.number < z.words) (sym table) l.acts.4,
        ap (λ (z : Me _ Acting). z.0.releasing) all ∙ l.acts.5,
      );
      has_spare = (
        ap (λ (z : Me _ Acting). z.0.spare) all ∙ l.has_spare.0,
        l.has_spare.1,
        subst (λ (z : Me _ Acting). has_all is_blank (own_spare z.0 l.spare ∷ leased_homes z.0 z.0.leases) z.1 ≡ true) (sym all)
            (ap (λ ks. has_all is_blank (own_spare d l.spare ∷ ks) l.seat.me.1) (same_homes d ls d.leases slots) ∙ l.has_spare.2),
      );
      lends = (
        c.in_ok-part.ensures.rows (life_number l.life) l.lends.0 ∙ (ap (λ (z : Me _ Acting). map (lease_told (life_number l.life)) z.0.leases) made.5 ∙ sym (ap (λ (z : Me _ Acting). map (lease_told (life_number l.life)) z.0.leases) all)),
        subst (λ (z : Me _ Acting). z.0.sizes.slots ≤ deque_capacity rows) (sym all) (subst (λ n. d.sizes.slots ≤ n) (sym c.own_leased.ensures.same.0) l.lends.1),
        subst (λ (z : Me _ Acting). all_below z.0.sizes.slots (row_slots rows.items) ≡ true) (sym all) (ap (all_below d.sizes.slots) c.own_leased.ensures.same.1 ∙ l.lends.2),
      );
      shut = λ e. ((l.shut e).0, ap (λ (z : Me _ Acting). z.0.leases) all ∙ none_same ls (slots ∙ ap (map (λ (x : Lease). x.slot)) (l.shut e).1));
      alive = l.alive;
      phase = ap (λ (z : Me _ Acting). z.0.known.phase) all ∙ l.phase;
      found = ap (λ (z : Me _ Acting). z.0.known.found) all ∙ l.found;
      noted = l.noted;
      fills = (ap (λ (z : Me _ Acting). z.0.filling) all ∙ l.fills.0, l.fills.1, subst (λ (z : Me _ Acting). l.number < z.0.sizes.participants) (sym all) l.fills.2);
      waits = (subst (λ (z : Me _ Acting). WaitsIn z.0.sizes.slots z.0.waits l.bags) (sym all) l.waits.0, l.waits.1);
    }
