use Rattle.std.proofs.Common.{◌≡◌, ◌<◌, ◌≤◌, true, ℕ, List, [], ◌∷◌, None, map, ap, sym, ◌∙◌, subst, arith}
use Rattle.std.specs.VecDeque.{deque_capacity}
use Rattle.atomic_table.specs.Seated.{TableId}
use Rattle.atomic_table.specs.Table.{Me}
use Rattle.sdd_plain.specs.declared.sizes.Sizes.{Sizes}
use Rattle.sdd_homes.specs.declared.Garbage.{Garbage}
use Rattle.sdd_homes.specs.declared.Lease.{Lease}
use Rattle.sdd_homes.specs.declared.Owner.{Owner}
use Rattle.domain_table.specs.Ledgers.{WaitsIn}
use Rattle.domain_table.specs.Contents.{is_blank}
use Rattle.domain_table.specs.Layout.{claim_word}
use Rattle.domain_table.specs.Leases.{life_number, lease_told, leased_homes, has_all, row_slots, all_below, HasReleased}
use Rattle.domain_table.specs.Plays.{own_spare}
use Rattle.domain_table.specs.Views.{holding}
use Rattle.domain_table.specs.declared.board.Acting.{Acting}
use Rattle.domain_table.specs.declared.board.Home.{Home}
use Rattle.sdd_domain.specs.declared.local.Local.{Local}
use Rattle.sdd_domain.specs.declared.shared.Shared.{Shared}
use Rattle.sdd_domain.proofs.Handed.{owner, mine, first, told, same_slots}
use Rattle.domain_table.proofs.Rows.{same_homes, none_same}
use Rattle.sdd_domain.proofs.shared.Shared.release.Goals as goal

module _ {T : Type 0} (l : Local T) (s : Shared T) (m1 : Me (Home T) Acting) (taken : (o : Owner) → s.calm.badge.views ≡ holding o ∷ [] → m1 ≡ (record l.seat.me.0 { hand = o ∷ l.seat.me.0.hand }, l.seat.me.1)) where
  abbrev d : Acting
  d = l.seat.me.0

  -- the owner is gone, with what waits behind it
  module _ (left : ℕ) (m2 : Me (Home T) Acting) (ls : List Lease) (is : map (λ (x : Lease). x.slot) ls ≡ map (λ (x : Lease). x.slot) m1.0.leases) (released : HasReleased (λ _. None) s.slot left m1 ls m2) where
    kept : 0 < left → m2 ≡ (record d { leases = ls }, l.seat.me.1)
    kept more = (released (owner s) d.hand (first l s m1 taken)).0 more ∙ ap (λ (z : Me (Home T) Acting). (record z.0 { hand = d.hand; leases = ls }, z.1)) (mine l s m1 taken)

    retired : left ≡ 0 → (w : Garbage) × (w.slot ≡ s.slot) × (w.age ≡ 0) × (m2 ≡ (record d { leases = ls; waits = w ∷ d.waits }, l.seat.me.1))
    retired none = let r = (released (owner s) d.hand (first l s m1 taken)).1 none in (r.0, r.1, r.2, r.3 ∙ ap (λ (z : Me (Home T) Acting). (record z.0 { hand = d.hand; leases = ls; waits = r.0 ∷ z.0.waits }, z.1)) (mine l s m1 taken))

    module _ (ws : List Garbage) (all : m2 ≡ (record d { leases = ls; waits = ws }, l.seat.me.1)) where
      spare_there : has_all is_blank (own_spare m2.0 l.spare ∷ leased_homes m2.0 m2.0.leases) m2.1 ≡ true
      spare_there = subst (λ (z : Me (Home T) Acting). has_all is_blank (own_spare z.0 l.spare ∷ leased_homes z.0 z.0.leases) z.1 ≡ true) (sym all)
          (ap (λ ks. has_all is_blank (own_spare d l.spare ∷ ks) l.seat.me.1) (same_homes d ls d.leases (same_slots l s m1 taken ls is)) ∙ l.has_spare.2)

  -- and so it is behind another step that leaves the leases alone
  module _ (ls : List Lease) (is : map (λ (x : Lease). x.slot) ls ≡ map (λ (x : Lease). x.slot) m1.0.leases) (m3 : Me (Home T) Acting) (ws : List Garbage) (all : m3 ≡ (record d { leases = ls; waits = ws }, l.seat.me.1)) where
    spare_after : has_all is_blank (own_spare m3.0 l.spare ∷ leased_homes m3.0 m3.0.leases) m3.1 ≡ true
    spare_after = subst (λ (z : Me (Home T) Acting). has_all is_blank (own_spare z.0 l.spare ∷ leased_homes z.0 z.0.leases) z.1 ≡ true) (sym all)
        (ap (λ ks. has_all is_blank (own_spare d l.spare ∷ ks) l.seat.me.1) (same_homes d ls d.leases (same_slots l s m1 taken ls is)) ∙ l.has_spare.2)

pub retire-requires-clause-table : goal.retire-requires-clause-table
retire-requires-clause-table g c = let l = c.args.local.now in let s = c.args.self in let m1 = c.take_in.new.seat.me in let m2 = c.release-left.new.seat.me in let r = c.release-left.ensures.released in let none : c.release-left.result ≡ 0 = (let more = c.if-left-gt0.false in omega arith) in
    let w = retired l s m1 c.take_in.ensures.taken c.release-left.result m2 r.0 r.1 r.2 none in let t = c.place-place.ensures.sized in let known : l.seat.me.0.sizes ≡ c.place-place.result.sizes.now = ap (λ (t : TableId × Sizes). t.1) c.requires.home ∙ (sym c.args.domain.now.sized.0 ∙ sym c.place-place.ensures.sizes) in
    ((c.release-left.ensures.seat.0 ∙ (c.take_in.ensures.seat.0 ∙ (ap (λ (t : TableId × Sizes). t.0) c.requires.home ∙ sym c.place-place.ensures.table)), t.0, ap (λ (z : Me _ Acting). z.0.sizes) w.3 ∙ known, t.1, t.2), c.release-left.ensures.low)

pub retire-requires-clause-acts : goal.retire-requires-clause-acts
retire-requires-clause-acts g c = let l = c.args.local.now in let s = c.args.self in let r = c.release-left.ensures.released in let none : c.release-left.result ≡ 0 = (let more = c.if-left-gt0.false in omega arith) in
    ap (λ (z : Me _ Acting). z.0.kind) (retired l s c.take_in.new.seat.me c.take_in.ensures.taken c.release-left.result c.release-left.new.seat.me r.0 r.1 r.2 none).3 ∙ l.acts.0

pub retire-requires-clause-retired : goal.retire-requires-clause-retired
retire-requires-clause-retired g c = let l = c.args.local.now in let s = c.args.self in let r = c.release-left.ensures.released in let none : c.release-left.result ≡ 0 = (let more = c.if-left-gt0.false in omega arith) in
    let w = retired l s c.take_in.new.seat.me c.take_in.ensures.taken c.release-left.result c.release-left.new.seat.me r.0 r.1 r.2 none in let known : l.seat.me.0.sizes ≡ c.place-place.result.sizes.now = ap (λ (t : TableId × Sizes). t.1) c.requires.home ∙ (sym c.args.domain.now.sized.0 ∙ sym c.place-place.ensures.sizes) in
    (w.0, l.seat.me.0.waits, ap (λ (z : Me _ Acting). z.0.waits) w.3, w.1, w.2, subst (λ (z : Sizes). WaitsIn z.slots l.seat.me.0.waits l.bags) known l.waits.0)

pub invariant_of-local : goal.invariant_of-local
invariant_of-local g c = let l = c.args.local.now in let d = l.seat.me.0 in let s = c.args.self in let m1 = c.take_in.new.seat.me in let m2 = c.release-left.new.seat.me in let taken = c.take_in.ensures.taken in let r = c.release-left.ensures.released in let rows = c.release-left.new.rows in
    let all = kept l s m1 taken c.release-left.result m2 r.0 r.1 r.2 c.if-left-gt0.true in let table = c.release-left.ensures.seat.0 ∙ c.take_in.ensures.seat.0 in record {
      acts = (
        ap (λ (z : Me _ Acting). z.0.kind) all ∙ l.acts.0,
        ap (λ (z : Me _ Acting). z.0.number) all ∙ l.acts.1,
        ap (λ (z : Me _ Acting). z.0.scan) all ∙ l.acts.2,
        l.acts.3,
        subst (λ (z : TableId). claim_word l.number < z.words) (sym table) l.acts.4,
        ap (λ (z : Me _ Acting). z.0.releasing) all ∙ l.acts.5,
      );
      has_spare = (ap (λ (z : Me _ Acting). z.0.spare) all ∙ l.has_spare.0, l.has_spare.1, spare_there l s m1 taken c.release-left.result m2 r.0 r.1 r.2 d.waits all);
      lends = (
        c.release-left.ensures.rows (life_number l.life) (told l s m1 taken (life_number l.life) l.lends.0),
        subst (λ (z : Me _ Acting). z.0.sizes.slots ≤ deque_capacity rows) (sym all) (subst (λ n. d.sizes.slots ≤ n) (sym c.release-left.ensures.same.0) l.lends.1),
        subst (λ (z : Me _ Acting). all_below z.0.sizes.slots (row_slots rows.items) ≡ true) (sym all) (ap (all_below d.sizes.slots) c.release-left.ensures.same.1 ∙ l.lends.2),
      );
      shut = λ e. ((l.shut e).0, ap (λ (z : Me _ Acting). z.0.leases) all ∙ none_same r.0 (same_slots l s m1 taken r.0 r.1 ∙ ap (map (λ (x : Lease). x.slot)) (l.shut e).1));
      alive = l.alive;
      phase = ap (λ (z : Me _ Acting). z.0.known.phase) all ∙ l.phase;
      found = ap (λ (z : Me _ Acting). z.0.known.found) all ∙ l.found;
      noted = l.noted;
      fills = (ap (λ (z : Me _ Acting). z.0.filling) all ∙ l.fills.0, l.fills.1, subst (λ (z : Me _ Acting). l.number < z.0.sizes.participants) (sym all) l.fills.2);
      waits = (subst (λ (z : Me _ Acting). WaitsIn z.0.sizes.slots z.0.waits l.bags) (sym all) l.waits.0, l.waits.1);
    }

pub invariant_of-local-2 : goal.invariant_of-local-2
invariant_of-local-2 g c = let l = c.args.local.now in let d = l.seat.me.0 in let s = c.args.self in let m1 = c.take_in.new.seat.me in let m2 = c.release-left.new.seat.me in let taken = c.take_in.ensures.taken in let r = c.release-left.ensures.released in let rows = c.release-left.new.rows in
    let none : c.release-left.result ≡ 0 = (let more = c.if-left-gt0.false in omega arith) in let w = retired l s m1 taken c.release-left.result m2 r.0 r.1 r.2 none in let bags = c.retire.new.self in let put = c.retire.ensures.waits in let all : c.retire.new.seat.me ≡ (record d { leases = r.0; waits = put.0 }, l.seat.me.1) = put.3 ∙ (λ j. (record (w.3 j).0 { waits = put.0 }, (w.3 j).1)) in let table = c.retire.ensures.seat.0 ∙ (c.release-left.ensures.seat.0 ∙ c.take_in.ensures.seat.0) in record {
      acts = (
        ap (λ (z : Me _ Acting). z.0.kind) all ∙ l.acts.0,
        ap (λ (z : Me _ Acting). z.0.number) all ∙ l.acts.1,
        ap (λ (z : Me _ Acting). z.0.scan) all ∙ l.acts.2,
        l.acts.3,
        subst (λ (z : TableId). claim_word l.number < z.words) (sym table) l.acts.4,
        ap (λ (z : Me _ Acting). z.0.releasing) all ∙ l.acts.5,
      );
      has_spare = (ap (λ (z : Me _ Acting). z.0.spare) all ∙ l.has_spare.0, l.has_spare.1, spare_after l s m1 taken r.0 r.1 c.retire.new.seat.me put.0 all);
      lends = (
        c.release-left.ensures.rows (life_number l.life) (told l s m1 taken (life_number l.life) l.lends.0)
            ∙ (ap (λ (z : Me _ Acting). map (lease_told (life_number l.life)) z.0.leases) w.3 ∙ sym (ap (λ (z : Me _ Acting). map (lease_told (life_number l.life)) z.0.leases) all)),
        subst (λ (z : Me _ Acting). z.0.sizes.slots ≤ deque_capacity rows) (sym all) (subst (λ n. d.sizes.slots ≤ n) (sym c.release-left.ensures.same.0) l.lends.1),
        subst (λ (z : Me _ Acting). all_below z.0.sizes.slots (row_slots rows.items) ≡ true) (sym all) (ap (all_below d.sizes.slots) c.release-left.ensures.same.1 ∙ l.lends.2),
      );
      shut = λ e. ((l.shut e).0, ap (λ (z : Me _ Acting). z.0.leases) all ∙ none_same r.0 (same_slots l s m1 taken r.0 r.1 ∙ ap (map (λ (x : Lease). x.slot)) (l.shut e).1));
      alive = l.alive;
      phase = ap (λ (z : Me _ Acting). z.0.known.phase) all ∙ l.phase;
      found = ap (λ (z : Me _ Acting). z.0.known.found) all ∙ l.found;
      noted = l.noted;
      fills = (ap (λ (z : Me _ Acting). z.0.filling) all ∙ l.fills.0, l.fills.1, subst (λ (z : Me _ Acting). l.number < z.0.sizes.participants) (sym all) l.fills.2);
      waits = (subst (λ (z : Me _ Acting). WaitsIn z.0.sizes.slots z.0.waits bags) (sym all) (subst (λ (z : Sizes). WaitsIn z.slots put.0 bags) (sym (ap (λ (t : TableId × Sizes). t.1) c.requires.home ∙ (sym c.args.domain.now.sized.0 ∙ sym c.place-place.ensures.sizes))) put.2), c.retire.ensures.due.0 ∙ l.waits.1);
    }
