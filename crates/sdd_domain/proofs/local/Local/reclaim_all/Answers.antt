use Rattle.std.proofs.Common.{◌≡◌, ◌<◌, ◌≤◌, ◌==◌, true, ℕ, cond, List, [], ◌∷◌, length, drop, map, sym, refl, ap, ◌∙◌, subst, arith}
use Rattle.std.specs.VecDeque.{deque_capacity}
use Rattle.atomic_table.specs.Seated.{TableId}
use Rattle.atomic_table.specs.Table.{Me}
use Rattle.sdd_plain.specs.declared.sizes.Sizes.{Sizes}
use Rattle.sdd_homes.specs.declared.Garbage.{Garbage}
use Rattle.sdd_homes.specs.declared.Lease.{Lease}
use Rattle.sdd_steps.specs.declared.participant.Phase.TheVariants.{Idle, Opened}
use Rattle.domain_table.specs.Contents.{IsIn, blanks}
use Rattle.domain_table.specs.Layout.{claim_word}
use Rattle.domain_table.specs.Leases.{life_number, row_told, lease_told, leased_homes, row_slots, all_below}
use Rattle.domain_table.specs.Ledgers.{WaitsIn}
use Rattle.domain_table.specs.Owners.{told}
use Rattle.domain_table.specs.Plays.{own_spare, ending, Refilled}
use Rattle.domain_table.specs.Views.{publishing, closing}
use Rattle.domain_table.specs.declared.board.Acting.{Acting}
use Rattle.domain_table.specs.declared.board.Home.{Home}
use Rattle.sdd_domain.specs.declared.local.Local.{Local}
use Rattle.sdd_domain.proofs.Bagged.{are_out, spare_out}
use Rattle.sdd_domain.proofs.Nested.{none_leased}
use Rattle.sdd_domain.proofs.local.Local.reclaim_all.Goals as goal

-- behind a guard that was opened and closed, with nothing leased
module _ {T : Type 0} (l : Local T) (shut : l.own.nesting ≡ 0) (m1 : Me (Home T) Acting) (e b k : ℕ) (ws : List Garbage) (is : m1 ≡ (record l.seat.me.0 { known = publishing e l.seat.me.0.known; born = b; slot = k; waits = ws }, l.seat.me.1)) where
  abbrev d : Acting
  d = l.seat.me.0

  none : m1.0.leases ≡ []
  none = ap (λ (z : Me (Home T) Acting). z.0.leases) is ∙ none_leased l shut

  all : (m2 : Me (Home T) Acting) → m2 ≡ (ending m1.0, drop (length m1.0.leases) m1.1) → m2 ≡ (record l.seat.me.0 { known = closing (publishing e l.seat.me.0.known); born = b; slot = k; waits = ws; leases = [] }, l.seat.me.1)
  all m2 closed = closed ∙ ((λ j. (ending m1.0, drop (length (none j)) m1.1)) ∙ λ j. (ending (is j).0, (is j).1))

  out : l.seat.me.1 ≡ blanks (own_spare d l.spare ∷ [])
  out = spare_out l.seat.me (own_spare d l.spare) (none_leased l shut) l.has_spare.2

pub open_and_reclaim-epoch-requires-clause-table : goal.open_and_reclaim-epoch-requires-clause-table
open_and_reclaim-epoch-requires-clause-table g c = let l = c.args.self.now in let w = c.place-place.ensures.sized in let same : l.seat.me.0.sizes ≡ c.place-place.result.sizes.now = ap (λ (t : TableId × Sizes). t.1) c.requires.home ∙ (sym c.args.domain.now.sized.0 ∙ sym c.place-place.ensures.sizes) in
    (ap (λ (t : TableId × Sizes). t.0) c.requires.home ∙ sym c.place-place.ensures.table, w.0, same, w.1, w.2, subst (λ (z : Sizes). l.number < z.participants) same l.fills.2)

pub open_and_reclaim-epoch-requires-clause-shut : goal.open_and_reclaim-epoch-requires-clause-shut
open_and_reclaim-epoch-requires-clause-shut g c = let l = c.args.self.now in (l.acts.0, l.acts.1, l.phase ∙ ap (λ n. cond (n == 0) Idle (Opened l.own.previous)) c.requires.closed, l.acts.2)

pub open_and_reclaim-epoch-requires-clause-rest : goal.open_and_reclaim-epoch-requires-clause-rest
open_and_reclaim-epoch-requires-clause-rest g c = let l = c.args.self.now in (l.acts.5, none_leased l c.requires.closed, l.fills.0)

pub open_and_reclaim-epoch-requires-clause-waits : goal.open_and_reclaim-epoch-requires-clause-waits
open_and_reclaim-epoch-requires-clause-waits g c = let l = c.args.self.now in let same = ap (λ (t : TableId × Sizes). t.1) c.requires.home ∙ (sym c.args.domain.now.sized.0 ∙ sym c.place-place.ensures.sizes) in (subst (λ (z : Sizes). WaitsIn z.slots l.seat.me.0.waits l.bags) same l.waits.0, l.waits.1)

pub close-requires-clause-open : goal.close-requires-clause-open
close-requires-clause-open g c = let l = c.args.self.now in let is = c.open_and_reclaim-epoch.ensures.reclaimed.3 in
    (ap (λ (z : Me _ Acting). z.0.kind) is ∙ l.acts.0, ap (λ (z : Me _ Acting). z.0.number) is ∙ l.acts.1, ap (λ (z : Me _ Acting). z.0.known.phase) is, ap (λ (z : Me _ Acting). z.0.known.found) is, ap (λ (z : Me _ Acting). z.0.scan) is ∙ l.acts.2)

pub close-requires-clause-filled : goal.close-requires-clause-filled
close-requires-clause-filled g c = let l = c.args.self.now in let o = c.open_and_reclaim-epoch.ensures.reclaimed in let m1 = c.open_and_reclaim-epoch.new.seat.me in let empty = none l c.requires.closed m1 c.open_and_reclaim-epoch.result o.0 o.1 o.2 o.3 in
    (m1.1, subst (λ (ls : List Lease). Refilled (IsIn g.T.Holds.holds) m1.0 ls m1.1 m1.1) (sym empty) refl)

pub invariant_of-self : goal.invariant_of-self
invariant_of-self g c = let l = c.args.self.now in let d = l.seat.me.0 in let shut = c.requires.closed in let o = c.open_and_reclaim-epoch.ensures in let r = o.reclaimed in let m1 = c.open_and_reclaim-epoch.new.seat.me in let m3 = c.close.new.seat.me in
    let whole = all l shut m1 c.open_and_reclaim-epoch.result r.0 r.1 r.2 r.3 m3 c.close.ensures.closed in let is = ap (λ (z : Me _ Acting). z.0) whole in let none3 : m3.0.leases ≡ [] = ap (λ (z : Acting). z.leases) is in let before = none_leased l shut in
    let table = c.close.ensures.seat.0 ∙ o.seat.0 in let sizes : m3.0.sizes ≡ d.sizes = ap (λ (z : Acting). z.sizes) is in let home : d.sizes ≡ c.place-place.result.sizes.now = ap (λ (t : TableId × Sizes). t.1) c.requires.home ∙ (sym c.args.domain.now.sized.0 ∙ sym c.place-place.ensures.sizes) in
    let waits : m3.0.waits ≡ m1.0.waits = ap (λ (z : Acting). z.waits) is ∙ sym (ap (λ (z : Me _ Acting). z.0.waits) r.3) in let bags = c.open_and_reclaim-epoch.new.bags in record {
      acts = (
        ap (λ (z : Acting). z.kind) is ∙ l.acts.0,
        ap (λ (z : Acting). z.number) is ∙ l.acts.1,
        ap (λ (z : Acting). z.scan) is ∙ l.acts.2,
        l.acts.3,
        subst (λ (z : TableId). claim_word l.number < z.words) (sym table) l.acts.4,
        ap (λ (z : Acting). z.releasing) is ∙ l.acts.5,
      );
      has_spare = (
        ap (λ (z : Acting). z.spare) is ∙ l.has_spare.0,
        l.has_spare.1,
        are_out m3 (own_spare m3.0 l.spare) [] (ap (leased_homes m3.0) none3) (ap (λ (z : Me _ Acting). z.1) whole ∙ (out l shut m1 c.open_and_reclaim-epoch.result r.0 r.1 r.2 r.3 ∙ λ j. blanks (own_spare (record d { sizes = sym sizes j }) l.spare ∷ []))),
      );
      lends = (
        l.lends.0 ∙ ap (map (lease_told (life_number l.life))) (before ∙ sym none3),
        subst (λ (z : Sizes). z.slots ≤ deque_capacity l.rows) (sym sizes) l.lends.1,
        subst (λ (z : Sizes). all_below z.slots (row_slots l.rows.items) ≡ true) (sym sizes) l.lends.2,
      );
      shut = λ _. (o.own.2 ∙ shut, none3);
      alive = λ f x. let some_ = (l.alive f x).0 in absurd (omega arith);
      phase = ap (λ (z : Acting). z.known.phase) is ∙ sym (ap (λ n. cond (n == 0) Idle (Opened c.open_and_reclaim-epoch.new.own.previous)) (o.own.2 ∙ shut));
      found = ap (λ (z : Acting). z.known.found) is ∙ sym o.own.1;
      noted = o.own.0 ∙ sym o.own.1;
      fills = (ap (λ (z : Acting). z.filling) is ∙ l.fills.0, l.fills.1, subst (λ (z : Sizes). l.number < z.participants) (sym sizes) l.fills.2);
      waits = (subst (λ (z : Sizes). WaitsIn z.slots m3.0.waits bags) (sym (sizes ∙ home)) (subst (λ (us : List Garbage). WaitsIn c.place-place.result.sizes.now.slots us bags) (sym waits) o.waits.0), o.waits.1);
    }

pub returns-clause-same : goal.returns-clause-same
returns-clause-same g c = let l = c.args.self.now in let o = c.open_and_reclaim-epoch.ensures in let r = o.reclaimed in
    let whole = all l c.requires.closed c.open_and_reclaim-epoch.new.seat.me c.open_and_reclaim-epoch.result r.0 r.1 r.2 r.3 c.close.new.seat.me c.close.ensures.closed in let table = c.close.ensures.seat.0 ∙ o.seat.0 in
    (λ j. (table j, (ap (λ (z : Me _ Acting). z.0.sizes) whole) j), refl, ap (λ (z : Me _ Acting). map told z.0.hand) whole, refl)
