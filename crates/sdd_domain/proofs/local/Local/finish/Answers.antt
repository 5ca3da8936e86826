use Rattle.std.proofs.Common.{◌≡◌, ◌<◌, ◌≤◌, ℕ, List, [], ◌∷◌, length, drop, map, IsNone, sym, refl, ap, ◌∙◌, subst}
use Rattle.std.specs.VecDeque.{deque_capacity}
use Rattle.atomic_table.specs.Seated.{TableId}
use Rattle.atomic_table.specs.Table.{Me}
use Rattle.sdd_plain.specs.declared.sizes.Sizes.{Sizes}
use Rattle.sdd_plain.specs.declared.local_state.LocalState.{LocalState}
use Rattle.domain_table.specs.Ledgers.{WaitsIn}
use Rattle.domain_table.specs.Contents.{IsIn, blanks}
use Rattle.domain_table.specs.Owners.{told}
use Rattle.domain_table.specs.Layout.{claim_word}
use Rattle.domain_table.specs.Leases.{life_number, row_told, lease_told, leased_homes, row_slots, all_below}
use Rattle.domain_table.specs.declared.row.Row.{Row}
use Rattle.domain_table.specs.Plays.{own_spare, ending, Refilled, SteadyButWaits}
use Rattle.domain_table.specs.declared.board.Acting.{Acting}
use Rattle.domain_table.specs.declared.board.Home.{Home}
use Rattle.sdd_domain.specs.declared.local.Local.{Local}
use Rattle.sdd_domain.proofs.Bagged.{are_out}
use Rattle.domain_table.proofs.Closes.{given}
use Rattle.sdd_domain.proofs.Nested.{still_leased}
use Rattle.domain_table.proofs.Told.{all_there}
use Rattle.sdd_domain.proofs.local.Local.finish.Goals as goal

-- behind a scan, the parts go home, and then the guard closes
module _ {T : Type 0} (holds : T → List (ℕ × ℕ)) (l : Local T) (m1 : Me (Home T) Acting) (s : SteadyButWaits l.seat.me m1) where
  abbrev d : Acting
  d = l.seat.me.0

  out : m1.1 ≡ blanks (own_spare d l.spare ∷ leased_homes m1.0 m1.0.leases)
  out = s.12 ∙ (all_there (own_spare d l.spare ∷ leased_homes d d.leases) l.seat.me.1 l.has_spare.2 ∙ ap (λ ks. blanks (own_spare d l.spare ∷ ks)) (sym (still_leased (record l.seat.me.0 { waits = m1.0.waits }, l.seat.me.1) m1 s)))

  module _ (m2 : Me (Home T) Acting) (xs : List (ℕ × Home T)) (filled : Refilled (IsIn holds) m1.0 m1.0.leases xs (blanks (own_spare d l.spare ∷ []))) (is : m2 ≡ (m1.0, xs)) where
    ready : Refilled (IsIn holds) m2.0 m2.0.leases m2.1 (blanks (own_spare d l.spare ∷ []))
    ready = subst (λ (z : Me (Home T) Acting). Refilled (IsIn holds) z.0 z.0.leases z.1 (blanks (own_spare d l.spare ∷ []))) (sym is) filled

    closed : (m3 : Me (Home T) Acting) → m3 ≡ (ending m2.0, drop (length m2.0.leases) m2.1) → m3 ≡ (ending m1.0, blanks (own_spare d l.spare ∷ []))
    closed m3 e = e ∙ λ j. (ending ((is j).0), (given (IsIn holds) m2.0 m2.0.leases m2.1 (blanks (own_spare d l.spare ∷ [])) ready).1 j)

pub give_home-requires-clause-out : goal.give_home-requires-clause-out
give_home-requires-clause-out g c = let l = c.args.self.now in (own_spare l.seat.me.0 l.spare, out g.T.Holds.holds l c.scan_due.new.seat.me c.scan_due.ensures.seat.2)

pub close-requires-clause-open : goal.close-requires-clause-open
close-requires-clause-open g c = let l = c.args.self.now in let m1 = c.scan_due.new.seat.me in let o = c.scan_due.ensures.«open» in let f = c.give_home.ensures.filled (own_spare l.seat.me.0 l.spare) (out g.T.Holds.holds l m1 c.scan_due.ensures.seat.2) in let is = ap (λ (z : Me _ Acting). z.0) f.2 in
    (ap (λ (d : Acting). d.kind) is ∙ o.0, ap (λ (d : Acting). d.number) is ∙ o.1, ap (λ (d : Acting). d.known.phase) is ∙ o.2, ap (λ (d : Acting). d.known.found) is ∙ o.3, ap (λ (d : Acting). d.scan) is ∙ o.4)

pub close-requires-clause-filled : goal.close-requires-clause-filled
close-requires-clause-filled g c = let l = c.args.self.now in let d = l.seat.me.0 in let m1 = c.scan_due.new.seat.me in let s = c.scan_due.ensures.seat.2 in let f = c.give_home.ensures.filled (own_spare d l.spare) (out g.T.Holds.holds l m1 s) in
    (blanks (own_spare d l.spare ∷ []), ready g.T.Holds.holds l m1 s c.give_home.new.seat.me f.0 f.1 f.2)

pub invariant_of-self : goal.invariant_of-self
invariant_of-self g c = let l = c.args.self.now in let d = l.seat.me.0 in let m1 = c.scan_due.new.seat.me in let s = c.scan_due.ensures.seat.2 in let o = c.scan_due.ensures.«open» in let f = c.give_home.ensures.filled (own_spare d l.spare) (out g.T.Holds.holds l m1 s) in
    let m3 = c.close.new.seat.me in let all = closed g.T.Holds.holds l m1 s c.give_home.new.seat.me f.0 f.1 f.2 m3 c.close.ensures.closed in let is : m3.0 ≡ ending m1.0 = ap (λ (z : Me _ Acting). z.0) all in let own = c.scan_due.ensures.counted in let none : m3.0.leases ≡ [] = ap (λ (d : Acting). d.leases) is in
    let table = c.close.ensures.seat.0 ∙ (c.give_home.ensures.seat.0 ∙ c.scan_due.ensures.seat.0) in let sizes : m3.0.sizes ≡ d.sizes = ap (λ (d : Acting). d.sizes) is ∙ s.3 in let number : m3.0.number ≡ d.number = ap (λ (d : Acting). d.number) is ∙ s.1 in record {
      acts = (
        ap (λ (d : Acting). d.kind) is ∙ o.0,
        ap (λ (d : Acting). d.number) is ∙ o.1,
        ap (λ (d : Acting). d.scan) is ∙ o.4,
        l.acts.3,
        subst (λ (z : TableId). claim_word l.number < z.words) (sym table) l.acts.4,
        ap (λ (d : Acting). d.releasing) is ∙ (s.7 ∙ l.acts.5),
      );
      has_spare = (
        ap (λ (d : Acting). d.spare) is ∙ (s.4 ∙ l.has_spare.0),
        l.has_spare.1,
        are_out m3 (own_spare m3.0 l.spare) [] (ap (leased_homes m3.0) none)
            (ap (λ (z : Me _ Acting). z.1) all ∙ λ j. blanks (own_spare (record m3.0 { sizes = sym sizes j }) l.spare ∷ [])),
      );
      lends = (ap (map row_told) c.give_home.ensures.empty.0 ∙ sym (ap (map (lease_told (life_number c.last_token-ended.new.life))) none), subst (λ (z : Sizes). z.slots ≤ deque_capacity c.give_home.new.rows) (sym sizes) (subst (λ n. d.sizes.slots ≤ n) (sym c.give_home.ensures.empty.1) l.lends.1), ap (λ (rs : List (Row _)). all_below m3.0.sizes.slots (row_slots rs)) c.give_home.ensures.empty.0);
      shut = λ _. (refl, none);
      alive = λ f e. let bad = subst IsNone e c.last_token-ended.ensures.0 in absurd (cc);
      phase = ap (λ (d : Acting). d.known.phase) is;
      found = ap (λ (d : Acting). d.known.found) is ∙ (o.3 ∙ sym (ap (λ (n : LocalState). n.previous) own));
      noted = ap (λ (n : LocalState). n.published) own ∙ (l.noted ∙ sym (ap (λ (n : LocalState). n.previous) own));
      fills = (ap (λ (d : Acting). d.filling) is ∙ (s.9 ∙ l.fills.0), l.fills.1, subst (λ (z : Sizes). l.number < z.participants) (sym sizes) l.fills.2);
      waits = (subst (λ (z : Acting). WaitsIn z.sizes.slots z.waits c.scan_due.new.bags) (sym is) (subst (λ (z : Sizes). WaitsIn z.slots m1.0.waits c.scan_due.new.bags) (sym (s.3 ∙ (ap (λ (t : TableId × Sizes). t.1) c.requires.home ∙ (sym c.args.domain.now.sized.0 ∙ sym c.place-place.ensures.sizes)))) c.scan_due.ensures.waits), c.scan_due.ensures.due ∙ l.waits.1);
    }

pub returns-clause-same : goal.returns-clause-same
returns-clause-same g c = let l = c.args.self.now in let d = l.seat.me.0 in let m1 = c.scan_due.new.seat.me in let s = c.scan_due.ensures.seat.2 in let f = c.give_home.ensures.filled (own_spare d l.spare) (out g.T.Holds.holds l m1 s) in
    let all = closed g.T.Holds.holds l m1 s c.give_home.new.seat.me f.0 f.1 f.2 c.close.new.seat.me c.close.ensures.closed in let table = c.close.ensures.seat.0 ∙ (c.give_home.ensures.seat.0 ∙ c.scan_due.ensures.seat.0) in
    (λ j. (table j, (ap (λ (z : Me _ Acting). z.0.sizes) all ∙ s.3) j), refl, ap (λ (z : Me _ Acting). map told z.0.hand) all ∙ ap (map told) s.5, refl)

pub returns-clause-cells : goal.returns-clause-cells
returns-clause-cells g c = let l = c.args.self.now in let d = l.seat.me.0 in let m1 = c.scan_due.new.seat.me in let s = c.scan_due.ensures.seat.2 in let f = c.give_home.ensures.filled (own_spare d l.spare) (out g.T.Holds.holds l m1 s) in
    ap (λ (z : Me _ Acting). z.0.cell_steps) (closed g.T.Holds.holds l m1 s c.give_home.new.seat.me f.0 f.1 f.2 c.close.new.seat.me c.close.ensures.closed) ∙ s.13
