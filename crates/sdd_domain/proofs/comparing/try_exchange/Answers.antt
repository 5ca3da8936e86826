use Rattle.std.proofs.Common.{◌≡◌, ◌<◌, ◌≤◌, Bool, true, cond, eq-eqb, ℕ, List, [], ◌∷◌, ◌++◌, Option, length, map, IfSome, sym, refl, ap, ◌∙◌, subst, arith}
use Rattle.std.proofs.lemmas.Bool.{ne_eqb}
use Rattle.std.specs.VecDeque.{deque_capacity}
use Rattle.atomic_table.specs.Seated.{TableId}
use Rattle.atomic_table.specs.Table.{Me}
use Rattle.sdd_plain.specs.declared.sizes.Sizes.{Sizes}
use Rattle.sdd_plain.specs.Epochs.{tag_number}
use Rattle.sdd_steps.specs.Steps.{is_inside, is_ready}
use Rattle.sdd_steps.specs.declared.participant.Participant.{Participant}
use Rattle.sdd_steps.specs.declared.participant.Phase.TheVariants.{Idle, Opened}
use Rattle.sdd_homes.specs.declared.Owner.{Owner}
use Rattle.domain_table.specs.Ledgers.{WaitsIn}
use Rattle.domain_table.specs.Contents.{IsIn, blanks}
use Rattle.domain_table.specs.Owners.{besides, told}
use Rattle.domain_table.specs.Layout.{claim_word, cell_word, packed}
use Rattle.domain_table.specs.Leases.{life_number, row_told, lease_told, leased_homes, row_slots, all_below}
use Rattle.domain_table.specs.Plays.{own_spare, with_step}
use Rattle.domain_table.specs.declared.board.Acting.{Acting}
use Rattle.domain_table.specs.declared.board.Home.{Home}
use Rattle.domain_table.specs.declared.board.Home.TheVariants.{Blank}
use Rattle.sdd_domain.specs.Comparing.{owner_code}
use Rattle.sdd_domain.specs.Sharing.{kept_in}
use Rattle.sdd_domain.specs.declared.local.Local.{Local}
use Rattle.sdd_domain.proofs.Bagged.{are_out}
use Rattle.sdd_domain.proofs.Missed.{gets, start, more, is_back, fronts_still}
use Rattle.domain_table.proofs.Noted.{found_as, homes_both, blanks_both}
use Rattle.domain_table.proofs.Told.{all_there}
use Rattle.sdd_domain.proofs.comparing.try_exchange.Goals as goal

-- the leased homes are behind the spare slot
module _ {T : Type 0} (l : Local T) where
  abbrev d : Acting
  d = l.seat.me.0

  abbrev behind : List (ℕ × Home T)
  behind = blanks (leased_homes d d.leases)

  out : l.seat.me.1 ≡ (own_spare d l.spare, Blank) ∷ behind
  out = all_there (own_spare d l.spare ∷ leased_homes d d.leases) l.seat.me.1 l.has_spare.2

  -- and those of what is leased besides behind these
  all_behind : (ls : List _) → behind ++ blanks (leased_homes d ls) ≡ blanks (leased_homes d (d.leases ++ ls))
  all_behind ls = sym (ap (λ (ks : List ℕ). blanks {T = T} (ks)) (homes_both d d.leases ls) ∙ blanks_both (leased_homes d d.leases) (leased_homes d ls))

  -- an owner was brought, and a step made on the cell
  stepped : (i w v : ℕ) (m1 : Me (Home T) Acting) (o : Option Owner) → m1.0 ≡ record d { hand = besides o d.hand } → (with_step i w v m1).0 ≡ record (with_step i w v l.seat.me).0 { hand = besides o d.hand }
  stepped i w v m1 o is = ap (λ (z : Acting). (with_step {S = ℕ} i w v (z, [])).0) is

  -- what the cell had came back
  swapped : (i w v : ℕ) (m1 : Me (Home T) Acting) (o : Option Owner) (is : m1.0 ≡ record d { hand = besides o d.hand }) (m4 : Me (Home T) Acting) (y : ℕ)
      → m4 ≡ (record (with_step i w v m1).0 { spare = y; hand = d.hand }, (own_spare (with_step i w v m1).0 y, Blank) ∷ behind) → m4 ≡ (record (with_step i w v l.seat.me).0 { spare = y }, (own_spare d y, Blank) ∷ behind)
  swapped i w v m1 o is m4 y back = back ∙ λ j. (record (stepped i w v m1 o is j) { spare = y; hand = d.hand }, (own_spare (stepped i w v m1 o is j) y, Blank) ∷ behind)

-- under its open guard it may make steps on items
module _ {T : Type 0} (l : Local T) (nested : 0 < l.own.nesting) where
  opened : l.seat.me.0.known ≡ record l.seat.me.0.known { phase = Opened l.own.previous; found = l.own.previous }
  opened = let phase = l.phase ∙ ap (λ (b : Bool). cond b Idle (Opened l.own.previous)) (ne_eqb l.own.nesting 0 (λ none. absurd (omega (arith, none, nested)))) in
      λ j. record l.seat.me.0.known { phase = phase j; found = l.found j }

  ready : is_ready l.seat.me.0.known ≡ true
  ready = ap (λ (x : Participant). is_ready x) opened ∙ eq-eqb l.own.previous l.own.previous refl

  inside : is_inside l.seat.me.0.known ≡ true
  inside = ap (λ (x : Participant). is_inside x) opened ∙ eq-eqb l.own.previous l.own.previous refl

pub bring-word-requires-clause-table : goal.bring-word-requires-clause-table
bring-word-requires-clause-table g c = let w = c.place-place.ensures.sized in
    (ap (λ (t : TableId × Sizes). t.0) c.requires.home ∙ sym c.place-place.ensures.table, w.0, ap (λ (t : TableId × Sizes). t.1) c.requires.home ∙ (sym c.args.domain.now.sized.0 ∙ sym c.place-place.ensures.sizes), w.1, w.2)

pub bring-word-requires-clause-out : goal.bring-word-requires-clause-out
bring-word-requires-clause-out g c = let l = c.args.local.now in (behind l, out l)

pub bring-word-requires-clause-mine : goal.bring-word-requires-clause-mine
bring-word-requires-clause-mine g c = subst (λ (t : TableId). IfSome c.args.new.0 (λ s. kept_in s ≡ t)) (sym c.place-place.ensures.table) c.requires.mine

pub compare_exchange-found-requires-clause-ready : goal.compare_exchange-found-requires-clause-ready
compare_exchange-found-requires-clause-ready g c = let l = c.args.local.now in let p = (c.bring-word.ensures.brings (behind l) (out l)).2 in (
  ap (λ (z : Acting). z.kind) p ∙ l.acts.0,
  ap (λ (z : Acting). is_ready z.known) p ∙ ready l c.requires.«open»,
  ap (λ (z : Acting). is_inside z.known) p ∙ inside l c.requires.«open»,
  ap (λ (z : Acting). z.releasing) p ∙ l.acts.5,
)

pub compare_exchange-found-requires-clause-brings : goal.compare_exchange-found-requires-clause-brings
compare_exchange-found-requires-clause-brings g c = let l = c.args.local.now in let p = c.bring-word.ensures.brings (behind l) (out l) in (p.0, l.seat.me.0.hand, behind l, p.1)

-- where the word was the one given, it is a swap
pub take_back-free-requires-clause-table : goal.take_back-free-requires-clause-table
take_back-free-requires-clause-table g c = let l = c.args.local.now in let i : ℕ = cell_word c.place-place.result.words.now.key.sizes c.args.cell in let w : ℕ = c.compare_exchange-found.result in let v : ℕ = c.bring-word.result in let p = c.bring-word.ensures.brings (behind l) (out l) in
    let e = stepped l i w v c.bring-word.new.seat.me p.0 p.2 in let back = c.compare_exchange-found.ensures.hit c.if-found-expected.true p.0 l.seat.me.0.hand (behind l) p.1 in let t = c.place-place.ensures.sized in (
      c.compare_exchange-found.ensures.seat.0 ∙ (c.bring-word.ensures.seat.0 ∙ (ap (λ (t : TableId × Sizes). t.0) c.requires.home ∙ sym c.place-place.ensures.table)),
      t.0,
      ap (λ (z : Me _ Acting). z.0.sizes) back.2.2.2 ∙ (ap (λ (z : Acting). z.sizes) e ∙ (ap (λ (t : TableId × Sizes). t.1) c.requires.home ∙ (sym c.args.domain.now.sized.0 ∙ sym c.place-place.ensures.sizes))),
      t.1,
      t.2,
    )

pub take_back-free-requires-clause-ready : goal.take_back-free-requires-clause-ready
take_back-free-requires-clause-ready g c = let l = c.args.local.now in let i : ℕ = cell_word c.place-place.result.words.now.key.sizes c.args.cell in let w : ℕ = c.compare_exchange-found.result in let v : ℕ = c.bring-word.result in let p = c.bring-word.ensures.brings (behind l) (out l) in
    let e = stepped l i w v c.bring-word.new.seat.me p.0 p.2 in let back = c.compare_exchange-found.ensures.hit c.if-found-expected.true p.0 l.seat.me.0.hand (behind l) p.1 in
    (ap (λ (z : Me _ Acting). z.0.kind) back.2.2.2 ∙ (ap (λ (z : Acting). z.kind) e ∙ l.acts.0), ap (λ (z : Me _ Acting). z.0.releasing) back.2.2.2 ∙ (ap (λ (z : Acting). z.releasing) e ∙ l.acts.5))

pub take_back-free-requires-clause-back : goal.take_back-free-requires-clause-back
take_back-free-requires-clause-back g c = let l = c.args.local.now in let i : ℕ = cell_word c.place-place.result.words.now.key.sizes c.args.cell in let p = c.bring-word.ensures.brings (behind l) (out l) in
    (with_step i c.compare_exchange-found.result c.bring-word.result c.bring-word.new.seat.me, l.seat.me.0.hand, behind l, c.compare_exchange-found.ensures.hit c.if-found-expected.true p.0 l.seat.me.0.hand (behind l) p.1)

pub invariant_of-local : goal.invariant_of-local
invariant_of-local g c = let l = c.args.local.now in let d = l.seat.me.0 in let i : ℕ = cell_word c.place-place.result.words.now.key.sizes c.args.cell in let w : ℕ = c.compare_exchange-found.result in let v : ℕ = c.bring-word.result in let p = c.bring-word.ensures.brings (behind l) (out l) in
    let back = c.compare_exchange-found.ensures.hit c.if-found-expected.true p.0 d.hand (behind l) p.1 in let m = c.take_back-free.new.seat.me in let y : ℕ = c.take_back-free.result.0 in
    let all = swapped l i w v c.bring-word.new.seat.me p.0 p.2 m y (c.take_back-free.ensures.back (with_step i w v c.bring-word.new.seat.me) d.hand (behind l) back) in
    let table = c.take_back-free.ensures.seat.0 ∙ (c.compare_exchange-found.ensures.seat.0 ∙ c.bring-word.ensures.seat.0) in record {
      acts = (
        ap (λ (z : Me _ Acting). z.0.kind) all ∙ l.acts.0,
        ap (λ (z : Me _ Acting). z.0.number) all ∙ l.acts.1,
        ap (λ (z : Me _ Acting). z.0.scan) all ∙ l.acts.2,
        l.acts.3,
        subst (λ (z : TableId). claim_word l.number < z.words) (sym table) l.acts.4,
        ap (λ (z : Me _ Acting). z.0.releasing) all ∙ l.acts.5,
      );
      has_spare = (
        ap (λ (z : Me _ Acting). z.0.spare) all,
        c.take_back-free.ensures.spare,
        are_out m (own_spare m.0 y) (leased_homes d d.leases) (ap (λ (z : Me _ Acting). leased_homes z.0 z.0.leases) all) (ap (λ (z : Me _ Acting). z.1) all ∙ sym (ap (λ (z : Me _ Acting). blanks (own_spare z.0 y ∷ leased_homes d d.leases)) all)),
      );
      lends = (
        subst (λ life. map row_told l.rows.items ≡ map (lease_told (life_number life)) d.leases) c.in-Some.is l.lends.0 ∙ sym (ap (λ (z : Me _ Acting). map (lease_told c.in-Some.life.id) z.0.leases) all),
        subst (λ (z : Me _ Acting). z.0.sizes.slots ≤ deque_capacity l.rows) (sym all) l.lends.1,
        subst (λ (z : Me _ Acting). all_below z.0.sizes.slots (row_slots l.rows.items) ≡ true) (sym all) l.lends.2,
      );
      shut = λ x. absurd (cc);
      alive = λ f x. l.alive f (c.in-Some.is ∙ x);
      phase = ap (λ (z : Me _ Acting). z.0.known.phase) all ∙ l.phase;
      found = ap (λ (z : Me _ Acting). z.0.known.found) all ∙ l.found;
      noted = l.noted;
      fills = (ap (λ (z : Me _ Acting). z.0.filling) all ∙ l.fills.0, l.fills.1, subst (λ (z : Me _ Acting). l.number < z.0.sizes.participants) (sym all) l.fills.2);
      waits = (subst (λ (z : Me _ Acting). WaitsIn z.0.sizes.slots z.0.waits l.bags) (sym all) l.waits.0, l.waits.1);
    }

pub returns-then-found-expected-clause-home : goal.returns-then-found-expected-clause-home
returns-then-found-expected-clause-home g c = subst (λ (t : TableId). IfSome c.take_back-free.result.1.0 (λ s. kept_in s ≡ t)) c.place-place.ensures.table c.take_back-free.ensures.mine

pub returns-then-found-expected-clause-exchanged : goal.returns-then-found-expected-clause-exchanged
returns-then-found-expected-clause-exchanged g c = let l = c.args.local.now in let d = l.seat.me.0 in let i : ℕ = cell_word c.place-place.result.words.now.key.sizes c.args.cell in let w : ℕ = c.compare_exchange-found.result in let v : ℕ = c.bring-word.result in let p = c.bring-word.ensures.brings (behind l) (out l) in
    let back = c.compare_exchange-found.ensures.hit c.if-found-expected.true p.0 d.hand (behind l) p.1 in let m = c.take_back-free.new.seat.me in let y : ℕ = c.take_back-free.result.0 in
    let all = swapped l i w v c.bring-word.new.seat.me p.0 p.2 m y (c.take_back-free.ensures.back (with_step i w v c.bring-word.new.seat.me) d.hand (behind l) back) in
    let home : c.place-place.result.words.now.key.sizes ≡ d.sizes = c.place-place.ensures.sized.0 ∙ (c.place-place.ensures.sizes ∙ (c.args.domain.now.sized.0 ∙ sym (ap (λ (t : TableId × Sizes). t.1) c.requires.home))) in
    (v, (l.spare, l.has_spare.1, c.bring-word.ensures.code.1, c.bring-word.ensures.code.0), ap (λ (z : Me _ Acting). z.0.cell_steps) all ∙ (λ j. d.cell_steps ++ record { word = cell_word (home j) c.args.cell; found = c.if-found-expected.true j; left = v } ∷ []))

pub returns-then-found-expected-clause-same : goal.returns-then-found-expected-clause-same
returns-then-found-expected-clause-same g c = let l = c.args.local.now in let d = l.seat.me.0 in let i : ℕ = cell_word c.place-place.result.words.now.key.sizes c.args.cell in let w : ℕ = c.compare_exchange-found.result in let v : ℕ = c.bring-word.result in let p = c.bring-word.ensures.brings (behind l) (out l) in
    let back = c.compare_exchange-found.ensures.hit c.if-found-expected.true p.0 d.hand (behind l) p.1 in let m = c.take_back-free.new.seat.me in let y : ℕ = c.take_back-free.result.0 in
    let all = swapped l i w v c.bring-word.new.seat.me p.0 p.2 m y (c.take_back-free.ensures.back (with_step i w v c.bring-word.new.seat.me) d.hand (behind l) back) in
    let table = c.take_back-free.ensures.seat.0 ∙ (c.compare_exchange-found.ensures.seat.0 ∙ c.bring-word.ensures.seat.0) in
    (((λ j. (table j, ap (λ (z : Me _ Acting). z.0.sizes) all j), refl, ap (λ (z : Me _ Acting). map told z.0.hand) all, refl), (λ j. (l.number, sym (ap life_number c.in-Some.is) j))), refl, ap (λ (z : Me _ Acting). z.0.born) all, ap (λ (z : Me _ Acting). length z.0.waits) all)

-- where it was another one, it is a load
pub note_found-at-requires-clause-found : goal.note_found-at-requires-clause-found
note_found-at-requires-clause-found g c = let l = c.args.local.now in let d = l.seat.me.0 in let i : ℕ = cell_word c.place-place.result.words.now.key.sizes c.args.cell in let w : ℕ = c.compare_exchange-found.result in let b = c.bring-word.ensures.brings (behind l) (out l) in
    let rows = subst (λ life. map row_told l.rows.items ≡ map (lease_told (life_number life)) d.leases) c.in-Some.is l.lends.0 in
    let known : d.sizes ≡ c.place-place.result.sizes.now = ap (λ (t : TableId × Sizes). t.1) c.requires.home ∙ (sym c.args.domain.now.sized.0 ∙ sym c.place-place.ensures.sizes) in
    (with_step i w w c.bring-word.new.seat.me, c.compare_exchange-found.ensures.miss c.if-found-expected.false, ap (λ (z : Acting). z.number) b.2 ∙ l.acts.1, ap (λ (z : Acting). z.sizes) b.2 ∙ known, rows ∙ sym (ap (λ (z : Acting). map (lease_told c.in-Some.life.id) z.leases) b.2))

pub note_found-at-requires-clause-rows : goal.note_found-at-requires-clause-rows
note_found-at-requires-clause-rows g c = let l = c.args.local.now in let known : l.seat.me.0.sizes ≡ c.place-place.result.sizes.now = ap (λ (t : TableId × Sizes). t.1) c.requires.home ∙ (sym c.args.domain.now.sized.0 ∙ sym c.place-place.ensures.sizes) in
    (subst (λ (z : Sizes). all_below z.slots (row_slots l.rows.items) ≡ true) known l.lends.2, subst (λ (z : Sizes). z.slots ≤ deque_capacity l.rows) known l.lends.1)

pub take_back-free-requires-2-clause-table : goal.take_back-free-requires-2-clause-table
take_back-free-requires-2-clause-table g c = let l = c.args.local.now in let d = l.seat.me.0 in let i : ℕ = cell_word c.place-place.result.words.now.key.sizes c.args.cell in let w : ℕ = c.compare_exchange-found.result in let p = c.bring-word.ensures.brings (behind l) (out l) in let e = stepped l i w w c.bring-word.new.seat.me p.0 p.2 in
    let m = with_step i w w l.seat.me in let m2 = with_step i w w c.bring-word.new.seat.me in let m4 = c.note_found-at.new.seat.me in let rows = subst (λ life. map row_told l.rows.items ≡ map (lease_told (life_number life)) d.leases) c.in-Some.is l.lends.0 in
    let n = c.note_found-at.ensures.noted m2 (c.compare_exchange-found.ensures.miss c.if-found-expected.false) (rows ∙ sym (ap (λ (z : Acting). map (lease_told c.in-Some.life.id) z.leases) e)) in let t = c.place-place.ensures.sized in (
      c.note_found-at.ensures.seat.0 ∙ (c.compare_exchange-found.ensures.seat.0 ∙ (c.bring-word.ensures.seat.0 ∙ (ap (λ (t : TableId × Sizes). t.0) c.requires.home ∙ sym c.place-place.ensures.table))),
      t.0,
      ap (λ (z : Me _ Acting). z.0.sizes) n.2 ∙ (ap (λ (z : Acting). z.sizes) e ∙ (ap (λ (t : TableId × Sizes). t.1) c.requires.home ∙ (sym c.args.domain.now.sized.0 ∙ sym c.place-place.ensures.sizes))),
      t.1,
      t.2,
    )

pub take_back-free-requires-2-clause-ready : goal.take_back-free-requires-2-clause-ready
take_back-free-requires-2-clause-ready g c = let l = c.args.local.now in let d = l.seat.me.0 in let i : ℕ = cell_word c.place-place.result.words.now.key.sizes c.args.cell in let w : ℕ = c.compare_exchange-found.result in let p = c.bring-word.ensures.brings (behind l) (out l) in let e = stepped l i w w c.bring-word.new.seat.me p.0 p.2 in
    let m = with_step i w w l.seat.me in let m2 = with_step i w w c.bring-word.new.seat.me in let m4 = c.note_found-at.new.seat.me in let rows = subst (λ life. map row_told l.rows.items ≡ map (lease_told (life_number life)) d.leases) c.in-Some.is l.lends.0 in
    let n = c.note_found-at.ensures.noted m2 (c.compare_exchange-found.ensures.miss c.if-found-expected.false) (rows ∙ sym (ap (λ (z : Acting). map (lease_told c.in-Some.life.id) z.leases) e)) in
    (ap (λ (z : Me _ Acting). z.0.kind) n.2 ∙ (ap (λ (z : Acting). z.kind) e ∙ l.acts.0), ap (λ (z : Me _ Acting). z.0.releasing) n.2 ∙ (ap (λ (z : Acting). z.releasing) e ∙ l.acts.5))

pub take_back-free-requires-2-clause-back : goal.take_back-free-requires-2-clause-back
take_back-free-requires-2-clause-back g c = let l = c.args.local.now in let d = l.seat.me.0 in let i : ℕ = cell_word c.place-place.result.words.now.key.sizes c.args.cell in let w : ℕ = c.compare_exchange-found.result in let p = c.bring-word.ensures.brings (behind l) (out l) in let e = stepped l i w w c.bring-word.new.seat.me p.0 p.2 in
    let m = with_step i w w l.seat.me in let m2 = with_step i w w c.bring-word.new.seat.me in let m4 = c.note_found-at.new.seat.me in let rows = subst (λ life. map row_told l.rows.items ≡ map (lease_told (life_number life)) d.leases) c.in-Some.is l.lends.0 in
    let n = c.note_found-at.ensures.noted m2 (c.compare_exchange-found.ensures.miss c.if-found-expected.false) (rows ∙ sym (ap (λ (z : Acting). map (lease_told c.in-Some.life.id) z.leases) e)) in
    (start g.T.Holds.holds m m2 m4 l.spare c.bring-word.result (behind l) p.0 l.has_spare.1 l.has_spare.0 p.1 e n, m.0.hand, more g.T.Holds.holds m m2 m4 l.spare c.bring-word.result (behind l) p.0 l.has_spare.1 l.has_spare.0 p.1 e n, gets g.T.Holds.holds m m2 m4 l.spare c.bring-word.result (behind l) p.0 l.has_spare.1 l.has_spare.0 p.1 e n)

pub invariant_of-local-2 : goal.invariant_of-local-2
invariant_of-local-2 g c = let l = c.args.local.now in let d = l.seat.me.0 in let i : ℕ = cell_word c.place-place.result.words.now.key.sizes c.args.cell in let w : ℕ = c.compare_exchange-found.result in let p = c.bring-word.ensures.brings (behind l) (out l) in let e = stepped l i w w c.bring-word.new.seat.me p.0 p.2 in
    let m = with_step i w w l.seat.me in let m2 = with_step i w w c.bring-word.new.seat.me in let m4 = c.note_found-at.new.seat.me in let rows = subst (λ life. map row_told l.rows.items ≡ map (lease_told (life_number life)) d.leases) c.in-Some.is l.lends.0 in
    let n = c.note_found-at.ensures.noted m2 (c.compare_exchange-found.ensures.miss c.if-found-expected.false) (rows ∙ sym (ap (λ (z : Acting). map (lease_told c.in-Some.life.id) z.leases) e)) in
    let all = c.take_back-free-2.ensures.back (start g.T.Holds.holds m m2 m4 l.spare c.bring-word.result (behind l) p.0 l.has_spare.1 l.has_spare.0 p.1 e n) m.0.hand (more g.T.Holds.holds m m2 m4 l.spare c.bring-word.result (behind l) p.0 l.has_spare.1 l.has_spare.0 p.1 e n) (gets g.T.Holds.holds m m2 m4 l.spare c.bring-word.result (behind l) p.0 l.has_spare.1 l.has_spare.0 p.1 e n) in let m6 = c.take_back-free-2.new.seat.me in let y : ℕ = c.take_back-free-2.result.0 in let table = c.take_back-free-2.ensures.seat.0 ∙ (c.note_found-at.ensures.seat.0 ∙ (c.compare_exchange-found.ensures.seat.0 ∙ c.bring-word.ensures.seat.0)) in
    let ks : List ℕ = leased_homes d (d.leases ++ n.1) in let now = c.note_found-at.new.rows in let r = c.note_found-at.ensures.rows in let sizes : m6.0.sizes ≡ d.sizes = ap (λ (z : Me _ Acting). z.0.sizes) all in
    let home : d.sizes ≡ c.place-place.result.sizes.now = ap (λ (t : TableId × Sizes). t.1) c.requires.home ∙ (sym c.args.domain.now.sized.0 ∙ sym c.place-place.ensures.sizes) in record {
      acts = (
        ap (λ (z : Me _ Acting). z.0.kind) all ∙ l.acts.0,
        ap (λ (z : Me _ Acting). z.0.number) all ∙ l.acts.1,
        ap (λ (z : Me _ Acting). z.0.scan) all ∙ l.acts.2,
        l.acts.3,
        subst (λ (z : TableId). claim_word l.number < z.words) (sym table) l.acts.4,
        ap (λ (z : Me _ Acting). z.0.releasing) all ∙ l.acts.5,
      );
      has_spare = (
        ap (λ (z : Me _ Acting). z.0.spare) all,
        c.take_back-free-2.ensures.spare,
        are_out m6 (own_spare m6.0 y) ks (ap (λ (z : Me _ Acting). leased_homes z.0 z.0.leases) all) (ap (λ (z : Me _ Acting). z.1) all ∙ (ap (λ xs. (own_spare d y, Blank) ∷ xs) (all_behind l n.1) ∙ sym (ap (λ (z : Me _ Acting). blanks (own_spare z.0 y ∷ ks)) all))),
      );
      lends = (
        r.0 ∙ (ap (λ (z : Me _ Acting). map (lease_told c.in-Some.life.id) z.0.leases) n.2 ∙ (ap (λ (z : Acting). map (lease_told c.in-Some.life.id) (z.leases ++ n.1)) e ∙ sym (ap (λ (z : Me _ Acting). map (lease_told c.in-Some.life.id) z.0.leases) all))),
        subst (λ (z : Sizes). z.slots ≤ deque_capacity now) (sym sizes) (subst (λ n. d.sizes.slots ≤ n) (sym r.2) l.lends.1),
        subst (λ (z : Sizes). all_below z.slots (row_slots now.items) ≡ true) (sym (sizes ∙ home)) r.1,
      );
      shut = λ x. absurd (cc);
      alive = λ f x. l.alive f (c.in-Some.is ∙ x);
      phase = ap (λ (z : Me _ Acting). z.0.known.phase) all ∙ l.phase;
      found = ap (λ (z : Me _ Acting). z.0.known.found) all ∙ l.found;
      noted = l.noted;
      fills = (ap (λ (z : Me _ Acting). z.0.filling) all ∙ l.fills.0, l.fills.1, subst (λ (z : Sizes). l.number < z.participants) (sym sizes) l.fills.2);
      waits = (subst (λ (z : Me _ Acting). WaitsIn z.0.sizes.slots z.0.waits l.bags) (sym all) l.waits.0, l.waits.1);
    }

pub returns-clause-same : goal.returns-clause-same
returns-clause-same g c = let l = c.args.local.now in let d = l.seat.me.0 in let i : ℕ = cell_word c.place-place.result.words.now.key.sizes c.args.cell in let w : ℕ = c.compare_exchange-found.result in let p = c.bring-word.ensures.brings (behind l) (out l) in let e = stepped l i w w c.bring-word.new.seat.me p.0 p.2 in
    let m = with_step i w w l.seat.me in let m2 = with_step i w w c.bring-word.new.seat.me in let m4 = c.note_found-at.new.seat.me in let rows = subst (λ life. map row_told l.rows.items ≡ map (lease_told (life_number life)) d.leases) c.in-Some.is l.lends.0 in
    let n = c.note_found-at.ensures.noted m2 (c.compare_exchange-found.ensures.miss c.if-found-expected.false) (rows ∙ sym (ap (λ (z : Acting). map (lease_told c.in-Some.life.id) z.leases) e)) in
    let all = c.take_back-free-2.ensures.back (start g.T.Holds.holds m m2 m4 l.spare c.bring-word.result (behind l) p.0 l.has_spare.1 l.has_spare.0 p.1 e n) m.0.hand (more g.T.Holds.holds m m2 m4 l.spare c.bring-word.result (behind l) p.0 l.has_spare.1 l.has_spare.0 p.1 e n) (gets g.T.Holds.holds m m2 m4 l.spare c.bring-word.result (behind l) p.0 l.has_spare.1 l.has_spare.0 p.1 e n) in let table = c.take_back-free-2.ensures.seat.0 ∙ (c.note_found-at.ensures.seat.0 ∙ (c.compare_exchange-found.ensures.seat.0 ∙ c.bring-word.ensures.seat.0)) in
    (((λ j. (table j, ap (λ (z : Me _ Acting). z.0.sizes) all j), refl, ap (λ (z : Me _ Acting). map told z.0.hand) all, refl), (λ j. (l.number, sym (ap life_number c.in-Some.is) j))), refl, ap (λ (z : Me _ Acting). z.0.born) all, ap (λ (z : Me _ Acting). length z.0.waits) all)

-- the owner that was brought comes back
pub returns-clause-back : goal.returns-clause-back
returns-clause-back g c = let l = c.args.local.now in let d = l.seat.me.0 in let i : ℕ = cell_word c.place-place.result.words.now.key.sizes c.args.cell in let w : ℕ = c.compare_exchange-found.result in let p = c.bring-word.ensures.brings (behind l) (out l) in let e = stepped l i w w c.bring-word.new.seat.me p.0 p.2 in
    let m = with_step i w w l.seat.me in let m2 = with_step i w w c.bring-word.new.seat.me in let m4 = c.note_found-at.new.seat.me in let rows = subst (λ life. map row_told l.rows.items ≡ map (lease_told (life_number life)) d.leases) c.in-Some.is l.lends.0 in
    let n = c.note_found-at.ensures.noted m2 (c.compare_exchange-found.ensures.miss c.if-found-expected.false) (rows ∙ sym (ap (λ (z : Acting). map (lease_told c.in-Some.life.id) z.leases) e)) in let code = c.take_back-free-2.ensures.code.0 in let few = c.take_back-free-2.ensures.code.1 in let brought = c.bring-word.ensures.code.0 in let few_too = c.bring-word.ensures.code.1 in let low = c.take_back-free-2.ensures.spare in let small = l.has_spare.1 in
    let same : owner_code c.args.new.0 ≡ owner_code c.take_back-free-2.result.1.0 = omega arith in let mine = subst (λ (t : TableId). IfSome c.args.new.0 (λ s. kept_in s ≡ t)) (sym c.place-place.ensures.table) c.requires.mine in
    is_back c.place-place.result.words.now.table_id c.args.new.0 c.take_back-free-2.result.1.0 m4.1 same mine c.take_back-free-2.ensures.mine (fronts_still c.args.new.0 m2 m4 n c.bring-word.ensures.lies) c.take_back-free-2.ensures.whose

-- the step read the cell
pub returns-clause-looked : goal.returns-clause-looked
returns-clause-looked g c = let l = c.args.local.now in let d = l.seat.me.0 in let i : ℕ = cell_word c.place-place.result.words.now.key.sizes c.args.cell in let w : ℕ = c.compare_exchange-found.result in let p = c.bring-word.ensures.brings (behind l) (out l) in let e = stepped l i w w c.bring-word.new.seat.me p.0 p.2 in
    let m = with_step i w w l.seat.me in let m2 = with_step i w w c.bring-word.new.seat.me in let m4 = c.note_found-at.new.seat.me in let rows = subst (λ life. map row_told l.rows.items ≡ map (lease_told (life_number life)) d.leases) c.in-Some.is l.lends.0 in
    let n = c.note_found-at.ensures.noted m2 (c.compare_exchange-found.ensures.miss c.if-found-expected.false) (rows ∙ sym (ap (λ (z : Acting). map (lease_told c.in-Some.life.id) z.leases) e)) in
    let all = c.take_back-free-2.ensures.back (start g.T.Holds.holds m m2 m4 l.spare c.bring-word.result (behind l) p.0 l.has_spare.1 l.has_spare.0 p.1 e n) m.0.hand (more g.T.Holds.holds m m2 m4 l.spare c.bring-word.result (behind l) p.0 l.has_spare.1 l.has_spare.0 p.1 e n) (gets g.T.Holds.holds m m2 m4 l.spare c.bring-word.result (behind l) p.0 l.has_spare.1 l.has_spare.0 p.1 e n) in let f = found_as (IsIn g.T.Holds.holds) m2 c.compare_exchange-found.new.seat.me w (tag_number c.tag_in.result) c.note_found-at.new.rows.items c.note_found-at.result (c.compare_exchange-found.ensures.miss c.if-found-expected.false) c.tag_in.ensures c.note_found-at.ensures.code in
    let y : ℕ = f.0 in let code = c.loaded_at.ensures.code f.1 f.5 in
    let home : c.place-place.result.words.now.key.sizes ≡ d.sizes = c.place-place.ensures.sized.0 ∙ (c.place-place.ensures.sizes ∙ (c.args.domain.now.sized.0 ∙ sym (ap (λ (t : TableId × Sizes). t.1) c.requires.home))) in
    (w, (y, f.2, f.3, f.4 ∙ ap (packed y (tag_number c.tag_in.result)) (sym code)), ap (λ (z : Me _ Acting). z.0.cell_steps) all ∙ (λ j. d.cell_steps ++ record { word = cell_word (home j) c.args.cell; found = w; left = w } ∷ []))

pub returns-clause-seen : goal.returns-clause-seen
returns-clause-seen g c = λ s is.
    let under = c.loaded_at.ensures.under s is c.in-Some.life.id c.note_found-at.new.seat.me.0.leases c.note_found-at.ensures.rows.0 in
    λ j. (c.args.local.now.number, (under ∙ sym (ap life_number c.in-Some.is)) j)
