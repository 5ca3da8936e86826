use Rattle.std.proofs.Common.{◌≡◌, ◌<◌, ◌≤◌, true, ℕ, List, [], ◌∷◌, ◌++◌, length, map, sym, refl, ap, ◌∙◌, subst}
use Rattle.std.specs.VecDeque.{deque_capacity}
use Rattle.atomic_table.specs.Seated.{TableId}
use Rattle.atomic_table.specs.Table.{Me}
use Rattle.domain_table.specs.Ledgers.{WaitsIn}
use Rattle.domain_table.specs.Contents.{blanks}
use Rattle.domain_table.specs.Owners.{told}
use Rattle.domain_table.specs.Layout.{claim_word, cell_word}
use Rattle.sdd_plain.specs.declared.sizes.Sizes.{Sizes}
use Rattle.domain_table.specs.Leases.{lease_told, life_number, leased_homes, row_slots, all_below}
use Rattle.domain_table.specs.Plays.{own_spare}
use Rattle.domain_table.specs.declared.board.Acting.{Acting}
use Rattle.domain_table.specs.declared.board.Home.{Home}
use Rattle.domain_table.specs.declared.board.Home.TheVariants.{Blank}
use Rattle.sdd_domain.specs.declared.local.Local.{Local}
use Rattle.sdd_domain.proofs.Bagged.{are_out}
use Rattle.domain_table.proofs.Told.{all_there}
use Rattle.sdd_domain.proofs.atomic_shared.AtomicShared.swap.Goals as goal

-- the leased homes are behind the spare slot
module _ {T : Type 0} (l : Local T) where
  abbrev d : Acting
  d = l.seat.me.0

  abbrev behind : List (ℕ × Home T)
  behind = blanks (leased_homes d d.leases)

  out : l.seat.me.1 ≡ (own_spare d l.spare, Blank) ∷ behind
  out = all_there (own_spare d l.spare ∷ leased_homes d d.leases) l.seat.me.1 l.has_spare.2

pub swap_owner-free-requires-clause-out : goal.swap_owner-free-requires-clause-out
swap_owner-free-requires-clause-out g c = let l = c.args.local.now in (behind l, out l)

pub invariant_of-local : goal.invariant_of-local
invariant_of-local g c = let l = c.args.local.now in let d = l.seat.me.0 in let m = c.swap_owner-free.new.seat.me in let y : ℕ = c.swap_owner-free.result.0 in let all = c.swap_owner-free.ensures.swapped.2 (behind l) (out l) in let table = c.swap_owner-free.ensures.seat.0 in record {
  acts = (
    ap (λ (z : Me _ Acting). z.0.kind) all ∙ l.acts.0,
    ap (λ (z : Me _ Acting). z.0.number) all ∙ l.acts.1,
    ap (λ (z : Me _ Acting). z.0.scan) all ∙ l.acts.2,
    l.acts.3,
    subst (λ (z : TableId). claim_word l.number < z.words) (sym table) l.acts.4,
    ap (λ (z : Me _ Acting). z.0.releasing) all ∙ l.acts.5,
  );
  has_spare = (
    ap (λ (z : Me _ Acting). z.0.spare) all,
    c.swap_owner-free.ensures.spare,
    are_out m (own_spare m.0 y) (leased_homes d d.leases) (ap (λ (z : Me _ Acting). leased_homes z.0 z.0.leases) all) (ap (λ (z : Me _ Acting). z.1) all ∙ sym (ap (λ (z : Me _ Acting). blanks (own_spare z.0 y ∷ leased_homes d d.leases)) all)),
  );
  lends = (
    l.lends.0 ∙ sym (ap (λ (z : Me _ Acting). map (lease_told (life_number l.life)) z.0.leases) all),
    subst (λ (z : Me _ Acting). z.0.sizes.slots ≤ deque_capacity l.rows) (sym all) l.lends.1,
    subst (λ (z : Me _ Acting). all_below z.0.sizes.slots (row_slots l.rows.items) ≡ true) (sym all) l.lends.2,
  );
  shut = λ e. ((l.shut e).0, ap (λ (z : Me _ Acting). z.0.leases) all ∙ (l.shut e).1);
  alive = l.alive;
  phase = ap (λ (z : Me _ Acting). z.0.known.phase) all ∙ l.phase;
  found = ap (λ (z : Me _ Acting). z.0.known.found) all ∙ l.found;
  noted = l.noted;
  fills = (ap (λ (z : Me _ Acting). z.0.filling) all ∙ l.fills.0, l.fills.1, subst (λ (z : Me _ Acting). l.number < z.0.sizes.participants) (sym all) l.fills.2);
  waits = (subst (λ (z : Me _ Acting). WaitsIn z.0.sizes.slots z.0.waits l.bags) (sym all) l.waits.0, l.waits.1);
}

pub returns-clause-same : goal.returns-clause-same
returns-clause-same g c = let l = c.args.local.now in let all = c.swap_owner-free.ensures.swapped.2 (behind l) (out l) in let table = c.swap_owner-free.ensures.seat.0 in
    (((λ j. (table j, ap (λ (z : Me _ Acting). z.0.sizes) all j), refl, ap (λ (z : Me _ Acting). map told z.0.hand) all, refl), refl), refl, ap (λ (z : Me _ Acting). z.0.born) all, ap (λ (z : Me _ Acting). length z.0.waits) all)

pub returns-clause-exchanged : goal.returns-clause-exchanged
returns-clause-exchanged g c = let l = c.args.local.now in let e = c.swap_owner-free.ensures in let all = e.swapped.2 (behind l) (out l) in let home : c.place.result.sizes.now ≡ l.seat.me.0.sizes = c.place.ensures.sizes ∙ (c.args.domain.now.sized.0 ∙ sym (ap (λ (t : TableId × Sizes). t.1) c.requires.home)) in
    let made = ap (λ (z : Me _ Acting). z.0.cell_steps) all ∙ (λ j. l.seat.me.0.cell_steps ++ record { word = cell_word (home j) c.args.self.now.cell; found = e.swapped.0; left = e.swapped.1 } ∷ []) in
    (e.swapped.0, (c.swap_owner-free.result.0, e.spare, e.few.0, e.swapped.3), (e.swapped.1, (l.spare, l.has_spare.1, e.few.1, e.swapped.4), made))
