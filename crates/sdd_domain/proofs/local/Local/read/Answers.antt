use Rattle.std.proofs.Common.{◌≡◌, ◌<◌, ◌≤◌, true, [], ◌∷◌, ◌++◌, map, length, refl, sym, ap, ◌∙◌, subst}
use Rattle.std.specs.VecDeque.{deque_capacity}
use Rattle.atomic_table.specs.Seated.{TableId}
use Rattle.atomic_table.specs.Table.{Me}
use Rattle.domain_table.specs.Ledgers.{WaitsIn}
use Rattle.domain_table.specs.Contents.{is_blank}
use Rattle.domain_table.specs.Layout.{claim_word, cell_word}
use Rattle.domain_table.specs.declared.board.Plan.{Plan}
use Rattle.domain_table.specs.Owners.{told}
use Rattle.sdd_plain.specs.declared.sizes.Sizes.{Sizes}
use Rattle.domain_table.specs.Leases.{lease_told, life_number, leased_homes, has_all, row_slots, all_below}
use Rattle.domain_table.specs.Plays.{own_spare}
use Rattle.sdd_domain.proofs.local.Local.read.Goals as goal

pub invariant_of-self : goal.invariant_of-self
invariant_of-self g c = let l = c.args.self.now in let all = c.read_cell.ensures.read.4 in let table = c.read_cell.ensures.seat.0 in record {
  acts = (
    ap (λ (z : Me _ _). z.0.kind) all ∙ l.acts.0,
    ap (λ (z : Me _ _). z.0.number) all ∙ l.acts.1,
    ap (λ (z : Me _ _). z.0.scan) all ∙ l.acts.2,
    l.acts.3,
    subst (λ (z : TableId). claim_word l.number < z.words) (sym table) l.acts.4,
    ap (λ (z : Me _ _). z.0.releasing) all ∙ l.acts.5,
  );
  has_spare = (ap (λ (z : Me _ _). z.0.spare) all ∙ l.has_spare.0, l.has_spare.1, ap (λ (z : Me _ _). has_all is_blank (own_spare z.0 l.spare ∷ leased_homes z.0 z.0.leases) z.1) all ∙ l.has_spare.2);
  lends = (
    l.lends.0 ∙ sym (ap (λ (z : Me _ _). map (lease_told (life_number l.life)) z.0.leases) all),
    subst (λ (z : Me _ _). z.0.sizes.slots ≤ deque_capacity l.rows) (sym all) l.lends.1,
    subst (λ (z : Me _ _). all_below z.0.sizes.slots (row_slots l.rows.items) ≡ true) (sym all) l.lends.2,
  );
  shut = λ e. ((l.shut e).0, ap (λ (z : Me _ _). z.0.leases) all ∙ (l.shut e).1);
  alive = l.alive;
  phase = ap (λ (z : Me _ _). z.0.known.phase) all ∙ l.phase;
  found = ap (λ (z : Me _ _). z.0.known.found) all ∙ l.found;
  noted = l.noted;
  fills = (ap (λ (z : Me _ _). z.0.filling) all ∙ l.fills.0, l.fills.1, subst (λ (z : Me _ _). l.number < z.0.sizes.participants) (sym all) l.fills.2);
  waits = (subst (λ (z : Me _ _). WaitsIn z.0.sizes.slots z.0.waits l.bags) (sym all) l.waits.0, l.waits.1);
}

pub returns-clause-named : goal.returns-clause-named
returns-clause-named g c = let e = c.read_cell.ensures.read in (e.3.0, e.1, (e.0, e.2, e.3.1, e.3.2))

-- one step was made, on the cell
pub returns-clause-looked : goal.returns-clause-looked
returns-clause-looked g c = let l = c.args.self.now in let w = c.read_cell.result in let home : c.words.result.now.key.sizes ≡ l.seat.me.0.sizes = ap (λ (z : Plan). z.sizes) c.words.ensures.1 ∙ sym (ap (λ (t : TableId × Sizes). t.1) c.requires.home) in
    ap (λ (z : Me _ _). z.0.cell_steps) c.read_cell.ensures.read.4 ∙ (λ j. l.seat.me.0.cell_steps ++ record { word = cell_word (home j) c.args.cell; found = w; left = w } ∷ [])

pub returns-clause-same : goal.returns-clause-same
returns-clause-same g c = let l = c.args.self.now in let all = c.read_cell.ensures.read.4 in let table = c.read_cell.ensures.seat.0 in
    (((λ j. (table j, ap (λ (z : Me _ _). z.0.sizes) all j), refl, ap (λ (z : Me _ _). map told z.0.hand) all, refl), refl), refl, ap (λ (z : Me _ _). z.0.born) all, ap (λ (z : Me _ _). length z.0.waits) all)
