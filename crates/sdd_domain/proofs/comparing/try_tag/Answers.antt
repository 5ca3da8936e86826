use Rattle.std.proofs.Common.{◌≡◌, ◌<◌, ◌≤◌, true, false, Bool, ℕ, IsTrue, IsFalse, [], ◌∷◌, ◌++◌, map, length, refl, sym, ap, ◌∙◌, subst}
use Rattle.std.specs.VecDeque.{deque_capacity}
use Rattle.atomic_table.specs.Seated.{TableId}
use Rattle.atomic_table.specs.Table.{Me}
use Rattle.domain_table.specs.Ledgers.{WaitsIn}
use Rattle.domain_table.specs.Contents.{is_blank}
use Rattle.domain_table.specs.Layout.{claim_word}
use Rattle.domain_table.specs.Leases.{lease_told, life_number, leased_homes, has_all, row_slots, all_below}
use Rattle.domain_table.specs.Plays.{with_step, own_spare}
use Rattle.domain_table.specs.Owners.{told}
use Rattle.domain_table.specs.Layout.{cell_word}
use Rattle.domain_table.specs.declared.board.Plan.{Plan}
use Rattle.sdd_plain.specs.declared.sizes.Sizes.{Sizes}
use Rattle.domain_table.specs.declared.board.Acting.{Acting}
use Rattle.sdd_domain.proofs.CellSteps.{tag_few}
use Rattle.sdd_domain.proofs.comparing.try_tag.Goals as goal

-- whichever word was found, the step is told
stepped : {S : Type 0} (i e v : ℕ) (m m' : Me S Acting) (r : Bool) → (IsTrue r → m' ≡ with_step i e v m) → (IsFalse r → (w : ℕ) × (m' ≡ with_step i w w m)) → (w : ℕ) × (x : ℕ) × (m' ≡ with_step i w x m)
stepped i e v m m' true set _ = (e, v, set refl)
stepped i e v m m' false _ kept = let n = kept refl in (n.0, n.0, n.1)

pub invariant_of-local : goal.invariant_of-local
invariant_of-local g c = let l = c.args.local.now in let all = (stepped (cell_word c.words.result.now.key.sizes c.args.cell) c.args.expected c.with_tag.result l.seat.me c.change_tag.new.seat.me c.change_tag.result c.change_tag.ensures.set c.change_tag.ensures.kept).2 in let table = c.change_tag.ensures.seat.0 in record {
  acts = (
    ap (λ (z : Me _ _). z.0.kind) all ∙ l.acts.0,
    ap (λ (z : Me _ _). z.0.number) all ∙ l.acts.1,
    ap (λ (z : Me _ _). z.0.scan) all ∙ l.acts.2,
    l.acts.3,
    subst (λ (z : TableId). claim_word l.number < z.words) (sym table) l.acts.4,
    ap (λ (z : Me _ _). z.0.releasing) all ∙ l.acts.5,
  );
  has_spare = (ap (λ (z : Me _ _). z.0.spare) all ∙ l.has_spare.0, l.has_spare.1, ap (λ (z : Me _ _). has_all is_blank (own_spare z.0 l.spare ∷ leased_homes z.0 z.0.leases) z.1) all ∙ l.has_spare.2);
  lends = (
    l.lends.0 ∙ sym (ap (λ (z : Me _ _). map (lease_told (life_number l.life)) z.0.leases) all),
    subst (λ (z : Me _ _). z.0.sizes.slots ≤ deque_capacity l.rows) (sym all) l.lends.1,
    subst (λ (z : Me _ _). all_below z.0.sizes.slots (row_slots l.rows.items) ≡ true) (sym all) l.lends.2,
  );
  shut = λ e. ((l.shut e).0, ap (λ (z : Me _ _). z.0.leases) all ∙ (l.shut e).1);
  alive = l.alive;
  phase = ap (λ (z : Me _ _). z.0.known.phase) all ∙ l.phase;
  found = ap (λ (z : Me _ _). z.0.known.found) all ∙ l.found;
  noted = l.noted;
  fills = (ap (λ (z : Me _ _). z.0.filling) all ∙ l.fills.0, l.fills.1, subst (λ (z : Me _ _). l.number < z.0.sizes.participants) (sym all) l.fills.2);
  waits = (subst (λ (z : Me _ _). WaitsIn z.0.sizes.slots z.0.waits l.bags) (sym all) l.waits.0, l.waits.1);
}

pub returns-clause-set : goal.returns-clause-set
returns-clause-set g c = λ t k n yes. let l = c.args.local.now in let home : c.words.result.now.key.sizes ≡ l.seat.me.0.sizes = ap (λ (z : Plan). z.sizes) c.words.ensures.1 ∙ sym (ap (λ (t : TableId × Sizes). t.1) c.requires.home) in
    let v = c.with_tag.result in let made = ap (λ (z : Me _ _). z.0.cell_steps) (c.change_tag.ensures.set yes) ∙ (λ j. l.seat.me.0.cell_steps ++ record { word = cell_word (home j) c.args.cell; found = c.args.expected; left = v } ∷ []) in
    (c.args.expected, n, (v, (n.0, n.1, tag_few c.args.tag, c.with_tag.ensures.1 n.0 t k n.1 n.2 n.3), made))

pub returns-clause-kept : goal.returns-clause-kept
returns-clause-kept g c = λ no. let l = c.args.local.now in let home : c.words.result.now.key.sizes ≡ l.seat.me.0.sizes = ap (λ (z : Plan). z.sizes) c.words.ensures.1 ∙ sym (ap (λ (t : TableId × Sizes). t.1) c.requires.home) in
    let w = c.change_tag.ensures.kept no in (w.0, ap (λ (z : Me _ _). z.0.cell_steps) w.1 ∙ (λ j. l.seat.me.0.cell_steps ++ record { word = cell_word (home j) c.args.cell; found = w.0; left = w.0 } ∷ []))

pub returns-clause-same : goal.returns-clause-same
returns-clause-same g c = let l = c.args.local.now in let all = (stepped (cell_word c.words.result.now.key.sizes c.args.cell) c.args.expected c.with_tag.result l.seat.me c.change_tag.new.seat.me c.change_tag.result c.change_tag.ensures.set c.change_tag.ensures.kept).2 in let table = c.change_tag.ensures.seat.0 in
    (((λ j. (table j, ap (λ (z : Me _ _). z.0.sizes) all j), refl, ap (λ (z : Me _ _). map told z.0.hand) all, refl), refl), refl, ap (λ (z : Me _ _). z.0.born) all, ap (λ (z : Me _ _). length z.0.waits) all)
