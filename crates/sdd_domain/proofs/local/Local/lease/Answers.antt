use Rattle.std.proofs.Common.{◌≡◌, ◌<◌, ◌≤◌, true, ℕ, List, [], ◌∷◌, ◌++◌, map, IfSome, IsSome, Some, None, sym, refl, ap, ◌∙◌, subst}
use Rattle.std.specs.VecDeque.{deque_capacity}
use Rattle.atomic_table.specs.Seated.{TableId}
use Rattle.sdd_plain.specs.declared.sizes.Sizes.{Sizes}
use Rattle.domain_table.specs.Ledgers.{WaitsIn}
use Rattle.domain_table.specs.Contents.{is_blank}
use Rattle.domain_table.specs.Layout.{claim_word, cell_word, packed}
use Rattle.domain_table.specs.Leases.{code_told, row_told, lease_told, life_number, leased_homes, has_all, row_slots, all_below}
use Rattle.domain_table.specs.Plays.{own_spare}
use Rattle.sdd_homes.specs.declared.Lease.{Lease}
use Rattle.sdd_domain.specs.Tokens.{number_of, nest_in}
use Rattle.sdd_plain.specs.Epochs.{tag_number}
use Rattle.domain_table.specs.declared.board.Acting.{Acting}
use Rattle.sdd_domain.proofs.local.Local.lease.Goals as goal

pub invariant_of-self : goal.invariant_of-self
invariant_of-self g c = let l = c.args.self.now in let d = l.seat.me.0 in let m = c.lease-at.new.seat.me in let e = c.lease-at.ensures.loaded.1.2 in let table = c.lease-at.ensures.seat.0 in let told = c.lease-at.ensures.rows in let rows = c.lease-at.new.rows in let sizes : m.0.sizes ≡ d.sizes = ap (λ (z : Acting). z.sizes) e in
    let home : d.sizes ≡ c.place.result.sizes.now = ap (λ (t : TableId × Sizes). t.1) c.requires.home ∙ (sym c.args.domain.now.sized.0 ∙ sym c.place.ensures.sizes) in record {
      acts = (
        ap (λ (z : Acting). z.kind) e ∙ l.acts.0,
        ap (λ (z : Acting). z.number) e ∙ l.acts.1,
        ap (λ (z : Acting). z.scan) e ∙ l.acts.2,
        l.acts.3,
        subst (λ (z : TableId). claim_word l.number < z.words) (sym table) l.acts.4,
        ap (λ (z : Acting). z.releasing) e ∙ l.acts.5,
      );
      has_spare = (ap (λ (z : Acting). z.spare) e ∙ l.has_spare.0, l.has_spare.1, ap (λ (z : Acting). has_all is_blank (own_spare z l.spare ∷ leased_homes m.0 m.0.leases) m.1) e ∙ c.lease-at.ensures.out (own_spare d l.spare) l.has_spare.2);
      lends = (
        told.0,
        subst (λ (z : Sizes). z.slots ≤ deque_capacity rows) (sym sizes) (subst (λ n. d.sizes.slots ≤ n) (sym told.2) l.lends.1),
        subst (λ (z : Sizes). all_below z.slots (row_slots rows.items) ≡ true) (sym (sizes ∙ home)) told.1,
      );
      shut = λ x. absurd (cc);
      alive = λ f x. l.alive f (c.in-Some.is ∙ x);
      phase = ap (λ (z : Acting). z.known.phase) e ∙ l.phase;
      found = ap (λ (z : Acting). z.known.found) e ∙ l.found;
      noted = l.noted;
      fills = (ap (λ (z : Acting). z.filling) e ∙ l.fills.0, l.fills.1, subst (λ (z : Sizes). l.number < z.participants) (sym sizes) l.fills.2);
      waits = (subst (λ (z : Acting). WaitsIn z.sizes.slots z.waits l.bags) (sym e) l.waits.0, l.waits.1);
    }

pub returns-clause-seen : goal.returns-clause-seen
returns-clause-seen g c = let l = c.args.self.now in (elim c.seen_at.result as (λ r. c.seen_at.result ≡ r → IfSome r (λ t. ((number_of l, t.1.life) ≡ nest_in l) × IsSome t.1.value)) [
  | None ↦ λ e. tt
  | Some t ↦ λ e. let under = subst (λ r. IfSome r (λ t. (life : ℕ) (ls : List Lease) → map row_told c.lease-at.new.rows.items ≡ map (lease_told life) ls → t.1.life ≡ life)) e c.seen_at.ensures.under in
      ((λ j. (l.number, (under c.in-Some.life.id c.lease-at.new.seat.me.0.leases c.lease-at.ensures.rows.0 ∙ sym (ap life_number c.in-Some.is)) j)), subst (λ r. IfSome r (λ t. IsSome t.1.value)) e c.seen_at.ensures.there)
]) refl

-- one step was made, on the cell
pub returns-clause-looked : goal.returns-clause-looked
returns-clause-looked g c = let l = c.args.self.now in let e = c.lease-at.ensures.loaded in let f = e.2 in let y : ℕ = f.0 in let k : ℕ = f.1 in let low = f.2 in let few = f.3 in let is = f.4 in let code = c.seen_at.ensures.code k f.5 in
    let home : c.place.result.sizes.now ≡ l.seat.me.0.sizes = c.place.ensures.sizes ∙ (c.args.domain.now.sized.0 ∙ sym (ap (λ (t : TableId × Sizes). t.1) c.requires.home)) in let word : e.0 ≡ packed y (tag_number c.lease-at.result.1) (code_told c.seen_at.result) = is ∙ ap (packed y (tag_number c.lease-at.result.1)) (sym code) in
    (e.0, (y, low, few, word), ap (λ (z : Acting). z.cell_steps) e.1.2 ∙ (λ j. l.seat.me.0.cell_steps ++ record { word = cell_word (home j) c.args.cell; found = e.0; left = e.0 } ∷ []))
