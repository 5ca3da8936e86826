use Rattle.std.proofs.Common.{◌≡◌, ◌<◌, ◌≤◌, List, [], ◌∷◌, ◌==◌, length, cond, ap, sym, ◌∙◌, subst, refl, arith}
use Rattle.atomic_table.specs.Table.{Me}
use Rattle.atomic_table.specs.Seated.{TableId}
use Rattle.sdd_plain.specs.declared.sizes.Sizes.{Sizes}
use Rattle.std.specs.VecDeque.{deque_capacity}
use Rattle.sdd_steps.specs.declared.participant.Phase.TheVariants.{Idle, Opened}
use Rattle.domain_table.specs.Ledgers.{WaitsIn}
use Rattle.domain_table.specs.Plays.{own_spare, leaving}
use Rattle.domain_table.specs.declared.board.Acting.{Acting}
use Rattle.domain_table.specs.declared.board.Home.TheVariants.{Blank}
use Rattle.domain_table.specs.Leases.{life_number}
use Rattle.sdd_domain.specs.declared.local.Local.{Local}
use Rattle.sdd_domain.proofs.Bagged.{spare_out}
use Rattle.sdd_domain.proofs.Hands.{none_held}
use Rattle.sdd_domain.proofs.Nested.{none_leased, no_rows}
use Rattle.sdd_domain.proofs.local.Local.leave.Goals as goal

out : {T : Type 0} (l : Local T) → l.own.nesting ≡ 0 → l.seat.me.1 ≡ (own_spare l.seat.me.0 l.spare, Blank) ∷ []
out l nothing = spare_out l.seat.me (own_spare l.seat.me.0 l.spare) (none_leased l nothing) l.has_spare.2

pub leave-requires-clause-table : goal.leave-requires-clause-table
leave-requires-clause-table g c = let l = c.args.self in let w = c.place-place.ensures.sized in let same : l.seat.me.0.sizes ≡ c.place-place.result.sizes.now = ap (λ (t : TableId × Sizes). t.1) c.requires.home ∙ (sym c.args.domain.now.sized.0 ∙ sym c.place-place.ensures.sizes) in
    (ap (λ (t : TableId × Sizes). t.0) c.requires.home ∙ sym c.place-place.ensures.table, w.0, same, w.1, w.2, subst (λ (z : Sizes). l.number < z.participants) same l.fills.2)

pub leave-requires-clause-rests : goal.leave-requires-clause-rests
leave-requires-clause-rests g c = let l = c.args.self in let none = c.requires.closed in (
  l.acts.0,
  l.acts.1,
  l.phase ∙ ap (λ n. cond (n == 0) Idle (Opened l.own.previous)) none,
  l.acts.2,
  (none_held l.seat.me.0.hand c.requires.bare, none_leased l none, l.acts.5),
)

pub leave-requires-clause-waits : goal.leave-requires-clause-waits
leave-requires-clause-waits g c = let l = c.args.self in let same = ap (λ (t : TableId × Sizes). t.1) c.requires.home ∙ (sym c.args.domain.now.sized.0 ∙ sym c.place-place.ensures.sizes) in (subst (λ (z : Sizes). WaitsIn z.slots l.seat.me.0.waits l.bags) same l.waits.0, l.waits.1)

pub end-requires-clause-rests : goal.end-requires-clause-rests
end-requires-clause-rests g c = let l = c.args.self in let e = c.leave.ensures.2 in let none = c.requires.closed in (
  ap (λ (z : Me _ Acting). z.0.kind) e ∙ l.acts.0,
  ap (λ (z : Me _ Acting). z.0.number) e ∙ l.acts.1,
  ap (λ (z : Me _ Acting). z.0.known.phase) e ∙ (l.phase ∙ ap (λ n. cond (n == 0) Idle (Opened l.own.previous)) none),
  ap (λ (z : Me _ Acting). z.0.known.found) e,
  (ap (λ (z : Me _ Acting). z.0.hand) e ∙ none_held l.seat.me.0.hand c.requires.bare, ap (λ (z : Me _ Acting). z.0.leases) e ∙ none_leased l none, ap (λ (z : Me _ Acting). z.0.releasing) e ∙ l.acts.5),
)

pub end-requires-clause-spare : goal.end-requires-clause-spare
end-requires-clause-spare g c = let l = c.args.self in let e = c.leave.ensures.2 in let spare = ap (λ (z : Me _ Acting). z.0.spare) e ∙ l.has_spare.0 in (
  spare,
  l.has_spare.1,
  ([], (Blank, refl, ap (λ (z : Me _ Acting). z.1) e ∙ (out l c.requires.closed ∙ ap (λ (z : Me _ Acting). (own_spare z.0 l.spare, Blank) ∷ []) (sym e) ∙ λ j. (own_spare c.leave.new.seat.me.0 (sym spare j), Blank) ∷ []))),
)

no_items : {A : Type 0} (xs : List A) → length xs ≡ 0 → xs ≡ []
no_items [] none = refl
no_items (x ∷ xs) none = absurd (omega (arith, none))

-- the ledger is empty, and has the room of the place
pub returns : goal.returns
returns g c = let l = c.args.self in let same = ap (λ (z : TableId × Sizes). z.1.slots) c.requires.home ∙ sym (ap (λ (z : Sizes). z.slots) c.args.domain.now.sized.0) in (
  no_items l.rows.items (no_rows (life_number l.life) l.seat.me.0.leases l.rows.items l.lends.0 (none_leased l c.requires.closed)),
  subst (λ n. n ≤ deque_capacity l.rows) same l.lends.1,
)
