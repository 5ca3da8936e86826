use Rattle.std.proofs.Common.{◌≡◌, ◌<◌, ◌∙◌, ℕ, true, false, eqb, eq-eqb, ne_eqb, subst, sym, ap, arith}
use mathlib.Core.Logic.{dite}
use native.Mathlib.Decide.{ℕ_discrete}
use Rattle.sdd_plain.specs.declared.sizes.Sizes.{Sizes}
use mathlib.Core.Option.{none}
use prog.Atomic.{either}
use Rattle.atomic_table.specs.Table.{step, Allows}
use Rattle.domain_table.specs.Contents.{IsIn}
use Rattle.domain_table.specs.Layout.{slot_word}
use Rattle.domain_table.specs.Rule.{Shows}
use Rattle.domain_table.specs.Plays.{claim_slot_then}
use Rattle.domain_table.proofs.Claims.{claims_slot}
use Rattle.domain_table.proofs.slots.claim.Goals as goal

pub compare_exchange-requires : goal.compare_exchange-requires
compare_exchange-requires g c = let t = c.requires.table in let plan = c.args.place.words.now.key in let seat = c.args.seat.now in let slots = c.args.place.words.now.table_id.slots in let index = c.owners_word-word.ensures in let sized = t.3 in let inside = t.4 in let room = t.5 in
    let word : slot_word plan.sizes c.args.slot ≡ c.owners_word-word.result = ap (λ (q : Sizes). slot_word q c.args.slot) t.1 ∙ sym index in (
      t.0,
      omega arith,
      subst (λ i. Allows (Shows (IsIn g.H.Holding.holds) plan) slots seat.id seat.me i (λ n. either (eqb n 0) 1 n) (claim_slot_then (IsIn g.H.Holding.holds) (step slots i 0 1 none) seat.me)) word
          (claims_slot _ (IsIn g.H.Holding.holds) plan slots seat.id c.args.slot seat.me c.requires.ready.0 (subst (λ (q : Sizes). c.args.slot < q.slots) (sym t.1) inside)),
    )

pub returns-clause-claimed : goal.returns-clause-claimed
returns-clause-claimed g c = λ hit. let t = c.requires.table in let wide = ap (λ (q : Sizes). slot_word q c.args.slot) t.2 in let index = c.owners_word-word.ensures in let found : ℕ = c.compare_exchange.result in
    let told = c.compare_exchange.ensures.2 c.args.slot (omega arith) in dite (ℕ_discrete found 0) (λ e. told.0 e) (λ ne. let bad : false ≡ true = sym (ne_eqb found 0 ne) ∙ hit in absurd (cc))

pub returns-clause-refused : goal.returns-clause-refused
returns-clause-refused g c = λ miss. let t = c.requires.table in let wide = ap (λ (q : Sizes). slot_word q c.args.slot) t.2 in let index = c.owners_word-word.ensures in let found : ℕ = c.compare_exchange.result in
    let told = c.compare_exchange.ensures.2 c.args.slot (omega arith) in dite (ℕ_discrete found 0) (λ e. let bad : true ≡ false = sym (eq-eqb found 0 e) ∙ miss in absurd (cc)) (λ ne. told.1 ne)
