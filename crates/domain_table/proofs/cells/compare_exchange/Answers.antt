use Rattle.std.proofs.Common.{◌≡◌, ℕ, eqb, subst, arith}
use mathlib.Core.Option.{none}
use prog.Atomic.{either}
use Rattle.atomic_table.specs.Table.{step, Allows}
use Rattle.domain_table.specs.Contents.{IsIn}
use Rattle.domain_table.specs.Layout.{cell_word}
use Rattle.domain_table.specs.Rule.{Shows}
use Rattle.domain_table.specs.Outcomes.{Exchanges}
use Rattle.domain_table.specs.Plays.{exchange_then}
use Rattle.domain_table.proofs.Exchanges.{exchanges}
use Rattle.domain_table.proofs.cells.compare_exchange.Goals as goal

pub compare_exchange-requires : goal.compare_exchange-requires
compare_exchange-requires g c = let t = c.requires.table in let plan = c.args.words.now.key in let seat = c.args.seat.now in let slots = c.args.words.now.table_id.slots in let same = t.1 in let index = c.cell_word.ensures in let few = t.2 in let inside = t.3 in let small = t.4 in let room = t.5 in let b = c.requires.brings in
    let r = c.requires.ready in let old : ℕ = c.args.expected in let new : ℕ = c.args.word in let word : cell_word plan.sizes c.args.cell ≡ c.cell_word.result = omega arith in (
      t.0,
      omega arith,
      subst (λ i. Allows (Shows (IsIn g.H.Holding.holds) plan) slots seat.id seat.me i (λ n. either (eqb n old) new n) (exchange_then (IsIn g.H.Holding.holds) (step slots i old new none) seat.me)) word
          (exchanges _ (IsIn g.H.Holding.holds) plan slots seat.id c.args.cell old new seat.me b.0 b.1 b.2 r.0 r.1 r.2 r.3 inside (omega arith) b.3),
    )

pub returns-clause-hit : goal.returns-clause-hit
returns-clause-hit g c = let plan = c.args.words.now.key in let same = c.requires.table.1 in let index = c.cell_word.ensures in let word : c.cell_word.result ≡ cell_word plan.sizes c.args.cell = omega arith in
    λ hit. subst (λ i. Exchanges (IsIn g.H.Holding.holds) i c.args.seat.now.me c.args.word c.compare_exchange.result c.compare_exchange.new.seat.me) word (c.compare_exchange.ensures.2.0 hit)
