use Rattle.std.proofs.Common.{◌≡◌, subst, arith}
use mathlib.Core.Option.{none}
use Rattle.atomic_table.specs.Table.{step, Allows}
use Rattle.domain_table.specs.Contents.{IsIn}
use Rattle.domain_table.specs.Layout.{cell_word}
use Rattle.domain_table.specs.Rule.{Shows}
use Rattle.domain_table.specs.Outcomes.{Exchanges}
use Rattle.domain_table.specs.Plays.{swap_then}
use Rattle.domain_table.proofs.Exchanges.{swaps}
use Rattle.domain_table.proofs.cells.swap.Goals as goal

pub swap-requires : goal.swap-requires
swap-requires g c = let t = c.requires.table in let plan = c.args.words.now.key in let seat = c.args.seat.now in let slots = c.args.words.now.table_id.slots in let same = t.1 in let index = c.cell_word.ensures in let few = t.2 in let inside = t.3 in let small = t.4 in let room = t.5 in let b = c.requires.brings in
    let word : cell_word plan.sizes c.args.cell ≡ c.cell_word.result = omega arith in (
      t.0,
      omega arith,
      subst (λ i. Allows (Shows (IsIn g.H.Holding.holds) plan) slots seat.id seat.me i (λ _. c.args.word) (swap_then (IsIn g.H.Holding.holds) (step slots i c.args.word 0 none) seat.me)) word
          (swaps _ (IsIn g.H.Holding.holds) plan slots seat.id c.args.cell c.args.word seat.me b.0 b.1 b.2 c.requires.ready.0 c.requires.ready.1 c.requires.ready.2 inside (omega arith) b.3),
    )

pub returns-clause-swapped : goal.returns-clause-swapped
returns-clause-swapped g c = let plan = c.args.words.now.key in let same = c.requires.table.1 in let index = c.cell_word.ensures in let word : c.cell_word.result ≡ cell_word plan.sizes c.args.cell = omega arith in
    subst (λ i. Exchanges (IsIn g.H.Holding.holds) i c.args.seat.now.me c.args.word c.swap.result c.swap.new.seat.me) word c.swap.ensures.2
