use Rattle.std.proofs.Common.{◌≡◌, subst, arith}
use mathlib.Core.Option.{none}
use Rattle.atomic_table.specs.Table.{step, Allows}
use Rattle.domain_table.specs.Contents.{IsIn}
use Rattle.domain_table.specs.Layout.{cell_word}
use Rattle.domain_table.specs.Rule.{Shows}
use Rattle.domain_table.specs.Plays.{read_cell_then}
use Rattle.domain_table.proofs.Loads.{reads}
use Rattle.domain_table.proofs.cells.read_cell.Goals as goal

pub load-requires : goal.load-requires
load-requires g c = let t = c.requires.table in let plan = c.args.words.now.key in let seat = c.args.seat.now in let slots = c.args.words.now.table_id.slots in let same = t.1 in let index = c.cell_word.ensures in let few = t.2 in let inside = t.3 in let small = t.4 in let room = t.5 in
    let word : cell_word plan.sizes c.args.cell ≡ c.cell_word.result = omega arith in (
      t.0,
      omega arith,
      subst (λ i. Allows (Shows (IsIn g.H.Holding.holds) plan) slots seat.id seat.me i (λ w. w) (read_cell_then (step slots i 0 0 none) seat.me)) word
          (reads _ (IsIn g.H.Holding.holds) plan slots seat.id c.args.cell seat.me c.requires.acts inside (omega arith)),
    )
