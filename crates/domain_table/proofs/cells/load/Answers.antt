use Rattle.std.proofs.Common.{◌≡◌, subst, arith}
use mathlib.Core.Option.{none}
use Rattle.atomic_table.specs.Table.{step, Allows}
use Rattle.domain_table.specs.Contents.{IsIn}
use Rattle.domain_table.specs.Layout.{cell_word}
use Rattle.domain_table.specs.Rule.{Shows}
use Rattle.domain_table.specs.Plays.{load_then}
use Rattle.domain_table.proofs.Loads.{loads}
use Rattle.domain_table.proofs.cells.load.Goals as goal

pub load-requires : goal.load-requires
load-requires g c = let t = c.requires.table in let plan = c.args.words.now.key in let seat = c.args.seat.now in let slots = c.args.words.now.table_id.slots in let same = t.1 in let index = c.cell_word.ensures in let few = t.2 in let inside = t.3 in let small = t.4 in let room = t.5 in
    let word : cell_word plan.sizes c.args.cell ≡ c.cell_word.result = omega arith in (
      t.0,
      omega arith,
      subst (λ i. Allows (Shows (IsIn g.H.Holding.holds) plan) slots seat.id seat.me i (λ w. w) (load_then (IsIn g.H.Holding.holds) (step slots i 0 0 none) seat.me)) word
          (loads _ (IsIn g.H.Holding.holds) plan slots seat.id c.args.cell seat.me c.requires.open.0 c.requires.open.1 inside (omega arith)),
    )
