use Rattle.std.proofs.Common.{◌≡◌, ℕ, eqb, subst, arith}
use mathlib.Core.Option.{none}
use prog.Atomic.{either}
use Rattle.atomic_table.specs.Table.{step, Allows}
use Rattle.domain_table.specs.Contents.{IsIn}
use Rattle.domain_table.specs.Layout.{cell_word}
use Rattle.domain_table.specs.Rule.{Shows}
use Rattle.domain_table.specs.Plays.{retag_then}
use Rattle.domain_table.proofs.Retags.{retags}
use Rattle.domain_table.proofs.cells.change_tag.Goals as goal

pub compare_exchange-requires : goal.compare_exchange-requires
compare_exchange-requires g c = let t = c.requires.table in let plan = c.args.words.now.key in let seat = c.args.seat.now in let slots = c.args.words.now.table_id.slots in let same = t.1 in let index = c.cell_word.ensures in let few = t.2 in let inside = t.3 in let small = t.4 in let room = t.5 in
    let old : ℕ = c.args.expected in let new : ℕ = c.args.word in let word : cell_word plan.sizes c.args.cell ≡ c.cell_word.result = omega arith in (
      t.0,
      omega arith,
      subst (λ i. Allows (Shows (IsIn g.H.Holding.holds) plan) slots seat.id seat.me i (λ n. either (eqb n old) new n) (retag_then (step slots i old new none) seat.me)) word
          (retags _ (IsIn g.H.Holding.holds) plan slots seat.id c.args.cell old new seat.me c.requires.acts inside (omega arith) c.requires.alike),
    )
