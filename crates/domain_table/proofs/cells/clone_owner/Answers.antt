use Rattle.std.proofs.Common.{◌≡◌, ◌+◌, ◌∙◌, ℕ, eqb, ap, subst, sym, arith}
use Rattle.sdd_plain.specs.declared.sizes.Sizes.{Sizes}
use mathlib.Core.Option.{none}
use prog.Atomic.{either}
use Rattle.atomic_table.specs.Table.{step, Allows}
use Rattle.domain_table.specs.Contents.{IsIn}
use Rattle.domain_table.specs.Layout.{slot_word}
use Rattle.domain_table.specs.Rule.{Shows}
use Rattle.domain_table.specs.Plays.{clone_then}
use Rattle.domain_table.proofs.Clones.{makes_owner}
use Rattle.domain_table.proofs.cells.clone_owner.Goals as goal

pub compare_exchange-requires : goal.compare_exchange-requires
compare_exchange-requires g c = let t = c.requires.table in let plan = c.args.place.words.now.key in let seat = c.args.seat.now in let slots = c.args.place.words.now.table_id.slots in let index = c.owners_word-word.ensures in let sized = t.3 in let inside = t.4 in let room = t.5 in let l = c.requires.leased in let owners : ℕ = c.args.owners in
    let is = l.2 in let word : slot_word plan.sizes l.0.slot ≡ c.owners_word-word.result = ap (λ k. slot_word plan.sizes k) is ∙ (ap (λ (q : Sizes). slot_word q c.args.slot) t.1 ∙ sym index) in (
      t.0,
      omega arith,
      subst (λ i. Allows (Shows (IsIn g.H.Holding.holds) plan) slots seat.id seat.me i (λ n. either (eqb n (2 + owners)) (3 + owners) n) (clone_then (step slots i (2 + owners) (3 + owners) none) seat.me)) word
          (makes_owner _ (IsIn g.H.Holding.holds) plan slots seat.id owners seat.me l.0 c.requires.ready.0 c.requires.ready.1 l.1 l.3 c.requires.counted.0 c.requires.counted.1),
    )
