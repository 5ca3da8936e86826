use Rattle.std.proofs.Common.{◌≡◌, ◌+◌, ◌-◌, ◌%◌, ◌∙◌, ℕ, ap, subst, sym, arith}
use Rattle.sdd_plain.specs.declared.sizes.Sizes.{Sizes}
use mathlib.Core.Option.{none}
use Rattle.atomic_table.specs.Table.{step, Allows}
use Rattle.domain_table.specs.Contents.{IsIn}
use Rattle.domain_table.specs.Layout.{slot_word}
use Rattle.domain_table.specs.Rule.{Shows}
use Rattle.domain_table.specs.Plays.{ended_release, end_release_then}
use Rattle.domain_table.proofs.EndedReleases.{ends_one}
use Rattle.domain_table.proofs.cells.end_release.Goals as goal

pub fetch_sub-requires : goal.fetch_sub-requires
fetch_sub-requires g c = let t = c.requires.table in let plan = c.args.place.words.now.key in let seat = c.args.seat.now in let slots = c.args.place.words.now.table_id.slots in let index = c.owners_word.ensures in let sized = t.2 in let inside = t.3 in let room = t.4 in let l = c.requires.begun in
    let is = l.5 in let word : slot_word plan.sizes l.0.slot ≡ c.owners_word.result = ap (λ k. slot_word plan.sizes k) is ∙ (ap (λ (q : Sizes). slot_word q c.args.slot) t.1 ∙ sym index) in (
      t.0,
      omega arith,
      subst (λ i. Allows (Shows (IsIn g.H.Holding.holds) plan) slots seat.id seat.me i (λ n. (n + (18446744073709551616 - 1)) % 18446744073709551616) (end_release_then (IsIn g.H.Holding.holds) g.A.Aim.to (step slots i 1 0 none) seat.me)) word
          (ends_one _ (IsIn g.H.Holding.holds) plan g.A.Aim.to slots seat.id seat.me l.0 l.1 l.2 l.3 l.4 c.requires.may c.requires.ready.0 c.requires.ready.1 l.6),
    )

-- the released owner was counted
pub overflow_sub-result : goal.overflow_sub-result
overflow_sub-result g c = let l = c.requires.begun in let told = c.fetch_sub.ensures.2 l.0 l.1 l.2 l.3 l.4 l.6 in let more = told.0 in omega arith

pub returns-clause-ended : goal.returns-clause-ended
returns-clause-ended g c = λ l ls o os tail can. let t = c.fetch_sub.ensures.2 l ls o os tail can in let more = t.0 in let n : ℕ = c.fetch_sub.result in let same : n ≡ n - 3 + 3 = omega arith in
    t.2 ∙ ap (λ z. (ended_release (g.A.Aim.to c.args.seat.now.me.0.known) z l ls os c.args.seat.now.me.0, tail)) same

pub returns-clause-room : goal.returns-clause-room
returns-clause-room g c = let l = c.requires.begun in (c.fetch_sub.ensures.2 l.0 l.1 l.2 l.3 l.4 l.6).1
