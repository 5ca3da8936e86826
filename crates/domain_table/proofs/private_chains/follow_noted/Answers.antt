use Rattle.std.proofs.Common.{◌≡◌, ◌+◌, ◌∙◌, ℕ, suc, subst, sym, ap, arith}
use mathlib.Core.Option.{none}
use Rattle.atomic_table.specs.Table.{step, Allows}
use Rattle.domain_table.specs.Contents.{IsIn}
use Rattle.domain_table.specs.Layout.{link_word}
use Rattle.domain_table.specs.Rule.{Shows}
use Rattle.domain_table.specs.Plays.{follow_noted_then}
use Rattle.sdd_plain.specs.declared.sizes.Sizes.{Sizes}
use Rattle.domain_table.proofs.Linking.{follows_noted}
use Rattle.domain_table.proofs.private_chains.follow_noted.Goals as goal

pub store-requires : goal.store-requires
store-requires g c = let t = c.requires.table in let plan = c.args.place.words.now.key in let seat = c.args.seat.now in let slots = c.args.place.words.now.table_id.slots in let h = c.requires.held in let low = t.4 in let room = t.5 in let index = c.link_word.ensures in
    let word : link_word plan.sizes h.2.slot ≡ c.link_word.result = ap (λ k. link_word plan.sizes k) h.6 ∙ ap (λ (z : Sizes). link_word z c.args.slot) t.1 ∙ sym c.link_word.ensures in
    let value : suc h.1.slot ≡ c.args.next + 1 = omega (arith, h.5) in (
      t.0,
      omega arith,
      subst (λ (k : ℕ). Allows (Shows (IsIn g.H.Holding.holds) plan) slots seat.id seat.me k (λ _. c.args.next + 1) (λ _. follow_noted_then (step slots k (c.args.next + 1) 0 none) seat.me (c.args.next + 1))) word
          (subst (λ (n : ℕ). Allows (Shows (IsIn g.H.Holding.holds) plan) slots seat.id seat.me (link_word plan.sizes h.2.slot) (λ _. n) (λ _. follow_noted_then (step slots (link_word plan.sizes h.2.slot) n 0 none) seat.me n)) value
          (follows_noted _ (IsIn g.H.Holding.holds) plan slots seat.id seat.me h.0 h.1 h.2 h.3 c.requires.acts.0 (t.2 ∙ sym t.1) h.4)),
    )
