use Rattle.std.proofs.Common.{◌≡◌, ◌∙◌, ap, subst, sym, arith}
use Rattle.sdd_plain.specs.declared.sizes.Sizes.{Sizes}
use mathlib.Core.Option.{none}
use Rattle.atomic_table.specs.Table.{step, Allows}
use Rattle.domain_table.specs.Contents.{IsIn}
use Rattle.domain_table.specs.Layout.{slot_word}
use Rattle.domain_table.specs.Rule.{Shows}
use Rattle.domain_table.specs.Plays.{place_then}
use Rattle.domain_table.proofs.Placings.{places_item}
use Rattle.domain_table.proofs.slots.place.Goals as goal

pub store-requires : goal.store-requires
store-requires g c = let t = c.requires.table in let plan = c.args.place.words.now.key in let seat = c.args.seat.now in let slots = c.args.place.words.now.table_id.slots in let index = c.owners_word.ensures in let sized = t.3 in let inside = t.4 in let room = t.5 in let r = c.requires.ready in let at = r.3 in let f = c.requires.filled in
    let word : slot_word plan.sizes seat.me.0.slot ≡ c.owners_word.result = ap (λ k. slot_word plan.sizes k) at ∙ (ap (λ (q : Sizes). slot_word q c.args.slot) t.1 ∙ sym index) in (
      t.0,
      omega arith,
      subst (λ i. Allows (Shows (IsIn g.H.Holding.holds) plan) slots seat.id seat.me i (λ _. 3) (place_then (IsIn g.H.Holding.holds) (step slots i 3 0 none) seat.me)) word
          (places_item _ (IsIn g.H.Holding.holds) plan slots seat.id seat.me f.0 f.1 r.0 r.1 r.2 (t.2 ∙ sym t.1) f.2),
    )
