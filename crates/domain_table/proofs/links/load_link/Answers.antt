use Rattle.std.proofs.Common.{◌≡◌, ◌∙◌, subst, sym, ap, arith}
use mathlib.Core.Option.{none}
use Rattle.atomic_table.specs.Table.{step, Allows}
use Rattle.domain_table.specs.Contents.{IsIn}
use Rattle.domain_table.specs.Layout.{link_word}
use Rattle.domain_table.specs.Rule.{Shows}
use Rattle.domain_table.specs.Plays.{load_link_then}
use Rattle.sdd_plain.specs.declared.sizes.Sizes.{Sizes}
use Rattle.domain_table.proofs.Linking.{loads_link}
use Rattle.domain_table.proofs.links.load_link.Goals as goal

pub load-requires : goal.load-requires
load-requires g c = let t = c.requires.table in let plan = c.args.place.words.now.key in let seat = c.args.seat.now in let slots = c.args.place.words.now.table_id.slots in let low = t.4 in let room = t.5 in let index = c.link_word.ensures in
    let word : link_word plan.sizes c.args.slot ≡ c.link_word.result = ap (λ (z : Sizes). link_word z c.args.slot) t.1 ∙ sym c.link_word.ensures in (
      t.0,
      omega arith,
      subst (λ i. Allows (Shows (IsIn g.H.Holding.holds) plan) slots seat.id seat.me i (λ m. m) (load_link_then (step slots i 0 0 none) seat.me)) word
          (loads_link _ (IsIn g.H.Holding.holds) plan slots seat.id c.args.slot seat.me c.requires.acts (t.2 ∙ sym t.1)),
    )

pub returns-clause-told : goal.returns-clause-told
returns-clause-told g c = let t = c.requires.table in c.load.ensures.2.3 c.args.slot (c.link_word.ensures ∙ sym (ap (λ (z : Sizes). link_word z c.args.slot) t.2))
