use Rattle.std.proofs.Common.{◌≡◌, ◌+◌, ◌∷◌, true, sym, ap, ◌∙◌}
use Rattle.leaf_slots.specs.Places.{is_empty}
use Rattle.leaf_slots.proofs.EditLemmas.{emptied_behind, emptied_packed, not_false}
use Rattle.leaf_slots.proofs.row.renumber.LinkRenumber.renumber.Goals as goal

-- where the place is empty, so are those behind it
pub returns-else-renumber : goal.returns-else-renumber
returns-else-renumber g c =
    let rest = g.R.Renumber.places c.args.self.now.rest in
    let none : is_empty c.args.self.now.head ≡ true = not_false (is_empty c.args.self.now.head) (sym c.renumber.ensures.used ∙ c.if-renumber.false) in
    let same = emptied_packed (c.args.from + 1) rest (emptied_behind c.args.self.now.head rest none c.requires.tailed) in
    ap (λ qs. c.renumber.new.place ∷ qs) (sym same) ∙ c.renumber.ensures.places rest
