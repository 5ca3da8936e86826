use Rattle.std.proofs.Common.{◌≡◌, false, sym, ◌∙◌, subst}
use Rattle.tree_index.proofs.WayLemmas.{some_same}
use Rattle.tree_index.specs.Shape.{AllKeys}
use Rattle.version_drafts.specs.Gone.{is_gone}
use Rattle.version_drafts.proofs.gone.thins.Goals as goal

pub returns-then-nears-clause-some : goal.returns-then-nears-clause-some
returns-then-nears-clause-some g c = λ yes b here all. c.has_gone.ensures.some yes (subst (AllKeys (λ k. is_gone g.K.Ord.cmp c.args.gone.now k ≡ false)) (some_same (sym here ∙ sym c.requires.there)) all)

pub returns-then-nears-clause-none : goal.returns-then-nears-clause-none
returns-then-nears-clause-none g c = λ no b here. subst (AllKeys (λ k. is_gone g.K.Ord.cmp c.args.gone.now k ≡ false)) (some_same (c.requires.there ∙ here)) (c.has_gone.ensures.none no)
