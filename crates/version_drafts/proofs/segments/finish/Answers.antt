use Rattle.std.proofs.Common.{length, sym, ap, ◌∙◌, subst}
use Rattle.leaf_array.specs.Pairs.{IsAscending}
use Rattle.version_drafts.specs.Parts.{blocks_of_parts}
use Rattle.version_views.proofs.RowSearchLemmas.{are_separated}
use Rattle.version_drafts.proofs.segments.finish.Goals as goal

pub returns-clause-cut : goal.returns-clause-cut
returns-clause-cut g c =
    let row = c.in_ok-seal.ensures.row in
    record {
      sizes = row.sizes;
      tight = row.tight;
      rising = subst (IsAscending g.K.Ord.cmp) (sym c.in_ok-seal.ensures.pairs) c.requires.whole.rising;
      separated = are_separated (blocks_of_parts c.args.old.now c.seal.new.out.row.parts.items) (λ k d h. (row.sizes k d h).0);
    }

pub returns-clause-length : goal.returns-clause-length
returns-clause-length g c = c.in_ok-seal.ensures.length ∙ (c.requires.counted ∙ ap length (sym c.in_ok-seal.ensures.pairs))
