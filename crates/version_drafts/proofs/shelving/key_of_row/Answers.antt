use Rattle.std.proofs.Common.{◌≡◌, ◌-◌, Some, List, ℕ, get_or, ap, subst}
use Rattle.std.proofs.lemmas.Result.{IfOk-weaker}
use Rattle.version_views.specs.Cuts.{greatest_key}
use Rattle.version_drafts.specs.Cutting.{OfBlock}
use Rattle.version_drafts.proofs.ShelfLemmas.{last_of_row}
use Rattle.version_drafts.proofs.shelving.key_of_row.Goals as goal

pub returns-in-None : goal.returns-in-None
returns-in-None g c =
    let blocks = c.args.old.now in
    let row = c.args.row in
    let cut = c.requires.rows in
    let inside = c.requires.inside in
    let upto = ap (λ (es : List ℕ). get_or es row 0) c.ends.ensures in
    IfOk-weaker c.key_at.result _ _
    (λ key last. last_of_row blocks c.args.rows.now.ends.items row key (cut.rising row inside) (cut.within row inside) (subst (λ n. OfBlock blocks (n - 1) (λ b. greatest_key b ≡ Some key)) upto last))
    c.key_at.ensures
