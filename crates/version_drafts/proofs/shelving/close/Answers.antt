use Rattle.std.proofs.Common.{length, refl, sym, ap, ◌∙◌, subst}
use Rattle.std.proofs.lemmas.Result.{IfOk-weaker}
use Rattle.std.specs.List.{All}
use Rattle.version_views.specs.Items.{row_keys}
use Rattle.version_drafts.specs.Parts.{blocks_of_parts, made_in}
use Rattle.version_drafts.specs.Shelves.{LiesInside, LiesOn, made_on, shelf_blocks}
use Rattle.version_drafts.specs.declared.shelving.Shelving.{Shelving}
use Rattle.version_drafts.proofs.ShelfLemmas.{takes_open}
use Rattle.version_drafts.proofs.shelving.close.Goals as goal

-- all keys but the last are those of the row
pub returns-clause-closed : goal.returns-clause-closed
returns-clause-closed g c =
    IfOk-weaker c.push_row.result _ _
    (λ _ a blocks ends h.
    let out = c.args.out.now in
    let mid : Shelving g.row.K.Denot g.row.V.Denot = record out { parts = c.replace-parts.new.dest; keys = c.replace.new.dest } in
    let ks = c.pop.new.self.items in
    let row = c.new-2.result in
    let parts = c.replace-parts.ensures.value in
    let all = c.in-Some.ensures.items in
    takes_open blocks ends out c.push_row.new.out mid row ks c.in-Some.last h all refl refl refl refl (ap (λ v. v.items) c.replace-parts.ensures.after ∙ c.new-none-2.ensures.items) (ap (λ v. v.items) c.replace.ensures.after ∙ c.new-none.ensures.items)
    (ap (λ r. shelf_blocks blocks r.segments) c.new-2.ensures ∙ ap (λ v. blocks_of_parts blocks v.items) parts)
    (ap (λ r. made_on r.segments) c.new-2.ensures ∙ ap (λ v. made_in v.items) parts)
    (subst (λ r. LiesOn ends r.segments) (sym c.new-2.ensures) (subst (λ v. All (LiesInside ends) v.items) (sym parts) h.inside))
    (ap row_keys c.new-2.ensures ∙ ap (λ v. v.items) (c.in_ok-keys.ensures.ok ∙ c.replace.ensures.value))
    c.len-size.result (c.len-size.ensures ∙ out.keys.ok.0 ∙ ap length all) a)
    c.push_row.ensures
