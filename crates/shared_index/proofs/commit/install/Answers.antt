use Rattle.std.proofs.Common.{◌∙◌, ◌+◌, ◌*◌, ◌++◌, ◌∷◌, [], ap, sym}
use Rattle.sdd_domain.specs.Cells.{cell_number}
use Rattle.sdd_domain.specs.Tokens.{home_of}
use Rattle.shared_versions.specs.Drafts.{list_of, list_planned}
use Rattle.shared_versions.specs.Sight.{Sight}
use Rattle.version_views.specs.Cuts.{pairs_in}
use Rattle.version_views.specs.Writes.{after_writes}
use Rattle.shared_index.proofs.commit.install.Goals as goal

-- the version is that of the draft, which was built of the present one
pub returns-in-Ok-place-clause-list : goal.returns-in-Ok-place-clause-list
returns-in-Ok-place-clause-list g c =
    let old = c.version.ensures.version in
    ap pairs_in c.in-Ok-place.ensures.made.blocks
    ∙ ap (λ (x : Sight _ _). list_planned x c.in-Ok.draft) (sym old)
    ∙ c.in-Ok.ensures.list
    ∙ ap (λ (x : Sight _ _). after_writes g.K.Ord.cmp c.args.writes.now (list_of x)) old

-- publishing put the owner that placing gave into the root, and placing touched no cell
pub returns-in-Ok-place-clause-published : goal.returns-in-Ok-place-clause-published
returns-in-Ok-place-clause-published g c =
    let e = c.in-Ok-place.ensures in
    let put = c.publish.ensures.put in (
      c.in-Ok-place.new,
      e.root.1,
      (
        put.0,
        (
          put.1.0,
          put.1.1,
          put.1.2 ∙ ap (λ h. c.place.new.local.seat.me.0.cell_steps ++ record { word = 8 * h.1.participants + 16 + cell_number c.args.root.now; found = put.0; left = put.1.0 } ∷ []) e.same.0
              ∙ ap (λ zs. zs ++ record { word = 8 * (home_of c.args.local.now).1.participants + 16 + cell_number c.args.root.now; found = put.0; left = put.1.0 } ∷ []) c.place.ensures.cells,
        ),
      ),
    )
