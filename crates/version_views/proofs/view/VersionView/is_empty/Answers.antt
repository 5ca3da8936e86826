use Rattle.std.proofs.Common.{◌≡◌, length, refl, sym, ap, ◌∙◌, arith}
use Rattle.std.proofs.lemmas.Bool.Decides.{nat_tests}
use Rattle.version_views.proofs.RowViewLemmas.{no_rows, rows_below}
use Rattle.version_views.proofs.view.VersionView.is_empty.Goals as goal

-- where there is no row there is no segment, and each row has one
pub returns : goal.returns
returns g c =
    let rows = c.row_count.ensures in
    let size = ap length c.self.view_is in
    let below = rows_below c.self.invariant in (
      λ e.
          let none : c.row_count.result ≡ 0 = grind (arith, nat_tests) in
          sym size ∙ no_rows c.self.invariant (sym rows ∙ none),
      λ e.
          let none : c.row_count.result ≡ 0 = omega (arith, rows, size, below, e) in
          rw none refl,
    )
