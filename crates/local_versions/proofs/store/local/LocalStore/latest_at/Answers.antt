use Rattle.std.proofs.Common.{refl, sym, ap, ◌∙◌, inl, inr, arith}
use Rattle.std.specs.List.{slice_get}
use Rattle.sdd_world.specs.State.{value_at}
use Rattle.version_views.specs.Cuts.{pairs_in}
use Rattle.version_views.specs.Versions.{list_of}
use Rattle.local_versions.specs.Store.{Store, Version}
use Rattle.local_versions.proofs.store.local.LocalStore.latest_at.Goals as goal

pub returns-then-last-number : goal.returns-then-last-number
returns-then-last-number g c =
    let is = c.present-root.ensures.is ∙ ap (λ (x : Store _ _). x.present) c.self.view_is in (
      c.args.self.now.present,
      inl refl,
      ap (λ (x : Version _ _). x.number) (sym is) ∙ sym c.number-last.ensures,
      omega (arith, c.number-last.ensures, c.if-last-number.true),
      ap pairs_in c.view_of.ensures ∙ ap (λ (x : Version _ _). x.pairs) is,
    )

pub returns-in-Some : goal.returns-in-Some
returns-in-Some g c =
    let reader = rw c.deref.ensures.value at c.in-Some.ensures.reader in (
      record { number = c.in-Some.version.now.number; pairs = list_of c.self.inside.world.groups (value_at c.self.inside.world) c.in-Some.version.now },
      inr (reader.0, ap (λ (x : Store _ _). slice_get x.readers reader.0) (sym c.self.view_is) ∙ reader.1),
      sym c.number.ensures,
      omega (arith, c.number.ensures, c.in-Some.ensures.number),
      ap pairs_in c.view_of-in-Some.ensures,
    )
