use Rattle.std.proofs.Common.{◌≡◌, ◌<◌, sym, ◌∙◌, length, subst, Some, None}
use Rattle.std.specs.List.{slice_get}
use Rattle.local_versions.specs.Store.{Store, read_by, Version}
use Rattle.local_versions.proofs.PlaceLemmas.{has_no_reader, has_reader}
use Rattle.local_versions.proofs.store.local.LocalStore.is_read.Goals as goal

pub returns-clause-yes : goal.returns-clause-yes
returns-clause-yes g c = λ t.
    let long = subst (λ (x : Store _ _). c.args.place < length x.readers) (sym c.self.view_is) c.requires in
    subst (λ (x : Store _ _). (v : Version _ _) × (slice_get x.readers c.args.place ≡ Some (Some v))) c.self.view_is (has_reader (read_by c.self.inside.world) c.self.inside.readers.items c.args.place c.index.result.now long c.index.ensures (sym c.is_some.ensures ∙ t))

pub returns-clause-no : goal.returns-clause-no
returns-clause-no g c = λ t.
    let long = subst (λ (x : Store _ _). c.args.place < length x.readers) (sym c.self.view_is) c.requires in
    subst (λ (x : Store _ _). slice_get x.readers c.args.place ≡ Some None) c.self.view_is (has_no_reader (read_by c.self.inside.world) c.self.inside.readers.items c.args.place c.index.result.now long c.index.ensures (sym c.is_some.ensures ∙ t))
