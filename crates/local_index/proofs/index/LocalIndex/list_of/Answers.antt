use Rattle.std.proofs.Common.{◌≤◌, length, ap, lit<, subst, ◌∙◌}
use Rattle.version_views.specs.Sizes.{segments_for}
use Rattle.local_index.specs.State.{list_open}
use Rattle.local_index.proofs.index.LocalIndex.list_of.Goals as goal

pub list_read_at-requires : goal.list_read_at-requires
list_read_at-requires g c = rw (c.place.ensures, c.number.ensures) (lit< tt, (lit< tt, c.requires))

pub returns-clause-list : goal.returns-clause-list
returns-clause-list g c = c.list_read_at.ensures.list ∙ ap (list_open c.args.self.now) c.place.ensures

pub returns-clause-few : goal.returns-clause-few
returns-clause-few g c = subst (λ n. length c.list_read_at.result ≤ segments_for g.row.S (length (list_open c.args.self.now n))) c.place.ensures c.list_read_at.ensures.few
