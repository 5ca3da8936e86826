use Rattle.std.proofs.Common.{◌≡◌, []}
use Rattle.std.proofs.lemmas.Result.{IfOk-weaker}
use Rattle.local_versions.specs.Placing.{list_alone}
use Rattle.local_versions.proofs.BuildingLemmas.{stands_alone}
use Rattle.local_versions.proofs.built.build_list.Goals as goal

pub returns-clause-list : goal.returns-clause-list
returns-clause-list g c = IfOk-weaker c.build_list.result _ (λ made. list_alone made ≡ c.args.pairs.now) (λ made h. h []) c.build_list.ensures.list

pub returns-clause-alone : goal.returns-clause-alone
returns-clause-alone g c = stands_alone g.K.Ord.cmp c.args.pairs.now c.build_list.result c.build_list.ensures.list c.build_list.ensures.planned
