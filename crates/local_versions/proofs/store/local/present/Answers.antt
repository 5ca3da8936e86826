use Rattle.std.proofs.Common.{Some, sym, ap, ◌∙◌}
use Rattle.sdd_world.specs.Tokens.{shared_cell}
use Rattle.local_versions.proofs.SharingLemmas.{present_lives, store_settled}
use Rattle.local_versions.proofs.store.local.present.Goals as goal

pub returns-clause-settled : goal.returns-clause-settled
returns-clause-settled g c = store_settled g.K.Ord.cmp c.args.w.now (shared_cell c.args.root.now) c.requires.0 c.requires.1

pub returns-clause-there : goal.returns-clause-there
returns-clause-there g c = λ i t named. (
  present_lives g.K.Ord.cmp c.args.w.now (shared_cell c.args.root.now) c.requires.0 c.requires.1 i t named,
  sym (c.in-Some.ensures.value i t named) ∙ ap (λ x. Some x) c.in-Some-directory.ensures.some,
)
