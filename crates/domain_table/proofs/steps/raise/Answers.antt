use Rattle.std.proofs.Common.{◌≢◌, ◌<◌, ℕ, rules, subst, sym}
use Rattle.sdd_steps.specs.State.{Has}
use Rattle.domain_table.proofs.Looks.{raises}
use Rattle.domain_table.proofs.steps.raise.Goals as goal

pub store-requires : goal.store-requires
store-requires g c = let r = c.requires.open in (
  search rules,
  search rules,
  raises _ _ _ _ _ _ c.args.epoch r.0 r.2 r.3 r.4 (subst (λ n. (q : ℕ) → q < c.args.words.now.key.sizes.participants → q ≢ n → Has c.args.seat.now.me.0.known.looked q) (sym r.1) c.requires.all) c.requires.below,
)
