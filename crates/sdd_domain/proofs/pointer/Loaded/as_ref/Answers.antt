use Rattle.std.proofs.Common.{IsSome, sym, ◌∙◌, subst}
use Rattle.sdd_domain.proofs.pointer.Loaded.as_ref.Goals as goal

-- what was seen is an item
pub unreachable-requires : goal.unreachable-requires
unreachable-requires g c = let bad = subst IsSome (sym c.get.ensures ∙ c.in-None-get.is) (c.args.self.now.there c.in-Some.seen c.in-Some.is) in absurd (cc)
