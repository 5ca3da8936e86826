-- a participant that stays the same
use Rattle.std.proofs.Common.{ap, ◌∙◌}
use Rattle.sdd_domain.specs.Tokens.{IsSameButHand}
use Rattle.sdd_domain.specs.declared.local.Local.{Local}
use Rattle.shared_versions.specs.Placing.{IsStill, IsStillButMisses}

module _ {T : Type 0} where
  pub still : (old now new : Local T) → IsStill old now → IsStill now new → IsStill old new
  still old now new before after = (after.0 ∙ before.0, after.1 ∙ before.1, after.2 ∙ before.2, after.3 ∙ before.3, after.4 ∙ before.4)

  pub but_for_the_hand : (old new : Local T) → IsSameButHand old new → IsStill old new
  but_for_the_hand old new same = (same.0, same.1, same.2, ap (λ own. own.nesting) same.3, same.6)

  -- where its misses may differ
  pub still_but_misses : (old now new : Local T) → IsStillButMisses old now → IsStillButMisses now new → IsStillButMisses old new
  still_but_misses old now new before after = (after.0 ∙ before.0, after.1 ∙ before.1, after.2 ∙ before.2, after.3 ∙ before.3)

  pub but_for_misses : (old new : Local T) → IsStill old new → IsStillButMisses old new
  but_for_misses old new same = (same.0, same.1, same.2, same.3)
