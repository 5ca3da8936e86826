-- what an index is made of
use Rattle.std.specs.Prelude.{◌≡◌, ◌<◌, ℕ}
use Rattle.atomic_table.specs.Seated.{TableId}
use Rattle.sdd_plain.specs.declared.sizes.Sizes.{Sizes}
use Rattle.sdd_domain.specs.Tokens.{place_of}
use Rattle.shared_index.specs.SharedInvariant.{IsUnengaged}
use Rattle.shared_index_tests.specs.declared.stage.Stage.{Stage}

-- a place, a participant of it, a ledger of as many shares as are wanted, and the last number, with these names
pub record CanBegin (place : TableId × Sizes) (name parts last : ℕ) (stage : Stage) : Type 0 where
  pub here : place_of stage.domain.now ≡ place
  pub rest : IsUnengaged place stage.local
  pub named : stage.blank.name ≡ name
  pub whole : stage.blank.parts ≡ parts
  pub many : stage.blank.parts ≡ stage.start.shares
  pub some : 0 < stage.start.shares
  pub most : last ≡ stage.start.last
