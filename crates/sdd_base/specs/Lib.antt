pub use Rattle.sdd_plain.specs.Epochs
pub use Rattle.sdd_plain.specs.Locals
pub use Rattle.sdd_world.specs.State
pub use Rattle.sdd_world.specs.Steps
pub use Rattle.sdd_world.specs.Place
pub use Rattle.sdd_world.specs.View
pub use Rattle.sdd_world.specs.Frame
pub use Rattle.sdd_world.specs.Groups
pub use Rattle.sdd_world.specs.Dropping
pub use Rattle.sdd_world.specs.Holding as WorldHolding
pub use Rattle.sdd_world.specs.Tokens as WorldTokens
pub use Rattle.sdd_world.specs.Collecting as WorldCollecting
pub use Rattle.sdd_world.specs.Counting
pub use Rattle.sdd_world.specs.Passing
pub use Rattle.sdd_world.specs.Notes
pub use Rattle.sdd_world.specs.Filled
pub use Rattle.sdd_domain.specs.Layout
pub use Rattle.sdd_domain.specs.Sharing
pub use Rattle.sdd_domain.specs.Holding
pub use Rattle.sdd_domain.specs.Cells
pub use Rattle.sdd_domain.specs.Tokens
pub use Rattle.sdd_domain.specs.CellSteps
pub use Rattle.sdd_domain.specs.Pointers
pub use Rattle.sdd_domain.specs.Comparing
pub use Rattle.sdd_domain.specs.Laws
pub use Rattle.sdd_domain.specs.Collecting
pub use Rattle.shared_owned.specs.Alone
pub use Rattle.shared_owned.specs.Raw
