pub use Rattle.sdd_lists.specs.Entries
pub use Rattle.sdd_lists.specs.Chain
pub use Rattle.sdd_lists.specs.Nodes
pub use Rattle.sdd_lists.specs.Copies
mod Calls
pub mod Stacks
pub mod Owners
pub mod Queues
pub mod Refusals
pub mod Bags
pub mod Iters
pub mod FromIter
pub mod MutableIteration
pub mod Guards
