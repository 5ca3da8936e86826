pub use Rattle.shared_lists.specs.Lists
pub use Rattle.shared_lists.specs.Entries
pub use Rattle.shared_containers.specs.Containers
pub use Rattle.shared_containers.specs.Outcomes
pub use Rattle.shared_containers.specs.Taken
pub use Rattle.shared_containers.specs.Walks
pub use Rattle.sdd_base.specs.State
pub use Rattle.sdd_base.specs.Tokens
pub use Rattle.sdd_base.specs.Layout
pub use Rattle.sdd_base.specs.WorldTokens
pub use Rattle.world_containers.specs.Entries as WorldEntries
pub use Rattle.world_containers.specs.Stacks
pub use Rattle.world_containers.specs.Queues
pub use Rattle.world_containers.specs.Bags
pub use Rattle.world_containers.specs.Owners
pub use Rattle.world_containers.specs.Refusals
