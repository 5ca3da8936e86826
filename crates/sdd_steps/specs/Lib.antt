pub mod State
pub mod Steps
pub mod Invariant
pub mod Snapshots
