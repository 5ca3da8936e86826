pub mod Entries
pub mod Chain
pub mod Nodes
pub mod Making
pub mod Copies
pub mod Calls
