pub mod Sight
pub mod Nodes
pub mod Falls
pub mod Readers
pub mod Drafts
pub mod Placing
