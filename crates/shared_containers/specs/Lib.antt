pub mod Containers
pub mod Outcomes
pub mod Put
pub mod Taken
pub mod Walks
