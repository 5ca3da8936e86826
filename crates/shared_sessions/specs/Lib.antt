pub mod Sessions
pub mod Openings
