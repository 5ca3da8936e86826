pub mod RunLemmas
pub mod Keeping
