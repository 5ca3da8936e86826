pub mod Made
pub mod Pushes
pub mod StillLemmas
pub mod TagLemmas
pub mod WalkLemmas
