pub mod Runs
pub mod Opened
pub mod Bag
