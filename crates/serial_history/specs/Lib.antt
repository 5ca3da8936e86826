pub mod Answers
pub mod Histories
pub mod Parts
pub mod RemainingPairs
pub mod Serial
