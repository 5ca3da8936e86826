pub mod Books
pub mod Participants
pub mod SharedBase
pub mod SharedFeeds
pub mod SharedInvariant
pub mod SharedReadings
pub mod Tasks
pub mod Transacting
