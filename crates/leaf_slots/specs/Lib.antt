pub mod Labels
pub mod Lookups
pub mod Places
