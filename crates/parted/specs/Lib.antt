pub mod Owned
pub mod formers
