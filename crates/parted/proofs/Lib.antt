pub mod Behind
pub mod Bytes
pub mod Counted
pub mod Names
pub mod Values
