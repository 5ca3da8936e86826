pub mod raw
pub mod part
pub mod one
