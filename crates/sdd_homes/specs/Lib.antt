pub mod Book
pub mod Parts
pub mod Spares
pub mod Reasons
pub mod Lying
pub mod Hands
