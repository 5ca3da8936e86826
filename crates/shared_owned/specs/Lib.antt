pub mod Alone
pub mod Raw
