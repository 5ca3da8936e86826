pub mod CallLemmas
pub mod NumberLemmas
pub mod SessionLemmas
pub mod TextLemmas
pub mod ByteLemmas
