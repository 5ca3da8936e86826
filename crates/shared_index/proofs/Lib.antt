pub mod BookLemmas
pub mod SendLemmas
