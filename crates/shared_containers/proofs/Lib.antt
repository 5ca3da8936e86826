pub mod FillLemmas
pub mod PutLemmas
pub mod TakenLemmas
