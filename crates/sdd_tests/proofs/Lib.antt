pub mod LineLemmas
pub mod SeenLemmas
