pub mod IndexLemmas
pub mod DeskLemmas
pub mod ReceiptLemmas
pub mod ConflictLemmas
pub mod PlaceLemmas
pub mod FromBaseLemmas
