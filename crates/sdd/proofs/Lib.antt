pub use Rattle.shared_lists.proofs.StillLemmas
