pub use Rattle.sdd_world.proofs.ListLemmas
pub use Rattle.sdd_world.proofs.SlotLemmas
pub use Rattle.sdd_world.proofs.PlaceLemmas
pub use Rattle.sdd_world.proofs.CellLemmas
