pub mod Placing
pub mod Reclaiming
pub mod Rooms
pub mod Staying
pub mod Store
