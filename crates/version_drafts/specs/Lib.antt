pub mod Parts
pub mod Changes
pub mod Cutting
pub mod Drafts
pub mod Gone
pub mod Rows
pub mod Shelves
