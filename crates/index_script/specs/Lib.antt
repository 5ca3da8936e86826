pub mod Lines
pub mod Requests
pub mod Replies
pub mod Script
pub mod Runs
pub mod Inside
