pub mod Participants
