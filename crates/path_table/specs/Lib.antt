pub mod Joined
pub mod Changes
pub mod Tracks
