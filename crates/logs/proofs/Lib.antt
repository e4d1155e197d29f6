pub mod Stepping
pub mod Telling
pub mod Giving
pub mod Keeping
pub mod Listing
pub mod Reaching
pub mod Promises
