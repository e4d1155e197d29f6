pub mod Bounding
pub mod Layering
pub mod Leading
pub mod Unset
pub mod Running
pub mod Pushing
