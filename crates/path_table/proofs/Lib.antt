pub mod Rows
pub mod Names
pub mod Walking
pub mod Keeping
pub mod Widening
pub mod Following
pub mod Owning
pub mod Changing
