pub mod Entering
pub mod Agreeing
pub mod Owning
