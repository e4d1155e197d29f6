pub mod Measuring
pub mod Placing
pub mod Outcomes
pub mod Boards
pub mod Asking
pub mod Changing
pub mod Cells
pub mod Flows
