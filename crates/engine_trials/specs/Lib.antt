pub mod Slopes
