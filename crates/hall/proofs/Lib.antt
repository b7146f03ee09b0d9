pub mod Kept
pub mod Taken
