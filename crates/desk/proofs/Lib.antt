pub mod Backs
pub mod Steps
pub mod Begun
