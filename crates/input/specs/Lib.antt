pub mod Limits
pub mod Lines
pub mod Fields
pub mod Hex
pub mod Counting
pub mod Answers
pub mod Laws
