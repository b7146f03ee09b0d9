pub mod Prefix
pub mod Form
pub mod Pieces
pub mod Numerals
pub mod Reading
pub mod Writing
pub mod Laws
