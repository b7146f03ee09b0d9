pub mod Base128
pub mod Subidentifiers
pub mod Header
pub mod Reading
pub mod Writing
pub mod Laws
