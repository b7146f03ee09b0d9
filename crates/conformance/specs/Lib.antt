pub mod Differences
pub mod Comparing
pub mod Output
pub mod Laws
