pub mod Ranges
pub mod Searching
pub mod Listing
pub mod Theorems
