pub mod Cutting
pub mod Capping
pub mod Keeping
pub mod Taking
