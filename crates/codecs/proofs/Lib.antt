pub mod Examples
pub mod Texts
