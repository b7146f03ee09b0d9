pub mod Founded
pub mod Served
