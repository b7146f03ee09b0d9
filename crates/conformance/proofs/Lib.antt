pub mod Compared
pub mod Options
