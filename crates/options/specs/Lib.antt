pub mod Names
pub mod Values
pub mod Options
pub mod Words
