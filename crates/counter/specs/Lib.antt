pub mod Names
pub mod Calls
pub mod Reading
pub mod Meaning
pub mod Lines
pub mod Words
