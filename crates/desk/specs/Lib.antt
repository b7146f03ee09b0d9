pub mod Told
pub mod Answers
pub mod Came
pub mod Lines
pub mod States
pub mod Left
