pub mod Kept
pub mod Registers
pub mod Granted
pub mod Submitted
pub mod Asked
pub mod Yes
