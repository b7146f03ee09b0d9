pub mod Examples
pub mod Notations
pub mod Printed
