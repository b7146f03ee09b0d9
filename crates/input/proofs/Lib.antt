pub mod Buffers
pub mod Counted
pub mod Digits
pub mod Faults
pub mod Feeding
pub mod Printed
pub mod Table
pub mod Taking
