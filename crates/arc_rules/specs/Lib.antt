pub mod Sets
pub mod Lowest
pub mod Rules
pub mod Listed
pub mod Refusals
pub mod Kept
pub mod Laws
