pub mod Arcs
pub mod Tree
pub mod Family
pub mod Places
pub mod Equality
pub mod Numbers
pub mod Collecting
pub mod Pages
