pub mod Calls
pub mod Hands
pub mod Desks
pub mod Closing
pub mod Replays
pub mod Out
