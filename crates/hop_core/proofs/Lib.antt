pub mod Scans
pub mod Marks
pub mod Passing
pub mod Going
pub mod Relaying
mod Counts
pub mod Standing
pub mod Steps
pub mod Exchanging
pub mod Relayed
pub mod Unread
pub mod Batches
pub mod Straight
pub mod Epochs
mod InTurn
