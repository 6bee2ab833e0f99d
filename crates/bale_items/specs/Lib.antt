pub mod Bits
pub mod Changes
pub mod Counters
pub mod Ledgers
