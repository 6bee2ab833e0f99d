pub mod Asks
pub mod Counts
pub mod Lookups
pub mod Traffics
pub mod code
pub mod laws
