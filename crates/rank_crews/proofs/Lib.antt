pub mod Joining
pub mod Crewed
pub mod Sweeps
