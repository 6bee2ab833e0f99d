pub mod Adders
pub mod laws
