pub mod Any
pub mod laws
