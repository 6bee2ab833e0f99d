pub mod Runs
pub mod Crews
pub mod Rings
pub mod Children
pub mod Workers
pub mod laws
