pub mod Letters
pub mod Pads
pub mod Runs
pub mod Steps
