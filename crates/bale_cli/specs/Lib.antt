pub mod Run
pub mod Outcomes
