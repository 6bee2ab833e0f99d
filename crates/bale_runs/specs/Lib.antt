pub mod Asking
pub mod RunEnds
pub mod Jobs
pub mod Runs
pub mod Reports
