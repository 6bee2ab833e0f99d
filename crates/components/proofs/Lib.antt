pub mod Ranks
pub mod Rounds
pub mod Runs
pub mod Starts
