pub mod Begins
pub mod Ends
pub mod Owners
pub mod Rounds
pub mod Stages
pub mod Steps
