pub mod Read
pub mod Reasons
pub mod Renumbering
