pub mod Commands
pub mod Given
pub mod Parts
pub mod Ranges
pub mod Refused
pub mod Walks
pub mod Within
