pub mod Found
pub mod Laws
pub mod Starts
pub mod State
pub mod View
