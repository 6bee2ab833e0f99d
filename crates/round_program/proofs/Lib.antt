pub mod Batches
pub mod Emissions
pub mod Epochs
pub mod Injections
pub mod Items
pub mod Members
pub mod Orders
pub mod Steps
